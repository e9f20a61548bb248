-- How many seats hold a stretch, cover the line, or hold anything.
use Rattle.std.specs.Prelude.{ℕ, not, List, count_by, ◌==◌}
use Rattle.pieces.specs.Stretches.{holds, covered}
use Rattle.pieces.specs.declared.tally.Tally.{Tally}

abbrev pub count_held_on : ℕ → List ℕ → ℕ
count_held_on k ws = count_by (λ w. holds w k) ws

-- of a train with so many stretches: how many words cover them all, and how many hold anything
abbrev pub tally_of : (line : ℕ) → List ℕ → Tally
tally_of l ws = record { whole = count_by (λ w. covered w 0 l) ws; any = count_by (λ w. not (w == 0)) ws }
