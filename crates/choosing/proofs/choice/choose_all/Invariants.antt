use Rattle.std.proofs.Common.{ℕ, length, get_or}
use Rattle.choosing.proofs.Seated.{Seated}
use Rattle.choosing.proofs.choice.choose_all.Given as goal

abbrev pub invariant-loop : goal.invariant-loop
invariant-loop l = Seated l.fn.train l.trip (λ (k : ℕ). get_or l.words k 0) (length l.words) l.counter l.party
