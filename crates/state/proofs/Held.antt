-- What is held of a train that is not open.
use Rattle.std.proofs.Common.{◌≡◌, ℕ, zero, suc, ◌<◌, ◌≤◌, Bool, false, ◌&&◌, ◌||◌, List, length, ap, ◌∙◌, ap₂, arith, le-ltb}
use Rattle.std.proofs.lemmas.List.{get_or_past}
use Rattle.pieces.proofs.Bitwise.{holds_zero}
use Rattle.pieces.specs.Memory.{at, word_at}
use Rattle.pieces.specs.Stretches.{covered}

-- a word with no stretch covers nothing
covered_none : (a b : ℕ) → a < b → covered 0 a b ≡ false
unfolding covered
covered_none a zero h = absurd (omega arith)
covered_none a (suc k) h = ap₂ (λ (x y : Bool). (x || y) && covered 0 a k) (le-ltb k a (omega arith)) (holds_zero k)

-- nothing is held past the last place
pub uncovered : (ws : List ℕ) (k s a b : ℕ) → a < b → length ws ≤ at k s → covered (word_at ws k s) a b ≡ false
uncovered ws k s a b h l = ap (λ (w : ℕ). covered w a b) (get_or_past ws (at k s) 0 l) ∙ covered_none a b h
