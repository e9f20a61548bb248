-- A word is 0 exactly if no stretch of it is held. Assumes nothing.
use Rattle.std.proofs.Common.{◌≡◌, ℕ, zero, suc, ◌<◌, true, false, ◌⊎◌, sym, ap, ◌∙◌, inl, inr, ⊎_elim, arith}
use Rattle.std.proofs.lemmas.Bool.{both_ways, cases_Bool, cases_lt}
use Rattle.pieces.specs.Laws.{Something}
use Rattle.pieces.specs.Stretches.{holds}
use Rattle.pieces.proofs.Bitwise.{holds_past, holds_zero, same_holds}
use Rattle.pieces.proofs.Runs.{below_pow}

-- one of the first n stretches is held, or none
held_below : (w n : ℕ) → ((k : ℕ) × (holds w k ≡ true)) ⊎ ((k : ℕ) → k < n → holds w k ≡ false)
held_below w zero = inr (λ k l. absurd (omega arith))
held_below w (suc n) =
    ⊎_elim
    (λ h. inl (n, h))
    (λ f. ⊎_elim (λ r. inl r) (λ h. inr (λ k l. ⊎_elim (λ u. h k u) (λ u. let e : k ≡ n = omega arith in ap (holds w) e ∙ f) (cases_lt k n))) (held_below w n))
    (cases_Bool (holds w n))

pub some_held : (w : ℕ) → (w ≡ 0 → ⊥) → (k : ℕ) × (holds w k ≡ true)
some_held w n =
    ⊎_elim (λ r. r)
    (λ h. absurd (n (same_holds w 0 (λ k. ⊎_elim (λ l. h k l) (λ l. holds_past w w k (below_pow w) l) (cases_lt k w) ∙ sym (holds_zero k)))))
    (held_below w w)

pub something : Something
something w = (some_held w, λ k h e. both_ways (holds w k) (ap (λ (x : ℕ). holds x k) e ∙ holds_zero k) h)
