use Rattle.std.proofs.Common.{◌≡◌, ℕ, zero, suc, ◌+◌, ◌<◌, ◌≤◌, List, get_or, sym, ap, ◌∙◌, subst, ⊎_elim, rules, arith}
use denote.Param.Members.{Mut}
use Rattle.std.specs.Array.{IsFromFnResultFrom}
use Rattle.std.specs.Fn.{Called}
use Rattle.std.proofs.lemmas.Bool.{cases_eq}
use Rattle.pieces.specs.Counts.{count_held_on}
use Rattle.pieces.proofs.profile.Profile.count.Goals as goal

-- what calls that change nothing made
module _ {F : Type 0} (g : Mut F (ℕ × Unit {0}) ℕ) (f : F) (v : ℕ → ℕ) (gives : (i y : ℕ) (q : F) → Called g f (i, tt) y q → (y ≡ v i) × (q ≡ f)) where
  made : (ys : List ℕ) (i n k : ℕ) → IsFromFnResultFrom g f ys i n → i ≤ k → k < i + n → get_or ys k 0 ≡ v k
  made ys i zero k r h l = absurd (omega arith)
  made ys i (suc n) k (q, y, at, call, rest) h l =
      let e = gives i y q call in
      ⊎_elim (λ s. ap (λ (j : ℕ). get_or ys j 0) s ∙ at.1 0 ∙ e.0 ∙ ap v (sym s))
      (λ d. made ys (i + 1) n k (subst (λ p. IsFromFnResultFrom g p ys (i + 1) n) e.1 rest) (omega (arith, d)) (omega arith))
      (cases_eq k i)

pub returns-clause-each : goal.returns-clause-each
returns-clause-each c = λ k l. made _ _ (λ i. count_held_on i c.args.seats.now) (λ i y q h. search rules) _ 0 30 k c.from_fn-held.ensures.items.each (omega arith) (omega arith)
