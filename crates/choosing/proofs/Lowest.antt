-- The lowest seat of which anything is held. Assumes nothing.
use Rattle.std.proofs.Common.{◌≡◌, IfSome, ℕ, zero, suc, ◌<◌, Bool, false, cond, not, eqb, ltb, List, length, get_or, Some, None, Option, sym, refl, ap, ◌∙◌, subst, ⊎_elim, arith}
use Rattle.std.specs.List.{position_or_len}
use Rattle.std.specs.Option.{option_map, option_or}
use Rattle.std.proofs.lemmas.Bool.{both_ways, cases_Bool, cases_lt, cond_both, eqb-true, eqb-false, ltb-true, ltb-false}
use Rattle.std.proofs.lemmas.Bool.Decides.{nat_tests}
use Rattle.std.proofs.lemmas.List.Sums.{fails_before_first, passes_at_first}
use Rattle.choosing.specs.Choice.{lowest}
use Rattle.choosing.specs.Laws.{IsLowest, NothingHeld}
use Rattle.choosing.proofs.Rule.{seat}
use Rattle.pieces.specs.declared.names.Seat.{Seat}

-- r is the lowest of the first n seats of which anything is held
abbrev pub Lowest : (ℕ → ℕ) → (n : ℕ) → Option Seat → Type 0
Lowest f n None = NothingHeld f n
Lowest f n (Some s) = (s.0 < n) × (f s.0 ≡ 0 → ⊥) × NothingHeld f s.0

module _ (f : ℕ → ℕ) where
  one_more : (n : ℕ) (r : Option Seat) → Lowest f n r → Lowest f (suc n) (option_or r (cond (eqb (f n) 0) None (Some (seat n))))
  one_more n (Some s) h = (omega (arith, h.0), h.1, h.2)
  one_more n None h =
      ⊎_elim
      (λ e. rw e (λ k l. ⊎_elim (λ u. h k u) (λ u. let q : k ≡ n = omega arith in ap f q ∙ eqb-true (f n) 0 e) (cases_lt k n)))
      (λ e. rw e (omega arith, eqb-false (f n) 0 e, h))
      (cases_Bool (eqb (f n) 0))

  pub lowest_is : (n : ℕ) → Lowest f n (lowest f n)
  unfolding lowest
  lowest_is zero = λ k l. absurd (omega arith)
  lowest_is (suc n) = one_more n (lowest f n) (lowest_is n)

  pub lowest_one : (n : ℕ) (r q : Option Seat) → Lowest f n r → Lowest f n q → r ≡ q
  lowest_one n None None h k = refl
  lowest_one n None (Some t) h k = absurd (k.1 (h t.0 k.0))
  lowest_one n (Some s) None h k = absurd (h.1 (k s.0 h.0))
  lowest_one n (Some s) (Some t) h k =
      ap (λ (x : ℕ). Some (seat x))
      (⊎_elim (λ l. absurd (h.1 (k.2 s.0 l))) (λ l. ⊎_elim (λ u. absurd (k.1 (h.2 t.0 u))) (λ u. omega arith) (cases_lt t.0 s.0)) (cases_lt s.0 t.0))

-- ---- the first word that is not 0

abbrev pub not_zero : ℕ → Bool
not_zero w = not (eqb w 0)

module _ (ws : List ℕ) where
  abbrev first : ℕ
  first = position_or_len not_zero ws

  abbrev word : ℕ → ℕ
  word k = get_or ws k 0

  is_zero : (w : ℕ) → not_zero w ≡ false → w ≡ 0
  is_zero w e = grind (arith, nat_tests)

  first_is : Lowest word (length ws) (option_map seat (cond (ltb first (length ws)) (Some first) None))
  first_is =
      cond_both (ltb first (length ws)) (Some first) None (λ r. Lowest word (length ws) (option_map seat r))
      (λ e.
      let l : first < length ws = ltb-true first (length ws) e in (
        l,
        λ z. both_ways (not_zero (word first)) (ap not_zero z) (passes_at_first not_zero ws 0 l),
        λ k u. is_zero (word k) (fails_before_first not_zero ws k 0 u),
      ))
      (λ e k u. is_zero (word k) (fails_before_first not_zero ws k 0 (omega (arith, ltb-false first (length ws) e))))

  pub lowest_found : (r : Option ℕ) → r ≡ cond (ltb first (length ws)) (Some first) None → option_map seat r ≡ lowest word (length ws)
  lowest_found r e = ap (option_map seat) e ∙ lowest_one word (length ws) _ _ first_is (lowest_is word (length ws))

pub lowest_near : (f : ℕ → ℕ) (n : ℕ) (r : Option Seat) → r ≡ lowest f n → IfSome r (λ s. s.0 < n)
lowest_near f n r e = go r (subst (λ q. Lowest f n q) (sym e) (lowest_is f n))
  where
    go : (r : Option Seat) → Lowest f n r → IfSome r (λ s. s.0 < n)
    go None h = tt
    go (Some s) h = h.0

-- the lowest goes by the words of the train's seats alone
lowest_like : (f g : ℕ → ℕ) (n : ℕ) (r : Option Seat) → ((k : ℕ) → k < n → f k ≡ g k) → Lowest f n r → Lowest g n r
lowest_like f g n None e h = λ k l. sym (e k l) ∙ h k l
lowest_like f g n (Some s) e h = (h.0, λ z. h.1 (e s.0 h.0 ∙ z), λ k l. sym (e k (omega (arith, h.0))) ∙ h.2 k l)

pub lowest_cong : (f g : ℕ → ℕ) (n : ℕ) → ((k : ℕ) → k < n → f k ≡ g k) → lowest f n ≡ lowest g n
lowest_cong f g n e = lowest_one g n _ _ (lowest_like f g n (lowest f n) e (lowest_is f n)) (lowest_is g n)

pub lowest_stands : IsLowest
lowest_stands f n = (
  (
    λ e. subst (λ r. Lowest f n r) e (lowest_is f n),
    λ h. lowest_one f n (lowest f n) None (lowest_is f n) h,
  ),
  λ s e. subst (λ r. Lowest f n r) e (lowest_is f n),
)
