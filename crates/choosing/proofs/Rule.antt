-- There is exactly one choice, and how it changes with one seat more. Assumes nothing.
use Rattle.std.proofs.Common.{◌≡◌, ℕ, zero, suc, ◌+◌, ◌<◌, ◌≤◌, cond, false, ltb, ◌⊎◌, Some, None, Option, sym, refl, ap, subst, subst₂, ⊎_elim, add-one, arith, below_more}
use Rattle.choosing.specs.Choice.{Before, Choice, Chosen, NoneCovers, chosen, nearer}
use Rattle.pieces.proofs.Bitwise.{covered_decides}
use Rattle.pieces.specs.Stretches.{Covers, covered, spare}
use Rattle.pieces.specs.declared.names.Seat.{Seat}
use Rattle.std.proofs.lemmas.Bool.{both_ways, cases_eq, cond_both, false_from_ne_true, ltb-true, ltb-false}

-- seat number s
abbrev pub seat : ℕ → Seat
seat s = record { 0 = s }

pub uncovered : (w a b : ℕ) → (Covers w a b → ⊥) → covered w a b ≡ false
uncovered w a b h = false_from_ne_true (covered w a b) (λ e. h ((covered_decides w a b).0 e))

-- with one seat more
pub chosen_step : (f : ℕ → ℕ) (n a b : ℕ) → chosen f (n + 1) a b ≡ cond (covered (f n) a b) (nearer f n a b (chosen f n a b)) (chosen f n a b)
unfolding chosen
chosen_step f n a b = ap (λ (i : ℕ). chosen f i a b) (add-one n)

module _ (f : ℕ → ℕ) (a b : ℕ) where
  chosen_skips : (i : ℕ) (r : Option Seat) → Chosen f i a b r → (Covers (f i) a b → ⊥) → Chosen f (i + 1) a b r
  chosen_skips i None h n = below_more (λ t. Covers (f t) a b → ⊥) i h n
  chosen_skips i (Some s) h n = record {
    there = omega (arith, h.there);
    covers = h.covers;
    first = below_more (λ k. (k ≡ s.0 → ⊥) → Covers (f k) a b → Before f a b s.0 k) i h.first (λ _ c. absurd (n c));
  }

  -- a seat that leaves no less than the choice among those below it
  chosen_keeps : (i : ℕ) (s : Seat) → Choice f i a b s.0 → spare (f s.0) a b ≤ spare (f i) a b → Choice f (i + 1) a b s.0
  chosen_keeps i s h l = record {
    there = omega (arith, h.there);
    covers = h.covers;
    first = below_more (λ k. (k ≡ s.0 → ⊥) → Covers (f k) a b → Before f a b s.0 k) i h.first (λ _ _. grind (arith, h.there));
  }

  first_chosen : (i : ℕ) → NoneCovers f i a b → Covers (f i) a b → Choice f (i + 1) a b i
  first_chosen i h c = record {
    there = omega arith;
    covers = c;
    first = below_more (λ k. (k ≡ i → ⊥) → Covers (f k) a b → Before f a b i k) i (λ k l _ d. absurd (h k l d)) (λ n _. absurd (n refl));
  }

  -- a seat that leaves less than the choice among those below it
  nearer_chosen : (i s : ℕ) → Choice f i a b s → Covers (f i) a b → spare (f i) a b < spare (f s) a b → Choice f (i + 1) a b i
  nearer_chosen i s h c l = record {
    there = omega arith;
    covers = c;
    first = below_more (λ k. (k ≡ i → ⊥) → Covers (f k) a b → Before f a b i k) i
        (λ k u _ d. ⊎_elim (λ q. grind (arith, q)) (λ q. grind (arith, h.first k u q d)) (cases_eq k s))
        (λ n _. absurd (n refl));
  }

  nearer_is : (n : ℕ) (r : Option Seat) → Chosen f n a b r → Covers (f n) a b → Chosen f (n + 1) a b (nearer f n a b r)
  nearer_is n None h c = first_chosen n h c
  nearer_is n (Some s) h c =
      cond_both (ltb (spare (f n) a b) (spare (f s.0) a b)) (Some (seat n)) (Some s) (λ r. Chosen f (n + 1) a b r)
      (λ e. nearer_chosen n s.0 h c (ltb-true _ _ e))
      (λ e. chosen_keeps n s h (ltb-false _ _ e))

  pub choice_is : (n : ℕ) → Chosen f n a b (chosen f n a b)
  unfolding chosen
  choice_is zero = λ s l c. absurd (omega arith)
  choice_is (suc n) =
      subst (λ (i : ℕ). Chosen f i a b (chosen f i a b)) (add-one n)
      (rw (chosen_step f n a b)
      (cond_both (covered (f n) a b) (nearer f n a b (chosen f n a b)) (chosen f n a b) (Chosen f (n + 1) a b)
      (λ e. nearer_is n (chosen f n a b) (choice_is n) ((covered_decides (f n) a b).0 e))
      (λ e. chosen_skips n (chosen f n a b) (choice_is n) (λ c. both_ways (covered (f n) a b) e ((covered_decides (f n) a b).1 c)))))

  pub choice_one : (n : ℕ) (r q : Option Seat) → Chosen f n a b r → Chosen f n a b q → r ≡ q
  choice_one n None None h k = refl
  choice_one n None (Some t) h k = absurd (h t.0 k.there k.covers)
  choice_one n (Some s) None h k = absurd (k s.0 h.there h.covers)
  choice_one n (Some s) (Some t) h k =
      ⊎_elim (λ e. ap (λ (x : ℕ). Some (seat x)) e)
      (λ d. grind (arith, k.first s.0 h.there d h.covers, h.first t.0 k.there (λ e. d (sym e)) k.covers))
      (cases_eq s.0 t.0)

-- the choice goes by the words of the train's seats alone
pub chosen_like : (f g : ℕ → ℕ) (n a b : ℕ) (r : Option Seat) → ((k : ℕ) → k < n → f k ≡ g k) → Chosen f n a b r → Chosen g n a b r
chosen_like f g n a b None e h = λ s l c. h s l (subst (λ (w : ℕ). Covers w a b) (sym (e s l)) c)
chosen_like f g n a b (Some s) e h = record {
  there = h.there;
  covers = subst (λ (w : ℕ). Covers w a b) (e s.0 h.there) h.covers;
  first = λ k l d c.
      subst₂ (λ (x y : ℕ). (spare x a b < spare y a b) ⊎ ((spare x a b ≡ spare y a b) × (s.0 < k))) (e s.0 h.there) (e k l)
      (h.first k l d (subst (λ (w : ℕ). Covers w a b) (sym (e k l)) c));
}

pub chosen_cong : (f g : ℕ → ℕ) (n a b : ℕ) → ((k : ℕ) → k < n → f k ≡ g k) → chosen f n a b ≡ chosen g n a b
chosen_cong f g n a b e = choice_one g a b n _ _ (chosen_like f g n a b (chosen f n a b) e (choice_is f a b n)) (choice_is g a b n)
