-- The words once the span is taken out of some seats, and what the search for a seat keeps. Assumes nothing.
use Rattle.std.proofs.Common.{◌≡◌, ℕ, zero, suc, ◌+◌, ◌<◌, Bool, true, false, cond, not, ◌&&◌, ◌||◌, eqb, ltb, List, [], ◌∷◌, Some, None, Option, sym, refl, ap, ◌∙◌, subst, ⊎_elim, arith}
use Rattle.std.specs.Option.{option_map}
use Rattle.std.specs.List.{list_any}
use Rattle.choosing.specs.Choice.{among, chosen, drawn, drawn_all, nearer}
use Rattle.choosing.proofs.Rule.{seat, chosen_step, uncovered}
use Rattle.pieces.proofs.Bitwise.{covered_decides, less_uncovered}
use Rattle.pieces.specs.Stretches.{Covers, covered, less, spare}
use Rattle.pieces.specs.declared.names.Seat.{Seat}
use Rattle.std.proofs.lemmas.Bool.{both_ways, cases_Bool, cond_both, cond-true, cond-false, eq-eqb, eqb-false, le-ltb, lt-ltb, ne_eqb, or_parts, or_from}
use Rattle.std.proofs.lemmas.List.Recursion.{same_from_clauses}
use Rattle.std.proofs.lemmas.Option.{none-some, some_pair_parts}

pub drawn_here : (f : ℕ → ℕ) (a b s k : ℕ) → k ≡ s → drawn f a b s k ≡ less (f k) a b
drawn_here f a b s k e = cond-true (eqb k s) (less (f k) a b) (f k) (eq-eqb k s e)

pub drawn_other : (f : ℕ → ℕ) (a b s k : ℕ) → (k ≡ s → ⊥) → drawn f a b s k ≡ f k
drawn_other f a b s k n = cond-false (eqb k s) (less (f k) a b) (f k) (ne_eqb k s n)

-- a seat that the span was not taken out of keeps its word
pub kept_word : (ss : List Seat) (f : ℕ → ℕ) (a b k : ℕ) → among k ss ≡ false → drawn_all f a b ss k ≡ f k
kept_word [] f a b k h = refl
kept_word (s ∷ ss) f a b k h =
    let p = or_parts (eqb s.0 k) (among k ss) h in
    kept_word ss (drawn f a b s.0) a b k p.1 ∙ drawn_other f a b s.0 k (λ e. eqb-false s.0 k p.0 (sym e))

pub covers_first : (ss : List Seat) (f : ℕ → ℕ) (a b k : ℕ) → a < b → Covers (drawn_all f a b ss k) a b → Covers (f k) a b
covers_first [] f a b k l c = c
covers_first (s ∷ ss) f a b k l c =
    cond_both (eqb k s.0) (less (f k) a b) (f k) (λ (w : ℕ). Covers w a b → Covers (f k) a b)
    (λ _ d. absurd (less_uncovered (f k) a b l d)) (λ _ d. d) (covers_first ss (drawn f a b s.0) a b k l c)

-- what still covers the span was not taken
pub not_taken : (ss : List Seat) (f : ℕ → ℕ) (a b k : ℕ) → a < b → Covers (drawn_all f a b ss k) a b → among k ss ≡ false
not_taken [] f a b k l c = refl
not_taken (s ∷ ss) f a b k l c =
    or_from (eqb s.0 k) (among k ss)
    (ne_eqb s.0 k (λ e. less_uncovered (f k) a b l (subst (λ (w : ℕ). Covers w a b) (drawn_here f a b s.0 k (sym e)) (covers_first ss (drawn f a b s.0) a b k l c))))
    (not_taken ss (drawn f a b s.0) a b k l c)

-- ---- the search

pub any_among : (k : ℕ) (ss : List Seat) → list_any (λ (s : Seat). eqb s.0 k) ss ≡ among k ss
any_among k ss = same_from_clauses (list_any (λ s. eqb s.0 k)) (among k) (λ s r. eqb s.0 k || r) refl (λ _ _. refl) (λ _ _. refl) ss

-- less than what the best seat leaves, if there is one
abbrev is_less : ℕ → Option (Seat × ℕ) → Bool
is_less m None = true
is_less m (Some x) = ltb m x.1

-- a seat with what it leaves
abbrev pub with_least : Option Seat → ℕ → Option (Seat × ℕ)
with_least r k = option_map (λ s. (s, k)) r

module _ (f : ℕ → ℕ) (ss : List Seat) (a b : ℕ) (ordered : a < b) where
  -- the words that the search goes by
  abbrev g : ℕ → ℕ
  g = drawn_all f a b ss

  abbrev with_left : Option Seat → Option (Seat × ℕ)
  with_left r = option_map (λ s. (s, spare (g s.0) a b)) r

  -- the choice among the first n seats, with what it leaves
  abbrev pub best : ℕ → Option (Seat × ℕ)
  best n = with_left (chosen g n a b)

  -- a seat that does not cover the span any more
  passes : (n : ℕ) → (Covers (g n) a b → ⊥) → best (n + 1) ≡ best n
  passes n h = rw (chosen_step g n a b, uncovered (g n) a b h)

  pub skips : (n : ℕ) → (Covers (f n) a b → ⊥) → best (n + 1) ≡ best n
  skips n h = passes n (λ c. h (covers_first ss f a b n ordered c))

  -- a seat that covers it at first
  covered_once : (n : ℕ) → Covers (f n) a b → best (n + 1) ≡ cond (not (among n ss) && is_less (spare (f n) a b) (best n)) (Some (seat n, spare (f n) a b)) (best n)
  covered_once n c = ⊎_elim
      (λ h. rw h (passes n (λ d. both_ways (among n ss) (not_taken ss f a b n ordered d) h)))
      (λ h.
      let e = kept_word ss f a b n h in
      let d : covered (g n) a b ≡ true = (covered_decides (g n) a b).1 (rw e c) in
      rw (chosen_step g n a b, d, h, ← e) (go (chosen g n a b)))
      (cases_Bool (among n ss))
    where
      pick : (u : Bool) (s t : Seat) → with_left (cond u (Some s) (Some t)) ≡ cond u (with_left (Some s)) (with_left (Some t))
      pick true s t = refl
      pick false s t = refl

      go : (r : Option Seat) → with_left (nearer g n a b r) ≡ cond (is_less (spare (g n) a b) (with_left r)) (Some (seat n, spare (g n) a b)) (with_left r)
      go None = refl
      go (Some s) = pick (ltb (spare (g n) a b) (spare (g s.0) a b)) (seat n) s

  -- as the search sees it: with no seat yet, `least` is more than any leaves
  pub takes : (n left least : ℕ) (r : Option Seat) → with_least r least ≡ best n → (r ≡ None → least ≡ 30) → left < 30 → Covers (f n) a b → left ≡ spare (f n) a b
      → best (n + 1) ≡ cond (not (list_any (λ (s : Seat). eqb s.0 n) ss) && ltb left least) (Some (seat n, left)) (with_least r least)
  takes n left least r e h l c k = let t = test r h in cc (covered_once n c, any_among n ss)
    where
      test : (r : Option Seat) → (r ≡ None → least ≡ 30) → ltb left least ≡ is_less left (with_least r least)
      test None h = let d = h refl in lt-ltb left least (omega arith)
      test (Some s) h = refl

  -- one that leaves nothing: no higher one goes before it
  pub stops : (d n : ℕ) (s : Seat) → best n ≡ Some (s, 0) → best (d + n) ≡ Some (s, 0)
  stops zero n s e = let i : 0 + n ≡ n = omega arith in ap best i ∙ e
  stops (suc d) n s e =
      let i : suc d + n ≡ d + n + 1 = omega arith in
      let h = stops d n s e in
      rw (i, chosen_step g (d + n) a b) (go (d + n) (chosen g (d + n) a b) (covered (g (d + n)) a b) s h ∙ h)
    where
      go : (i : ℕ) (r : Option Seat) (u : Bool) (s : Seat) → with_left r ≡ Some (s, 0) → with_left (cond u (nearer g i a b r) r) ≡ with_left r
      go i r false s h = refl
      go i None true s h = absurd (none-some _ h)
      go i (Some t) true s h =
          rw (le-ltb (spare (g i) a b) (spare (g t.0) a b) (omega (arith, (some_pair_parts _ _ _ _ h).1)))

  -- without what is left, the choice
  pub bare : (n : ℕ) (r : Option Seat) (k : ℕ) → with_least r k ≡ best n → r ≡ chosen g n a b
  bare n r k e = go r (chosen g n a b) e
    where
      go : (r c : Option Seat) → with_least r k ≡ with_left c → r ≡ c
      go None None e = refl
      go None (Some s) e = absurd (none-some _ e)
      go (Some s) None e = absurd (none-some _ (sym e))
      go (Some s) (Some t) e = ap (λ x. Some x) (some_pair_parts _ _ _ _ e).0
