-- How often a stretch of a seat stands in lists of pieces, and what journals give and take.
-- Assumes nothing.
use Rattle.std.proofs.Common.{◌≡◌, ℕ, zero, suc, ◌+◌, ◌<◌, cond, eqb, List, [], ◌∷◌, ◌++◌, map, get_or, set, sym, refl, ap, ◌∙◌, append_assoc, append-nil, arith, Some, None, Option}
use Rattle.choosing.specs.Parties.{pieces_of, seats_of}
use Rattle.choosing.specs.declared.party.Party.{Party}
use Rattle.state.specs.Changes.{forgotten, trimmed}
use Rattle.state.specs.declared.record.Record.{Record}
use Rattle.state.specs.declared.record.Record.TheVariants.{Given, Taken}
use Rattle.network.proofs.Sum.{sum_to, sum_cong, sum_add, sum_one}
use Rattle.std.specs.List.{flat_map, sum_by}
use Rattle.std.proofs.lemmas.Bool.Decides.{nat_tests}
use Rattle.std.proofs.lemmas.List.{flat_map_more}
use Rattle.std.proofs.lemmas.List.Recursion.{is_count_by}
use Rattle.std.proofs.lemmas.List.Sums.{sum_by-cons, sum_by-append}
use Rattle.network.specs.Places.{count_in, sold_by, standing}
use Rattle.pieces.specs.Parts.{has, piece_of}
use Rattle.pieces.specs.declared.names.Seat.{Seat}
use Rattle.pieces.specs.declared.names.Train.{Train}
use Rattle.pieces.specs.declared.piece.Piece.{Piece}
use Rattle.pieces.specs.declared.trip.Trip.{Trip}
use Rattle.std.proofs.lemmas.Bool.{eq-eqb, ne_eqb}

-- ---- the pieces that a journal gives to j, and takes from j, in order

abbrev pub given_of : ℕ → Record → List Piece
given_of j (Given to n a p) = cond (eqb j to.0) (p ∷ []) []
given_of j e = []

abbrev pub taken_of : ℕ → Record → List Piece
taken_of j (Taken from n p) = cond (eqb j from.0) (p ∷ []) []
taken_of j e = []

abbrev pub given_to : ℕ → List Record → List Piece
given_to j = flat_map (given_of j)

abbrev pub taken_from : ℕ → List Record → List Piece
taken_from j = flat_map (taken_of j)

-- a record more
pub flat_push : {X A : Type 0} (f : X → List A) (xs : List X) (x : X) → flat_map f (xs ++ x ∷ []) ≡ flat_map f xs ++ f x
flat_push f xs x = sym (flat_map_more f [] xs x)

pub standing_push : (xs : List (Option Party)) (p : Party) → standing (xs ++ Some p ∷ []) ≡ standing xs ++ pieces_of p
unfolding standing
standing_push [] p = append-nil (pieces_of p)
standing_push (x ∷ xs) p = ap (λ l. sold_by x ++ l) (standing_push xs p) ∙ sym (append_assoc (sold_by x) (standing xs) (pieces_of p))

-- tickets that do not stand have no pieces
pub standing_trimmed : (xs : List (Option Party)) → standing (trimmed xs) ≡ standing xs
unfolding standing
standing_trimmed [] = refl
standing_trimmed (Some p ∷ xs) = refl
standing_trimmed (None ∷ xs) = standing_trimmed xs

module _ (t : Train) (s u : ℕ) where
  -- 1 if a piece has the stretch, else 0
  abbrev pub one : Piece → ℕ
  one p = cond (has t.0 s u p) 1 0

  pub count_nil : count_in t s u [] ≡ 0
  unfolding count_in
  count_nil = refl

  count_is : (ps : List Piece) → count_in t s u ps ≡ sum_by one ps
  unfolding count_in
  count_is ps = is_count_by (count_in t s u) (has t.0 s u) refl (λ _ _. refl) ps

  pub count_cons : (p : Piece) (ps : List Piece) → count_in t s u (p ∷ ps) ≡ one p + count_in t s u ps
  count_cons p ps = omega (arith, count_is (p ∷ ps), count_is ps, sum_by-cons one p ps)

  pub count_append : (xs ys : List Piece) → count_in t s u (xs ++ ys) ≡ count_in t s u xs + count_in t s u ys
  count_append xs ys = omega (arith, count_is (xs ++ ys), count_is xs, count_is ys, sum_by-append one xs ys)

  count_single : (p : Piece) → count_in t s u (p ∷ []) ≡ one p
  count_single p = omega (arith, count_cons p [], count_nil)

  -- a ticket that stands is returned
  pub count_returned : (xs : List (Option Party)) (a : ℕ) (p : Party) → get_or xs a None ≡ Some p → count_in t s u (standing xs) ≡ count_in t s u (pieces_of p) + count_in t s u (standing (set xs a None))
  unfolding standing
  count_returned [] a p e = cc
  count_returned (x ∷ xs) zero p e = rw e (count_append (pieces_of p) (standing xs))
  count_returned (x ∷ xs) (suc a) p e = omega (arith, count_returned xs a p e, count_append (sold_by x) (standing xs), count_append (sold_by x) (standing (set xs a None)))

  -- what one record gives to one station, over all stations
  pub count_to : (n k : ℕ) (p : Piece) → k < n → sum_to n (λ j. count_in t s u (cond (eqb j k) (p ∷ []) [])) ≡ one p
  count_to n k p l =
      sum_one n k (λ j. count_in t s u (cond (eqb j k) (p ∷ []) [])) l (λ j d. rw (ne_eqb j k d) count_nil) ∙ rw (eq-eqb k k refl) (count_single p)

  -- a piece of another train
  pub one_other : (p : Piece) → (t.0 ≡ p.train.0 → ⊥) → one p ≡ 0
  one_other p d = rw (ne_eqb t.0 p.train.0 d) refl

  -- a party on another train
  seats_other : (z : Train) (r : Trip) (ss : List Seat) → (t.0 ≡ z.0 → ⊥) → count_in t s u (map (λ x. piece_of z x r) ss) ≡ 0
  seats_other z r [] d = count_nil
  seats_other z r (x ∷ ss) d = omega (arith, count_cons (piece_of z x r) (map (λ y. piece_of z y r) ss), one_other (piece_of z x r) d, seats_other z r ss d)

  party_other : (p : Party) → (t.0 ≡ p.train.0 → ⊥) → count_in t s u (pieces_of p) ≡ 0
  party_other p d = seats_other p.train p.trip (seats_of p) d

  -- the tickets of a train are forgotten, those of another are not
  pub count_forgotten : (z : Train) (xs : List (Option Party)) → count_in t s u (standing (map (forgotten z) xs)) ≡ cond (eqb t.0 z.0) 0 (count_in t s u (standing xs))
  unfolding standing
  count_forgotten z [] = grind (arith, nat_tests, count_nil)
  count_forgotten z (None ∷ xs) = count_forgotten z xs
  count_forgotten z (Some p ∷ xs) = grind (arith, nat_tests, count_forgotten z xs, count_append (pieces_of p) (standing xs), count_append (pieces_of p) (standing (map (forgotten z) xs)), party_other p)

  -- what each of a row of lists has, and what is added to each
  pub count_rows : (n : ℕ) (f g h : ℕ → List Piece) → ((k : ℕ) → h k ≡ f k ++ g k) → sum_to n (λ k. count_in t s u (h k)) ≡ sum_to n (λ k. count_in t s u (f k)) + sum_to n (λ k. count_in t s u (g k))
  count_rows n f g h e =
      sum_cong n (λ k. count_in t s u (h k)) (λ k. count_in t s u (f k) + count_in t s u (g k)) (λ k _. ap (count_in t s u) (e k) ∙ count_append (f k) (g k)) ∙ sum_add n (λ k. count_in t s u (f k)) (λ k. count_in t s u (g k))

  -- what a journal gives to all stations, and takes from all
  abbrev pub given_by : ℕ → List Record → ℕ
  given_by n es = sum_to n (λ k. count_in t s u (given_to k es))

  abbrev pub taken_by : ℕ → List Record → ℕ
  taken_by n es = sum_to n (λ k. count_in t s u (taken_from k es))

  pub count_more : (n : ℕ) (f : ℕ → Record → List Piece) (es : List Record) (e : Record) → sum_to n (λ k. count_in t s u (flat_map (f k) (es ++ e ∷ []))) ≡ sum_to n (λ k. count_in t s u (flat_map (f k) es)) + sum_to n (λ k. count_in t s u (f k e))
  count_more n f es e = count_rows n (λ k. flat_map (f k) es) (λ k. f k e) (λ k. flat_map (f k) (es ++ e ∷ [])) (λ k. flat_push (f k) es e)
