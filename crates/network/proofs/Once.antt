-- Each stretch of each seat is in one place, and none is sold twice.
-- Assumes nothing.
use Rattle.std.proofs.Common.{◌≡◌, ℕ, zero, suc, ◌+◌, ◌<◌, ◌≤◌, Bool, true, cond, ltb, ◌⊎◌, List, [], ◌∷◌, map, length, get_or, set, Some, None, fold, Option, sym, refl, ap, ◌∙◌, inl, inr, ⊎_elim, arith, length-append, get_or-set_other}
use Rattle.std.proofs.lemmas.List.{length-replicate}
use Rattle.choosing.specs.Parties.{below, pieces_of, seats_of}
use Rattle.choosing.specs.declared.party.Party.{Party}
use Rattle.state.specs.Changes.{apply}
use Rattle.state.specs.States.{State, begun, is_open, was_closed, known}
use Rattle.network.proofs.Count.{one, count_cons, count_returned}
use Rattle.network.proofs.Fine.{begun_shut, real_at}
use Rattle.network.proofs.Linked.{Intact, ok_reach, total, total_most, total_even, total_one, dues_one}
use Rattle.network.proofs.Local.{ListedAll, listed_party}
use Rattle.network.proofs.Stock.{stock, due}
use Rattle.network.proofs.Sum.{sum_to, sum_cong, sum_add, sum_some, sum_has, sum_has_two}
use Rattle.std.proofs.lemmas.Bool.Decides.{nat_tests}
use Rattle.network.proofs.Trains.{share}
use Rattle.network.specs.Places.{holding, count_in, standing, under_way, gather, spots, places}
use Rattle.network.specs.Promises.{OnePlace, NeverTwice, OnlyWhatIs}
use Rattle.network.specs.Worlds.{World, state}
use Rattle.pieces.specs.Parts.{blank, has, piece_of}
use Rattle.pieces.specs.declared.names.Seat.{Seat}
use Rattle.pieces.specs.declared.names.Train.{Train}
use Rattle.pieces.specs.declared.piece.Piece.{Piece}
use Rattle.std.proofs.lemmas.List.{get_or_past}
use Rattle.std.proofs.lemmas.Bool.{and_parts, cases_eq, cases_lt, cond_both, eq-eqb, lt-ltb, ltb-true, or_left, true≢false}
use Rattle.std.specs.List.{AllByRecursion}
use Rattle.timetable.specs.Rows.{Table, stretches}
use Rattle.timetable.specs.declared.row.Row.{Row}

-- ---- how many places there are

gather_length : {A : Type 0} (n : ℕ) (f : ℕ → List A) → length (gather n f) ≡ sum_to n (λ k. length (f k))
unfolding gather sum_to
gather_length zero f = refl
gather_length (suc n) f = omega (arith, length-append (gather n f) (f n), gather_length n f)

length_if : {A : Type 0} (b : Bool) (x : A) → length (cond b (x ∷ []) []) ≡ cond b 1 0
length_if b x = cond_both b (x ∷ []) [] (λ l. length l ≡ cond b 1 0) (λ e. rw e refl) (λ e. rw e refl)

module _ (n : ℕ) (t : Train) (s u : ℕ) (f : ℕ → State) where
  spots_length : (i : ℕ) → length (spots n t s u f i) ≡ (cond (holding t s u (f i)) 1 0 + count_in t s u (standing (f i).tickets)) + sum_to n (λ j. count_in t s u (under_way i j (f i) (f j)))
  spots_length i = simp (length-append, length_if, length-replicate, gather_length) (omega arith)

  pub places_length : length (places n t s u f) ≡ sum_to n (λ i. cond (holding t s u (f i)) 1 0 + count_in t s u (standing (f i).tickets)) + sum_to n (λ i. sum_to n (λ j. count_in t s u (under_way i j (f i) (f j))))
  places_length =
      gather_length n (spots n t s u f)
      ∙ sum_cong n (λ i. length (spots n t s u f i)) _ (λ i _. spots_length i)
      ∙ sum_add n (λ i. cond (holding t s u (f i)) 1 0 + count_in t s u (standing (f i).tickets)) (λ i. sum_to n (λ j. count_in t s u (under_way i j (f i) (f j))))

-- ---- in one place

module _ (n : ℕ) (tb : Table) (w : World) (ok : Intact n tb w) where
  -- a station that has opened a train is there
  pub there : (i : ℕ) (t : Train) → is_open (state n tb w i) t ≡ true → i < n
  there i t o =
      ⊎_elim (λ l. l)
      (λ l. absurd (true≢false (sym o ∙ ap (λ js. is_open (fold (apply tb) (begun n i) js) t) (get_or_past w.journals i [] (omega (arith, ok.count))) ∙ begun_shut n i t)))
      (cases_lt i n)

  -- what is somewhere is of a train that has it
  pub somewhere : (t : Train) (s u : ℕ) (l : s < 400) → 0 < total n tb w ok t s u l → (r : Row) × (tb t.0 ≡ Some r) × (s < r.seats) × (u < stretches r)
  somewhere t s u l h = let (k, _, d) = sum_some n (λ k. due n tb t s u l (state n tb w k)) (omega (arith, h, total_most n tb w ok t s u l)) in go (known (state n tb w k) t) (state n tb w k).me (tb t.0) refl d
    where
      go : (b : Bool) (i : ℕ) (o : Option Row) → tb t.0 ≡ o → 0 < cond b (share o i s u) 0 → (r : Row) × (tb t.0 ≡ Some r) × (s < r.seats) × (u < stretches r)
      go b i None e d = absurd (grind arith)
      go b i (Some r) e d = (r, e, grind (arith, nat_tests), grind (arith, nat_tests))

pub once : OnePlace
once n tb w reach t r e o none s u ls lu =
    places_length n t s u (state n tb w) ∙ total_even n tb w ok t s u l none ∙ dues_one n tb t s u l (state n tb w) (λ k. (ok.fine k).me) r e (there n tb w ok r.first.0 t o)
    ∙ rw (or_left (is_open (state n tb w r.first.0) t) (was_closed (state n tb w r.first.0) t) o, e, (ok.fine r.first.0).me, eq-eqb r.first.0 r.first.0 refl, lt-ltb s r.seats ls, lt-ltb u (stretches r) lu) refl
  where
    ok : Intact n tb w
    ok = ok_reach n tb reach

    l : s < 400
    l = omega (arith, r.few)

-- ---- sold once

module _ (t : Train) (s u : ℕ) where
  one_is : (p : Piece) → has t.0 s u p ≡ true → one t s u p ≡ 1
  one_is p h = rw h refl

  -- a piece at a place of a list, and one at another
  count_at : (ps : List Piece) (k : ℕ) → k < length ps → has t.0 s u (get_or ps k blank) ≡ true → 1 ≤ count_in t s u ps
  count_at [] k l h = absurd (omega arith)
  count_at (p ∷ ps) zero l h = omega (arith, count_cons t s u p ps, one_is p h)
  count_at (p ∷ ps) (suc k) l h = omega (arith, count_cons t s u p ps, count_at ps k (omega arith) h)

  count_both : (ps : List Piece) (k j : ℕ) → k < length ps → j < length ps → (k ≡ j → ⊥) → has t.0 s u (get_or ps k blank) ≡ true → has t.0 s u (get_or ps j blank) ≡ true → 2 ≤ count_in t s u ps
  count_both [] k j l m d g h = absurd (omega arith)
  count_both (p ∷ ps) zero zero l m d g h = absurd (d refl)
  count_both (p ∷ ps) zero (suc j) l m d g h = omega (arith, count_cons t s u p ps, one_is p g, count_at ps j (omega arith) h)
  count_both (p ∷ ps) (suc k) zero l m d g h = omega (arith, count_cons t s u p ps, one_is p h, count_at ps k (omega arith) g)
  count_both (p ∷ ps) (suc k) (suc j) l m d g h = omega (arith, count_cons t s u p ps, count_both ps k j (omega arith) (omega arith) (λ e. d (ap suc e)) g h)

  -- a ticket that has the stretch, and two
  pub count_one : (xs : List (Option Party)) (a : ℕ) (p : Party) → get_or xs a None ≡ Some p → 1 ≤ count_in t s u (pieces_of p) → 1 ≤ count_in t s u (standing xs)
  count_one xs a p e h = omega (arith, count_returned t s u xs a p e, h)

  count_two : (xs : List (Option Party)) (a b : ℕ) (p q : Party) → (a ≡ b → ⊥) → get_or xs a None ≡ Some p → get_or xs b None ≡ Some q → 1 ≤ count_in t s u (pieces_of p) → 1 ≤ count_in t s u (pieces_of q) → 2 ≤ count_in t s u (standing xs)
  count_two xs a b p q d e f g h =
      omega (arith, count_returned t s u xs a p e, g, count_one (set xs a None) b q (get_or-set_other xs a b None None (λ c. d (sym c)) ∙ f) h)

-- a piece of a party is of one of its seats
seat_of : (p : Party) (ss : List Seat) (k : ℕ) → k < length (map (λ s. piece_of p.train s p.trip) ss) → (m : ℕ) → below m ss ≡ true → (get_or (map (λ s. piece_of p.train s p.trip) ss) k blank).seat.0 < m
seat_of p [] k l m h = absurd (omega arith)
seat_of p (s ∷ ss) zero l m h = ltb-true s.0 m (and_parts (ltb s.0 m) (below m ss) h).0
seat_of p (s ∷ ss) (suc k) l m h = seat_of p ss k (omega arith) m (and_parts (ltb s.0 m) (below m ss) h).1

pub twice : NeverTwice
twice n tb w reach i j a b k m p q li lj e f lk lm d t s u g h = go (cases_eq i j)
  where
    ok : Intact n tb w
    ok = ok_reach n tb reach

    z : Train
    z = record { 0 = t }

    row : ListedAll (tb p.train.0) p
    row = listed_party (tb p.train.0) p (real_at tb (state n tb w i).tickets a p (ok.fine i).real e).1

    seat : s ≡ (get_or (pieces_of p) k blank).seat.0
    seat = grind (arith, nat_tests)

    l : s < 400
    l = omega (arith, seat, row.row.few, seat_of p (seats_of p) k lk row.row.seats row.seats)

    had : ℕ → ℕ
    had y = stock n tb z s u l (state n tb w y)

    here : 1 ≤ count_in z s u (pieces_of p)
    here = count_at z s u (pieces_of p) k lk g

    there_too : 1 ≤ count_in z s u (pieces_of q)
    there_too = count_at z s u (pieces_of q) m lm h

    -- two tickets of one station, or two people of one ticket
    same : i ≡ j → get_or (state n tb w i).tickets b None ≡ Some q → (a ≡ b) ⊎ (a ≡ b → ⊥) → 2 ≤ count_in z s u (standing (state n tb w i).tickets)
    same c v (inr o) = count_two z s u (state n tb w i).tickets a b p q o e v here there_too
    same c v (inl o) = omega (arith, count_returned z s u (state n tb w i).tickets a p e, count_both z s u (pieces_of p) k m lk (rw (← one) at lm) (λ y. d (c, o, y)) g (rw (← one) at h))
      where
        one : p ≡ q
        one = let y : Some p ≡ Some q = sym e ∙ ap (λ (y : ℕ). get_or (state n tb w i).tickets y None) o ∙ v in cc

    go : (i ≡ j) ⊎ (i ≡ j → ⊥) → ⊥
    go (inl c) =
        omega (
          arith,
          total_one n tb w ok z s u l,
          sum_has n i had li,
          same c (ap (λ (y : ℕ). get_or (state n tb w y).tickets b None) c ∙ f) (cases_eq a b),
        )
    go (inr c) =
        omega (
          arith,
          total_one n tb w ok z s u l,
          sum_has_two n i j had li lj c,
          count_one z s u (state n tb w i).tickets a p e here,
          count_one z s u (state n tb w j).tickets b q f there_too,
        )

seats_all : (p : Party) (ss : List Seat) (m : ℕ) → below m ss ≡ true → AllByRecursion (λ (q : Piece). q.seat.0 < m) (map (λ s. piece_of p.train s p.trip) ss)
seats_all p [] m h = tt
seats_all p (s ∷ ss) m h = let (a, b) = and_parts (ltb s.0 m) (below m ss) h in (ltb-true s.0 m a, seats_all p ss m b)

pub only : OnlyWhatIs
only n tb w reach i = (held, tickets)
  where
    ok : Intact n tb w
    ok = ok_reach n tb reach

    held : (t : Train) (s u : ℕ) → i < n → s < 400 → holding t s u (state n tb w i) ≡ true → (r : Row) × (tb t.0 ≡ Some r) × (s < r.seats) × (u < stretches r)
    held t s u b l h = somewhere n tb w ok t s u l (omega (arith, sum_has n i (λ k. stock n tb t s u l (state n tb w k)) b, ap (λ c. cond {A = ℕ} c 1 0) h))

    tickets : (a : ℕ) (p : Party) → get_or (state n tb w i).tickets a None ≡ Some p → (r : Row) × (tb p.train.0 ≡ Some r) × (p.trip.to.0 < r.stops) × AllByRecursion (λ (q : Piece). q.seat.0 < r.seats) (pieces_of p)
    tickets a p e =
        let h = listed_party (tb p.train.0) p (real_at tb (state n tb w i).tickets a p (ok.fine i).real e).1 in
        (h.row, h.is, h.to, seats_all p (seats_of p) h.row.seats h.seats)
