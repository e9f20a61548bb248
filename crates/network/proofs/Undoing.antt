-- A ticket that stands can be undone.
-- Assumes nothing.
use Rattle.std.proofs.Common.{◌≡◌, ℕ, ◌+◌, ◌-◌, ◌<◌, ◌≤◌, Bool, true, false, cond, ltb, ◌⊎◌, List, [], ◌∷◌, map, length, get_or, get_or-set_same, set, is_some, Some, None, fold, Option, sym, refl, ap, ◌∙◌, subst, inl, inr, ⊎_elim, Ok, arith}
use Rattle.choosing.specs.Parties.{pieces_of, seats_of}
use Rattle.choosing.specs.declared.party.Party.{Party}
use Rattle.giving.specs.declared.refusal.Refusal.TheVariants.{NoSuchTicket}
use Rattle.giving.specs.Calls.{unless}
use Rattle.ledger.specs.Decisions.{decided}
use Rattle.ledger.specs.declared.input.Input.TheVariants.{Undo}
use Rattle.ledger.specs.declared.input.Outcome.TheVariants.{Done}
use Rattle.network.proofs.Fine.{real_at}
use Rattle.network.proofs.Count.{count_returned}
use Rattle.network.proofs.Held.{Sound, altered_sound, in_word, in_back_all}
use Rattle.network.proofs.Kept.{Holds, held_on, back_kept}
use Rattle.network.proofs.Linked.{Intact, every, ok_reach, total_one}
use Rattle.network.proofs.Local.{fits_opened, fits_sold, fits_taken}
use Rattle.network.proofs.Moves.{Received, shut, there, anew, received_by}
use Rattle.network.proofs.Trains.{opened_open, opened_same, closing_same}
use Rattle.network.proofs.Once.{there as is_there}
use Rattle.network.proofs.Stock.{stock}
use Rattle.network.proofs.Sum.{sum_has}
use Rattle.network.specs.Answers.{Splits}
use Rattle.network.specs.Places.{count_in}
use Rattle.network.specs.Promises.{Undoes}
use Rattle.network.specs.Falls.{Reach}
use Rattle.network.specs.Worlds.{World, state}
use Rattle.pieces.specs.Memory.{together_all}
use Rattle.pieces.specs.Parts.{piece_of}
use Rattle.pieces.specs.Stretches.{plus}
use Rattle.pieces.specs.declared.names.Seat.{Seat}
use Rattle.pieces.specs.declared.names.Train.{Train}
use Rattle.pieces.specs.declared.piece.Piece.{Piece}
use Rattle.pieces.specs.declared.trip.Trip.{Trip}
use Rattle.state.proofs.Opens.{listed_seats}
use Rattle.state.specs.Changes.{apply, fits, forgotten, opened, closing, put_back, returnable, returned, with_words, put_all, listed_all}
use Rattle.state.specs.States.{State, begun, place_of, place, is_open, known, was_closed, holds_piece, ticket_of}
use Rattle.state.specs.declared.record.Record.{Record}
use Rattle.state.specs.declared.record.Record.TheVariants.{Opened, Closed, Sold, Undone, Taken}
use Rattle.std.proofs.lemmas.List.{get_or_past}
use Rattle.std.proofs.lemmas.List.Elements.{All-nil, All-set, All-push, All-drop, All-map, All-weaker}
use Rattle.std.proofs.lemmas.List.Sums.{fold_push}
use Rattle.std.proofs.lemmas.Bool.{cases_eq, cases_lt, eq-eqb, ne_eqb, or_parts}
use Rattle.std.proofs.lemmas.Bool.Decides.{nat_tests}
use Rattle.std.specs.List.{All, AllByRecursion}
use Rattle.timetable.specs.Rows.{Table}
use Rattle.timetable.specs.declared.row.Row.{Row}

-- ---- a ticket that stands is of an open train

abbrev OpenAt : List (Option Train) → Option Party → Type 0
OpenAt ys (Some p) = ltb (place_of ys (Some p.train)) (length ys) ≡ true
OpenAt ys None = Unit {0}

opened_keeps : (x : State) → Sound x → (z : Train) (r : Row) → is_open x z ≡ false → place_of x.slots None < length x.slots → (y : Option Party) → OpenAt x.slots y → OpenAt (opened (Some r) z x).slots y
opened_keeps x h z r o l None e = tt
opened_keeps x h z r o l (Some p) e = ⊎_elim (λ d. opened_open x h z r o l p.train d) (λ d. opened_same x h z r o l p.train d ∙ e) (cases_eq p.train.0 z.0)

closing_keeps : (x : State) → Sound x → (z : Train) → is_open x z ≡ true → (y : Option Party) → OpenAt x.slots y → OpenAt (closing z x).slots (forgotten z y)
closing_keeps x h z o None e = tt
closing_keeps x h z o (Some p) e = ⊎_elim
    (λ d. subst (OpenAt (closing z x).slots) (sym (ap (λ b. cond b None (Some p)) (eq-eqb z.0 p.train.0 d))) tt)
    (λ d. subst (OpenAt (closing z x).slots) (sym (ap (λ b. cond b None (Some p)) (ne_eqb z.0 p.train.0 d))) (closing_same x h z o p.train (λ f. d (sym f)) ∙ e))
    (cases_eq z.0 p.train.0)

abbrev OpenSales : State → Type 0
OpenSales x = All (OpenAt x.slots) x.tickets

module _ (tb : Table) (x : State) (sound : Sound x) (h : OpenSales x) where
  opens : (z : Train) (r : Row) → is_open x z ≡ false → place_of x.slots None < length x.slots → OpenSales (opened (Some r) z x)
  opens z r o l = All-weaker (OpenAt x.slots) (OpenAt (opened (Some r) z x).slots) (opened_keeps x sound z r o l) x.tickets h

  open_next : (e : Record) → fits tb x e ≡ true → OpenSales (apply tb x e)
  open_next (Opened z) f = go (tb z.0) (fits_opened tb x z f)
    where
      go : (o : Option Row) → (is_some o ≡ true) × (known x z ≡ false) × (place_of x.slots None < length x.slots) → OpenSales (opened o z x)
      go None g = h
      go (Some r) (_, k, l) = opens z r (or_parts (is_open x z) (was_closed x z) k).0 l
  open_next (Closed z) f = All-drop (OpenAt (closing z x).slots) _ (map (forgotten z) x.tickets) (All-map (OpenAt (closing z x).slots) (forgotten z) x.tickets (All-weaker (OpenAt x.slots) (λ y. OpenAt (closing z x).slots (forgotten z y)) (closing_keeps x sound z f) x.tickets h))
  open_next (Sold n p) f = All-push (OpenAt x.slots) x.tickets (Some p) h (fits_sold tb x n p f).«open»
  open_next (Undone n) f = go (ticket_of x n.0)
    where
      go : (y : Option Party) → All (OpenAt (returned y x).slots) (set x.tickets (n.0 - 1 - x.dropped) None)
      go (Some p) = All-set (OpenAt x.slots) x.tickets _ None tt h
      go None = All-set (OpenAt x.slots) x.tickets _ None tt h
  open_next (Taken from n p) f = go (received_by tb x p (fits_taken tb x from n p f).listed (fits_taken tb x from n p f).room)
    where
      go : {y : State} → Received tb x p y → OpenSales y
      go (shut c) = h
      go (there c o) = h
      go (anew r is c o l) = opens p.train r o l
  open_next e f = h

open_all : (n : ℕ) (tb : Table) {w : World} → Reach n tb w → (i : ℕ) → OpenSales (state n tb w i)
open_all n tb r i =
    every n tb (λ i js. OpenSales (fold (apply tb) (begun n i) js)) (λ i. All-nil (OpenAt (begun n i).slots))
    (λ i js e sound f h. rw (fold_push (apply tb) (begun n i) js e) (open_next tb (fold (apply tb) (begun n i) js) sound h e f)) r i

open_at : (x : State) (a : ℕ) (p : Party) → OpenSales x → get_or x.tickets a None ≡ Some p → is_open x p.train ≡ true
open_at x a p h e = go (cases_lt a (length x.tickets))
  where
    go : (a < length x.tickets) ⊎ (length x.tickets ≤ a) → is_open x p.train ≡ true
    go (inl l) = rw e at (h a None l)
    go (inr l) = let z : None ≡ Some p = sym (get_or_past x.tickets a None l) ∙ e in cc

-- ---- what is put back is held

module _ (z : Train) (t : Trip) where
  abbrev all_back : State → List Seat → State
  all_back x ss = with_words x (together_all x.words (place x z) ss t.from.0 t.to.0)

  back_all_holds : (x : State) (ss : List Seat) → Sound x → is_open x z ≡ true → AllByRecursion (λ (v : Seat). v.0 < 400) ss → Holds x (all_back x ss)
  back_all_holds x [] sound o b = λ q s u l e. e
  back_all_holds x (y ∷ ss) sound o b =
      let (k, _) = back_kept x sound (piece_of z y t) o b.0 in
      let m = back_all_holds (put_back x (piece_of z y t)) ss (altered_sound plus x (place x z) (y ∷ []) t.from.0 t.to.0 sound) o b.1 in
      λ q s u l e. m q s u l (k q s u l e)

  back_all_has : (x : State) (ss : List Seat) → Sound x → is_open x z ≡ true → AllByRecursion (λ (v : Seat). v.0 < 400) ss → AllByRecursion (λ (q : Piece). holds_piece (all_back x ss) q ≡ true) (map (λ y. piece_of z y t) ss)
  back_all_has x [] sound o b = tt
  back_all_has x (y ∷ ss) sound o b =
      let p = piece_of z y t in
      let (_, k) = back_kept x sound p o b.0 in
      (held_on (put_back x p) (all_back (put_back x p) ss) (back_all_holds (put_back x p) ss (altered_sound plus x (place x z) (y ∷ []) t.from.0 t.to.0 sound) o b.1) p k, back_all_has (put_back x p) ss (altered_sound plus x (place x z) (y ∷ []) t.from.0 t.to.0 sound) o b.1)

pub undoes : Undoes
undoes n tb w reach i m = record { stands = stands; none = λ e. ap (λ y. unless (returnable tb x y) NoSuchTicket (Ok (Done (Undone m)))) e }
  where
    ok : Intact n tb w
    ok = ok_reach n tb reach

    x : State
    x = state n tb w i

    at : ℕ
    at = m.0 - 1 - x.dropped

    stands : (p : Party) → ticket_of x m.0 ≡ Some p → (is_open x p.train ≡ true) × (decided tb x (Undo m) ≡ Ok (Done (Undone m))) × AllByRecursion (λ (q : Piece). holds_piece (apply tb x (Undone m)) q ≡ true) (pieces_of p) × Splits (apply tb x (Undone m)) x (pieces_of p) × (ticket_of (apply tb x (Undone m)) m.0 ≡ None)
    stands p e =
        let a : get_or x.tickets at None ≡ Some p = grind (arith, nat_tests) in
        let l = (real_at tb x.tickets at p (ok.fine i).real a).1 in
        let o = open_at x at p (open_all n tb reach i) a in (
          o,
          rw (e, l, o) refl,
          rw e (back_all_has p.train p.trip x (seats_of p) (ok.fine i).sound o (listed_seats (tb p.train.0) p l)),
          rw e (λ t s u k. back t s u k a l o),
          rw (e, get_or-set_same x.tickets at None None (within a)) (cond_same (ltb x.dropped m.0)),
        )
      where
        back : (t : Train) (s u : ℕ) (k : s < 400) → get_or x.tickets at None ≡ Some p → listed_all (tb p.train.0) p ≡ true → is_open x p.train ≡ true → in_word t s u k (put_all x p) ≡ in_word t s u k x + count_in t s u (pieces_of p)
        back t s u k a l o =
            in_back_all t s u k x p (ok.fine i).sound o (listed_seats (tb p.train.0) p l)
            (omega (arith, total_one n tb w ok t s u k, sum_has n i (λ j. stock n tb t s u k (state n tb w j)) (is_there n tb w ok i p.train o), count_returned t s u x.tickets at p a))

        within : get_or x.tickets at None ≡ Some p → at < length x.tickets
        within a = ⊎_elim (λ l. l) (λ l. let z : None ≡ Some p = sym (get_or_past x.tickets at None l) ∙ a in cc) (cases_lt at (length x.tickets))

        cond_same : (b : Bool) → cond {A = Option Party} b None None ≡ None
        cond_same true = refl
        cond_same false = refl
