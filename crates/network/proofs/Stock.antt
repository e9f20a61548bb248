-- The stock of a stretch at a station, held or sold, when it writes a record.
-- Assumes nothing.
use Rattle.std.proofs.Common.{◌≡◌, ℕ, ◌+◌, ◌-◌, ◌<◌, ◌≤◌, true, false, cond, ◌||◌, eqb, ◌⊎◌, List, [], ◌∷◌, ◌++◌, map, length, get_or, set, is_some, Some, None, Option, sym, refl, ap, ◌∙◌, inl, inr, arith}
use Rattle.choosing.specs.Parties.{pieces_of}
use Rattle.choosing.specs.declared.party.Party.{Party}
use Rattle.giving.specs.declared.ids.Ticket.{Ticket}
use Rattle.state.proofs.Opens.{listed_seat, listed_seats}
use Rattle.state.specs.Changes.{apply, fits, listed_all, put_all, opened, closing, returnable, forgotten, trimmed}
use Rattle.state.specs.States.{State, place_of, is_open, among, was_closed, known, ticket_of}
use Rattle.state.specs.declared.record.Record.{Record}
use Rattle.state.specs.declared.record.Record.TheVariants.{Opened, Closed, Sold, Undone, Given, Taken}
use Rattle.network.proofs.Count.{given_of, taken_of, standing_push, standing_trimmed, one, count_nil, count_append, count_returned, count_to, one_other, count_forgotten}
use Rattle.network.proofs.Held.{Sound, in_word, in_out, in_back, in_out_all, in_back_all, in_shut}
use Rattle.network.proofs.Local.{fits_opened, fits_sold, fits_given, fits_taken}
use Rattle.network.proofs.Moves.{Received, shut, there, anew, received_by}
use Rattle.network.proofs.Slots.{train_is}
use Rattle.network.proofs.Sum.{sum_to, sum_zero}
use Rattle.network.proofs.Trains.{share, opened_open, opened_same, opened_sound, in_opened, closing_same, closing_shut, closing_sound, in_closing}
use Rattle.network.specs.Places.{count_in, standing}
use Rattle.pieces.specs.declared.names.Train.{Train}
use Rattle.pieces.specs.declared.piece.Piece.{Piece}
use Rattle.std.proofs.lemmas.Bool.{cases_eq, eq-eqb, ne_eqb, and_parts, or_from, or_parts, or_left, or_right, true≢false, false≢true}
use Rattle.std.proofs.lemmas.Bool.Decides.{nat_tests}
use Rattle.std.proofs.lemmas.List.Recursion.{or_push}
use Rattle.std.proofs.Math.Bool.{or-false}
use Rattle.timetable.specs.Rows.{Table, listed}
use Rattle.timetable.specs.declared.row.Row.{Row}

pub among_push : (t z : Train) (xs : List Train) → among t (xs ++ z ∷ []) ≡ (among t xs || eqb t.0 z.0)
among_push t z xs = or_push (among t) (λ x. eqb t.0 x.0) refl (λ _ _. refl) xs z

module _ (n : ℕ) (tb : Table) (t : Train) (s u : ℕ) (l : s < 400) where
  -- held or sold here
  abbrev pub stock : State → ℕ
  stock x = in_word t s u l x + count_in t s u (standing x.tickets)

  -- what the station had at first, once it has opened the train
  abbrev pub due : State → ℕ
  due x = cond (known x t) (share (tb t.0) x.me s u) 0

  abbrev pub all_given : Record → ℕ
  all_given e = sum_to n (λ k. count_in t s u (given_of k e))

  abbrev pub all_taken : Record → ℕ
  all_taken e = sum_to n (λ k. count_in t s u (taken_of k e))

  -- what a station has and gave is what it was due and took; no more, where it has closed the train
  pub record Moved (x y : State) (g k : ℕ) : Type 0 where
    pub most : stock y + g + due x ≤ stock x + k + due y
    pub even : was_closed y t ≡ false → stock y + g + due x ≡ stock x + k + due y

  evenly : {x y : State} {g k : ℕ} → stock y + g + due x ≡ stock x + k + due y → Moved x y g k
  evenly e = record { most = omega arith; even = λ _. e }

  nil : sum_to n (λ k. count_in t s u []) ≡ 0
  nil = sum_zero n (λ k. count_in t s u []) (λ _ _. count_nil t s u)

  -- a train is opened
  open_moved : (x : State) (z : Train) (r : Row) → Sound x → known x z ≡ false → place_of x.slots None < length x.slots → tb z.0 ≡ Some r → in_word t s u l (opened (Some r) z x) + due x ≡ in_word t s u l x + due (opened (Some r) z x)
  open_moved x z r h k f e = go (cases_eq t.0 z.0) (in_opened x h z r o f t s u l)
    where
      o : is_open x z ≡ false
      o = (or_parts (is_open x z) (was_closed x z) k).0

      go : (t.0 ≡ z.0) ⊎ (t.0 ≡ z.0 → ⊥) → in_word t s u l (opened (Some r) z x) ≡ in_word t s u l x + cond (eqb t.0 z.0) (share (Some r) x.me s u) 0 → in_word t s u l (opened (Some r) z x) + due x ≡ in_word t s u l x + due (opened (Some r) z x)
      go (inl d) i =
          let j = rw (eq-eqb t.0 z.0 d) at i in
          let was : due x ≡ 0 = rw (ap (known x) (train_is d) ∙ k) refl in
          let is : due (opened (Some r) z x) ≡ share (Some r) x.me s u = rw (opened_open x h z r o f t d) (ap (λ m. share m x.me s u) (ap tb d ∙ e)) in
          omega (arith, j, was, is)
      go (inr d) i =
          let j = rw (ne_eqb t.0 z.0 d) at i in
          let is : due (opened (Some r) z x) ≡ due x = rw (opened_same x h z r o f t d) refl in
          omega (arith, j, is)

  close_moved : (x : State) (z : Train) → Sound x → is_open x z ≡ true → Moved x (closing z x) (all_given (Closed z)) (all_taken (Closed z))
  close_moved x z h o = go (cases_eq t.0 z.0)
    where
      xs : List (Option Party)
      xs = map (forgotten z) x.tickets

      closed : among t (x.closed ++ z ∷ []) ≡ (among t x.closed || eqb t.0 z.0)
      closed = among_push t z x.closed

      left : count_in t s u (standing (trimmed xs)) ≡ cond (eqb t.0 z.0) 0 (count_in t s u (standing x.tickets))
      left = ap (count_in t s u) (standing_trimmed xs) ∙ count_forgotten t s u z x.tickets

      go : (t.0 ≡ z.0) ⊎ (t.0 ≡ z.0 → ⊥) → Moved x (closing z x) (all_given (Closed z)) (all_taken (Closed z))
      go (inl d) =
          let now : was_closed (closing z x) t ≡ true = closed ∙ or_right (among t x.closed) (eqb t.0 z.0) (eq-eqb t.0 z.0 d) in
          let was : known x t ≡ true = or_left (is_open x t) (was_closed x t) (ap (is_open x) (train_is d) ∙ o) in
          let is : known (closing z x) t ≡ true = or_right (is_open (closing z x) t) (was_closed (closing z x) t) now in
          let e : due (closing z x) ≡ due x = rw (was, is) refl in
          let i : in_word t s u l (closing z x) ≡ 0 = in_shut t s u l (closing z x) (closing_sound x h z o) (closing_shut x h z o t d) in
          let c = rw (eq-eqb t.0 z.0 d) at left in
          record { most = omega (arith, e, i, c, nil); even = λ f. absurd (true≢false (sym now ∙ f)) }
      go (inr d) =
          let k : known (closing z x) t ≡ known x t = rw (closing_same x h z o t d, closed, ne_eqb t.0 z.0 d, or-false (among t x.closed)) refl in
          let e : due (closing z x) ≡ due x = ap (λ b. cond b (share (tb t.0) x.me s u) 0) k in
          let i : in_word t s u l (closing z x) ≡ in_word t s u l x = in_closing x h z o t s u l d in
          let c = rw (ne_eqb t.0 z.0 d) at left in
          evenly (omega (arith, e, i, c, nil))

  -- a ticket is undone
  undo_moved : (x : State) (m : Ticket) (p : Party) → Sound x → listed_all (tb p.train.0) p ≡ true → is_open x p.train ≡ true → ticket_of x m.0 ≡ Some p → stock x ≤ 1 →
      in_word t s u l (put_all x p) + count_in t s u (standing (set x.tickets (m.0 - 1 - x.dropped) None)) ≡ stock x
  undo_moved x m p h a o e r =
      let stands : get_or x.tickets (m.0 - 1 - x.dropped) None ≡ Some p = grind (arith, nat_tests) in
      let b = count_returned t s u x.tickets (m.0 - 1 - x.dropped) p stands in
      omega (arith, b, in_back_all t s u l x p h o (listed_seats (tb p.train.0) p a) (omega (arith, b, r)))

  -- a piece is taken
  take_moved : (x : State) (p : Piece) → Sound x → listed (tb p.train.0) p ≡ true → {y : State} → Received tb x p y → stock x + one t s u p + due y ≤ 1 + due x → Moved x y 0 (one t s u p)
  take_moved x p h a (shut c) r =
      record { most = omega arith; even = λ g. omega (arith, one_other t s u p (λ d. true≢false (sym c ∙ ap (was_closed x) (train_is (sym d)) ∙ g))) }
  take_moved x p h a (there c o) r = evenly (omega (arith, in_back t s u l x p h o (listed_seat (tb p.train.0) p a) (omega (arith, r))))
  take_moved x p h a (anew z is c o q) r =
      let m = open_moved x p.train z h (or_from (is_open x p.train) (was_closed x p.train) o c) q is in
      evenly (omega (arith, m, in_back t s u l (opened (Some z) p.train x) p (opened_sound x h p.train z o q) (opened_open x h p.train z o q p.train refl) (listed_seat (tb p.train.0) p a) (omega (arith, m, r))))

  pub moved : (x : State) (e : Record) → Sound x → length x.channels ≡ n → fits tb x e ≡ true → stock x + all_taken e + due (apply tb x e) ≤ 1 + due x → Moved x (apply tb x e) (all_given e) (all_taken e)
  moved x (Opened z) h c f r = go (tb z.0) refl (fits_opened tb x z f)
    where
      go : (o : Option Row) → tb z.0 ≡ o → (is_some o ≡ true) × (known x z ≡ false) × (place_of x.slots None < length x.slots) → Moved x (opened o z x) (all_given (Opened z)) (all_taken (Opened z))
      go None e (g, _, _) = absurd (false≢true g)
      go (Some v) e (_, k, q) = evenly (omega (arith, open_moved x z v h k q e, nil))
  moved x (Closed z) h c f r = close_moved x z h f
  moved x (Sold m p) h c f r =
      let g = fits_sold tb x m p f in
      evenly (omega (arith, nil, in_out_all t s u l x p h g.«open» g.held, ap (count_in t s u) (standing_push x.tickets p), count_append t s u (standing x.tickets) (pieces_of p)))
  moved x (Undone m) h c f r = go (ticket_of x m.0) refl f
    where
      go : (y : Option Party) → ticket_of x m.0 ≡ y → returnable tb x y ≡ true → Moved x (apply tb x (Undone m)) (all_given (Undone m)) (all_taken (Undone m))
      go None e g = absurd (false≢true g)
      go (Some p) e g =
          let (a, o) = and_parts (listed_all (tb p.train.0) p) (is_open x p.train) g in
          let k = rw e at r in
          rw e (evenly (omega (arith, nil, undo_moved x m p h a o e (omega (arith, k, nil)))))
  moved x (Given to m a p) h c f r =
      let g = fits_given tb x to m a p f in
      evenly (omega (arith, nil, in_out t s u l x p h g.«open» (listed_seat (tb p.train.0) p g.listed) g.held, count_to t s u n to.0 p (omega (arith, g.there, c))))
  moved x (Taken from m p) h c f r =
      let g = fits_taken tb x from m p f in
      let k = count_to t s u n from.0 p (omega (arith, g.there, c)) in
      let v = take_moved x p h g.listed (received_by tb x p g.listed g.room) (omega (arith, k, r)) in
      record { most = omega (arith, v.most, k, nil); even = λ z. omega (arith, v.even z, k, nil) }
  moved x e h c f r = evenly (omega (arith, nil))
