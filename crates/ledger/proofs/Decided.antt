-- What is decided may be written.
-- Assumes nothing.
use Rattle.std.proofs.Common.{◌≡◌, ℕ, suc, ◌+◌, ◌≤◌, min, Bool, true, false, cond, not, ◌&&◌, ◌||◌, eqb, ltb, leb, List, [], ◌∷◌, map, length, set, Some, None, Option, Ok, Err, Result, Less, Equal, Greater, sym, refl, ap, subst, arith, length-append, length-set, get_or-set_same}
use Rattle.choosing.specs.Parties.{below, party_of, seats_of, some}
use Rattle.choosing.specs.declared.party.Party.{Party}
use Rattle.giving.proofs.Mapped.{waiting_set}
use Rattle.giving.specs.Calls.{unless, givable, next_number, room}
use Rattle.giving.specs.Channels.{Chan, all_waiting, fresh, gave, stands, line, roomy, numbered, other, news, unanswered}
use Rattle.giving.specs.declared.ids.Ask.{Ask}
use Rattle.giving.specs.declared.ids.Number.{Number}
use Rattle.giving.specs.declared.ids.StationId.{StationId}
use Rattle.giving.specs.declared.ids.Ticket.{Ticket}
use Rattle.giving.specs.declared.refusal.Refusal.{Refusal}
use Rattle.giving.specs.declared.refusal.Refusal.TheVariants.{Full, Malformed, NoSuchStation, NoSuchTicket, NotOpen, NothingHeld, OutOfTurn}
use Rattle.choosing.specs.Choice.{beside}
use Rattle.choosing.proofs.Groups.{group_most, group_below, group_covered, group_beside_covered}
use Rattle.choosing.proofs.Parties.{party_seats}
use Rattle.ledger.specs.Calls.{Numbered}
use Rattle.ledger.specs.Decisions.{Answer, judging, met, heeded, turned, unasked, seats_for, seats_beside, selling, offering, asking, granting, answering, decided, decided_open, listing, gifts, entries, records, DecidedFits}
use Rattle.ledger.specs.declared.input.Input.{Input}
use Rattle.ledger.specs.declared.input.Input.TheVariants.{Close, Sell, Undo, Give, Take, Hear, Grant}
use Rattle.ledger.specs.declared.input.Input.TheVariants as input
use Rattle.ledger.specs.declared.input.Outcome.{Outcome}
use Rattle.ledger.specs.declared.input.Outcome.TheVariants.{Done, Gave, Nothing, Passed}
use Rattle.pieces.specs.Memory.{covered_all, word_at, without}
use Rattle.pieces.specs.Parts.{piece_of, trip_from}
use Rattle.pieces.specs.Stretches.{covered}
use Rattle.pieces.specs.declared.demand.Demand.{Demand}
use Rattle.pieces.specs.declared.names.Seat.{Seat}
use Rattle.pieces.specs.declared.names.Train.{Train}
use Rattle.pieces.specs.declared.piece.Piece.{Piece}
use Rattle.pieces.specs.declared.trip.Trip.{Trip}
use Rattle.state.specs.Changes.{all_fit, apply, fits, fresh_ask, listed_all, returnable}
use Rattle.state.specs.States.{State, is_open, kept, known, openable, place, asks_left, tickets_left, sold, ticket_of}
use Rattle.state.specs.declared.record.Record.{Record}
use Rattle.state.specs.declared.record.Record.TheVariants.{Opened, Closed, Sold, Undone, Given, Taken, Heard, Asked, Declined}
use Rattle.std.proofs.lemmas.Bool.{and_from, and_parts, eq-eqb, lt-ltb, ltb-true}
use Rattle.std.proofs.lemmas.Bool.Decides.{nat_tests}
use Rattle.timetable.specs.Additions.{admitted}
use Rattle.timetable.specs.Rows.{Table, listed}
use Rattle.timetable.specs.declared.row.Row.{Row}

-- ---- what holds of each outcome of a chain of grounds

module _ {X : Type 0} (P : Result X Refusal → Type 0) (refused : (r : Refusal) → P (Err r)) where
  pub unless_by : (b : Bool) (r : Refusal) (o : Result X Refusal) → (b ≡ true → P o) → P (unless b r o)
  unless_by true r o h = h refl
  unless_by false r o h = refused r

  pub cond_by : (b : Bool) (o q : Result X Refusal) → (b ≡ true → P o) → P q → P (cond b o q)
  cond_by true o q h g = h refl
  cond_by false o q h g = g

module _ (P : Answer → Type 0) (refused : (r : Refusal) → P (Err r)) where
  met_by : (w : Option Row) (x : Option Trip) (m : ℕ) (b : Bool) (k : Row → Trip → Answer)
      → ((r : Row) (t : Trip) → w ≡ Some r → some m ≡ true → ltb t.to.0 r.stops ≡ true → b ≡ true → P (k r t)) → P (met (judging w x m b) k)
  met_by None None m b k h = refused Malformed
  met_by (Some r) None m b k h = refused Malformed
  met_by None (Some t) m b k h = go (some m)
    where
      go : (y : Bool) → P (met (unless y Malformed (Err NotOpen)) k)
      go true = refused NotOpen
      go false = refused Malformed
  met_by (Some r) (Some t) m b k h = go (some m && ltb t.to.0 r.stops) b refl refl
    where
      go : (y z : Bool) → (some m && ltb t.to.0 r.stops) ≡ y → b ≡ z → P (met (unless y Malformed (unless z NotOpen (Ok (r, t)))) k)
      go true true e d = let (f, g) = and_parts (some m) (ltb t.to.0 r.stops) e in h r t refl f g d
      go true false e d = refused NotOpen
      go false z e d = refused Malformed

  -- the same where a train that is not open is no ground
  pub heeded_by : (w : Option Row) (x : Option Trip) (m : ℕ) (b : Bool) (k : Option (Row × Trip) → Answer) → P (k None)
      → ((r : Row) (t : Trip) → w ≡ Some r → some m ≡ true → ltb t.to.0 r.stops ≡ true → b ≡ true → P (k (Some (r, t)))) → P (heeded (judging w x m b) k)
  heeded_by None None m b k g h = refused Malformed
  heeded_by (Some r) None m b k g h = refused Malformed
  heeded_by None (Some t) m b k g h = go (some m)
    where
      go : (y : Bool) → P (heeded (unless y Malformed (Err NotOpen)) k)
      go true = g
      go false = refused Malformed
  heeded_by (Some r) (Some t) m b k g h = go (some m && ltb t.to.0 r.stops) b refl refl
    where
      go : (y z : Bool) → (some m && ltb t.to.0 r.stops) ≡ y → b ≡ z → P (heeded (unless y Malformed (unless z NotOpen (Ok (r, t)))) k)
      go true true e d = let (f, i) = and_parts (some m) (ltb t.to.0 r.stops) e in h r t refl f i d
      go true false e d = g
      go false z e d = refused Malformed

  turned_by : (c : Chan) (n : ℕ) (o : Answer) → ((r : Refusal) → P (Ok (Passed r))) → (eqb n (c.taken + 1) ≡ true → P o) → P (turned (stands c n) o)
  turned_by c n o q h = go (leb n c.taken) (eqb n (c.taken + 1)) refl
    where
      go : (a b : Bool) → eqb n (c.taken + 1) ≡ b → P (turned (cond a Less (cond b Equal Greater)) o)
      go true b f = q OutOfTurn
      go false true f = h f
      go false false f = q OutOfTurn

-- ---- a sale

enough : (m l : ℕ) → some m ≡ true → leb m l ≡ true → l ≤ m → some l ≡ true
enough m l h g e = let (a, b) = and_parts (leb 1 m) (leb m 8) h in grind (arith, nat_tests)

few : (m : ℕ) → some m ≡ true → m ≤ 8
few m h = let (a, b) = and_parts (leb 1 m) (leb m 8) h in grind (arith, nat_tests)

listed_party : (w : Option Row) (r : Row) (p : Party) → w ≡ Some r → ltb p.trip.to.0 r.stops ≡ true → below r.seats (seats_of p) ≡ true → listed_all w p ≡ true
listed_party w r p e a b = subst (λ o. listed_all o p ≡ true) (sym e) (and_from _ _ a b)

module _ (tb : Table) (s : State) (z : Train) (m : ℕ) (r : Row) (t : Trip) where
  module _ (w : tb z.0 ≡ Some r) (h : some m ≡ true) (l : ltb t.to.0 r.stops ≡ true) (o : is_open s z ≡ true) where
    -- the seats for as many people, or fewer
    module _ (k : ℕ) (u : k ≤ m) where
      is : seats_of (party_of z t (seats_for s z r t k)) ≡ seats_for s z r t k
      is =
          let g = group_most k (word_at s.words (place s z)) r.seats t.from.0 t.to.0 in
          let f = few m h in
          party_seats z t (seats_for s z r t k) (omega arith)

      taken : covered_all s.words (place s z) (seats_for s z r t k) t.from.0 t.to.0 ≡ true
      taken = group_covered s.words (place s z) k r.seats t.from.0 t.to.0 r.few t.ordered

    sale : leb m (length (seats_for s z r t m)) ≡ true → tickets_left s ≡ true → fits tb s (Sold (record { 0 = sold s + 1 }) (party_of z t (seats_for s z r t m))) ≡ true
    sale g d =
        let p = party_of z t (seats_for s z r t m) in
        let e = sym (is m (omega arith)) in
        and_from _ _ (subst (λ ss. some (length ss) ≡ true) e (enough m (length (seats_for s z r t m)) h g (group_most m (word_at s.words (place s z)) r.seats t.from.0 t.to.0)))
        (and_from _ _ (listed_party (tb z.0) r p w l (subst (λ ss. below r.seats ss ≡ true) e (group_below m (word_at s.words (place s z)) r.seats t.from.0 t.to.0)))
        (and_from _ _ o
        (and_from _ _ (subst (λ ss. covered_all s.words (place s z) ss t.from.0 t.to.0 ≡ true) e (taken m (omega arith)))
        (and_from _ _ d (eq-eqb (sold s + 1) (sold s + 1) refl)))))

-- ---- pieces given one after the other

listed_one : (w : Option Row) (r : Row) (z : Train) (s : Seat) (t : Trip) → w ≡ Some r → ltb s.0 r.seats ≡ true → ltb t.to.0 r.stops ≡ true → listed w (piece_of z s t) ≡ true
listed_one w r z s t e a b = subst (λ o. listed o (piece_of z s t) ≡ true) (sym e) (and_from _ _ a b)

-- a piece more for the same ask
fresh_again : (c : Chan) (a : ℕ) (p : Piece) → fresh_ask c a ≡ true → fresh_ask (gave c a p) a ≡ true
fresh_again c a p h = grind (arith, nat_tests)

module _ (tb : Table) (to : StationId) (b : Ask) (z : Train) (t : Trip) (r : Row) (w : tb z.0 ≡ Some r) (l : ltb t.to.0 r.stops ≡ true) where
  gifts_fit : (ss : List Seat) (x : State) (n : ℕ) → below r.seats ss ≡ true → is_open x z ≡ true → covered_all x.words (place x z) ss t.from.0 t.to.0 ≡ true
      → all_waiting x.channels + length ss ≤ 4096 → (line x.channels to.0).given + length ss ≤ 4294967295 → other x.me x.channels to.0 ≡ true
      → n ≡ (line x.channels to.0).given + 1 → fresh_ask (line x.channels to.0) b.0 ≡ true → all_fit tb x (gifts to b n (map (λ (s : Seat). piece_of z s t) ss)) ≡ true
  gifts_fit [] x n d o c v u a e f = refl
  gifts_fit (s ∷ ss) x n h o c v u a e f =
      let p = piece_of z s t in
      let k = line x.channels to.0 in
      let (b0, b1) = and_parts (ltb s.0 r.seats) (below r.seats ss) h in
      let (c0, c1) = and_parts (ltb s.0 400 && covered (word_at x.words (place x z) s.0) t.from.0 t.to.0) (covered_all (without x.words (place x z) s.0 t.from.0 t.to.0) (place x z) ss t.from.0 t.to.0) c in
      let (a0, a1) = and_parts (ltb to.0 (length x.channels)) (not (eqb to.0 x.me)) a in
      let i = ltb-true to.0 (length x.channels) a0 in
      let q = waiting_set x.channels to.0 (gave k b.0 p) i in
      let y = length-append k.waiting (p ∷ []) in
      let g : line (set x.channels to.0 (gave k b.0 p)) to.0 ≡ gave k b.0 p = get_or-set_same x.channels to.0 (gave k b.0 p) fresh i in
      let d : (line (set x.channels to.0 (gave k b.0 p)) to.0).given ≡ k.given + 1 = ap (λ (j : Chan). j.given) g in
      and_from _ _
      (and_from _ _ (listed_one (tb z.0) r z s t w b0 l)
      (and_from _ _ o
      (and_from _ _ c0
      (and_from _ _ (lt-ltb (all_waiting x.channels) 4096 (omega arith))
      (and_from _ _ (lt-ltb k.given 4294967295 (omega arith))
      (and_from _ _ a (and_from _ _ (eq-eqb n (k.given + 1) e) f)))))))
      (gifts_fit ss (apply tb x (Given to (record { 0 = n }) b p)) (suc n) b1 o c1
      (omega arith) (omega arith)
      (and_from _ _ (subst (λ (j : ℕ). ltb to.0 j ≡ true) (sym (length-set x.channels to.0 (gave k b.0 p))) a0) a1)
      (omega arith)
      (subst (λ (j : Chan). fresh_ask j b.0 ≡ true) (sym g) (fresh_again k b.0 p f)))

-- ---- each call

-- the record that a call writes, where it writes one
abbrev pub Tells : Input → Record → Type 0
Tells (Close t) e = Closed t ≡ e
Tells (Sell d) e = (n : Ticket) × (p : Party) × (Sold n p ≡ e)
Tells (Undo n) e = Undone n ≡ e
Tells (Give to d) e = ⊥
Tells (Take from n p) e = Taken from n p ≡ e
Tells (Hear from n) e = Heard from n ≡ e
Tells (input.Ask d) e = (a : Ask) × (Asked a ≡ e)
Tells (Grant from a d) e = Declined from a ≡ e

-- whom a call gives pieces to, and for which ask
abbrev pub Gifts : State → Input → StationId → Ask → Party → Type 0
Gifts s (Give j d) to a p = (j ≡ to) × (unasked ≡ a)
Gifts s (Grant j b d) to a p = (j ≡ to) × (b ≡ a) × (unanswered (line s.channels to.0) a.0 ≡ true) × (ltb 0 (length (seats_of p)) ≡ true)
Gifts s i to a p = ⊥

-- what it says that pieces were given
pub record Gives (s : State) (i : Input) (to : StationId) (n : Number) (a : Ask) (p : Party) : Type 0 where
  pub whom : Gifts s i to a p
  pub next : n ≡ next_number s.channels to.0
  pub there : other s.me s.channels to.0 ≡ true
  pub numbered : Numbered (Gave to n a p)

abbrev Sound : Table → State → Input → Answer → Type 0
Sound tb s i (Ok (Done e)) = Tells i e × (fits tb s e ≡ true)
Sound tb s i (Ok (Gave to n a p)) = Gives s i to n a p × (all_fit tb s (gifts to a n.0 (map (λ (x : Seat). piece_of p.train x p.trip) (seats_of p))) ≡ true)
Sound tb s i (Ok Nothing) = Unit
Sound tb s i (Ok (Passed r)) = Unit
Sound tb s i (Err r) = Unit

-- an ask that is later than all that were answered
fresh_when : (c : Chan) (a : ℕ) → unanswered c a ≡ true → fresh_ask c a ≡ true
fresh_when c a h = grind (arith, nat_tests)

module _ (tb : Table) (s : State) where
  declines : (from : StationId) (a : Ask) (d : Demand) → other s.me s.channels from.0 ≡ true → unanswered (line s.channels from.0) a.0 ≡ true → Sound tb s (Grant from a d) (Ok (Done (Declined from a)))
  declines from a d b x = (refl, and_from _ _ b x)

  -- the seats of a group are given, for an ask or for none
  offers : (i : Input) (to : StationId) (a : Ask) (d : Demand) (r : Row) (t : Trip) (ss : List Seat) → tb d.train.0 ≡ Some r → some d.people ≡ true → ltb t.to.0 r.stops ≡ true → is_open s d.train ≡ true
      → givable s.channels to.0 ≡ true → other s.me s.channels to.0 ≡ true
      → length ss ≤ min d.people (room s.channels to.0) → below r.seats ss ≡ true → covered_all s.words (place s d.train) ss t.from.0 t.to.0 ≡ true
      → Gifts s i to a (party_of d.train t ss) → fresh_ask (line s.channels to.0) a.0 ≡ true
      → Sound tb s i (Ok (Gave to (next_number s.channels to.0) a (party_of d.train t ss)))
  offers i to a d r t ss w h l o g b q u c whom f =
      let z = d.train in
      let m = few d.people h in
      let e : seats_of (party_of z t ss) ≡ ss = party_seats z t ss (omega arith) in
      let (g0, g1) = and_parts (roomy s.channels) (numbered (line s.channels to.0)) g in
      let x = ltb-true (all_waiting s.channels) 4096 g0 in
      let y = ltb-true (line s.channels to.0).given 4294967295 g1 in
      let v = ap (λ (xs : List Seat). length xs) e in (
        record { whom = whom; next = refl; there = b; numbered = omega arith },
        subst (λ (xs : List Seat). all_fit tb s (gifts to a ((line s.channels to.0).given + 1) (map (λ (k : Seat). piece_of z k t) xs)) ≡ true) (sym e)
            (gifts_fit tb to a z t r w l ss s ((line s.channels to.0).given + 1) u o c (omega arith) (omega arith) b refl f),
      )

  -- an ask is answered, with pieces or with none
  grants : (from : StationId) (a : Ask) (d : Demand) → other s.me s.channels from.0 ≡ true → unanswered (line s.channels from.0) a.0 ≡ true
      → ((r : Row) (t : Trip) → tb d.train.0 ≡ Some r → some d.people ≡ true → ltb t.to.0 r.stops ≡ true → is_open s d.train ≡ true
      → Sound tb s (Grant from a d) (granting s from a d (Some (r, t))))
  grants from a d b x r t w h l o =
      let P = Sound tb s (Grant from a d) in
      let k = min d.people (room s.channels from.0) in
      let f = beside (kept s d.train) (word_at s.words (place s d.train)) in
      let ss = seats_beside s d.train r t k in
      unless_by P (λ _. tt) (givable s.channels from.0) Full _ (λ g.
      cond_by P (λ _. tt) (ltb 0 (length (seats_of (party_of d.train t ss)))) (Ok (Gave from (next_number s.channels from.0) a (party_of d.train t ss))) (Ok (Done (Declined from a)))
      (λ y. offers (Grant from a d) from a d r t ss w h l o g b (group_most k f r.seats t.from.0 t.to.0) (group_below k f r.seats t.from.0 t.to.0)
      (group_beside_covered s.words (place s d.train) k r.seats t.from.0 t.to.0 (kept s d.train) r.few t.ordered) (refl, refl, x, y) (fresh_when (line s.channels from.0) a.0 x))
      (declines from a d b x))

  sound : (i : Input) → Sound tb s i (decided tb s i)
  sound (Close t) = unless_by (Sound tb s (Close t)) (λ _. tt) (is_open s t) NotOpen (Ok (Done (Closed t))) (λ o. (refl, o))
  sound (Sell d) =
      let P = Sound tb s (Sell d) in
      met_by P (λ _. tt) (tb d.train.0) (trip_from d.from d.to) d.people (is_open s d.train) (selling s d) (λ r t w h l o.
      unless_by P (λ _. tt) (leb d.people (length (seats_for s d.train r t d.people))) NothingHeld _ (λ g.
      unless_by P (λ _. tt) (tickets_left s) Full _ (λ x.
      ((_, _, refl), sale tb s d.train d.people r t w h l o g x))))
  sound (Undo n) = unless_by (Sound tb s (Undo n)) (λ _. tt) (returnable tb s (ticket_of s n.0)) NoSuchTicket (Ok (Done (Undone n))) (λ o. (refl, o))
  sound (Give to d) =
      let P = Sound tb s (Give to d) in
      met_by P (λ _. tt) (tb d.train.0) (trip_from d.from d.to) d.people (is_open s d.train) (offering s to d) (λ r t w h l o.
      unless_by P (λ _. tt) (givable s.channels to.0) Full _ (λ g.
      unless_by P (λ _. tt) (other s.me s.channels to.0) NoSuchStation _ (λ a.
      let k = min d.people (room s.channels to.0) in
      let f = word_at s.words (place s d.train) in
      offers (Give to d) to unasked d r t (seats_for s d.train r t k) w h l o g a (group_most k f r.seats t.from.0 t.to.0) (group_below k f r.seats t.from.0 t.to.0)
      (group_covered s.words (place s d.train) k r.seats t.from.0 t.to.0 r.few t.ordered) (refl, refl) refl)))
  sound (Take from n p) =
      let P = Sound tb s (Take from n p) in
      unless_by P (λ _. tt) (listed (tb p.train.0) p) Malformed _ (λ l.
      unless_by P (λ _. tt) (other s.me s.channels from.0) NoSuchStation _ (λ a.
      turned_by P (λ _. tt) (line s.channels from.0) n.0 _ (λ _. tt) (λ b.
      cond_by P (λ _. tt) (known s p.train || openable s) (Ok (Done (Taken from n p))) (Ok (Passed Full)) (λ k. (refl, and_from _ _ l (and_from _ _ a (and_from _ _ b k)))) tt)))
  sound (Hear from n) =
      let P = Sound tb s (Hear from n) in
      unless_by P (λ _. tt) (leb n.0 (line s.channels from.0).given) Malformed _ (λ b.
      unless_by P (λ _. tt) (other s.me s.channels from.0) NoSuchStation _ (λ a.
      cond_by P (λ _. tt) (news (line s.channels from.0) n.0) (Ok (Done (Heard from n))) (Ok Nothing) (λ k. (refl, and_from _ _ a k)) tt))
  sound (input.Ask d) =
      let P = Sound tb s (input.Ask d) in
      met_by P (λ _. tt) (tb d.train.0) (trip_from d.from d.to) d.people (is_open s d.train) (λ r t. asking s) (λ r t w h l o.
      unless_by P (λ _. tt) (asks_left s) Full _ (λ g.
      unless_by P (λ _. tt) (ltb 1 (length s.channels)) NoSuchStation _ (λ x.
      ((_, refl), and_from _ _ g (eq-eqb (s.asked + 1) (s.asked + 1) refl)))))
  sound (Grant from a d) =
      let P = Sound tb s (Grant from a d) in
      heeded_by P (λ _. tt) (tb d.train.0) (trip_from d.from d.to) d.people (is_open s d.train) (answering s from a d)
      (answers from a d None (λ b x. declines from a d b x))
      (λ r t w h l o. answers from a d (Some (r, t)) (λ b x. grants from a d b x r t w h l o))
    where
      answers : (from : StationId) (a : Ask) (d : Demand) (j : Option (Row × Trip))
          → (other s.me s.channels from.0 ≡ true → unanswered (line s.channels from.0) a.0 ≡ true → Sound tb s (Grant from a d) (granting s from a d j))
          → Sound tb s (Grant from a d) (answering s from a d j)
      answers from a d j h =
          let P = Sound tb s (Grant from a d) in
          unless_by P (λ _. tt) (other s.me s.channels from.0) NoSuchStation _ (λ b.
          cond_by P (λ _. tt) (unanswered (line s.channels from.0) a.0) (granting s from a d j) (Ok Nothing) (h b) tt)

  sound_fits : (i : Input) (o : Answer) → Sound tb s i o → all_fit tb s (records o) ≡ true
  sound_fits i (Ok (Done e)) h = and_from _ _ h.1 refl
  sound_fits i (Ok (Gave to n a p)) h = h.1
  sound_fits i (Ok Nothing) h = refl
  sound_fits i (Ok (Passed r)) h = refl
  sound_fits i (Err r) h = refl

  pub decided_fits : (i : Input) → all_fit tb s (records (decided tb s i)) ≡ true
  decided_fits i = sound_fits i (decided tb s i) (sound i)

  pub told_is : (i : Input) (e : Record) → decided tb s i ≡ Ok (Done e) → Tells i e
  told_is i e h = (subst (Sound tb s i) h (sound i)).0

  pub gave_is : (i : Input) (to : StationId) (n : Number) (a : Ask) (p : Party) → decided tb s i ≡ Ok (Gave to n a p) → Gives s i to n a p
  gave_is i to n a p h = (subst (Sound tb s i) h (sound i)).0

  -- what a call came to that was not refused
  module _ (i : Input) (o : Outcome) (h : decided tb s i ≡ Ok o) where
    pub outcome_fits : all_fit tb s (entries o) ≡ true
    outcome_fits = subst (λ q. all_fit tb s (records q) ≡ true) h (decided_fits i)

    -- there is a number for each piece that is given
    pub outcome_numbered : Numbered o
    outcome_numbered = go o (subst (Sound tb s i) h (sound i))
      where
        go : (q : Outcome) → Sound tb s i (Ok q) → Numbered q
        go (Done e) g = tt
        go (Gave to n a p) g = g.0.numbered
        go Nothing g = tt
        go (Passed r) g = tt

-- ---- opening

abbrev Opens : Table → State → Row → Answer → Type 0
Opens tb s r (Ok (Done e)) = (Opened r.train ≡ e) × (admitted (tb r.train.0) r ≡ true) × (not (known s r.train) ≡ true) × (openable s ≡ true)
Opens tb s r (Ok (Gave to n a p)) = ⊥
Opens tb s r (Ok Nothing) = ⊥
Opens tb s r (Ok (Passed q)) = ⊥
Opens tb s r (Err q) = Unit

opens : (tb : Table) (s : State) (r : Row) → Opens tb s r (decided_open tb s r)
opens tb s r =
    unless_by (Opens tb s r) (λ _. tt) (admitted (tb r.train.0) r) Malformed _ (λ a.
    unless_by (Opens tb s r) (λ _. tt) (not (known s r.train)) NotOpen _ (λ b.
    unless_by (Opens tb s r) (λ _. tt) (openable s) Full (Ok (Done (Opened r.train))) (λ c. (refl, a, b, c))))

pub opens_is : (tb : Table) (s : State) (r : Row) (e : Record) → decided_open tb s r ≡ Ok (Done e) → Opened r.train ≡ e
opens_is tb s r e h = (subst (Opens tb s r) h (opens tb s r)).0

-- nothing is given by it
pub opens_gives : (tb : Table) (s : State) (r : Row) (to : StationId) (n : Number) (a : Ask) (p : Party) → decided_open tb s r ≡ Ok (Gave to n a p) → ⊥
opens_gives tb s r to n a p h = subst (Opens tb s r) h (opens tb s r)

pub opens_admitted : (tb : Table) (s : State) (r : Row) (e : Record) → decided_open tb s r ≡ Ok (Done e) → admitted (tb r.train.0) r ≡ true
opens_admitted tb s r e h = (subst (Opens tb s r) h (opens tb s r)).1

-- the record of an opening fits
pub opens_one : (tb : Table) (s : State) (r : Row) (e : Record) → decided_open tb s r ≡ Ok (Done e) → fits (listing tb r (Ok (Done e))) s e ≡ true
opens_one tb s r e h =
    let (a, _, b, c) = subst (Opens tb s r) h (opens tb s r) in
    subst (λ x. fits (listing tb r (Ok (Done e))) s x ≡ true) a (and_from _ _ (rw (eq-eqb r.train.0 r.train.0 refl) refl) (and_from _ _ b c))

pub opens_fits : (tb : Table) (s : State) (r : Row) → all_fit (listing tb r (decided_open tb s r)) s (records (decided_open tb s r)) ≡ true
opens_fits tb s r = go (decided_open tb s r) refl
  where
    go : (o : Answer) → decided_open tb s r ≡ o → all_fit (listing tb r o) s (records o) ≡ true
    go (Ok (Done e)) h = and_from _ _ (opens_one tb s r e h) refl
    go (Ok (Gave to n a p)) h = absurd (subst (Opens tb s r) h (opens tb s r))
    go (Ok Nothing) h = refl
    go (Ok (Passed q)) h = refl
    go (Err q) h = refl

pub decisions_fit : DecidedFits
decisions_fit = (decided_fits, opens_fits)
