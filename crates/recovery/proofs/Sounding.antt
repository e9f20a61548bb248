-- What a station writes has bytes: each of its numbers fits.
-- Assumes nothing.
use Rattle.std.proofs.Common.{◌≡◌, ℕ, suc, ◌+◌, ◌<◌, ◌≤◌, ◌^◌, min, Bool, true, false, cond, ◌&&◌, ◌||◌, not, eqb, ltb, leb, List, [], ◌∷◌, map, length, Some, None, Option, Ok, Err, Result, Less, Equal, Greater, sym, refl, ap, subst, arith}
use Rattle.asking.proofs.Asks.{asks_is}
use Rattle.asking.specs.Events.{Response, resolved, turned, under_way}
use Rattle.asking.specs.Minds.{Mind, wanted}
use Rattle.asking.specs.Replies.{written}
use Rattle.asking.specs.Told.{sensible}
use Rattle.asking.specs.declared.event.Event.{Event}
use Rattle.asking.specs.declared.event.Event.TheVariants.{Call, Answered, Told, Tick, Garbled}
use Rattle.asking.specs.declared.event.Reply.TheVariants.{Came, Noted}
use Rattle.choosing.proofs.Groups.{group_most}
use Rattle.choosing.proofs.Parties.{party_seats}
use Rattle.choosing.specs.Parties.{below, party_of, seats_of, some}
use Rattle.files.specs.Bytes.{AllSound, Sound}
use Rattle.giving.specs.Calls.{unless, givable, next_number, room}
use Rattle.giving.specs.Channels.{line, news, numbered, other, roomy, stands, unanswered}
use Rattle.giving.specs.declared.ids.Ask.{Ask}
use Rattle.giving.specs.declared.ids.Number.{Number}
use Rattle.giving.specs.declared.ids.StationId.{StationId}
use Rattle.giving.specs.declared.ids.Ticket.{Ticket}
use Rattle.giving.specs.declared.refusal.Refusal.{Refusal}
use Rattle.giving.specs.declared.refusal.Refusal.TheVariants.{Full, Malformed, NoSuchStation, NoSuchTicket, NotOpen, NothingHeld}
use Rattle.ledger.proofs.Decided.{cond_by, decided_fits, heeded_by, unless_by}
use Rattle.ledger.specs.Decisions as ledger
use Rattle.ledger.specs.Decisions.{Answer, answering, decided, decided_open, entries, for_memory, gifts, granted, granting, heeded, judged, judging, listing, met, offering, records, seats_beside, seats_for, selling, unasked}
use Rattle.ledger.specs.declared.input.Input.{Input}
use Rattle.ledger.specs.declared.input.Input.TheVariants.{Close, Sell, Undo, Give, Take, Hear, Grant}
use Rattle.ledger.specs.declared.input.Input.TheVariants as input
use Rattle.ledger.specs.declared.input.Outcome.TheVariants.{Done, Gave, Nothing, Passed}
use Rattle.network.proofs.Local.{listed_party, listed_row}
use Rattle.pieces.specs.Memory.{word_at}
use Rattle.pieces.specs.Parts.{piece_of, trip_from}
use Rattle.pieces.specs.declared.names.Seat.{Seat}
use Rattle.pieces.specs.declared.names.Train.{Train}
use Rattle.pieces.specs.declared.trip.Trip.{Trip}
use Rattle.recovery.specs.Runs.{Typed, TypedInput, TypedRow}
use Rattle.state.specs.Changes.{all_fit, apply, fits, fresh_ask, holds_all, listed_all}
use Rattle.state.specs.States.{State, asks_left, holds_piece, is_open, known, openable, place, sold, tickets_left}
use Rattle.state.specs.declared.record.Record.{Record}
use Rattle.state.specs.declared.record.Record.TheVariants.{Opened, Closed, Sold, Undone, Given, Taken, Heard, Declined}
use Rattle.std.proofs.lemmas.Bool.{and_parts, eqb-true, ltb-true}
use Rattle.std.proofs.lemmas.Bool.Decides.{nat_tests}
use Rattle.std.specs.List.{AllByRecursion}
use Rattle.timetable.specs.Additions.{admitted}
use Rattle.timetable.specs.Rows.{Table, listed}
use Rattle.timetable.specs.declared.row.Row.{Row}

-- ---- what is written is what a call decides, or nothing

module _ (tb : Table) (s : State) (m : Mind) where
  written_call : (i : Input) (o : Answer) → decided tb s i ≡ o → written s (turned s m i o) ≡ records o
  written_call (input.Ask d) (Ok (Done e)) h = ap entries (sym (asks_is tb s d (Done e) h).0)
  written_call (input.Ask d) (Ok o) h = refl
  written_call i (Ok o) h = refl
  written_call i (Err r) h = refl

  module _ (P : List Record → Type 0) (none : P []) where
    pub written_by : (e : Event) → ((i : Input) → e ≡ Call i → P (records (decided tb s i))) → P (written s (resolved tb s m e))
    written_by (Call i) h = subst P (sym (written_call i (decided tb s i) refl)) (h i refl)
    written_by (Answered from a n) h =
        let Q = λ (r : Response). P (written s r) in
        unless_by Q (λ _. none) (leb n 8 && (not (under_way s m from a) || leb n (wanted m.inquiry))) Malformed _ (λ _.
        unless_by Q (λ _. none) (other s.me s.channels from.0) NoSuchStation _ (λ _.
        cond_by Q (λ _. none) (under_way s m from a) (Ok Noted) (Ok (Came Nothing)) (λ _. none) none))
    written_by (Told from t y) h =
        let Q = λ (r : Response). P (written s r) in
        unless_by Q (λ _. none) (sensible (tb t.0) y) Malformed _ (λ _.
        unless_by Q (λ _. none) (other s.me s.channels from.0) NoSuchStation _ (λ _.
        cond_by Q (λ _. none) (is_open s t) (Ok Noted) (Ok (Came Nothing)) (λ _. none) none))
    written_by Tick h = none
    written_by Garbled h = none

-- ---- demands

-- what follows of a demand that may be met, where every ground refuses it
abbrev alone : (Row → Trip → Answer) → Option (Row × Trip) → Answer
alone k (Some j) = k j.0 j.1
alone k None = Err NotOpen

alone_met : (j : Result (Row × Trip) Refusal) (k : Row → Trip → Answer) → heeded j (alone k) ≡ met j k
alone_met (Ok j) k = refl
alone_met (Err NotOpen) k = refl
alone_met (Err e) k = refl

-- a demand that is met is for no more than eight
met_few : (P : Answer → Type 0) → ((r : Refusal) → P (Err r)) → (w : Option Row) (x : Option Trip) (m : ℕ) (b : Bool) (k : Row → Trip → Answer)
    → ((r : Row) (t : Trip) → m ≤ 8 → P (k r t)) → P (met (judging w x m b) k)
met_few P refused w x m b k h =
    subst P (alone_met (judging w x m b) k)
    (heeded_by P refused w x m b (alone k) (refused NotOpen) (λ r t _ c _ _. h r t (few m c)))
  where
    few : (m : ℕ) → some m ≡ true → m ≤ 8
    few m c = let (a, b) = and_parts (leb 1 m) (leb m 8) c in grind (arith, nat_tests)

-- ---- records that fit

seats_low : (n : ℕ) (ss : List Seat) → n ≤ 400 → below n ss ≡ true → AllByRecursion (λ (x : Seat). x.0 < 2 ^ 16) ss
seats_low n [] l h = tt
seats_low n (s ∷ ss) l h = let (a, b) = and_parts (ltb s.0 n) (below n ss) h in (omega (arith, ltb-true s.0 n a), seats_low n ss l b)

module _ (tb : Table) where
  -- a sale of a party that is all seats
  sold_sound : (x : State) (n : Ticket) (z : Train) (t : Trip) (ss : List Seat) → z.0 < 2 ^ 32 → length ss ≤ 8 → fits tb x (Sold n (party_of z t ss)) ≡ true → Sound (Sold n (party_of z t ss))
  sold_sound x n z t ss l m f =
      let p = party_of z t ss in
      let e : seats_of p ≡ ss = party_seats z t ss m in
      let (a, f1) = and_parts (some (length (seats_of p))) _ f in
      let (b, f2) = and_parts (listed_all (tb z.0) p) _ f1 in
      let (_, f3) = and_parts (is_open x z) _ f2 in
      let (_, f4) = and_parts (holds_all x p) _ f3 in
      let (c, d) = and_parts (tickets_left x) (eqb n.0 (sold x + 1)) f4 in
      let (some_one, _) = and_parts (leb 1 (length (seats_of p))) _ a in
      let row = listed_party (tb z.0) p b in
      let one : 1 ≤ length (seats_of p) = grind (arith, nat_tests) in
      let k = ap (λ (xs : List Seat). length xs) e in
      (omega (arith, ltb-true (sold x) 4294967295 c, eqb-true n.0 (sold x + 1) d), (l, seats_low row.row.seats (seats_of p) row.row.few row.seats, omega (arith, one, k), ap (party_of z t) (sym e)))

  -- pieces given one after the other
  gifts_sound : (to : StationId) (a : Ask) (z : Train) (t : Trip) → to.0 < 256 → a.0 < 2 ^ 32 → z.0 < 2 ^ 32 → (ss : List Seat) (x : State) (n : ℕ)
      → all_fit tb x (gifts to a n (map (λ (s : Seat). piece_of z s t) ss)) ≡ true → AllSound (gifts to a n (map (λ (s : Seat). piece_of z s t) ss))
  gifts_sound to a z t l m k [] x n f = tt
  gifts_sound to a z t l m k (s ∷ ss) x n f =
      let p = piece_of z s t in
      let e = Given to (record { 0 = n }) a p in
      let c = line x.channels to.0 in
      let (g, h) = and_parts (fits tb x e) (all_fit tb (apply tb x e) (gifts to a (suc n) (map (λ (s : Seat). piece_of z s t) ss))) f in
      let (b, g1) = and_parts (listed (tb z.0) p) _ g in
      let (_, g2) = and_parts (is_open x z) _ g1 in
      let (_, g3) = and_parts (holds_piece x p) _ g2 in
      let (_, g4) = and_parts (roomy x.channels) _ g3 in
      let (d, g5) = and_parts (numbered c) _ g4 in
      let (_, g6) = and_parts (other x.me x.channels to.0) _ g5 in
      let (q, _) = and_parts (eqb n (c.given + 1)) (fresh_ask c a.0) g6 in
      let row = listed_row (tb z.0) p b in (
        (l, omega (arith, ltb-true c.given 4294967295 d, eqb-true n (c.given + 1) q), m, (k, omega (arith, row.seat, row.row.few))),
        gifts_sound to a z t l m k ss (apply tb x e) (suc n) h,
      )

-- ---- what is decided

module _ (tb : Table) (s : State) where
  -- what fits has bytes
  abbrev Fine : Answer → Type 0
  Fine o = all_fit tb s (records o) ≡ true → AllSound (records o)

  given_fine : (to : StationId) (n : Number) (a : Ask) (z : Train) (t : Trip) (ss : List Seat) → to.0 < 256 → a.0 < 2 ^ 32 → z.0 < 2 ^ 32 → Fine (Ok (Gave to n a (party_of z t ss)))
  given_fine to n a z t ss l m k f = gifts_sound tb to a z t l m k (seats_of (party_of z t ss)) s n.0 f

  fine : (i : Input) → TypedInput i → Fine (decided tb s i)
  fine (Close t) h = unless_by Fine (λ _ _. tt) (is_open s t) NotOpen (Ok (Done (Closed t))) (λ _ _. (h, tt))
  fine (Sell d) h =
      met_few Fine (λ _ _. tt) (tb d.train.0) (trip_from d.from d.to) d.people (is_open s d.train) (selling s d) (λ r t m.
      unless_by Fine (λ _ _. tt) (leb d.people (length (seats_for s d.train r t d.people))) NothingHeld _ (λ _.
      unless_by Fine (λ _ _. tt) (tickets_left s) Full _ (λ _ f.
      let n : Ticket = record { 0 = sold s + 1 } in
      let ss = seats_for s d.train r t d.people in
      (sold_sound tb s n d.train t ss h.0 (omega (arith, m, group_most d.people (word_at s.words (place s d.train)) r.seats t.from.0 t.to.0)) (and_parts (fits tb s (Sold n (party_of d.train t ss))) true f).0, tt))))
  fine (Undo n) h = unless_by Fine (λ _ _. tt) _ NoSuchTicket (Ok (Done (Undone n))) (λ _ _. (h, tt))
  fine (Give to d) h =
      met_few Fine (λ _ _. tt) (tb d.train.0) (trip_from d.from d.to) d.people (is_open s d.train) (offering s to d) (λ r t m.
      unless_by Fine (λ _ _. tt) (givable s.channels to.0) Full _ (λ _.
      unless_by Fine (λ _ _. tt) (other s.me s.channels to.0) NoSuchStation _ (λ _.
      given_fine to (next_number s.channels to.0) unasked d.train t (seats_for s d.train r t (min d.people (room s.channels to.0))) h.0 (omega arith) h.1.0)))
  fine (Take from n p) h =
      let taken = cond_by Fine (λ _ _. tt) (known s p.train || openable s) (Ok (Done (Taken from n p))) (Ok (Passed Full)) (λ _ _. (h, tt)) (λ _. tt) in
      unless_by Fine (λ _ _. tt) (listed (tb p.train.0) p) Malformed _ (λ _.
      unless_by Fine (λ _ _. tt) (other s.me s.channels from.0) NoSuchStation _ (λ _.
      elim (stands (line s.channels from.0) n.0) as (λ x. Fine (ledger.turned x (cond (known s p.train || openable s) (Ok (Done (Taken from n p))) (Ok (Passed Full))))) [ Less ↦ λ _. tt | Equal ↦ taken | Greater ↦ λ _. tt ]))
  fine (Hear from n) h =
      unless_by Fine (λ _ _. tt) (leb n.0 (line s.channels from.0).given) Malformed _ (λ _.
      unless_by Fine (λ _ _. tt) (other s.me s.channels from.0) NoSuchStation _ (λ _.
      cond_by Fine (λ _ _. tt) (news (line s.channels from.0) n.0) (Ok (Done (Heard from n))) (Ok Nothing) (λ _ _. (h, tt)) (λ _. tt)))
  fine (input.Ask d) h =
      met_few Fine (λ _ _. tt) (tb d.train.0) (trip_from d.from d.to) d.people (is_open s d.train) (λ _ _. ledger.asking s) (λ _ _ _.
      unless_by Fine (λ _ _. tt) (asks_left s) Full _ (λ c.
      unless_by Fine (λ _ _. tt) (ltb 1 (length s.channels)) NoSuchStation _ (λ _ _. (omega (arith, ltb-true s.asked 4294967295 c), tt))))
  fine (Grant from a d) (l, m, t) =
      heeded_by Fine (λ _ _. tt) (tb d.train.0) (trip_from d.from d.to) d.people (is_open s d.train) (answering s from a d)
      (answers None none) (λ r x _ _ _ _. answers (Some (r, x)) (given r x))
    where
      none : Fine (Ok (Done (Declined from a)))
      none _ = ((l, m), tt)

      given : (r : Row) (x : Trip) → Fine (granting s from a d (Some (r, x)))
      given r x =
          let ss = seats_beside s d.train r x (min d.people (room s.channels from.0)) in
          unless_by Fine (λ _ _. tt) (givable s.channels from.0) Full _ (λ _.
          cond_by Fine (λ _ _. tt) (ltb 0 (length (seats_of (party_of d.train x ss)))) (Ok (Gave from (next_number s.channels from.0) a (party_of d.train x ss))) (Ok (Done (Declined from a)))
          (λ _. given_fine from (next_number s.channels from.0) a d.train x ss l m t.0) none)

      answers : (j : Option (Row × Trip)) → Fine (granting s from a d j) → Fine (answering s from a d j)
      answers j h =
          unless_by Fine (λ _ _. tt) (other s.me s.channels from.0) NoSuchStation _ (λ _.
          cond_by Fine (λ _ _. tt) (unanswered (line s.channels from.0) a.0) (granting s from a d j) (Ok Nothing) (λ _. h) (λ _. tt))

  -- ---- what is written

  pub written_fits : (m : Mind) (e : Event) → all_fit tb s (written s (resolved tb s m e)) ≡ true
  written_fits m e = written_by tb s m (λ es. all_fit tb s es ≡ true) refl e (λ i _. decided_fits tb s i)

  pub written_sound : (m : Mind) (e : Event) → Typed e → AllSound (written s (resolved tb s m e))
  written_sound m e t = written_by tb s m AllSound tt e (λ i h. fine i (subst Typed h t) (decided_fits tb s i))

  -- want of memory included
  pub written_sound_any : (m : Mind) (e : Event) (r : Response) → Typed e → (for_memory r ≡ false → r ≡ resolved tb s m e) → AllSound (written s r)
  written_sound_any m e (Ok r) t h = subst (λ (x : Response). AllSound (written s x)) (sym (h refl)) (written_sound m e t)
  written_sound_any m e (Err r) t h = tt

  pub opened_sound : (r : Row) → TypedRow r → AllSound (records (decided_open tb s r))
  opened_sound r t =
      let P = λ (o : Answer). AllSound (records o) in
      let open_one = unless_by P (λ _. tt) (openable s) Full (Ok (Done (Opened r.train))) (λ _. (t.0, tt)) in
      unless_by P (λ _. tt) (admitted (tb r.train.0) r) Malformed (unless (not (known s r.train)) NotOpen (unless (openable s) Full (Ok (Done (Opened r.train))))) (λ _.
      unless_by P (λ _. tt) (not (known s r.train)) NotOpen (unless (openable s) Full (Ok (Done (Opened r.train)))) (λ _. open_one))
