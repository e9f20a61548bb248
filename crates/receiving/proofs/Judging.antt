-- What comes over a line is judged as the table says, kind by kind.
use Rattle.std.proofs.Common.{◌≡◌, ℕ, ◌+◌, Bool, true, false, not, ◌&&◌, ◌||◌, eqb, leb, ltb, Option, Some, None, length, Ok, Err, refl, ap, arith}
use Rattle.asking.specs.Events.{Response, resolved, under_way}
use Rattle.asking.specs.Minds.{Mind, wanted}
use Rattle.asking.specs.Told.{sensible}
use Rattle.choosing.specs.Parties.{seats_of, some}
use Rattle.choosing.specs.declared.party.Party.{Party}
use Rattle.giving.specs.Calls.{givable}
use Rattle.giving.specs.Channels.{line, other, unanswered}
use Rattle.giving.specs.declared.ids.Ask.{Ask}
use Rattle.giving.specs.declared.ids.Number.{Number}
use Rattle.giving.specs.declared.ids.StationId.{StationId}
use Rattle.giving.specs.declared.message.Body.{Body}
use Rattle.giving.specs.declared.message.Body.TheVariants.{Given, Taken, Asked, Answered, Told}
use Rattle.ledger.specs.declared.input.Input.TheVariants.{Grant}
use Rattle.asking.specs.Events as event
use Rattle.ledger.specs.Decisions as ledger
use Rattle.pieces.specs.Parts.{trip_from, trip_if}
use Rattle.pieces.specs.declared.demand.Demand.{Demand}
use Rattle.pieces.specs.declared.names.Stop.{Stop}
use Rattle.pieces.specs.declared.names.Train.{Train}
use Rattle.pieces.specs.declared.piece.Piece.{Piece}
use Rattle.pieces.specs.declared.tally.Tally.{Tally}
use Rattle.pieces.specs.declared.trip.Trip.{Trip}
use Rattle.receiving.specs.Grounds.{sound_demand}
use Rattle.receiving.specs.Incoming.{event_read}
use Rattle.receiving.specs.Laws.{Judges}
use Rattle.receiving.specs.Verdicts.{judged, verdict_of}
use Rattle.receiving.specs.declared.verdict.Verdict.TheVariants as verdict
use Rattle.state.specs.States.{State, is_open, known, openable}
use Rattle.timetable.specs.Rows.{Table, listed}
use Rattle.timetable.specs.declared.row.Row.{Row}
use Rattle.std.proofs.lemmas.Bool.{eqb-true, leb-true}

module _ (tb : Table) (s : State) (m : Mind) (k : StationId) where
  -- what was read is judged so
  abbrev IsJudged : Body → Type 0
  IsJudged b = verdict_of (resolved tb s m (event_read k (Ok b))) ≡ judged tb s m k (Ok b)

  -- a number that was taken is not the next
  not_next : (n t : ℕ) → leb n t ≡ true → eqb n (t + 1) ≡ true → ⊥
  not_next n t a b = omega (arith, leb-true n t a, eqb-true n (t + 1) b)

  given : (n : Number) (p : Piece) → IsJudged (Given n p)
  given n p = go (listed (tb p.train.0) p) (other s.me s.channels k.0) (leb n.0 t) (eqb n.0 (t + 1)) (known s p.train || openable s) refl refl refl refl refl
    where
      t : ℕ
      t = (line s.channels k.0).taken

      go : (l o le eq f : Bool) → listed (tb p.train.0) p ≡ l → other s.me s.channels k.0 ≡ o → leb n.0 t ≡ le → eqb n.0 (t + 1) ≡ eq → (known s p.train || openable s) ≡ f → IsJudged (Given n p)
      go false o le eq f a b c d e = rw a refl
      go true false le eq f a b c d e = rw (a, b) refl
      go true true true true f a b c d e = absurd (not_next n.0 t c d)
      go true true true false f a b c d e = rw (a, b, c, d) refl
      go true true false false f a b c d e = rw (a, b, c, d) refl
      go true true false true true a b c d e = rw (a, b, c, d, e) refl
      go true true false true false a b c d e = rw (a, b, c, d, e) refl

  taken : (n : Number) → IsJudged (Taken n)
  taken n = go (leb n.0 (line s.channels k.0).given) (other s.me s.channels k.0) (ltb (line s.channels k.0).heard n.0) refl refl refl
    where
      go : (l o w : Bool) → leb n.0 (line s.channels k.0).given ≡ l → other s.me s.channels k.0 ≡ o → ltb (line s.channels k.0).heard n.0 ≡ w → IsJudged (Taken n)
      go false o w a b c = rw a refl
      go true false w a b c = rw (a, b) refl
      go true true true a b c = rw (a, b, c) refl
      go true true false a b c = rw (a, b, c) refl

  answered : (a : Ask) (n : ℕ) → IsJudged (Answered a n)
  answered a n = go (leb n 8 && (not (under_way s m k a) || leb n (wanted m.inquiry))) (other s.me s.channels k.0) (under_way s m k a) refl refl refl
    where
      go : (l o w : Bool) → (leb n 8 && (not (under_way s m k a) || leb n (wanted m.inquiry))) ≡ l → other s.me s.channels k.0 ≡ o → under_way s m k a ≡ w → IsJudged (Answered a n)
      go false o w b c d = rw b refl
      go true false w b c d = rw (b, c) refl
      go true true true b c d = rw (b, c, d) refl
      go true true false b c d = rw (b, c, d) refl

  told : (t : Train) (y : Tally) → IsJudged (Told t y)
  told t y = go (sensible (tb t.0) y) (other s.me s.channels k.0) (is_open s t) refl refl refl
    where
      go : (l o w : Bool) → sensible (tb t.0) y ≡ l → other s.me s.channels k.0 ≡ o → is_open s t ≡ w → IsJudged (Told t y)
      go false o w a b c = rw a refl
      go true false w a b c = rw (a, b) refl
      go true true true a b c = rw (a, b, c) refl
      go true true false a b c = rw (a, b, c) refl

  -- ---- asks

  -- the trip between two stops, if there is one
  data Trips (a b : Stop) : Option Trip → Type 0 where
    none : (ltb a.0 b.0 && ltb b.0 30) ≡ false → Trips a b None
    some_trip : (t : Trip) → ltb a.0 b.0 ≡ true → ltb b.0 30 ≡ true → t.to ≡ b → Trips a b (Some t)

  trips : (a b : Stop) → Trips a b (trip_from a b)
  trips a b = go (ltb a.0 b.0) refl (ltb b.0 30) refl
    where
      go : (x : Bool) (e : ltb a.0 b.0 ≡ x) (y : Bool) (f : ltb b.0 30 ≡ y) → Trips a b (trip_if a b x e y f)
      go true e true f = some_trip _ e f refl
      go true e false f = none (rw (e, f) refl)
      go false e y f = none (rw e refl)

  module _ (a : Ask) (d : Demand) where
    abbrev t : ℕ
    t = d.train.0

    -- no demand is sound without a trip
    unsound : (w : Option Row) → (ltb d.from.0 d.to.0 && ltb d.to.0 30) ≡ false → sound_demand w d ≡ false
    unsound w h = go w (ltb d.from.0 d.to.0) (ltb d.to.0 30) (some d.people) refl refl refl h
      where
        go : (w : Option Row) (x y z : Bool) → ltb d.from.0 d.to.0 ≡ x → ltb d.to.0 30 ≡ y → some d.people ≡ z → (x && y) ≡ false → sound_demand w d ≡ false
        go w false y z e f g h = rw e refl
        go w true false false e f g h = rw (e, g) refl
        go None true false true e f g h = rw (e, g, f) refl
        go (Some r) true false true e f g h = rw (e, g, f) refl
        go w true true z e f g h = absurd cc

    -- what is decided of a demand with this row and this trip
    abbrev decided_by : Option Row → Option Trip → Response
    decided_by w o = event.turned s m (Grant k a d) (ledger.heeded (ledger.judging w o d.people (is_open s d.train)) (ledger.answering s k a d))

    abbrev By : Option Row → Option Trip → Type 0
    By w o = tb t ≡ w → verdict_of (decided_by w o) ≡ judged tb s m k (Ok (Asked a d))

    granted_taken : (p : Party) → verdict_of (event.turned s m (Grant k a d) (ledger.granted s k a p)) ≡ verdict.Taken
    granted_taken p = go (ltb 0 (length (seats_of p))) refl
      where
        go : (x : Bool) → ltb 0 (length (seats_of p)) ≡ x → verdict_of (event.turned s m (Grant k a d) (ledger.granted s k a p)) ≡ verdict.Taken
        go true e = rw e refl
        go false e = rw e refl

    unlisted : (x : Trip) → ltb d.from.0 d.to.0 ≡ true → ltb d.to.0 30 ≡ true → By None (Some x)
    unlisted x e f is = go (some d.people) (other s.me s.channels k.0) (unanswered (line s.channels k.0) a.0) refl refl refl
      where
        go : (p o u : Bool) → some d.people ≡ p → other s.me s.channels k.0 ≡ o → unanswered (line s.channels k.0) a.0 ≡ u → verdict_of (decided_by None (Some x)) ≡ judged tb s m k (Ok (Asked a d))
        go false o u g h i = rw (is, e, f, g) refl
        go true false u g h i = rw (is, e, f, g, h) refl
        go true true false g h i = rw (is, e, f, g, h, i) refl
        go true true true g h i = rw (is, e, f, g, h, i) refl

    in_row : (r : Row) (x : Trip) → ltb d.from.0 d.to.0 ≡ true → ltb d.to.0 30 ≡ true → x.to ≡ d.to → By (Some r) (Some x)
    in_row r x e f to is = go (some d.people) (ltb d.to.0 r.stops) (is_open s d.train) (other s.me s.channels k.0) (unanswered (line s.channels k.0) a.0) (givable s.channels k.0) refl refl refl refl refl refl
      where
        low : ltb x.to.0 r.stops ≡ ltb d.to.0 r.stops
        low = ap (λ (u : Stop). ltb u.0 r.stops) to

        go : (p v w o u g : Bool) → some d.people ≡ p → ltb d.to.0 r.stops ≡ v → is_open s d.train ≡ w → other s.me s.channels k.0 ≡ o → unanswered (line s.channels k.0) a.0 ≡ u → givable s.channels k.0 ≡ g
            → verdict_of (decided_by (Some r) (Some x)) ≡ judged tb s m k (Ok (Asked a d))
        go false v w o u g h1 h2 h3 h4 h5 h6 = rw (is, e, f, h1) refl
        go true false w o u g h1 h2 h3 h4 h5 h6 = rw (is, e, f, h1, low, h2) refl
        go true true false false u g h1 h2 h3 h4 h5 h6 = rw (is, e, f, h1, low, h2, h3, h4) refl
        go true true false true false g h1 h2 h3 h4 h5 h6 = rw (is, e, f, h1, low, h2, h3, h4, h5) refl
        go true true false true true g h1 h2 h3 h4 h5 h6 = rw (is, e, f, h1, low, h2, h3, h4, h5) refl
        go true true true false u g h1 h2 h3 h4 h5 h6 = rw (is, e, f, h1, low, h2, h3, h4) refl
        go true true true true false g h1 h2 h3 h4 h5 h6 = rw (is, e, f, h1, low, h2, h3, h4, h5) refl
        go true true true true true false h1 h2 h3 h4 h5 h6 = rw (is, e, f, h1, low, h2, h3, h4, h5, h6) refl
        go true true true true true true h1 h2 h3 h4 h5 h6 = rw (is, e, f, h1, low, h2, h3, h4, h5, h6) (granted_taken _)

    by_trip : (w : Option Row) (o : Option Trip) → Trips d.from d.to o → By w o
    by_trip None None (none h) is = rw (unsound (tb t) h) refl
    by_trip (Some r) None (none h) is = rw (unsound (tb t) h) refl
    by_trip None (Some x) (some_trip y e f to) is = unlisted x e f is
    by_trip (Some r) (Some x) (some_trip y e f to) is = in_row r x e f to is

    asked : IsJudged (Asked a d)
    asked = by_trip (tb t) (trip_from d.from d.to) (trips d.from d.to) refl

pub judges : Judges
judges tb s m k (Err f) = refl
judges tb s m k (Ok (Given n p)) = given tb s m k n p
judges tb s m k (Ok (Taken n)) = taken tb s m k n
judges tb s m k (Ok (Asked a d)) = asked tb s m k a d
judges tb s m k (Ok (Answered a n)) = answered tb s m k a n
judges tb s m k (Ok (Told t y)) = told tb s m k t y
