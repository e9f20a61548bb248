-- What a station may have written.
use Rattle.std.specs.Prelude.{ℕ, ◌<◌, ◌^◌, List, [], ◌++◌, fold}
use Rattle.asking.specs.Events.{resolved}
use Rattle.asking.specs.Minds.{Mind}
use Rattle.asking.specs.Replies.{written}
use Rattle.asking.specs.declared.event.Event.{Event}
use Rattle.asking.specs.declared.event.Event.TheVariants.{Call, Answered, Told, Tick, Garbled}
use Rattle.lines.specs.Bytes.{SoundDemand, SoundPiece}
use Rattle.ledger.specs.Decisions.{decided_open, listing, records}
use Rattle.ledger.specs.declared.input.Input.{Input}
use Rattle.ledger.specs.declared.input.Input.TheVariants.{Close, Sell, Undo, Give, Take, Hear, Grant}
use Rattle.ledger.specs.declared.input.Input.TheVariants as input
use Rattle.network.specs.Promises.{Extends}
use Rattle.state.specs.Changes.{apply}
use Rattle.state.specs.States.{State, begun}
use Rattle.state.specs.declared.record.Record.{Record}
use Rattle.timetable.specs.Rows.{Table}
use Rattle.timetable.specs.declared.row.Row.{Row}

-- ---- numbers that fit their types

abbrev pub TypedInput : Input → Type 0
TypedInput (Close t) = t.0 < 2 ^ 32
TypedInput (Sell d) = SoundDemand d
TypedInput (Undo n) = n.0 < 2 ^ 32
TypedInput (Give to d) = (to.0 < 256) × SoundDemand d
TypedInput (Take from n p) = (from.0 < 256) × (n.0 < 2 ^ 32) × SoundPiece p
TypedInput (Hear from n) = (from.0 < 256) × (n.0 < 2 ^ 32)
TypedInput (input.Ask d) = SoundDemand d
TypedInput (Grant from a d) = (from.0 < 256) × (a.0 < 2 ^ 32) × SoundDemand d

abbrev pub Typed : Event → Type 0
Typed (Call i) = TypedInput i
Typed (Answered from a n) = (from.0 < 256) × (a.0 < 2 ^ 32) × (n < 256)
Typed (Told from t y) = (from.0 < 256) × (t.0 < 2 ^ 32) × (y.whole < 65536) × (y.any < 65536)
Typed Tick = Unit
Typed Garbled = Unit

abbrev pub TypedRow : Row → Type 0
TypedRow r = (r.train.0 < 2 ^ 32) × (r.first.0 < 256)

-- ---- runs

-- what some records make of station i of n
abbrev pub led : (n i : ℕ) → Table → List Record → State
led n i tb es = fold (apply tb) (begun n i) es

-- The records that station i of n has written, whatever it had in mind: by calls, messages and ticks; by openings, which put the train's row into the
-- timetable; with falls, which leave some first of them; and while rows of other trains are put into the timetable.
pub data Did (n i : ℕ) : Table → List Record → Type 0 where
  nothing : (tb : Table) → Did n i tb []
  handled : {tb : Table} {es : List Record} → Did n i tb es → (m : Mind) (e : Event) → Typed e → Did n i tb (es ++ written (led n i tb es) (resolved tb (led n i tb es) m e))
  opened : {tb : Table} {es : List Record} → Did n i tb es → (r : Row) → TypedRow r → Did n i (listing tb r (decided_open tb (led n i tb es) r)) (es ++ records (decided_open tb (led n i tb es) r))
  fell : {tb : Table} (es fs : List Record) → Did n i tb (es ++ fs) → Did n i tb es
  grew : {tb : Table} {es : List Record} (ub : Table) → Extends tb ub → Did n i tb es → Did n i ub es
