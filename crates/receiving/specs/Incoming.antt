-- What bytes are to the station that they come to.
use Rattle.std.specs.Prelude.{ℕ, List, Ok, Err, Result}
use Rattle.asking.specs.Events.{event_of}
use Rattle.asking.specs.declared.event.Event.{Event}
use Rattle.asking.specs.declared.event.Event.TheVariants.{Garbled}
use Rattle.giving.specs.Others.{other_of}
use Rattle.giving.specs.declared.ids.StationId.{StationId}
use Rattle.giving.specs.declared.message.Body.{Body}
use Rattle.lines.specs.Reading.{message}
use Rattle.lines.specs.declared.fault.Fault.{Fault}

-- who is said to have sent it
abbrev pub sender : (me from : ℕ) → StationId
sender me n = other_of (record { 0 = me }) n

-- what was read, from a station
abbrev pub event_read : StationId → Result Body Fault → Event
event_read k (Ok b) = event_of k b
event_read k (Err f) = Garbled

abbrev pub incoming : (me from : ℕ) → List ℕ → Event
incoming me n bs = event_read (sender me n) (message bs)
