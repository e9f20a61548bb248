-- What comes to a station, as an event there.
use Rattle.std.specs.Prelude.{ℕ}
use Rattle.asking.specs.declared.event.Event.{Event}
use Rattle.counter.specs.Requests.{requested}
use Rattle.receiving.specs.Incoming.{incoming}
use Rattle.rehearsal.specs.declared.coming.Coming.{Coming}
use Rattle.rehearsal.specs.declared.coming.Coming.TheVariants.{Request, Bytes}

abbrev pub event_in : (me : ℕ) → Coming → Event
event_in me (Request r) = requested r
event_in me (Bytes from bs) = incoming me from bs.now
