-- What an event is decided to come to.
use Rattle.std.specs.Prelude.{ℕ, Bool, cond, not, ◌&&◌, ◌||◌, length, Ok, Err, Result, ◌==◌, nat_le}
use Rattle.giving.specs.Calls.{unless}
use Rattle.giving.specs.Channels.{other}
use Rattle.giving.specs.declared.ids.Ask.{Ask}
use Rattle.giving.specs.declared.ids.StationId.{StationId}
use Rattle.giving.specs.declared.message.Body.{Body}
use Rattle.giving.specs.declared.message.Body.TheVariants as body
use Rattle.giving.specs.declared.refusal.Refusal.{Refusal}
use Rattle.giving.specs.declared.refusal.Refusal.TheVariants.{Malformed, NoSuchStation}
use Rattle.ledger.specs.Decisions.{Answer, decided}
use Rattle.ledger.specs.declared.input.Input.{Input}
use Rattle.ledger.specs.declared.input.Input.TheVariants.{Take, Hear, Grant}
use Rattle.ledger.specs.declared.input.Input.TheVariants as input
use Rattle.ledger.specs.declared.input.Outcome.TheVariants.{Done, Nothing}
use Rattle.asking.specs.Minds.{Mind, first, is_asked, wanted}
use Rattle.asking.specs.Told.{sensible}
use Rattle.asking.specs.Turns.{turns}
use Rattle.asking.specs.declared.event.Event.{Event}
use Rattle.asking.specs.declared.event.Event.TheVariants.{Call, Answered, Told, Tick, Garbled}
use Rattle.asking.specs.declared.event.Reply.{Reply}
use Rattle.asking.specs.declared.event.Reply.TheVariants.{Came, Asks, Noted, Ticked}
use Rattle.pieces.specs.declared.names.Train.{Train}
use Rattle.pieces.specs.declared.tally.Tally.{Tally}
use Rattle.state.specs.States.{State, is_open}
use Rattle.timetable.specs.Rows.{Table}

-- what a message is to the station that it comes to
abbrev pub event_of : StationId → Body → Event
event_of from (body.Given n p) = Call (Take from n p)
event_of from (body.Taken n) = Call (Hear from n)
event_of from (body.Asked a d) = Call (Grant from a d)
event_of from (body.Answered a m) = Answered from a m
event_of from (body.Told t y) = Told from t y

-- what an event came to, or why it was refused
abbrev pub Response : Type 0
Response = Result Reply Refusal

-- where others are to be asked, it is the first in turn
abbrev pub turned : State → Mind → Input → Answer → Response
turned s m (input.Ask d) (Ok (Done e)) = Ok (Asks (first (turns m.told d.train s.me (length s.channels))))
turned s m i (Ok o) = Ok (Came o)
turned s m i (Err r) = Err r

-- the answer of the station that is asked now to the ask under way, which is the last that was made
abbrev pub under_way : State → Mind → StationId → Ask → Bool
under_way s m from a = a.0 == s.asked && is_asked m.inquiry from

-- more than eight are no answer, and more than are wanted none to the ask under way; an answer to any other ask is passed over
abbrev pub resolved_answer : State → Mind → StationId → Ask → (count : ℕ) → Response
resolved_answer s m from a n =
    unless (nat_le n 8 && (not (under_way s m from a) || nat_le n (wanted m.inquiry))) Malformed
    (unless (other s.me s.channels from.0) NoSuchStation
    (cond (under_way s m from a) (Ok Noted) (Ok (Came Nothing))))

-- what is told of a train that is not open here is passed over
abbrev pub resolved_telling : Table → State → StationId → Train → Tally → Response
resolved_telling tb s from t y =
    unless (sensible (tb t.0) y) Malformed
    (unless (other s.me s.channels from.0) NoSuchStation
    (cond (is_open s t) (Ok Noted) (Ok (Came Nothing))))

abbrev pub resolved : Table → State → Mind → Event → Response
resolved tb s m (Call i) = turned s m i (decided tb s i)
resolved tb s m (Answered from a n) = resolved_answer s m from a n
resolved tb s m (Told from t y) = resolved_telling tb s from t y
resolved tb s m Tick = Ok Ticked
resolved tb s m Garbled = Err Malformed
