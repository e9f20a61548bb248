-- The refusals' table for what comes over a line: when each number applies. The lowest that applies wins.
use Rattle.std.specs.Prelude.{ℕ, ◌+◌, Bool, true, false, cond, not, ◌&&◌, ◌||◌, List, [], ◌∷◌, is_some, Some, None, Option, Ok, Err, Result, ◌==◌, nat_le, nat_lt}
use Rattle.asking.specs.Events.{under_way}
use Rattle.asking.specs.Minds.{Mind, wanted}
use Rattle.asking.specs.Told.{sensible}
use Rattle.choosing.specs.Parties.{some}
use Rattle.giving.specs.Calls.{givable}
use Rattle.giving.specs.Channels.{line, news, other, unanswered}
use Rattle.giving.specs.declared.ids.StationId.{StationId}
use Rattle.giving.specs.declared.message.Body.{Body}
use Rattle.giving.specs.declared.message.Body.TheVariants.{Given, Taken, Asked, Answered, Told}
use Rattle.giving.specs.declared.refusal.Refusal.{Refusal}
use Rattle.giving.specs.declared.refusal.Refusal.TheVariants.{Malformed, OutOfTurn, NotOpen, NothingHeld, NoSuchTicket, Full, NoSuchStation, Memory}
use Rattle.lines.specs.declared.fault.Fault.{Fault}
use Rattle.pieces.specs.declared.demand.Demand.{Demand}
use Rattle.state.specs.States.{State, is_open, known, openable}
use Rattle.timetable.specs.Rows.{Table, listed}
use Rattle.timetable.specs.declared.row.Row.{Row}

-- ---- grounds, by what the message says

-- a stop of the train; where the timetable has not the train, one that any can have
abbrev pub has_stop : Option Row → ℕ → Bool
has_stop None u = nat_lt u 30
has_stop (Some r) u = nat_lt u 30 && nat_lt u r.stops

-- one to eight people, and a stretch of the train
abbrev pub sound_demand : Option Row → Demand → Bool
sound_demand w d = nat_lt d.from.0 d.to.0 && (some d.people && has_stop w d.to.0)

-- 1: a seat or a stop that the train has not, a stretch that is none, nobody or more than eight; more taken than was given; more given than eight, or
-- than were asked for; more seats told than there are, or more of them whole than any
abbrev pub malformed : Table → State → Mind → StationId → Body → Bool
malformed tb s m k (Given n p) = not (listed (tb p.train.0) p)
malformed tb s m k (Taken n) = not (nat_le n.0 (line s.channels k.0).given)
malformed tb s m k (Asked a d) = not (sound_demand (tb d.train.0) d)
malformed tb s m k (Answered a n) = not (nat_le n 8 && (not (under_way s m k a) || nat_le n (wanted m.inquiry)))
malformed tb s m k (Told t y) = not (sensible (tb t.0) y)

-- 2: a piece under a number that is not the next of that station's
abbrev pub out_of_turn : State → StationId → Body → Bool
out_of_turn s k (Given n p) = other s.me s.channels k.0 && not (n.0 == (line s.channels k.0).taken + 1)
out_of_turn s k (Taken n) = false
out_of_turn s k (Asked a d) = false
out_of_turn s k (Answered a n) = false
out_of_turn s k (Told t y) = false

-- 6: a piece of a train for which there is no room; an ask that is still to be answered, of an open train, where no piece may wait any more or no number is left
abbrev pub full : Table → State → StationId → Body → Bool
full tb s k (Given n p) = other s.me s.channels k.0 && not (known s p.train || openable s)
full tb s k (Taken n) = false
full tb s k (Asked a d) = other s.me s.channels k.0 && (unanswered (line s.channels k.0) a.0 && (is_some (tb d.train.0) && (is_open s d.train && not (givable s.channels k.0))))
full tb s k (Answered a n) = false
full tb s k (Told t y) = false

-- ---- the table

-- what holds of the message, if it is one
abbrev pub of_message : Bool → (Body → Bool) → Result Body Fault → Bool
of_message none f (Ok b) = f b
of_message none f (Err e) = none

-- whether a refusal applies to what was read from station k: bytes that are no message are refused by 1; 7 is a station that is not there, or the station itself
abbrev pub applies : Table → State → Mind → StationId → Result Body Fault → Refusal → Bool
applies tb s m k x Malformed = of_message true (malformed tb s m k) x
applies tb s m k x OutOfTurn = of_message false (out_of_turn s k) x
applies tb s m k x NotOpen = false
applies tb s m k x NothingHeld = false
applies tb s m k x NoSuchTicket = false
applies tb s m k x Full = of_message false (full tb s k) x
applies tb s m k x NoSuchStation = not (other s.me s.channels k.0)
applies tb s m k x Memory = false

-- the refusals that have a number, in the order of their numbers
abbrev pub by_number : List Refusal
by_number = Malformed ∷ OutOfTurn ∷ NotOpen ∷ NothingHeld ∷ NoSuchTicket ∷ Full ∷ NoSuchStation ∷ []

-- the first of some refusals that applies
abbrev pub first_of : (Refusal → Bool) → List Refusal → Option Refusal
first_of f [] = None
first_of f (r ∷ rs) = cond (f r) (Some r) (first_of f rs)

abbrev pub lowest : (Refusal → Bool) → Option Refusal
lowest f = first_of f by_number

-- ---- what is passed over

-- a piece that is given is passed over by 2 and by 6; all else that is refused is turned away
abbrev pub passes : Result Body Fault → Refusal → Bool
passes (Ok (Given n p)) OutOfTurn = true
passes (Ok (Given n p)) Full = true
passes x r = false

-- whether a message to which no ground applies says anything new: not what was heard before, an ask that was answered or is older than one that was, an
-- answer to any but the ask under way, or what is told of a train that is not open here
abbrev pub is_news : State → Mind → StationId → Body → Bool
is_news s m k (Given n p) = true
is_news s m k (Taken n) = news (line s.channels k.0) n.0
is_news s m k (Asked a d) = unanswered (line s.channels k.0) a.0
is_news s m k (Answered a n) = under_way s m k a
is_news s m k (Told t y) = is_open s t
