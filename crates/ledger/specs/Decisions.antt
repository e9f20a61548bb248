-- What each call decides, and what a station says of it.
use Rattle.std.specs.Prelude.{◌≡◌, ℕ, suc, ◌+◌, min, Bool, true, false, cond, not, ◌&&◌, ◌||◌, List, [], ◌∷◌, ◌++◌, length, is_some, Some, None, fold, Option, Ok, Err, Result, ◌==◌, nat_le, nat_lt}
use Rattle.std.specs.declared.cmp.Ordering.TheVariants.{Less, Equal, Greater}
use Rattle.std.specs.declared.cmp.Ordering.{Ordering}
use Rattle.choosing.specs.Choice.{beside, group}
use Rattle.choosing.specs.Parties.{party_of, pieces_of, seats_of, some}
use Rattle.choosing.specs.declared.party.Party.{Party}
use Rattle.giving.specs.Calls.{unless, givable, next_number, room}
use Rattle.giving.specs.Channels.{line, stands, news, other, unanswered}
use Rattle.giving.specs.Refusals.{number}
use Rattle.giving.specs.declared.ids.Ask.{Ask}
use Rattle.giving.specs.declared.ids.StationId.{StationId}
use Rattle.giving.specs.declared.message.Body.TheVariants as body
use Rattle.giving.specs.declared.message.Message.{Message}
use Rattle.giving.specs.declared.refusal.Refusal.{Refusal}
use Rattle.giving.specs.declared.refusal.Refusal.TheVariants.{Malformed, OutOfTurn, NotOpen, NothingHeld, NoSuchTicket, Full, NoSuchStation}
use Rattle.state.specs.Changes.{all_fit, apply, returnable}
use Rattle.state.specs.States.{State, place, is_open, known, openable, kept, asks_left, sold, tickets_left, ticket_of}
use Rattle.pieces.specs.declared.demand.Demand.{Demand}
use Rattle.ledger.specs.declared.input.Input.{Input}
use Rattle.ledger.specs.declared.input.Input.TheVariants.{Close, Sell, Undo, Give, Take, Hear, Grant}
use Rattle.ledger.specs.declared.input.Input.TheVariants as input
use Rattle.ledger.specs.declared.input.Outcome.{Outcome}
use Rattle.ledger.specs.declared.input.Outcome.TheVariants.{Done, Gave, Nothing, Passed}
use Rattle.state.specs.declared.record.Record.{Record}
use Rattle.state.specs.declared.record.Record.TheVariants.{Opened, Closed, Sold, Undone, Given, Taken, Heard, Asked, Declined}
use Rattle.pieces.specs.Memory.{word_at}
use Rattle.pieces.specs.Parts.{trip_from}
use Rattle.pieces.specs.declared.names.Seat.{Seat}
use Rattle.pieces.specs.declared.names.Train.{Train}
use Rattle.pieces.specs.declared.piece.Piece.{Piece}
use Rattle.pieces.specs.declared.trip.Trip.{Trip}
use Rattle.timetable.specs.Additions.{admitted, put}
use Rattle.timetable.specs.Rows.{Table, listed}
use Rattle.timetable.specs.declared.row.Row.{Row}

-- what a call came to, or why it was refused
abbrev pub Answer : Type 0
Answer = Result Outcome Refusal

-- ---- demands

-- a demand is judged by the row of its train, its trip and how many people want it, by the grounds in the order of their numbers: a trip that
-- is none, a stop that the train has not, nobody and more than eight are refused by 1, a train that is not open by 3
abbrev pub judging : Option Row → Option Trip → (people : ℕ) → (there : Bool) → Result (Row × Trip) Refusal
judging w None m there = Err Malformed
judging None (Some t) m there = unless (some m) Malformed (Err NotOpen)
judging (Some r) (Some t) m there = unless (some m && nat_lt t.to.0 r.stops) Malformed (unless there NotOpen (Ok (r, t)))

abbrev pub judged : Table → State → Demand → Result (Row × Trip) Refusal
judged tb s d = judging (tb d.train.0) (trip_from d.from d.to) d.people (is_open s d.train)

-- what follows of a demand that may be met
abbrev pub met : Result (Row × Trip) Refusal → (Row → Trip → Answer) → Answer
met (Ok j) k = k j.0 j.1
met (Err e) k = Err e

-- the seats for m people, or as many as there are, by the rule of choice
abbrev pub seats_for : State → Train → Row → Trip → ℕ → List Seat
seats_for s z r t m = group m (word_at s.words (place s z)) r.seats t.from.0 t.to.0

-- no ask
abbrev pub unasked : Ask
unasked = record { 0 = 0 }

-- all are sold a seat, under the next ticket, or none
abbrev pub selling : State → Demand → Row → Trip → Answer
selling s d r t =
    unless (nat_le d.people (length (seats_for s d.train r t d.people))) NothingHeld
    (unless (tickets_left s) Full
    (Ok (Done (Sold (record { 0 = sold s + 1 }) (party_of d.train t (seats_for s d.train r t d.people))))))

-- as many are given as can be taken, and as may wait
abbrev pub offering : State → StationId → Demand → Row → Trip → Answer
offering s to d r t =
    unless (givable s.channels to.0) Full
    (unless (other s.me s.channels to.0) NoSuchStation
    (Ok (Gave to (next_number s.channels to.0) unasked (party_of d.train t (seats_for s d.train r t (min d.people (room s.channels to.0)))))))

-- others are asked under the next number, if there are any
abbrev pub asking : State → Answer
asking s = unless (asks_left s) Full (unless (nat_lt 1 (length s.channels)) NoSuchStation (Ok (Done (Asked (record { 0 = s.asked + 1 })))))

-- ---- asks of other stations

-- the seats for m people beside the one that is kept, or as many as there are, by the rule of choice
abbrev pub seats_beside : State → Train → Row → Trip → ℕ → List Seat
seats_beside s z r t m = group m (beside (kept s z) (word_at s.words (place s z))) r.seats t.from.0 t.to.0

-- these pieces are given for an ask, or it is answered with none
abbrev pub granted : State → StationId → Ask → Party → Answer
granted s from a p = cond (nat_lt 0 (length (seats_of p))) (Ok (Gave from (next_number s.channels from.0) a p)) (Ok (Done (Declined from a)))

-- as many are given as there are beside the kept seat, and as may wait; of a train that is not open, none
abbrev pub granting : State → StationId → Ask → Demand → Option (Row × Trip) → Answer
granting s from a d None = Ok (Done (Declined from a))
granting s from a d (Some j) =
    unless (givable s.channels from.0) Full
    (granted s from a (party_of d.train j.1 (seats_beside s d.train j.0 j.1 (min d.people (room s.channels from.0)))))

-- what follows of a demand that is judged so, where a train that is not open is no ground to refuse it
abbrev pub heeded : Result (Row × Trip) Refusal → (Option (Row × Trip) → Answer) → Answer
heeded (Ok j) k = k (Some j)
heeded (Err NotOpen) k = k None
heeded (Err e) k = Err e

-- an ask that is later than all of that station's that were answered is answered, every other is passed over
abbrev pub answering : State → StationId → Ask → Demand → Option (Row × Trip) → Answer
answering s from a d j =
    unless (other s.me s.channels from.0) NoSuchStation
    (cond (unanswered (line s.channels from.0) a.0) (granting s from a d j) (Ok Nothing))

-- ---- calls

-- the next number is taken, every other is passed over
abbrev pub turned : Ordering → Answer → Answer
turned Less o = Ok (Passed OutOfTurn)
turned Equal o = o
turned Greater o = Ok (Passed OutOfTurn)

abbrev pub decided : Table → State → Input → Answer
decided tb s (Close t) = unless (is_open s t) NotOpen (Ok (Done (Closed t)))
decided tb s (Sell d) = met (judged tb s d) (selling s d)
decided tb s (Undo n) = unless (returnable tb s (ticket_of s n.0)) NoSuchTicket (Ok (Done (Undone n)))
decided tb s (Give to d) = met (judged tb s d) (offering s to d)
decided tb s (Take from n p) =
    unless (listed (tb p.train.0) p) Malformed
    (unless (other s.me s.channels from.0) NoSuchStation
    (turned (stands (line s.channels from.0) n.0)
    (cond (known s p.train || openable s) (Ok (Done (Taken from n p))) (Ok (Passed Full)))))
decided tb s (Hear from n) =
    unless (nat_le n.0 (line s.channels from.0).given) Malformed
    (unless (other s.me s.channels from.0) NoSuchStation
    (cond (news (line s.channels from.0) n.0) (Ok (Done (Heard from n))) (Ok Nothing)))
decided tb s (input.Ask d) = met (judged tb s d) (λ r t. asking s)
decided tb s (Grant from a d) = heeded (judged tb s d) (answering s from a d)

-- to open a train, with its row of the timetable
abbrev pub decided_open : Table → State → Row → Answer
decided_open tb s r =
    unless (admitted (tb r.train.0) r) Malformed
    (unless (not (known s r.train)) NotOpen
    (unless (openable s) Full
    (Ok (Done (Opened r.train)))))

-- the timetable after an opening: it has the row, if the train was opened
abbrev pub listing : Table → Row → Answer → Table
listing tb r (Ok (Done e)) = put tb r
listing tb r (Ok (Gave to n a p)) = tb
listing tb r (Ok Nothing) = tb
listing tb r (Ok (Passed q)) = tb
listing tb r (Err q) = tb

-- ---- what a call came to

-- pieces given to a station, under the numbers from n on, for an ask or for none
abbrev pub gifts : StationId → Ask → (n : ℕ) → List Piece → List Record
gifts to a n [] = []
gifts to a n (p ∷ ps) = Given to (record { 0 = n }) a p ∷ gifts to a (suc n) ps

-- the records of an outcome
abbrev pub entries : Outcome → List Record
entries (Done e) = e ∷ []
entries (Gave to n a p) = gifts to a n.0 (pieces_of p)
entries Nothing = []
entries (Passed r) = []

abbrev pub records : Answer → List Record
records (Ok o) = entries o
records (Err r) = []

-- the changes of the records, one after the other
abbrev pub after : Table → State → Answer → State
after tb s o = fold (apply tb) s (records o)

-- what is decided may be written
abbrev pub DecidedFits : Type 0
DecidedFits = ((tb : Table) (s : State) (i : Input) → all_fit tb s (records (decided tb s i)) ≡ true)
    × ((tb : Table) (s : State) (r : Row) → all_fit (listing tb r (decided_open tb s r)) s (records (decided_open tb s r)) ≡ true)

-- want of memory alone has no number
abbrev pub for_memory : {X : Type 0} → Result X Refusal → Bool
for_memory (Ok o) = false
for_memory (Err r) = not (is_some (number r))

-- ---- what is said of it, by the state afterwards

-- each piece that was given, under its number
abbrev pub notices : (me : ℕ) → StationId → (n : ℕ) → List Piece → List Message
notices me to n [] = []
notices me to n (p ∷ ps) = record { from = record { 0 = me }; to = to; body = body.Given (record { 0 = n }) p } ∷ notices me to (suc n) ps

abbrev pub offers : (me : ℕ) → Outcome → List Message
offers me (Done e) = []
offers me (Gave to n a p) = notices me to n.0 (pieces_of p)
offers me Nothing = []
offers me (Passed r) = []

-- up to where a station's pieces are taken
abbrev pub receipt : State → StationId → Message
receipt s from = record { from = record { 0 = s.me }; to = from; body = body.Taken (record { 0 = (line s.channels from.0).taken }) }

abbrev pub numbered_by : ℕ → Option ℕ → Bool
numbered_by k None = false
numbered_by k (Some n) = n == k

-- what was taken is answered, and so is a number that is not the next, which is passed over by 2
abbrev pub answered : Outcome → Bool
answered (Done e) = true
answered (Gave to n a p) = false
answered Nothing = false
answered (Passed r) = numbered_by 2 (number r)

-- an ask is answered where anything was done for it
abbrev pub settled : Outcome → Bool
settled (Done e) = true
settled (Gave to n a p) = true
settled Nothing = false
settled (Passed r) = false

-- how many pieces an outcome has given
abbrev pub given_by : Outcome → ℕ
given_by (Done e) = 0
given_by (Gave to n a p) = length (seats_of p)
given_by Nothing = 0
given_by (Passed r) = 0

-- so many pieces are given for an ask
abbrev pub reckoning : (me : ℕ) → StationId → Ask → ℕ → Message
reckoning me from a m = record { from = record { 0 = me }; to = from; body = body.Answered a m }

-- the messages of an outcome
abbrev pub replies : State → Input → Outcome → List Message
replies s (Close t) o = []
replies s (Sell d) o = []
replies s (Undo n) o = []
replies s (Give to d) o = offers s.me o
replies s (Take from n p) o = cond (answered o) (receipt s from ∷ []) []
replies s (Hear from n) o = []
replies s (input.Ask d) o = []
replies s (Grant from a d) o = cond (settled o) (offers s.me o ++ reckoning s.me from a (given_by o) ∷ []) []

abbrev pub messages : State → Input → Answer → List Message
messages s i (Ok o) = replies s i o
messages s i (Err r) = []
