-- Worked examples: a table with a row for each, and the statement that every row holds. Stations, seats and stops are numbered
-- from 0, tickets, pieces that are given, asks and ticks from 1.
use Rattle.std.specs.Prelude.{ℕ, List, [], ◌∷◌, map, Some, None, Ok, Err, Option}
use Rattle.std.proofs.Common.{lit≤}
use Rattle.asking.specs.Minds as minds
use Rattle.asking.specs.declared.event.Event.{Event}
use Rattle.asking.specs.declared.event.Event.TheVariants.{Call, Answered, Told, Tick}
use Rattle.asking.specs.declared.event.Reply.TheVariants.{Came, Asks, Noted, Ticked}
use Rattle.choosing.specs.Parties.{party_of}
use Rattle.choosing.specs.declared.party.Party.{Party}
use Rattle.giving.specs.declared.ids.Ask.{Ask}
use Rattle.giving.specs.declared.ids.Number.{Number}
use Rattle.giving.specs.declared.ids.StationId.{StationId}
use Rattle.giving.specs.declared.ids.Ticket.{Ticket}
use Rattle.giving.specs.declared.message.Body.{Body}
use Rattle.giving.specs.declared.message.Body.TheVariants as body
use Rattle.giving.specs.declared.message.Message.{Message}
use Rattle.giving.specs.declared.refusal.Refusal.TheVariants.{Malformed, OutOfTurn, NothingHeld}
use Rattle.ledger.specs.Decisions.{unasked}
use Rattle.ledger.specs.declared.input.Input.TheVariants.{Close, Sell, Undo, Give, Take, Grant}
use Rattle.ledger.specs.declared.input.Input.TheVariants as input
use Rattle.ledger.specs.declared.input.Outcome.TheVariants.{Done, Gave, Nothing, Passed}
use Rattle.pieces.specs.Parts.{blank, piece_of, trip_from}
use Rattle.pieces.specs.declared.demand.Demand.{Demand}
use Rattle.pieces.specs.declared.names.Seat.{Seat}
use Rattle.pieces.specs.declared.names.Train.{Train}
use Rattle.pieces.specs.declared.piece.Piece.{Piece}
use Rattle.pieces.specs.declared.tally.Tally.{Tally}
use Rattle.pieces.specs.declared.trip.Trip.{Trip}
use Rattle.state.specs.declared.record.Record.{Record}
use Rattle.state.specs.declared.record.Record.TheVariants.{Opened, Closed, Sold, Undone, Given, Taken, Asked, Declined}
use Rattle.std.specs.List.{AllByRecursion}
use Rattle.timetable.specs.declared.row.Row.{Row}
use Rattle.cases.specs.Plays.{Case, Play, Right, calls, says}
use Rattle.cases.specs.Plays.Play.{happens, held, tickets, awaits, falls}

-- ---- words for the table

abbrev pub seven : Train
seven = record { 0 = 7 }

-- train 7 has one seat, two or three, the stops 0 to 6, and station 1 for its first
abbrev pub single : Row
single = record { train = seven; seats = 1; stops = 7; first = record { 0 = 1 }; seated = lit≤ tt; few = lit≤ tt; long = lit≤ tt; short = lit≤ tt }

abbrev pub double : Row
double = record { train = seven; seats = 2; stops = 7; first = record { 0 = 1 }; seated = lit≤ tt; few = lit≤ tt; long = lit≤ tt; short = lit≤ tt }

abbrev pub triple : Row
triple = record { train = seven; seats = 3; stops = 7; first = record { 0 = 1 }; seated = lit≤ tt; few = lit≤ tt; long = lit≤ tt; short = lit≤ tt }

-- the trip from a stop to a stop, where they make one
abbrev pub made : Option Trip → Trip
made None = blank.trip
made (Some t) = t

abbrev pub trip : (a b : ℕ) → Trip
trip a b = made (trip_from (record { 0 = a }) (record { 0 = b }))

abbrev pub seat : ℕ → Seat
seat k = record { 0 = k }

abbrev pub station : ℕ → StationId
station k = record { 0 = k }

abbrev pub number : ℕ → Number
number n = record { 0 = n }

abbrev pub ticket : ℕ → Ticket
ticket n = record { 0 = n }

abbrev pub ask : ℕ → Ask
ask n = record { 0 = n }

abbrev pub tally : (whole any : ℕ) → Tally
tally w n = record { whole = w; any = n }

abbrev pub piece : (seat : ℕ) → Trip → Piece
piece k t = piece_of seven (seat k) t

abbrev pub party : (seats : List ℕ) → Trip → Party
party ks t = party_of seven t (map seat ks)

abbrev pub people : (count from to : ℕ) → Demand
people m a b = record { train = seven; from = record { 0 = a }; to = record { 0 = b }; people = m }

-- station 1 of three, which has opened the train of a row and then written so much
abbrev pub seller : Row → List Record → List Play → Case
seller r js ps = record { me = 1; stations = 3; row = r; journal = Opened seven ∷ js; mind = minds.empty; plays = ps }

-- station 2 of three, which has written nothing yet
abbrev pub idle : Row → List Play → Case
idle r ps = record { me = 2; stations = 3; row = r; journal = []; mind = minds.empty; plays = ps }

-- station 0 of four, which holds nothing of the train, and asked others once before it fell
abbrev pub asker : Row → List Play → Case
asker r ps = record { me = 0; stations = 4; row = r; journal = Opened seven ∷ Asked (ask 1) ∷ []; mind = minds.empty; plays = ps }

-- from station i to station j
abbrev pub message : (i j : ℕ) → Body → Message
message i j b = record { from = station i; to = station j; body = b }

-- station 0 asks station j for so much, under a number
abbrev pub query : (j n : ℕ) → Demand → Message
query j n d = message 0 j (body.Asked (ask n) d)

-- others are asked for so much, under the next number, station j first
abbrev pub asks : (j n : ℕ) → Demand → Play
asks j n d = happens (Call (input.Ask d)) (Ok (Asks (station j))) (Asked (ask n) ∷ []) (query j n d ∷ [])

-- station j answers an ask with so many pieces
abbrev pub answer : (j n pieces : ℕ) → Event
answer j n k = Answered (station j) (ask n) k

-- station j tells on how many seats it holds the whole line, and on how many any piece
abbrev pub telling : (j whole any : ℕ) → Event
telling j w n = Told (station j) seven (tally w n)

-- it is kept in mind, and nothing is said
abbrev pub notes : Event → Play
notes e = happens e (Ok Noted) [] []

-- nothing comes of it
abbrev pub passes : Event → Play
passes e = happens e (Ok (Came Nothing)) [] []

-- it is refused by 1
abbrev pub rejects : Event → Play
rejects e = happens e (Err Malformed) [] []

-- ---- the table

abbrev pub examples : List Case
examples =
    -- a piece is cut, and grows together again when the ticket is undone
    seller single [] (
    held 0 ((0, 6) ∷ [])
    ∷ calls (Sell (people 1 2 4)) (Ok (Done (Sold (ticket 1) (party (0 ∷ []) (trip 2 4)))))
    ∷ held 0 ((0, 2) ∷ (4, 6) ∷ [])
    ∷ calls (Sell (people 1 1 3)) (Err NothingHeld)
    ∷ tickets (Some (party (0 ∷ []) (trip 2 4)) ∷ [])
    ∷ calls (Undo (ticket 1)) (Ok (Done (Undone (ticket 1))))
    ∷ held 0 ((0, 6) ∷ [])
    ∷ tickets (None ∷ [])
    ∷ []
    )
    -- the seat that leaves least is sold first
    ∷ seller double (Given (station 2) (number 1) unasked (piece 0 (trip 3 6)) ∷ []) (
    held 0 ((0, 3) ∷ [])
    ∷ held 1 ((0, 6) ∷ [])
    ∷ calls (Sell (people 1 0 3)) (Ok (Done (Sold (ticket 1) (party (0 ∷ []) (trip 0 3)))))
    ∷ held 0 []
    ∷ held 1 ((0, 6) ∷ [])
    ∷ calls (Sell (people 1 0 3)) (Ok (Done (Sold (ticket 2) (party (1 ∷ []) (trip 0 3)))))
    ∷ held 0 []
    ∷ held 1 ((3, 6) ∷ [])
    ∷ tickets (Some (party (0 ∷ []) (trip 0 3)) ∷ Some (party (1 ∷ []) (trip 0 3)) ∷ [])
    ∷ []
    )
    -- of three seats that are to be given, the two that are there
    ∷ seller double [] (
    says (Give (station 2) (people 3 0 2)) (Ok (Gave (station 2) (number 1) unasked (party (0 ∷ 1 ∷ []) (trip 0 2))))
    (Given (station 2) (number 1) unasked (piece 0 (trip 0 2)) ∷ Given (station 2) (number 2) unasked (piece 1 (trip 0 2)) ∷ [])
    (message 1 2 (body.Given (number 1) (piece 0 (trip 0 2))) ∷ message 1 2 (body.Given (number 2) (piece 1 (trip 0 2))) ∷ [])
    ∷ held 0 ((2, 6) ∷ [])
    ∷ held 1 ((2, 6) ∷ [])
    ∷ tickets []
    ∷ []
    )
    -- they come in the wrong order, and one of them twice
    ∷ idle double (
    says (Take (station 1) (number 2) (piece 1 (trip 0 2))) (Ok (Passed OutOfTurn)) [] (message 2 1 (body.Taken (number 0)) ∷ [])
    ∷ says (Take (station 1) (number 1) (piece 0 (trip 0 2))) (Ok (Done (Taken (station 1) (number 1) (piece 0 (trip 0 2)))))
    (Taken (station 1) (number 1) (piece 0 (trip 0 2)) ∷ []) (message 2 1 (body.Taken (number 1)) ∷ [])
    ∷ held 0 ((0, 2) ∷ [])
    ∷ held 1 []
    ∷ says (Take (station 1) (number 2) (piece 1 (trip 0 2))) (Ok (Done (Taken (station 1) (number 2) (piece 1 (trip 0 2)))))
    (Taken (station 1) (number 2) (piece 1 (trip 0 2)) ∷ []) (message 2 1 (body.Taken (number 2)) ∷ [])
    ∷ held 0 ((0, 2) ∷ [])
    ∷ held 1 ((0, 2) ∷ [])
    ∷ says (Take (station 1) (number 1) (piece 0 (trip 0 2))) (Ok (Passed OutOfTurn)) [] (message 2 1 (body.Taken (number 2)) ∷ [])
    ∷ held 0 ((0, 2) ∷ [])
    ∷ held 1 ((0, 2) ∷ [])
    ∷ []
    )
    -- all of three people, or none
    ∷ seller double [] (
    calls (Sell (people 3 2 4)) (Err NothingHeld)
    ∷ held 0 ((0, 6) ∷ [])
    ∷ held 1 ((0, 6) ∷ [])
    ∷ tickets []
    ∷ []
    )
    -- the giver falls after its file had it and before it said so: it comes up, and says it, and does not hold it
    ∷ seller single [] (
    falls (Call (Give (station 2) (people 1 0 2))) (Given (station 2) (number 1) unasked (piece 0 (trip 0 2)) ∷ [])
    ∷ held 0 ((2, 6) ∷ [])
    ∷ happens Tick (Ok Ticked) [] (message 1 2 (body.Given (number 1) (piece 0 (trip 0 2))) ∷ [])
    ∷ held 0 ((2, 6) ∷ [])
    ∷ []
    )
    -- its file had one of two: the other is held, and is given under the next number; an ask under way is forgotten, and its number is not used again
    ∷ seller double [] (
    falls (Call (Give (station 2) (people 2 0 2))) (Given (station 2) (number 1) unasked (piece 0 (trip 0 2)) ∷ [])
    ∷ held 0 ((2, 6) ∷ [])
    ∷ held 1 ((0, 6) ∷ [])
    ∷ falls (Call (Give (station 2) (people 1 0 2))) []
    ∷ held 1 ((0, 6) ∷ [])
    ∷ says (Give (station 2) (people 1 0 2)) (Ok (Gave (station 2) (number 2) unasked (party (1 ∷ []) (trip 0 2))))
    (Given (station 2) (number 2) unasked (piece 1 (trip 0 2)) ∷ []) (message 1 2 (body.Given (number 2) (piece 1 (trip 0 2))) ∷ [])
    ∷ []
    )
    ∷ asker double (
    asks 1 2 (people 2 0 3)
    ∷ falls (Call (input.Ask (people 2 0 3))) (Asked (ask 3) ∷ [])
    ∷ awaits 0 []
    ∷ passes (answer 1 2 2)
    ∷ passes (answer 1 3 2)
    ∷ asks 1 4 (people 2 0 3)
    ∷ []
    )
    -- a station that ever sold one of the train keeps the lowest seat when it is asked, and gives the others, those first that leave least;
    -- an ask that is not later than one that was answered comes to nothing
    ∷ seller triple (Given (station 2) (number 1) unasked (piece 2 (trip 3 6)) ∷ []) (
    calls (Sell (people 1 0 6)) (Ok (Done (Sold (ticket 1) (party (0 ∷ []) (trip 0 6)))))
    ∷ calls (Undo (ticket 1)) (Ok (Done (Undone (ticket 1))))
    ∷ says (Grant (station 0) (ask 2) (people 3 0 3)) (Ok (Gave (station 0) (number 1) (ask 2) (party (2 ∷ 1 ∷ []) (trip 0 3))))
    (Given (station 0) (number 1) (ask 2) (piece 2 (trip 0 3)) ∷ Given (station 0) (number 2) (ask 2) (piece 1 (trip 0 3)) ∷ [])
    (message 1 0 (body.Given (number 1) (piece 2 (trip 0 3))) ∷ message 1 0 (body.Given (number 2) (piece 1 (trip 0 3))) ∷ message 1 0 (body.Answered (ask 2) 2) ∷ [])
    ∷ held 0 ((0, 6) ∷ [])
    ∷ held 1 ((3, 6) ∷ [])
    ∷ held 2 []
    ∷ passes (Call (Grant (station 0) (ask 2) (people 3 0 3)))
    ∷ passes (Call (Grant (station 0) (ask 1) (people 1 3 6)))
    ∷ says (Grant (station 0) (ask 3) (people 1 0 3)) (Ok (Done (Declined (station 0) (ask 3))))
    (Declined (station 0) (ask 3) ∷ []) (message 1 0 (body.Answered (ask 3) 0) ∷ [])
    ∷ held 0 ((0, 6) ∷ [])
    ∷ []
    )
    -- one that never sold one gives all
    ∷ seller double [] (
    says (Grant (station 0) (ask 1) (people 3 0 6)) (Ok (Gave (station 0) (number 1) (ask 1) (party (0 ∷ 1 ∷ []) (trip 0 6))))
    (Given (station 0) (number 1) (ask 1) (piece 0 (trip 0 6)) ∷ Given (station 0) (number 2) (ask 1) (piece 1 (trip 0 6)) ∷ [])
    (message 1 0 (body.Given (number 1) (piece 0 (trip 0 6))) ∷ message 1 0 (body.Given (number 2) (piece 1 (trip 0 6))) ∷ message 1 0 (body.Answered (ask 1) 2) ∷ [])
    ∷ held 0 []
    ∷ held 1 []
    ∷ []
    )
    -- one that has not opened the train answers with none
    ∷ idle double (
    says (Grant (station 1) (ask 1) (people 1 0 6)) (Ok (Done (Declined (station 1) (ask 1))))
    (Declined (station 1) (ask 1) ∷ []) (message 2 1 (body.Answered (ask 1) 0) ∷ [])
    ∷ []
    )
    -- asked are those that told of most seats, the lower number first; an answer counts only from the one that is asked now and to the last ask,
    -- and the next is asked for what is still wanted
    ∷ asker triple (
    notes (telling 1 0 1)
    ∷ notes (telling 2 0 3)
    ∷ notes (telling 3 0 3)
    ∷ asks 2 2 (people 3 2 4)
    ∷ awaits 3 (station 2 ∷ station 3 ∷ station 1 ∷ [])
    ∷ passes (answer 3 2 1)
    ∷ passes (answer 2 1 1)
    ∷ rejects (answer 2 2 4)
    ∷ awaits 3 (station 2 ∷ station 3 ∷ station 1 ∷ [])
    ∷ happens (answer 2 2 1) (Ok Noted) [] (query 3 2 (people 2 2 4) ∷ [])
    ∷ awaits 2 (station 3 ∷ station 1 ∷ [])
    ∷ notes (answer 3 2 2)
    ∷ awaits 0 []
    ∷ passes (answer 1 2 1)
    ∷ []
    )
    -- a new ask takes the place of the one under way; it is over when all have answered
    ∷ asker triple (
    asks 1 2 (people 2 0 3)
    ∷ asks 1 3 (people 1 3 6)
    ∷ passes (answer 1 2 2)
    ∷ awaits 1 (station 1 ∷ station 2 ∷ station 3 ∷ [])
    ∷ happens (answer 1 3 0) (Ok Noted) [] (query 2 3 (people 1 3 6) ∷ [])
    ∷ happens (answer 2 3 0) (Ok Noted) [] (query 3 3 (people 1 3 6) ∷ [])
    ∷ notes (answer 3 3 0)
    ∷ awaits 0 []
    ∷ []
    )
    -- and when the train is closed
    ∷ asker triple (
    asks 1 2 (people 2 0 3)
    ∷ calls (Close seven) (Ok (Done (Closed seven)))
    ∷ awaits 0 []
    ∷ passes (answer 1 2 2)
    ∷ []
    )
    -- more seats than the train has, and more whole than any, are refused; what is told of a train that is not open is passed over
    ∷ idle double (
    rejects (telling 1 0 3)
    ∷ rejects (telling 1 2 1)
    ∷ passes (telling 1 1 2)
    ∷ says (Take (station 1) (number 1) (piece 0 (trip 0 2))) (Ok (Done (Taken (station 1) (number 1) (piece 0 (trip 0 2)))))
    (Taken (station 1) (number 1) (piece 0 (trip 0 2)) ∷ []) (message 2 1 (body.Taken (number 1)) ∷ [])
    ∷ rejects (telling 1 0 3)
    ∷ rejects (telling 1 2 1)
    ∷ notes (telling 1 1 2)
    ∷ []
    )
    -- each tick says again what waits; the fiftieth tells each other station what is held, and the forty-ninth does not
    ∷ record (seller double (Given (station 2) (number 1) unasked (piece 0 (trip 3 6)) ∷ []) (
    happens Tick (Ok Ticked) [] (message 1 2 (body.Given (number 1) (piece 0 (trip 3 6))) ∷ [])
    ∷ happens Tick (Ok Ticked) []
    (message 1 2 (body.Given (number 1) (piece 0 (trip 3 6))) ∷ message 1 0 (body.Told seven (tally 1 2)) ∷ message 1 2 (body.Told seven (tally 1 2)) ∷ [])
    ∷ happens Tick (Ok Ticked) [] (message 1 2 (body.Given (number 1) (piece 0 (trip 3 6))) ∷ [])
    ∷ []
    )) { mind = record minds.empty { ticks = 48 } }
    ∷ []

abbrev pub Cases : Type 0
Cases = AllByRecursion Right examples
