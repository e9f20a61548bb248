-- What is done with a station in an example, what is seen, and that it goes so.
use Rattle.std.specs.Prelude.{◌≡◌, ℕ, Bool, true, false, ◌||◌, List, [], ◌∷◌, map, length, take, Some, None, Option, Ok, Err, OnErr, fold}
use Rattle.asking.specs.Events.{Response, resolved}
use Rattle.asking.specs.Minds as minds
use Rattle.asking.specs.Minds.{Inquiry, Mind, wanted}
use Rattle.asking.specs.Replies.{lasting, minded, spoken, written}
use Rattle.asking.specs.declared.event.Event.{Event}
use Rattle.asking.specs.declared.event.Event.TheVariants.{Call}
use Rattle.asking.specs.declared.event.Reply.TheVariants.{Came}
use Rattle.choosing.specs.declared.party.Party.{Party}
use Rattle.giving.specs.declared.ids.StationId.{StationId}
use Rattle.giving.specs.declared.message.Message.{Message}
use Rattle.ledger.specs.Decisions.{Answer}
use Rattle.ledger.specs.declared.input.Input.{Input}
use Rattle.ledger.specs.declared.input.Outcome.TheVariants.{Done, Gave, Nothing, Passed}
use Rattle.pieces.specs.Memory.{word_at}
use Rattle.pieces.specs.Stretches.{holds, within}
use Rattle.pieces.specs.declared.names.Train.{Train}
use Rattle.state.specs.Changes.{all_fit, apply}
use Rattle.state.specs.States.{State, begun, place}
use Rattle.state.specs.declared.record.Record.{Record}
use Rattle.std.specs.List.{range_with_len}
use Rattle.timetable.specs.Additions.{empty, put}
use Rattle.timetable.specs.Rows.{Table}
use Rattle.timetable.specs.declared.row.Row.{Row}

-- one thing that is done or seen
pub data Play : Type 0 where
  -- what comes to a station, and what it answers, writes and says
  happens : Event → Response → List Record → List Message → Play
  -- what it holds of a seat: each run from a stop to a stop, and no other stretch
  held : (seat : ℕ) → (runs : List (ℕ × ℕ)) → Play
  -- all tickets that it ever sold, from the first on: the party of one that stands
  tickets : List (Option Party) → Play
  -- for how many people it still asks others, and who is still to answer, the first of these being asked now
  awaits : (people : ℕ) → (order : List StationId) → Play
  -- its power is cut in the midst of what comes to it, when its file has some first ones of the records that it was to write, and it comes up again
  falls : Event → (left : List Record) → Play

-- station `me` of so many, which knows the one train of `row`; its journal and its mind; and what is done and seen from there on, in order
pub record Case : Type 0 where
  pub me : ℕ
  pub stations : ℕ
  pub row : Row
  pub journal : List Record
  pub mind : Mind
  pub plays : List Play

-- ---- calls

-- an answer to a call, where nobody else is to be asked for it
abbrev pub came : Answer → Response
came (Ok o) = Ok (Came o)
came (Err r) = Err r

-- the record of what was done, if anything was
abbrev pub record_of : Answer → List Record
record_of (Ok (Done e)) = e ∷ []
record_of (Ok (Gave to n a p)) = []
record_of (Ok Nothing) = []
record_of (Ok (Passed r)) = []
record_of (Err r) = []

-- what a station is asked or told, and what it answers, writes and says
abbrev pub says : Input → Answer → List Record → List Message → Play
says i a es ms = happens (Call i) (came a) es ms

-- what it is asked, and what it answers; it writes the record of what was done, if anything was, and says nothing
abbrev pub calls : Input → Answer → Play
calls i a = says i a (record_of a) []

-- ---- that a row holds

-- stretch k lies on one of several runs
abbrev pub on : List (ℕ × ℕ) → ℕ → Bool
on [] k = false
on ((a, b) ∷ rs) k = within a b k || on rs k

-- every stretch that a train can have
abbrev pub every : List ℕ
every = range_with_len 0 29

-- who is still to answer
abbrev pub unheard : Option Inquiry → List StationId
unheard None = []
unheard (Some q) = q.order

-- what an event is answered, and what the station has written and said then; a refusal changes nothing
abbrev pub Answers : Table → State → Mind → Event → Response → List Record → List Message → Type 0
Answers tb s m e r es ms =
    (resolved tb s m e ≡ r) × (written s r ≡ es) × (spoken tb (lasting tb s r) (minded s m e r) e r ≡ ms)
    × OnErr r ((lasting tb s r ≡ s) × (minded s m e r ≡ m))

-- these are some first ones of the records that a station was to write
abbrev pub Left : Table → State → Mind → Event → List Record → Type 0
Left tb s m e es = take (length es) (written s (resolved tb s m e)) ≡ es

-- all of it goes so, from a state and a mind on, for train z
abbrev pub Goes : Table → Train → State → Mind → List Play → Type 0
Goes tb z s m [] = Unit {0}
Goes tb z s m (happens e r es ms ∷ ps) = Answers tb s m e r es ms × Goes tb z (lasting tb s r) (minded s m e r) ps
Goes tb z s m (held k rs ∷ ps) = (map (holds (word_at s.words (place s z) k)) every ≡ map (on rs) every) × Goes tb z s m ps
Goes tb z s m (tickets xs ∷ ps) = (s.dropped ≡ 0) × (s.tickets ≡ xs) × Goes tb z s m ps
Goes tb z s m (awaits n ks ∷ ps) = (wanted m.inquiry ≡ n) × (unheard m.inquiry ≡ ks) × Goes tb z s m ps
Goes tb z s m (falls e es ∷ ps) = Left tb s m e es × Goes tb z (fold (apply tb) s es) minds.empty ps

-- a station that begins, and its timetable
abbrev pub start : Case → State
start c = begun c.stations c.me

abbrev pub table : Case → Table
table c = put empty c.row

-- each record of the journal fits, and from the state that it makes all goes as the row says
abbrev pub Right : Case → Type 0
Right c = (all_fit (table c) (start c) c.journal ≡ true) × Goes (table c) c.row.train (fold (apply (table c)) (start c) c.journal) c.mind c.plays
