-- What becomes of the station's journal and mind, and what it says.
use Rattle.std.specs.Prelude.{ℕ, ◌+◌, ◌%◌, ◌⊎◌, List, [], ◌∷◌, length, fold, Some, None, Option, Ok, Err, Vec}
use Rattle.giving.specs.declared.ids.StationId.{StationId}
use Rattle.giving.specs.declared.message.Body.TheVariants as body
use Rattle.giving.specs.declared.message.Message.{Message}
use Rattle.ledger.specs.Calls.{Filled, Short}
use Rattle.ledger.specs.Decisions.{entries, replies}
use Rattle.ledger.specs.declared.input.Input.{Input}
use Rattle.ledger.specs.declared.input.Input.TheVariants.{Close}
use Rattle.ledger.specs.declared.input.Input.TheVariants as input
use Rattle.ledger.specs.declared.input.Outcome.{Outcome}
use Rattle.ledger.specs.declared.input.Outcome.TheVariants.{Done}
use Rattle.asking.specs.Events.{Response}
use Rattle.asking.specs.Minds.{Mind, Inquiry, advanced, dropped, first, mind}
use Rattle.asking.specs.Ticks.{ticked}
use Rattle.asking.specs.Told.{kept, without}
use Rattle.asking.specs.Turns.{turns}
use Rattle.asking.specs.declared.desk.Desk.{Desk}
use Rattle.asking.specs.declared.event.Event.{Event}
use Rattle.asking.specs.declared.event.Event.TheVariants.{Call, Answered, Told, Tick}
use Rattle.asking.specs.declared.event.Reply.TheVariants.{Came, Asks, Noted, Ticked}
use Rattle.pieces.specs.declared.demand.Demand.{Demand}
use Rattle.state.specs.Changes.{apply}
use Rattle.state.specs.States.{State}
use Rattle.state.specs.Views.{view}
use Rattle.state.specs.declared.record.Record.{Record}
use Rattle.state.specs.declared.station.Station.{Station}
use Rattle.std.specs.declared.alloc.Global.{Global}
use Rattle.state.specs.declared.record.Record.TheVariants.{Asked}
use Rattle.timetable.specs.Rows.{Table}

-- a call that goes by the lasting state alone
abbrev pub Plain : Input → Type 0
Plain (input.Ask d) = ⊥
Plain i = Unit

-- ---- what is written

abbrev pub written : State → Response → List Record
written s (Ok (Came o)) = entries o
written s (Ok (Asks k)) = Asked (record { 0 = s.asked + 1 }) ∷ []
written s (Ok Noted) = []
written s (Ok Ticked) = []
written s (Err r) = []

abbrev pub lasting : Table → State → Response → State
lasting tb s r = fold (apply tb) s (written s r)

-- ---- what is kept in mind, by the state and the mind before

-- a train that is closed is forgotten
abbrev pub after_call : Mind → Input → Outcome → Mind
after_call m (Close t) (Done e) = record m { told = without t m.told; inquiry = dropped t m.inquiry }
after_call m i o = m

-- a new ask takes the place of the one under way
abbrev pub after_ask : State → Mind → Input → Mind
after_ask s m (input.Ask d) = record m { inquiry = Some (record { demand = d; order = turns m.told d.train s.me (length s.channels) }) }
after_ask s m i = m

abbrev pub minded : State → Mind → Event → Response → Mind
minded s m (Call i) (Ok (Came o)) = after_call m i o
minded s m (Call i) (Ok (Asks k)) = after_ask s m i
minded s m (Answered from a n) (Ok Noted) = record m { inquiry = advanced m.inquiry n }
minded s m (Told from t y) (Ok Noted) = record m { told = kept m.told (record { train = t; from = from; tally = y }) }
minded s m Tick (Ok Ticked) = record m { ticks = (m.ticks + 1) % 50 }
minded s m e r = m

-- ---- what is said, by the state and the mind afterwards

-- i asks j, under the number of the last ask that it made
abbrev pub request : State → (i : ℕ) → StationId → Demand → Message
request s i j d = record { from = record { 0 = i }; to = j; body = body.Asked (record { 0 = s.asked }) d }

-- the one that is asked now is asked for what is still wanted
abbrev pub query : State → Option Inquiry → List Message
query s None = []
query s (Some q) = request s s.me (first q.order) q.demand ∷ []

abbrev pub spoken : Table → State → Mind → Event → Response → List Message
spoken tb s m (Call i) (Ok (Came o)) = replies s i o
spoken tb s m (Call i) (Ok (Asks k)) = query s m.inquiry
spoken tb s m (Answered from a n) (Ok Noted) = query s m.inquiry
spoken tb s m Tick (Ok Ticked) = ticked tb s m.ticks
spoken tb s m e r = []

-- ---- where memory was short

-- why an event that is resolved so may be refused for want of memory: no room in the journal, for a note, or for what is to be said
abbrev pub Scarce : Table → Station → Vec Record Global → Vec Message Global → Desk → Event → Response → Type 0
Scarce tb s j out d (Call i) (Ok (Came o)) = Short s j out i (Ok o)
Scarce tb s j out d (Call i) (Ok (Asks k)) = Filled j 1 ⊎ Filled out 1
Scarce tb s j out d (Answered from a n) (Ok Noted) = Filled out (length (query (view s) (advanced (mind d).inquiry n)))
Scarce tb s j out d (Told from t y) (Ok Noted) = Filled d.told.notes 1
Scarce tb s j out d Tick (Ok Ticked) = Filled out (length (ticked tb (view s) (((mind d).ticks + 1) % 50)))
Scarce tb s j out d e r = ⊥
