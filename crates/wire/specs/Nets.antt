-- Stations, each with its journal, and the bytes that they sent each other.
use Rattle.std.specs.Prelude.{◌≡◌, ℕ, ◌<◌, List, [], ◌∷◌, ◌++◌, length, map, replicate, Ok, Err, Result, slice_index_or, slice_set}
use mathlib.Core.List.{Memᴰ}
use Rattle.asking.specs.Events.{resolved}
use Rattle.asking.specs.Minds.{Mind}
use Rattle.asking.specs.Replies.{lasting, minded, spoken, written}
use Rattle.asking.specs.declared.event.Event.{Event}
use Rattle.asking.specs.declared.event.Event.TheVariants.{Call, Tick}
use Rattle.giving.specs.declared.ids.StationId.{StationId}
use Rattle.giving.specs.declared.message.Body.{Body}
use Rattle.giving.specs.declared.message.Message.{Message}
use Rattle.ledger.specs.Decisions.{decided_open, listing, records}
use Rattle.ledger.specs.declared.input.Input.{Input}
use Rattle.ledger.specs.declared.input.Input.TheVariants.{Take, Hear, Grant}
use Rattle.lines.specs.Bytes.{body_bytes}
use Rattle.lines.specs.Reading.{message}
use Rattle.lines.specs.declared.fault.Fault.{Fault}
use Rattle.network.specs.Falls.{Site, site}
use Rattle.network.specs.Promises.{Extends}
use Rattle.network.specs.Worlds.{World}
use Rattle.receiving.specs.Incoming.{incoming}
use Rattle.recovery.specs.Runs.{Typed, TypedRow, led}
use Rattle.state.specs.States.{State}
use Rattle.state.specs.declared.record.Record.{Record}
use Rattle.std.specs.List.{flat_map}
use Rattle.timetable.specs.Rows.{Table}
use Rattle.timetable.specs.declared.row.Row.{Row}
use Rattle.wire.specs.Minds.{TypedMind}

-- bytes that one station sent another
pub record Packet : Type 0 where
  pub from : StationId
  pub to : StationId
  pub bytes : List ℕ

-- Nothing is ever taken out of `sent`: what is sent comes never, twice or late.
pub record Net : Type 0 where
  pub journals : List (List Record)
  pub sent : List Packet

abbrev pub packet : Message → Packet
packet m = record { from = m.from; to = m.to; bytes = body_bytes m.body }

-- n stations that have done nothing yet
abbrev pub quiet : ℕ → Net
quiet n = record { journals = replicate n []; sent = [] }

abbrev pub journal_in : Net → ℕ → List Record
journal_in net i = slice_index_or net.journals i []

abbrev pub state_in : (n : ℕ) → Table → Net → ℕ → State
state_in n tb net i = led n i tb (journal_in net i)

-- with these records more at station i, and with these messages sent
abbrev pub wrote_in : Net → (i : ℕ) → List Record → Net
wrote_in net i es = record net { journals = slice_set net.journals i (journal_in net i ++ es) }

abbrev pub sent_in : Net → List Message → Net
sent_in net ms = record net { sent = net.sent ++ map packet ms }

-- ---- what a station may do

-- what comes from no other station: a call at the counter, or a tick
abbrev pub OwnCall : Input → Type 0
OwnCall (Take from m p) = ⊥
OwnCall (Hear from m) = ⊥
OwnCall (Grant from a d) = ⊥
OwnCall x = Unit {0}

abbrev pub Own : Event → Type 0
Own (Call x) = OwnCall x
Own Tick = Unit {0}
Own e = ⊥

-- what is written and said of an event
abbrev pub written_of : Table → State → Mind → Event → List Record
written_of tb s m e = written s (resolved tb s m e)

abbrev pub spoken_of : Table → State → Mind → Event → List Message
spoken_of tb s m e = spoken tb (lasting tb s (resolved tb s m e)) (minded s m e (resolved tb s m e)) e (resolved tb s m e)

-- Station i, whatever it has in mind, writes these records, says these messages, and the timetable is then this. What it has in mind is gone when it falls.
pub data Act (n : ℕ) (tb : Table) (net : Net) (i : ℕ) : List Record → List Message → Table → Type 0 where
  handles : (m : Mind) → TypedMind m → (e : Event) → Typed e → Own e → Act n tb net i (written_of tb (state_in n tb net i) m e) (spoken_of tb (state_in n tb net i) m e) tb
  receives : (m : Mind) → TypedMind m → (p : Packet) → Memᴰ p net.sent → p.to.0 ≡ i →
      Act n tb net i (written_of tb (state_in n tb net i) m (incoming i p.from.0 p.bytes)) (spoken_of tb (state_in n tb net i) m (incoming i p.from.0 p.bytes)) tb
  opens : (r : Row) → TypedRow r → Act n tb net i (records (decided_open tb (state_in n tb net i) r)) [] (listing tb r (decided_open tb (state_in n tb net i) r))

-- What n stations can come to: one of them does something, and has synced what it writes before it says anything; or the power is cut in the midst of it,
-- when some first of the records are on its file, and nothing is said. Between acts all that a station wrote is on its file,
-- and a fall changes nothing here. A message that a fall keeps from being sent is a packet that never comes.
pub data Lived (n : ℕ) : Table → Net → Type 0 where
  begins : (tb : Table) → Lived n tb (quiet n)
  does : {tb ub : Table} {net : Net} {es : List Record} {ms : List Message} → Lived n tb net → (i : ℕ) → i < n → Act n tb net i es ms ub → Lived n ub (sent_in (wrote_in net i es) ms)
  falls : {tb ub : Table} {net : Net} {ms : List Message} → Lived n tb net → (i : ℕ) → i < n → (es fs : List Record) → Act n tb net i (es ++ fs) ms ub → Lived n ub (wrote_in net i es)
  grows : {tb : Table} {net : Net} (ub : Table) → Extends tb ub → Lived n tb net → Lived n ub net

-- ---- the world that it is

-- a packet read back; what cannot be read is none
abbrev pub read_back : Packet → Result Body Fault → List Message
read_back p (Ok b) = record { from = p.from; to = p.to; body = b } ∷ []
read_back p (Err f) = []

abbrev pub said_in : List Packet → List Message
said_in ps = flat_map (λ p. read_back p (message p.bytes)) ps

abbrev pub world_of : Net → World
world_of net = record { journals = net.journals; said = said_in net.sent }

-- with all of it on the files
abbrev pub site_of : Net → Site
site_of net = site (world_of net) (map length net.journals)
