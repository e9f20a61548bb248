-- What holds of stations that have wires between them.
use Rattle.std.specs.Prelude.{◌≡◌, ℕ, ◌<◌, ◌≤◌, false, List, Ok}
use mathlib.Core.List.{Memᴰ}
use Rattle.asking.specs.Events.{Response, resolved}
use Rattle.asking.specs.Minds.{Mind}
use Rattle.asking.specs.Replies.{lasting, minded, spoken}
use Rattle.asking.specs.declared.event.Event.{Event}
use Rattle.giving.specs.declared.message.Message.{Message}
use Rattle.ledger.specs.Decisions.{for_memory}
use Rattle.lines.specs.Bytes.{SoundBody}
use Rattle.lines.specs.Reading.{message}
use Rattle.network.specs.Falls.{Reached}
use Rattle.network.specs.Promised.{Promised}
use Rattle.recovery.specs.Runs.{Did, Typed, led}
use Rattle.state.specs.declared.record.Record.{Record}
use Rattle.std.specs.List.{AllByRecursion}
use Rattle.timetable.specs.Rows.{Table}
use Rattle.wire.specs.Minds.{TypedMind}
use Rattle.wire.specs.Nets.{Lived, Net, Packet, journal_in, packet, site_of, world_of}

-- What a station says is from it, and has bytes: each of its numbers fits. Where an event is refused for want of memory, nothing is said.
abbrev pub SaysSound : Type 0
SaysSound = (n i : ℕ) (tb : Table) (es : List Record) → Did n i tb es → (m : Mind) → TypedMind m → (e : Event) → Typed e →
    (r : Response) → (for_memory r ≡ false → r ≡ resolved tb (led n i tb es) m e) →
    AllByRecursion (λ (x : Message). (x.from.0 ≡ i) × SoundBody x.body) (spoken tb (lasting tb (led n i tb es) r) (minded (led n i tb es) m e r) e r)

-- What comes to a station was said to it, and is read as what was said.
abbrev pub SaidIsRead : Type 0
SaidIsRead = (n : ℕ) (tb : Table) (net : Net) → n ≤ 256 → Lived n tb net → (p : Packet) → Memᴰ p net.sent →
    (x : Message) × (p ≡ packet x) × (message p.bytes ≡ Ok x.body) × Memᴰ x (world_of net).said

-- What stations with wires between them can come to, the moves of stations lead to, with all of it synced.
abbrev pub IsReached : Type 0
IsReached = (n : ℕ) (tb : Table) (net : Net) → n ≤ 256 → Lived n tb net → Reached n tb (site_of net)

-- All that is promised holds over bytes, and each station has written what a station can write.
abbrev pub OverBytes : Type 0
OverBytes = (n : ℕ) (tb : Table) (net : Net) → n ≤ 256 → Lived n tb net → Promised n tb (site_of net) × ((i : ℕ) → i < n → Did n i tb (journal_in net i))
