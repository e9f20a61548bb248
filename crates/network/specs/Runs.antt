-- What stations do is a run of such moves.
use Rattle.std.specs.Prelude.{◌≡◌, ℕ, ◌<◌, List, ◌++◌, slice_set}
use mathlib.Core.List.{Memᴰ}
use Rattle.asking.specs.Events.{Response, resolved}
use Rattle.asking.specs.Minds.{Mind}
use Rattle.asking.specs.Replies.{lasting, minded, spoken, written}
use Rattle.asking.specs.declared.event.Event.{Event}
use Rattle.asking.specs.declared.event.Event.TheVariants.{Call}
use Rattle.giving.specs.declared.message.Body.TheVariants as body
use Rattle.giving.specs.declared.message.Message.{Message}
use Rattle.ledger.specs.Decisions.{Answer, decided_open, listing, records}
use Rattle.ledger.specs.declared.input.Input.{Input}
use Rattle.ledger.specs.declared.input.Input.TheVariants.{Take, Hear}
use Rattle.network.specs.Falls.{Site, site, sync, Moves, Reached}
use Rattle.network.specs.Worlds.{World, journal, with_journal, state}
use Rattle.state.specs.declared.record.Record.{Record}
use Rattle.timetable.specs.Rows.{Table}
use Rattle.timetable.specs.declared.row.Row.{Row}

-- the pieces that a station is given, and what it hears was taken, were said to it; who asks, answers or tells may say what he likes
abbrev pub Heeds : List Message → ℕ → Input → Type 0
Heeds ms i (Take from m p) = Memᴰ (record { from = from; to = record { 0 = i }; body = body.Given m p }) ms
Heeds ms i (Hear from m) = Memᴰ (record { from = from; to = record { 0 = i }; body = body.Taken m }) ms
Heeds ms i x = Unit {0}

abbrev pub HeedsAll : List Message → ℕ → Event → Type 0
HeedsAll ms i (Call x) = Heeds ms i x
HeedsAll ms i e = Unit {0}

-- the world after an event at station i, with this in mind, that came to r: what it wrote, and what it said
abbrev pub called : (n : ℕ) → Table → World → (i : ℕ) → Mind → Event → Response → World
called n tb w i m e r =
    record {
      journals = slice_set w.journals i (journal w i ++ written (state n tb w i) r);
      said = w.said ++ spoken tb (lasting tb (state n tb w i) r) (minded (state n tb w i) m e r) e r;
    }

-- the world after station i was to open a train
abbrev pub opened_by : World → (i : ℕ) → Answer → World
opened_by w i o = with_journal w i (journal w i ++ records o)

-- Station i may write es, sync, and then say what leads to the world v; and it may fall in the midst of it, and come up with any first part of es
-- on its file and nothing said.
abbrev pub Happens : (n : ℕ) → Table → Site → (i : ℕ) → List Record → World → Type 0
Happens n tb s i es v = Moves n tb s (sync (site v s.synced) i) × ((gs hs : List Record) → es ≡ gs ++ hs → Moves n tb s (sync (site (with_journal s.world i (journal s.world i ++ gs)) s.synced) i))

-- Whatever a station decides and says of a call, of a message that was said to it, or of a tick, whatever it has in mind, may happen, and so may
-- an opening, with the timetable that has the train's row.
abbrev pub Runs : Type 0
Runs = ((n : ℕ) (tb : Table) (s : Site) → Reached n tb s → (i : ℕ) (m : Mind) (e : Event) → i < n → HeedsAll s.world.said i e →
    Happens n tb s i (written (state n tb s.world i) (resolved tb (state n tb s.world i) m e)) (called n tb s.world i m e (resolved tb (state n tb s.world i) m e)))
    × ((n : ℕ) (tb : Table) (s : Site) → Reached n tb s → (i : ℕ) (r : Row) → i < n →
    Happens n (listing tb r (decided_open tb (state n tb s.world i) r)) s i (records (decided_open tb (state n tb s.world i) r)) (opened_by s.world i (decided_open tb (state n tb s.world i) r)))
