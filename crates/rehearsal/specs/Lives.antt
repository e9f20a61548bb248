-- Stations at work, beside their files.
use Rattle.std.specs.Prelude.{◌≡◌, ℕ, ◌<◌, Bool, false, List, [], map, length, vec_items, slice_index_or}
use Rattle.asking.specs.Minds.{Mind}
use Rattle.files.specs.Bytes.{AllSound, journal_bytes}
use Rattle.files.specs.Reading.{records_of}
use Rattle.giving.specs.declared.message.Message.{Message}
use Rattle.network.specs.Worlds.{World, state}
use Rattle.network.specs.Falls.{Site, site, Reached}
use Rattle.recovery.specs.Machines.{shown as machine_shown, mind_in as machine_mind}
use Rattle.recovery.specs.Runs.{Did}
use Rattle.rehearsal.specs.declared.post.Post.{Post}
use Rattle.state.specs.States.{State}
use Rattle.state.specs.declared.record.Record.{Record}
use Rattle.std.specs.List.{All}
use Rattle.timetable.specs.Rows.{Table}

abbrev pub shown : Post → State
shown p = machine_shown p.machine

abbrev pub mind_in : Post → Mind
mind_in p = machine_mind p.machine

-- the journal is what is on the file
abbrev pub journal_of : Post → List Record
journal_of p = records_of (vec_items p.file)

-- the file is the bytes of records, and nothing else
pub record Filed (p : Post) : Type 0 where
  pub whole : vec_items p.file ≡ journal_bytes (journal_of p)
  pub sound : AllSound (journal_of p)

abbrev pub world_of : List Post → List Message → World
world_of ps ms = record { journals = map journal_of ps; said = ms }

-- between steps all that was written is on file
abbrev pub site_of : List Post → List Message → Site
site_of ps ms = site (world_of ps ms) (map length (map journal_of ps))

-- where there is no station
abbrev pub nowhere : State
nowhere = record { me = 0; slots = []; words = []; ever_sold = []; ever_gave = []; closed = []; dropped = 0; tickets = []; asked = 0; channels = [] }

-- the world was reached, unless what nobody said was taken in it; each station's state is what its journal says, each journal is a file, and what such
-- a station may have written
pub record Lives (tb : Table) (ps : List Post) (ms : List Message) (made_up : Bool) : Type 0 where
  pub reached : made_up ≡ false → Reached (length ps) tb (site_of ps ms)
  pub faithful : (k : ℕ) → k < length ps → slice_index_or (map shown ps) k nowhere ≡ state (length ps) tb (world_of ps ms) k
  pub filed : All Filed ps
  pub did : (k : ℕ) → k < length ps → Did (length ps) k tb (slice_index_or (map journal_of ps) k [])
