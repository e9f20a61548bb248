-- What is said at a tick.
use Rattle.std.specs.Prelude.{ℕ, ◌+◌, List, [], ◌++◌, length, map, cond, Some, None, Option, ◌==◌, slice_index_or}
use Rattle.giving.specs.Channels.{line}
use Rattle.giving.specs.declared.ids.StationId.{StationId}
use Rattle.giving.specs.declared.message.Body.TheVariants as body
use Rattle.giving.specs.declared.message.Message.{Message}
use Rattle.pieces.specs.Counts.{tally_of}
use Rattle.pieces.specs.Memory.{train_at}
use Rattle.pieces.specs.Parts.{blank}
use Rattle.pieces.specs.declared.names.Train.{Train}
use Rattle.pieces.specs.declared.tally.Tally.{Tally}
use Rattle.asking.specs.Told.{nothing}
use Rattle.asking.specs.Turns.{others, open_trains}
use Rattle.state.specs.States.{State, place}
use Rattle.std.specs.List.{flat_map, range_with_len}
use Rattle.timetable.specs.Rows.{Table, stretches}
use Rattle.timetable.specs.declared.row.Row.{Row}

-- ---- again

-- the piece that waits at place k of the channel from i to j, under its number
abbrev pub reminder : State → (i j k : ℕ) → Message
reminder s i j k = record { from = record { 0 = i }; to = record { 0 = j }; body = body.Given (record { 0 = (line s.channels j).heard + 1 + k }) (slice_index_or (line s.channels j).waiting k blank) }

-- what waits for station j, by number
abbrev pub reminders_to : State → (j : ℕ) → List Message
reminders_to s j = map (reminder s s.me j) (range_with_len 0 (length (line s.channels j).waiting))

-- all that waits, by station and number
abbrev pub reminders : State → List Message
reminders s = flat_map (reminders_to s) (range_with_len 0 (length s.channels))

-- ---- how much is held

-- how much of a train with this row is held
abbrev pub tally_by : Option Row → State → Train → Tally
tally_by None s t = nothing
tally_by (Some r) s t = tally_of (stretches r) (train_at s.words (place s t))

abbrev pub telling : Table → State → (i : ℕ) → StationId → Train → Message
telling tb s i j t = record { from = record { 0 = i }; to = j; body = body.Told t (tally_by (tb t.0) s t) }

-- of each open train, by number
abbrev pub tellings_to : Table → State → StationId → List Message
tellings_to tb s j = map (telling tb s s.me j) (open_trains tb s)

-- to each other station, by number
abbrev pub tellings : Table → State → List Message
tellings tb s = flat_map (tellings_to tb s) (others s.me (length s.channels))

-- a tick: all that waits is said again, and where it is the fiftieth, how much is held
abbrev pub ticked : Table → State → (ticks : ℕ) → List Message
ticked tb s k = reminders s ++ cond (k == 0) (tellings tb s) []
