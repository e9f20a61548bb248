-- The trains of a station that lost its file, as another one lists them.
use Rattle.std.specs.Prelude.{◌≡◌, ◌<◌, Bool, true, false, not, ◌&&◌, ◌||◌, List, AllPairs, Some, None, Option, ◌==◌}
use Rattle.std.specs.List.{list_any}
use Rattle.giving.specs.Channels.{other}
use Rattle.giving.specs.declared.ids.StationId.{StationId}
use Rattle.giving.specs.declared.refusal.Refusal.{Refusal}
use Rattle.giving.specs.declared.refusal.Refusal.TheVariants.{Malformed, OutOfTurn, NotOpen, NothingHeld, NoSuchTicket, Full, NoSuchStation, Memory}
use Rattle.pieces.specs.declared.names.Train.{Train}
use Rattle.state.specs.States.{State, has_given, was_closed}
use Rattle.timetable.specs.Rows.{Table}
use Rattle.timetable.specs.declared.row.Row.{Row}

-- a train with this row that was not closed here, of which station j was the first or was ever given a piece by this one
abbrev pub missed : State → StationId → Train → Row → Bool
missed s j t r = (r.first.0 == j.0 || has_given s t j) && not (was_closed s t)

-- the same of a train that may be in the timetable
abbrev pub missing : Option Row → State → StationId → Train → Bool
missing None s j t = false
missing (Some r) s j t = missed s j t r

-- just those trains of the timetable, each once, by number
abbrev pub Listed : Table → State → StationId → List Train → Type 0
Listed tb s j ts = AllPairs (λ x y. x.0 < y.0) ts × ((t : Train) → list_any (λ (x : Train). x.0 == t.0) ts ≡ missing (tb t.0) s j t)

-- why none are listed: j is no other station; or there is no memory for the list, which has a train
abbrev pub Unlisted : Table → State → StationId → Refusal → Type 0
Unlisted tb s j NoSuchStation = other s.me s.channels j.0 ≡ false
Unlisted tb s j Memory = (other s.me s.channels j.0 ≡ true) × ((t : Train) × (missing (tb t.0) s j t ≡ true))
Unlisted tb s j Malformed = ⊥
Unlisted tb s j OutOfTurn = ⊥
Unlisted tb s j NotOpen = ⊥
Unlisted tb s j NothingHeld = ⊥
Unlisted tb s j NoSuchTicket = ⊥
Unlisted tb s j Full = ⊥
