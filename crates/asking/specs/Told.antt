-- What other stations have told, as a list.
use Rattle.std.specs.Prelude.{Bool, cond, not, ◌&&◌, List, [], ◌∷◌, Some, None, Option, ◌==◌, nat_le}
use Rattle.giving.specs.declared.ids.StationId.{StationId}
use Rattle.pieces.specs.declared.names.Train.{Train}
use Rattle.pieces.specs.declared.tally.Tally.{Tally}
use Rattle.asking.specs.declared.told.Note.{Note}
use Rattle.std.specs.List.{filter}
use Rattle.timetable.specs.declared.row.Row.{Row}

-- the note is of that train and station
abbrev pub is_of : Train → StationId → Note → Bool
is_of t k x = x.train.0 == t.0 && x.from.0 == k.0

abbrev pub nothing : Tally
nothing = record { whole = 0; any = 0 }

-- what a station has told of a train: nothing, where it has told nothing
abbrev pub told_by : List Note → Train → StationId → Tally
told_by [] t k = nothing
told_by (x ∷ xs) t k = cond (is_of t k x) x.tally (told_by xs t k)

-- it is told anew
abbrev pub kept : List Note → Note → List Note
kept [] y = y ∷ []
kept (x ∷ xs) y = cond (is_of y.train y.from x) (y ∷ xs) (x ∷ kept xs y)

-- a train is forgotten
abbrev pub without : Train → List Note → List Note
without t xs = filter (λ x. not (x.train.0 == t.0)) xs

-- a tally that a train can have: no more seats than there are, and no more of them whole than any. No train has more than 400
abbrev pub sensible : Option Row → Tally → Bool
sensible None y = nat_le y.whole y.any && nat_le y.any 400
sensible (Some r) y = nat_le y.whole y.any && nat_le y.any r.seats
