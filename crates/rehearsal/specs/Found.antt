-- Where a stretch of a seat is in a world of the code.
use Rattle.std.specs.Prelude.{◌≡◌, ℕ, ◌<◌, true, false, List, length, replicate, Some}
use Rattle.network.specs.Places.{count_in, under_way, gather, spots, places}
use Rattle.network.specs.declared.place.Place.{Place}
use Rattle.network.specs.declared.place.Place.TheVariants.{Way}
use Rattle.pieces.specs.declared.names.Train.{Train}
use Rattle.rehearsal.specs.Seen.{rows, count, state_of}
use Rattle.rehearsal.specs.declared.world.World.{World as Code}
use Rattle.state.specs.States.{is_open, was_closed}
use Rattle.timetable.specs.Rows.{stretches}
use Rattle.timetable.specs.declared.row.Row.{Row}

-- on its way from station i to station j, and to each
abbrev pub way_to : Code → Train → (seat stop : ℕ) → (i j : ℕ) → List Place
way_to w t s u i j = replicate (count_in t s u (under_way i j (state_of w i) (state_of w j))) (Way (record { 0 = i }) (record { 0 = j }))

abbrev pub ways_from : Code → Train → (seat stop : ℕ) → (i : ℕ) → List Place
ways_from w t s u i = gather (count w) (way_to w t s u i)

-- all places that station i knows of
abbrev pub spots_of : Code → Train → (seat stop : ℕ) → (i : ℕ) → List Place
spots_of w t s u i = spots (count w) t s u (state_of w) i

abbrev pub places_of : Code → Train → (seat stop : ℕ) → List Place
places_of w t s u = places (count w) t s u (state_of w)

-- where nothing made up was taken, from where the first station of the train has opened it to where a station first closes it, the list has one place
abbrev pub OneIn : Code → Train → (seat stop : ℕ) → List Place → Type 0
OneIn w t s u found = w.made_up ≡ false → (r : Row) → rows w t.0 ≡ Some r → is_open (state_of w r.first.0) t ≡ true → ((k : ℕ) → k < count w → was_closed (state_of w k) t ≡ false) → s < r.seats → u < stretches r → length found ≡ 1
