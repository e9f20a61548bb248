-- What a train has.
use Rattle.std.specs.Prelude.{ℕ, ◌-◌, Bool, false, ◌&&◌, Some, None, Option, nat_lt}
use Rattle.pieces.specs.declared.piece.Piece.{Piece}
use Rattle.timetable.specs.declared.row.Row.{Row}

-- a timetable: of each train its row, if it has one
abbrev pub Table : Type 0
Table = ℕ → Option Row

-- the stretches of a train: one fewer than its stops
abbrev pub stretches : Row → ℕ
stretches r = r.stops - 1

-- a piece of a seat and of stops that the train has
abbrev pub within : Row → Piece → Bool
within r p = nat_lt p.seat.0 r.seats && nat_lt p.trip.to.0 r.stops

-- the train is in the timetable, and has the piece
abbrev pub listed : Option Row → Piece → Bool
listed None p = false
listed (Some r) p = within r p
