-- Pieces made of a seat and a trip, and what a piece has.
use Rattle.std.specs.Prelude.{◌≡◌, ℕ, Bool, true, false, ◌&&◌, Some, None, Option, ◌==◌, nat_lt, refl}
use Rattle.std.proofs.Common.{lit<}
use Rattle.pieces.specs.Stretches.{within}
use Rattle.pieces.specs.declared.names.Seat.{Seat}
use Rattle.pieces.specs.declared.names.Stop.{Stop}
use Rattle.pieces.specs.declared.names.Train.{Train}
use Rattle.pieces.specs.declared.piece.Piece.{Piece}
use Rattle.pieces.specs.declared.trip.Trip.{Trip}
use Rattle.std.proofs.lemmas.Bool.{ltb-true}

abbrev pub piece_of : Train → Seat → Trip → Piece
piece_of t s r = record { train = t; seat = s; trip = r }

-- the trip from a stop to a stop: none where that is no stretch, or a stop that no train has
abbrev pub trip_if : (a b : Stop) → (x : Bool) → nat_lt a.0 b.0 ≡ x → (y : Bool) → nat_lt b.0 30 ≡ y → Option Trip
trip_if a b true e true f = Some (record { from = a; to = b; ordered = ltb-true a.0 b.0 e; near = ltb-true b.0 30 f })
trip_if a b true e false f = None
trip_if a b false e y f = None

abbrev pub trip_from : Stop → Stop → Option Trip
trip_from a b = trip_if a b (nat_lt a.0 b.0) refl (nat_lt b.0 30) refl

-- a piece to read where a list has none
abbrev pub blank : Piece
blank = record { train = record { 0 = 0 }; seat = record { 0 = 0 }; trip = record { from = record { 0 = 0 }; to = record { 0 = 1 }; ordered = lit< tt; near = lit< tt } }

-- does a piece have the stretch from a stop to the next, of a seat of a train
abbrev pub has : (train seat stop : ℕ) → Piece → Bool
has t s u p = t == p.train.0 && (s == p.seat.0 && within p.trip.from.0 p.trip.to.0 u)
