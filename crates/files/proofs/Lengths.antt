-- How many bytes there are.
use Rattle.std.proofs.Common.{◌≡◌, ◌*◌, List, [], ◌∷◌, length, refl, arith}
use Rattle.std.specs.List.{flat_map}
use Rattle.files.specs.Bytes.{seat_bytes}
use Rattle.pieces.specs.declared.names.Seat.{Seat}
use Rattle.pieces.specs.declared.names.Train.{Train}
use Rattle.pieces.specs.declared.trip.Trip.{Trip}

-- eight of each seat of a party
pub length-seats : (z : Train) (t : Trip) (ss : List Seat) → length (flat_map (seat_bytes z t) ss) ≡ 8 * length ss
length-seats z t [] = refl
length-seats z t (s ∷ ss) = omega (arith, length-seats z t ss)
