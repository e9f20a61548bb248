-- The seats of a party, and its pieces.
use Rattle.std.specs.Prelude.{ℕ, ◌-◌, Bool, true, ◌&&◌, List, [], ◌∷◌, ◌++◌, map, length, min, take, replicate, nat_le, nat_lt, codes}
use Rattle.std.specs.Fmt.{decimal}
use Rattle.std.specs.List.{flat_map}
use Rattle.std.proofs.Math.Nat.{min-le_right}
use Rattle.choosing.specs.declared.party.Party.{Party}
use Rattle.pieces.specs.Parts.{piece_of}
use Rattle.pieces.specs.declared.names.Seat.{Seat}
use Rattle.pieces.specs.declared.names.Train.{Train}
use Rattle.pieces.specs.declared.piece.Piece.{Piece}
use Rattle.pieces.specs.declared.trip.Trip.{Trip}

-- a seat to stand where none is taken
abbrev pub unused : Seat
unused = record { 0 = 0 }

-- the party that has these seats, if they are no more than eight
abbrev pub party_of : Train → Trip → List Seat → Party
party_of z t ss = record { train = z; trip = t; seats = ss ++ replicate (8 - length ss) unused; count = min (length ss) 8; few = min-le_right (length ss) 8 }

abbrev pub seats_of : Party → List Seat
seats_of p = take p.count p.seats

-- a piece for each of its people, in order
abbrev pub pieces_of : Party → List Piece
pieces_of p = map (λ s. piece_of p.train s p.trip) (seats_of p)

-- one to eight people
abbrev pub some : ℕ → Bool
some m = nat_le 1 m && nat_le m 8

-- each seat is one of the first n
abbrev pub below : ℕ → List Seat → Bool
below n [] = true
below n (s ∷ ss) = nat_lt s.0 n && below n ss

-- what a party prints: its train, and then a seat and from where to where for each of its people
abbrev pub seat_printed : Trip → Seat → List ℕ
seat_printed t s = codes " " ++ (decimal s.0 ++ (codes ":" ++ (decimal t.from.0 ++ (codes "-" ++ decimal t.to.0))))

abbrev pub printed : Party → List ℕ
printed p = decimal p.train.0 ++ flat_map (seat_printed p.trip) (seats_of p)
