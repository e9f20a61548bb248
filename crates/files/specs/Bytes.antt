-- Records as bytes: the highest byte of a number first, and nothing between records.
use Rattle.std.specs.Prelude.{◌≡◌, ℕ, ◌<◌, ◌≤◌, ◌^◌, List, ◌∷◌, ◌++◌, length}
use Rattle.std.specs.List.{AllByRecursion, flat_map}
use Rattle.choosing.specs.Parties.{party_of, seats_of}
use Rattle.choosing.specs.declared.party.Party.{Party}
use Rattle.lines.specs.Bytes.{SoundPiece, long, piece_bytes}
use Rattle.pieces.specs.Parts.{piece_of}
use Rattle.pieces.specs.declared.names.Seat.{Seat}
use Rattle.pieces.specs.declared.names.Train.{Train}
use Rattle.pieces.specs.declared.trip.Trip.{Trip}
use Rattle.state.specs.declared.record.Record.{Record}
use Rattle.state.specs.declared.record.Record.TheVariants.{Opened, Closed, Sold, Undone, Given, Taken, Heard, Asked, Declined}

-- the piece of one of a party
abbrev pub seat_bytes : Train → Trip → Seat → List ℕ
seat_bytes z t s = piece_bytes (piece_of z s t)

-- a record: its kind, and what it says
abbrev pub record_bytes : Record → List ℕ
record_bytes (Sold k p) = 6 ∷ (long k.0 ++ length (seats_of p) ∷ flat_map (seat_bytes p.train p.trip) (seats_of p))
record_bytes (Undone k) = 7 ∷ long k.0
record_bytes (Given to n a p) = 8 ∷ to.0 ∷ (long n.0 ++ (long a.0 ++ piece_bytes p))
record_bytes (Taken from n p) = 9 ∷ from.0 ∷ (long n.0 ++ piece_bytes p)
record_bytes (Opened t) = 10 ∷ long t.0
record_bytes (Closed t) = 11 ∷ long t.0
record_bytes (Heard from n) = 12 ∷ from.0 ∷ long n.0
record_bytes (Asked a) = 20 ∷ long a.0
record_bytes (Declined to a) = 21 ∷ to.0 ∷ long a.0

-- several records, one behind the other
abbrev pub journal_bytes : List Record → List ℕ
journal_bytes es = flat_map record_bytes es

-- ---- what can be written: each number fits its width

-- somebody is in it, and it has nothing but its train, its trip and its seats
abbrev pub SoundParty : Party → Type 0
SoundParty p = (p.train.0 < 2 ^ 32) × AllByRecursion (λ (s : Seat). s.0 < 2 ^ 16) (seats_of p) × (1 ≤ length (seats_of p)) × (p ≡ party_of p.train p.trip (seats_of p))

abbrev pub Sound : Record → Type 0
Sound (Sold k p) = (k.0 < 2 ^ 32) × SoundParty p
Sound (Undone k) = k.0 < 2 ^ 32
Sound (Given to n a p) = (to.0 < 256) × (n.0 < 2 ^ 32) × (a.0 < 2 ^ 32) × SoundPiece p
Sound (Taken from n p) = (from.0 < 256) × (n.0 < 2 ^ 32) × SoundPiece p
Sound (Opened t) = t.0 < 2 ^ 32
Sound (Closed t) = t.0 < 2 ^ 32
Sound (Heard from n) = (from.0 < 256) × (n.0 < 2 ^ 32)
Sound (Asked a) = a.0 < 2 ^ 32
Sound (Declined to a) = (to.0 < 256) × (a.0 < 2 ^ 32)

abbrev pub AllSound : List Record → Type 0
AllSound es = AllByRecursion Sound es
