-- Messages as bytes: the highest byte of a number first, and nothing between.
use Rattle.std.specs.Prelude.{ℕ, ◌<◌, ◌^◌, List, [], ◌∷◌, ◌++◌, slice_index}
use Rattle.std.specs.Int.{w16, w32, to_be_bytes}
use Rattle.giving.specs.declared.message.Body.{Body}
use Rattle.giving.specs.declared.message.Body.TheVariants.{Given, Taken, Asked, Answered, Told}
use Rattle.pieces.specs.declared.demand.Demand.{Demand}
use Rattle.pieces.specs.declared.piece.Piece.{Piece}

-- each is a byte
abbrev pub AreBytes : List ℕ → Type 0
AreBytes bs = (i : ℕ) → slice_index bs i < 256

-- a number of two bytes, and of four
abbrev pub short : ℕ → List ℕ
short = to_be_bytes w16

abbrev pub long : ℕ → List ℕ
long = to_be_bytes w32

-- its train, its seat, and from where to where
abbrev pub piece_bytes : Piece → List ℕ
piece_bytes p = long p.train.0 ++ (short p.seat.0 ++ p.trip.from.0 ∷ p.trip.to.0 ∷ [])

-- a message: its kind, and what it says
abbrev pub body_bytes : Body → List ℕ
body_bytes (Given n p) = 1 ∷ (long n.0 ++ piece_bytes p)
body_bytes (Taken n) = 2 ∷ long n.0
body_bytes (Asked a d) = 3 ∷ (long d.train.0 ++ d.from.0 ∷ d.to.0 ∷ d.people ∷ long a.0)
body_bytes (Answered a m) = 4 ∷ (long a.0 ++ m ∷ [])
body_bytes (Told t y) = 5 ∷ (long t.0 ++ (short y.whole ++ short y.any))

-- ---- what can be written: each number fits its width

abbrev pub SoundPiece : Piece → Type 0
SoundPiece p = (p.train.0 < 2 ^ 32) × (p.seat.0 < 2 ^ 16)

abbrev pub SoundDemand : Demand → Type 0
SoundDemand d = (d.train.0 < 2 ^ 32) × (d.from.0 < 256) × (d.to.0 < 256) × (d.people < 256)

abbrev pub SoundBody : Body → Type 0
SoundBody (Given n p) = (n.0 < 2 ^ 32) × SoundPiece p
SoundBody (Taken n) = n.0 < 2 ^ 32
SoundBody (Asked a d) = SoundDemand d × (a.0 < 2 ^ 32)
SoundBody (Answered a m) = (a.0 < 2 ^ 32) × (m < 256)
SoundBody (Told t y) = (t.0 < 2 ^ 32) × (y.whole < 2 ^ 16) × (y.any < 2 ^ 16)
