-- What messages and records are made of, read from the front of some bytes.
use Rattle.std.specs.Prelude.{◌≡◌, MatchResult, ℕ, cond, List, [], ◌∷◌, length, take, drop, Result, Ok, Err, Option, Some, None, nat_lt}
use Rattle.std.proofs.Common.{Bor}
use Rattle.std.specs.Int.{Width, w16, w32, byte_len, from_be_bytes}
use Rattle.lines.specs.declared.fault.Fault.{Fault}
use Rattle.lines.specs.declared.fault.Fault.TheVariants.{Cut, Bad}
use Rattle.pieces.specs.Parts.{piece_of, trip_from}
use Rattle.pieces.specs.declared.piece.Piece.{Piece}
use Rattle.pieces.specs.declared.trip.Trip.{Trip}

-- ---- readers: each gives a value and the bytes behind it, or the fault that it meets

abbrev pub Reader : Type 0 → Type 0
Reader A = List ℕ → Result (A × List ℕ) Fault

infixl 10 ◌>>=◌
abbrev pub ◌>>=◌ : {A B : Type 0} → Result A Fault → (A → Result B Fault) → Result B Fault
(Ok x) >>= f = f x
(Err e) >>= f = Err e

-- what a function reads is what a reader reads
abbrev pub Reads : {A : Type 0} → Result (A × Bor (List ℕ)) Fault → Result (A × List ℕ) Fault → Type 0
Reads result read = MatchResult result (λ r. read ≡ Ok (r.0, r.1.now)) (λ f. read ≡ Err f)

-- one behind the other, the second by what the first gave
abbrev pub then : {A B : Type 0} → Reader A → (A → Reader B) → Reader (A × B)
then r s bs = do
  x ← r bs
  y ← s x.0 x.1
  Ok ((x.0, y.0), y.1)

-- what is read, and then tested
abbrev pub checked : {A B : Type 0} → (A → Result B Fault) → Reader A → Reader B
checked f r bs = do
  x ← r bs
  y ← f x.0
  Ok (y, x.1)

-- what a function makes of what is read
abbrev pub made : {A B : Type 0} → (A → B) → Reader A → Reader B
made f = checked (λ x. Ok (f x))

-- ---- numbers and pieces

abbrev pub byte : Reader ℕ
byte [] = Err Cut
byte (b ∷ bs) = Ok (b, bs)

-- so many bytes
abbrev pub front : ℕ → Reader (List ℕ)
front n bs = cond (nat_lt (length bs) n) (Err Cut) (Ok (take n bs, drop n bs))

-- a number of a width, its highest byte first
abbrev pub number : Width → Reader ℕ
number w = made (from_be_bytes w) (front (byte_len w))

abbrev pub half : Reader ℕ
half = number w16

abbrev pub word : Reader ℕ
word = number w32

-- a piece of a train and a seat, if there is a trip
abbrev pub piece_on : (t s : ℕ) → Option Trip → Result Piece Fault
piece_on t s None = Err Bad
piece_on t s (Some r) = Ok (piece_of (record { 0 = t }) (record { 0 = s }) r)

-- a train, a seat, and two stops between which there is a trip
abbrev pub piece_from : ℕ × (ℕ × (ℕ × ℕ)) → Result Piece Fault
piece_from x = piece_on x.0 x.1.0 (trip_from (record { 0 = x.1.1.0 }) (record { 0 = x.1.1.1 }))

abbrev pub piece : Reader Piece
piece = checked piece_from (then word (λ _. then half (λ _. then byte (λ _. byte))))
