-- What holds of every choice.
use Rattle.std.specs.Prelude.{◌≡◌, ℕ, ◌<◌, false, min, length, take, Some, None, Option, ◌≢◌, ◌↔◌, slice_index_or}
use Rattle.choosing.specs.Choice.{Chosen, among, beside, chosen, drawn_all, group, free, lowest}
use Rattle.choosing.specs.Parties.{unused}
use Rattle.pieces.specs.declared.names.Seat.{Seat}

-- there is exactly one choice
abbrev pub OneChoice : Type 0
OneChoice = (f : ℕ → ℕ) (n a b : ℕ) → Chosen f n a b (chosen f n a b) × ((r : Option Seat) → Chosen f n a b r → r ≡ chosen f n a b)

-- of m people as many have a seat as there are seats that cover the span; each has the choice of what those before left
abbrev pub AsMany : Type 0
AsMany = (m : ℕ) (f : ℕ → ℕ) (n a b : ℕ) → a < b →
    (length (group m f n a b) ≡ min m (free f n a b))
    × ((k : ℕ) → k < length (group m f n a b) → Chosen (drawn_all f a b (take k (group m f n a b))) n a b (Some (slice_index_or (group m f n a b) k unused)))

-- nothing is held of the first n seats
abbrev pub NothingHeld : (ℕ → ℕ) → (n : ℕ) → Type 0
NothingHeld f n = (k : ℕ) → k < n → f k ≡ 0

-- the lowest seat of which anything is held: none exactly where nothing is held of any
abbrev pub IsLowest : Type 0
IsLowest = (f : ℕ → ℕ) (n : ℕ) →
    ((lowest f n ≡ None) ↔ NothingHeld f n)
    × ((s : Seat) → lowest f n ≡ Some s → (s.0 < n) × (f s.0 ≢ 0) × NothingHeld f s.0)

-- a seat that is kept back is none of a group's
abbrev pub IsLeft : Type 0
IsLeft = (m : ℕ) (f : ℕ → ℕ) (n a b : ℕ) (s : Seat) → a < b → among s.0 (group m (beside (Some s) f) n a b) ≡ false

abbrev pub KeptBack : Type 0
KeptBack = IsLowest × IsLeft

abbrev pub Choices : Type 0
Choices = OneChoice × AsMany × KeptBack
