-- Which seat is taken for the span from stop a to stop b. The words of a train's n seats are a function from seats to words.
use Rattle.std.specs.Prelude.{◌≡◌, ℕ, zero, suc, ◌+◌, ◌<◌, Bool, false, cond, ◌||◌, ◌⊎◌, List, [], ◌∷◌, Some, None, Option, ◌==◌, ◌≢◌, nat_lt}
use Rattle.std.specs.Option.{option_or}
use Rattle.pieces.specs.Stretches.{Covers, covered, less, spare}
use Rattle.pieces.specs.declared.names.Seat.{Seat}

-- ---- the rule, in words

-- no seat covers the span
abbrev pub NoneCovers : (ℕ → ℕ) → (n a b : ℕ) → Type 0
NoneCovers f n a b = (s : ℕ) → s < n → Covers (f s) a b → ⊥

-- seat s goes before seat k: it leaves less beside the span, or as much and is lower
abbrev pub Before : (ℕ → ℕ) → (a b s k : ℕ) → Type 0
Before f a b s k = (spare (f s) a b < spare (f k) a b) ⊎ ((spare (f s) a b ≡ spare (f k) a b) × (s < k))

-- seat s is the choice: it covers the span, and goes before each other one that does
pub record Choice (f : ℕ → ℕ) (n a b s : ℕ) : Type 0 where
  pub there : s < n
  pub covers : Covers (f s) a b
  pub first : (k : ℕ) → k < n → (k ≢ s) → Covers (f k) a b → Before f a b s k

abbrev pub Chosen : (ℕ → ℕ) → (n a b : ℕ) → Option Seat → Type 0
Chosen f n a b None = NoneCovers f n a b
Chosen f n a b (Some s) = Choice f n a b s.0

-- ---- the rule, as a function

-- of what was chosen among the seats below n and seat n, which covers the span, the one that goes first
abbrev pub nearer : (ℕ → ℕ) → (n a b : ℕ) → Option Seat → Option Seat
nearer f n a b None = Some (record { 0 = n })
nearer f n a b (Some s) = cond (nat_lt (spare (f n) a b) (spare (f s.0) a b)) (Some (record { 0 = n })) (Some s)

unfoldable pub chosen : (ℕ → ℕ) → (n a b : ℕ) → Option Seat
chosen f zero a b = None
chosen f (suc n) a b = cond (covered (f n) a b) (nearer f n a b (chosen f n a b)) (chosen f n a b)

-- ---- several people

abbrev pub among : ℕ → List Seat → Bool
among k [] = false
among k (s ∷ ss) = s.0 == k || among k ss

-- the words once the span is taken out of a seat, and out of several, one after the other
abbrev pub drawn : (ℕ → ℕ) → (a b s : ℕ) → ℕ → ℕ
drawn f a b s k = cond (k == s) (less (f k) a b) (f k)

abbrev pub drawn_all : (ℕ → ℕ) → (a b : ℕ) → List Seat → ℕ → ℕ
drawn_all f a b [] = f
drawn_all f a b (s ∷ ss) = drawn_all (drawn f a b s.0) a b ss

abbrev pub follow : Option Seat → (Seat → List Seat) → List Seat
follow None g = []
follow (Some s) g = g s

-- the seats for m people, or as many as there are: for each by the rule, given what those before took
unfoldable pub group : (m : ℕ) → (ℕ → ℕ) → (n a b : ℕ) → List Seat
group zero f n a b = []
group (suc m) f n a b = follow (chosen f n a b) (λ s. s ∷ group m (drawn f a b s.0) n a b)

-- how many seats cover the span
unfoldable pub free : (ℕ → ℕ) → (n a b : ℕ) → ℕ
free f zero a b = 0
free f (suc n) a b = cond (covered (f n) a b) 1 0 + free f n a b

-- ---- kept back

-- the lowest of n seats of which anything is held, if there is one
unfoldable pub lowest : (ℕ → ℕ) → (n : ℕ) → Option Seat
lowest f zero = None
lowest f (suc n) = option_or (lowest f n) (cond (f n == 0) None (Some (record { 0 = n })))

-- the words when nothing is held of a seat that is kept back
abbrev pub beside : Option Seat → (ℕ → ℕ) → ℕ → ℕ
beside None f k = f k
beside (Some s) f k = cond (k == s.0) 0 (f k)
