-- Which stretches of a seat are held, as the bits of one word: bit k is the stretch from stop k to k + 1.
use Rattle.std.specs.Prelude.{◌≡◌, ℕ, zero, suc, ◌+◌, ◌-◌, ◌/◌, ◌%◌, ◌^◌, ◌<◌, ◌≤◌, Bool, true, false, cond, ◌&&◌, ◌||◌, ◌==◌, bit_and, bit_or, bit_xor, nat_le, nat_lt}

-- stretch k is held
unfoldable pub holds : ℕ → ℕ → Bool
holds w k = w / 2 ^ k % 2 == 1

-- stretch k lies on the span from a to b
abbrev pub within : ℕ → ℕ → ℕ → Bool
within a b k = nat_le a k && nat_lt k b

-- each stretch of the span from a to b is held
abbrev pub Covers : ℕ → ℕ → ℕ → Type 0
Covers w a b = (k : ℕ) → a ≤ k → k < b → holds w k ≡ true

-- no stretch of the span from a to b is held
abbrev pub Clear : ℕ → ℕ → ℕ → Type 0
Clear w a b = (k : ℕ) → a ≤ k → k < b → holds w k ≡ false

-- `Covers` as a test
unfoldable pub covered : ℕ → ℕ → ℕ → Bool
covered w a zero = true
covered w a (suc k) = (nat_lt k a || holds w k) && covered w a k

-- the word of the span from a to b, and a word less or with that span
unfoldable pub span : ℕ → ℕ → ℕ
span a b = 2 ^ b - 2 ^ a

unfoldable pub less : ℕ → ℕ → ℕ → ℕ
less w a b = bit_xor w (bit_and w (span a b))

unfoldable pub plus : ℕ → ℕ → ℕ → ℕ
plus w a b = bit_or w (span a b)

-- how many stretches right before stop a are held without a gap
unfoldable pub before : ℕ → ℕ → ℕ
before w zero = 0
before w (suc k) = cond (holds w k) (suc (before w k)) 0

-- how many of the n stretches from stop k on are held without a gap
unfoldable pub behind : ℕ → ℕ → ℕ → ℕ
behind w k zero = 0
behind w k (suc n) = cond (holds w k) (suc (behind w (suc k) n)) 0

-- what is left beside the span from a to b in the run around it, up to stop 29
unfoldable pub spare : ℕ → ℕ → ℕ → ℕ
spare w a b = before w a + behind w b (29 - b)

-- s is where the run that ends at stop a begins
pub record FirstOf (w a s : ℕ) : Type 0 where
  pub below : s ≤ a
  pub all : Covers w s a
  pub stops : (k : ℕ) → suc k ≡ s → holds w k ≡ false

-- e is where the run that begins at stop b ends: no stop lies behind stop 29
pub record EndOf (w b e : ℕ) : Type 0 where
  pub above : b ≤ e
  pub near : e ≤ 29
  pub all : Covers w b e
  pub stops : e < 29 → holds w e ≡ false

-- the run around the span from a to b has n stretches beside it
abbrev pub Beside : ℕ → ℕ → ℕ → ℕ → Type 0
Beside w a b n = (s : ℕ) × (e : ℕ) × FirstOf w a s × EndOf w b e × (n ≡ (a - s) + (e - b))
