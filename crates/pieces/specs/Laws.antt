-- What holds of every word.
use Rattle.std.specs.Prelude.{◌≡◌, ℕ, suc, ◌^◌, ◌<◌, ◌≤◌, true, false, ◌⊎◌, ◌≢◌}
use Rattle.pieces.specs.Stretches.{holds, Covers, Clear, less, plus, FirstOf, EndOf}

-- what was taken out and is put back, and what was put in and is taken out again, leaves the word as it was
abbrev pub PutsBack : Type 0
PutsBack = ((w a b : ℕ) → a < b → Covers w a b → plus (less w a b) a b ≡ w) × ((w a b : ℕ) → a < b → Clear w a b → less (plus w a b) a b ≡ w)

-- the stretches from a to b are held, and none right before or right behind them
pub record IsRun (w a b : ℕ) : Type 0 where
  pub ordered : a < b
  pub all : Covers w a b
  pub first : (k : ℕ) → suc k ≡ a → holds w k ≡ false
  pub last : holds w b ≡ false

-- each held stretch lies in a run
abbrev pub InARun : Type 0
InARun = (w k : ℕ) → holds w k ≡ true → (a : ℕ) × (b : ℕ) × (a ≤ k) × (k < b) × IsRun w a b

-- two runs of a word are the same, or a stretch that is not held lies between them
abbrev pub Apart : Type 0
Apart = (w a b c d : ℕ) → IsRun w a b → IsRun w c d → ((a ≡ c) × (b ≡ d)) ⊎ ((b < c) ⊎ (d < a))

-- what begins and ends a run around a span, of a word with no stretch behind stop 29, is a run
abbrev pub Around : Type 0
Around = (w a b s e : ℕ) → w < 2 ^ 29 → a < b → Covers w a b → FirstOf w a s → EndOf w b e → IsRun w s e

abbrev pub Runs : Type 0
Runs = InARun × Apart × Around

-- a word is not 0 exactly if some stretch of it is held
abbrev pub Something : Type 0
Something = (w : ℕ) → ((w ≢ 0) → (k : ℕ) × (holds w k ≡ true)) × ((k : ℕ) → holds w k ≡ true → w ≢ 0)
