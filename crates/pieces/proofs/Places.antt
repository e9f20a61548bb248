-- The words of the memory after a change. Assumes nothing.
use Rattle.std.proofs.Common.{◌≡◌, ℕ, ◌+◌, ◌*◌, ◌<◌, ◌≤◌, List, length, get_or, set, arith}
use Rattle.std.proofs.lemmas.List.{places, get_or-set_same, get_or-set_other}
use Rattle.pieces.specs.Memory.{at, word_at, seated, placed}

-- ---- the word of one seat is written

pub word_set : (ws : List ℕ) (k s v : ℕ) → at k s < length ws → word_at (set ws (at k s) v) k s ≡ v
word_set ws k s v h = get_or-set_same ws (at k s) v 0 h

-- every other seat keeps its word
pub word_set_other : (ws : List ℕ) (k s v j t : ℕ) → s < 400 → t < 400 → ((j ≡ k) × (t ≡ s) → ⊥) → word_at (set ws (at k s) v) j t ≡ word_at ws j t
word_set_other ws k s v j t h i n = get_or-set_other ws (at k s) (at j t) v 0 (λ e. n (omega arith, omega arith))

-- ---- a place written anew

pub length_seated : (n w : ℕ) → n ≤ 400 → length (seated n w) ≡ 400
length_seated n w h = grind (arith, places)

pub seated_in : (n w s : ℕ) → s < n → get_or (seated n w) s 0 ≡ w
seated_in n w s h = grind (arith, places)

pub seated_out : (n w s : ℕ) → n ≤ s → get_or (seated n w) s 0 ≡ 0
seated_out n w s h = grind (arith, places)

module _ (ws vs : List ℕ) (k : ℕ) (near : k * 400 + 400 ≤ length ws) (long : length vs ≡ 400) where
  pub length_placed : length (placed ws k vs) ≡ length ws
  length_placed = grind (arith, places)

  pub word_placed : (t : ℕ) → t < 400 → word_at (placed ws k vs) k t ≡ get_or vs t 0
  word_placed t h = grind (arith, places)

  -- the trains at other places keep their words
  pub word_placed_other : (j t : ℕ) → t < 400 → (j ≡ k → ⊥) → word_at (placed ws k vs) j t ≡ word_at ws j t
  word_placed_other j t h n = grind (arith, places)
