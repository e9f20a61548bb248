-- The seats of all open trains as one list of words, 400 to a place.
use Rattle.std.specs.Prelude.{ℕ, ◌+◌, ◌-◌, ◌*◌, Bool, true, ◌&&◌, List, [], ◌∷◌, ◌++◌, take, drop, replicate, nat_lt, slice_index, slice_set}
use Rattle.pieces.specs.Stretches.{covered, less, plus}
use Rattle.pieces.specs.declared.names.Seat.{Seat}

-- where the word of a seat of the train at a place stands
abbrev pub at : (place seat : ℕ) → ℕ
at k s = k * 400 + s

abbrev pub word_at : List ℕ → (place seat : ℕ) → ℕ
word_at ws k s = slice_index ws (at k s)

-- a change of one seat's word on the stretches from a stop to a stop
abbrev pub Changing : Type 0
Changing = (word a b : ℕ) → ℕ

-- the words with the word of one seat changed on the stretches from stop a to stop b
abbrev pub altered : Changing → List ℕ → (place seat a b : ℕ) → List ℕ
altered f ws k s a b = slice_set ws (at k s) (f (word_at ws k s) a b)

-- the same of several seats, one after the other
abbrev pub altered_all : Changing → List ℕ → (place : ℕ) → List Seat → (a b : ℕ) → List ℕ
altered_all f ws k [] a b = ws
altered_all f ws k (s ∷ ss) a b = altered_all f (altered f ws k s.0 a b) k ss a b

-- the words without the stretches from stop a to stop b of one seat, and with them
abbrev pub without : List ℕ → (place seat a b : ℕ) → List ℕ
without = altered less

abbrev pub together : List ℕ → (place seat a b : ℕ) → List ℕ
together = altered plus

-- the same of several seats
abbrev pub without_all : List ℕ → (place : ℕ) → List Seat → (a b : ℕ) → List ℕ
without_all = altered_all less

abbrev pub together_all : List ℕ → (place : ℕ) → List Seat → (a b : ℕ) → List ℕ
together_all = altered_all plus

-- each of several seats covers the span, when it is taken out of those before
abbrev pub covered_all : List ℕ → (place : ℕ) → List Seat → (a b : ℕ) → Bool
covered_all ws k [] a b = true
covered_all ws k (s ∷ ss) a b = (nat_lt s.0 400 && covered (word_at ws k s.0) a b) && covered_all (without ws k s.0 a b) k ss a b

-- the words of a train's seats at its opening: n seats with the same word, and no seat behind them
abbrev pub seated : (n word : ℕ) → List ℕ
seated n w = replicate n w ++ replicate (400 - n) 0

-- the words of the train at a place, and the words with them written anew
abbrev pub train_at : List ℕ → (place : ℕ) → List ℕ
train_at ws k = take 400 (drop (k * 400) ws)

abbrev pub placed : List ℕ → (place : ℕ) → List ℕ → List ℕ
placed ws k vs = take (k * 400) ws ++ (vs ++ drop (k * 400 + 400) ws)
