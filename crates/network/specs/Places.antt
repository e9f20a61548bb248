-- Where a stretch of a seat is.
use Rattle.std.specs.Prelude.{ℕ, zero, suc, ◌+◌, ◌-◌, Bool, cond, List, [], ◌∷◌, ◌++◌, drop, replicate, Some, None, Option, codes, decimal}
use Rattle.choosing.specs.Parties.{pieces_of}
use Rattle.choosing.specs.declared.party.Party.{Party}
use Rattle.state.specs.States.{State, place}
use Rattle.network.specs.Worlds.{channel}
use Rattle.network.specs.declared.place.Place.{Place}
use Rattle.network.specs.declared.place.Place.TheVariants.{Held, Sold, Way}
use Rattle.pieces.specs.Memory.{word_at}
use Rattle.pieces.specs.Parts.{has}
use Rattle.pieces.specs.Stretches.{holds}
use Rattle.pieces.specs.declared.names.Train.{Train}
use Rattle.pieces.specs.declared.piece.Piece.{Piece}

-- the stretch from stop u to the next, of seat s of train t, is held
abbrev pub holding : Train → (seat stop : ℕ) → State → Bool
holding t s u x = holds (word_at x.words (place x t) s) u

-- how many pieces of a list have it
unfoldable pub count_in : Train → (seat stop : ℕ) → List Piece → ℕ
count_in t s u [] = 0
count_in t s u (p ∷ ps) = cond (has t.0 s u p) (1 + count_in t s u ps) (count_in t s u ps)

-- the pieces of the tickets that stand
abbrev pub sold_by : Option Party → List Piece
sold_by (Some p) = pieces_of p
sold_by None = []

unfoldable pub standing : List (Option Party) → List Piece
standing [] = []
standing (x ∷ xs) = sold_by x ++ standing xs

-- the pieces on their way from i, at a state x, to j, at a state y: what waits at i, without what j has taken and i has not heard of
abbrev pub under_way : (i j : ℕ) → State → State → List Piece
under_way i j x y = drop ((channel y i).taken - (channel x j).heard) (channel x j).waiting

-- f 0, f 1 and so on, one behind the other
unfoldable pub gather : {A : Type 0} → ℕ → (ℕ → List A) → List A
gather zero f = []
gather (suc n) f = gather n f ++ f n

-- all places of it that station i knows of: it holds it, it has sold it, it has given it and nobody has taken it yet
abbrev pub spots : (n : ℕ) → Train → (seat stop : ℕ) → (ℕ → State) → (i : ℕ) → List Place
spots n t s u x i =
    cond (holding t s u (x i)) (Held (record { 0 = i }) ∷ []) []
    ++ (replicate (count_in t s u (standing (x i).tickets)) (Sold (record { 0 = i }))
    ++ gather n (λ j. replicate (count_in t s u (under_way i j (x i) (x j))) (Way (record { 0 = i }) (record { 0 = j }))))

-- all places where it is, of n stations with the states x, by station
abbrev pub places : (n : ℕ) → Train → (seat stop : ℕ) → (ℕ → State) → List Place
places n t s u x = gather n (spots n t s u x)

-- what a place prints
abbrev pub printed : Place → List ℕ
printed (Held i) = codes "held " ++ decimal i.0
printed (Sold i) = codes "sold " ++ decimal i.0
printed (Way i j) = codes "way " ++ decimal i.0 ++ codes " " ++ decimal j.0
