-- The message that some bytes are, or the first fault that is met.
use Rattle.std.specs.Prelude.{ℕ, cond, List, [], ◌∷◌, Result, Ok, Err, ◌==◌}
use Rattle.giving.specs.declared.message.Body.{Body}
use Rattle.giving.specs.declared.message.Body.TheVariants.{Given, Taken, Asked, Answered, Told}
use Rattle.lines.specs.Fields.{Reader, ◌>>=◌, then, made, byte, half, word, piece}
use Rattle.lines.specs.declared.fault.Fault.{Fault}
use Rattle.lines.specs.declared.fault.Fault.TheVariants.{Bad}
use Rattle.pieces.specs.declared.piece.Piece.{Piece}

-- ---- of each kind: what is made of what is read, and its reader

abbrev pub as_given : ℕ × Piece → Body
as_given x = Given (record { 0 = x.0 }) x.1

abbrev pub given : Reader Body
given = made as_given (then word (λ _. piece))

abbrev pub as_taken : ℕ → Body
as_taken n = Taken (record { 0 = n })

abbrev pub taken : Reader Body
taken = made as_taken word

abbrev pub as_asked : ℕ × (ℕ × (ℕ × (ℕ × ℕ))) → Body
as_asked x = Asked (record { 0 = x.1.1.1.1 }) (record { train = record { 0 = x.0 }; from = record { 0 = x.1.0 }; to = record { 0 = x.1.1.0 }; people = x.1.1.1.0 })

abbrev pub asked : Reader Body
asked = made as_asked (then word (λ _. then byte (λ _. then byte (λ _. then byte (λ _. word)))))

abbrev pub as_answered : ℕ × ℕ → Body
as_answered x = Answered (record { 0 = x.0 }) x.1

abbrev pub answered : Reader Body
answered = made as_answered (then word (λ _. byte))

abbrev pub as_told : ℕ × (ℕ × ℕ) → Body
as_told x = Told (record { 0 = x.0 }) (record { whole = x.1.0; any = x.1.1 })

abbrev pub told : Reader Body
told = made as_told (then word (λ _. then half (λ _. half)))

-- what a message of a kind says
abbrev pub of_kind : ℕ → Reader Body
of_kind k bs =
    cond (k == 1) (given bs)
    (cond (k == 2) (taken bs)
    (cond (k == 3) (asked bs)
    (cond (k == 4) (answered bs)
    (cond (k == 5) (told bs) (Err Bad)))))

-- the message that some bytes begin with, and the bytes behind it
abbrev pub first : Reader Body
first bs = do
  k ← byte bs
  of_kind k.0 k.1

-- nothing is behind a message
abbrev pub alone : Body → List ℕ → Result Body Fault
alone b [] = Ok b
alone b (c ∷ cs) = Err Bad

-- the message that bytes are, all of them
abbrev pub message : List ℕ → Result Body Fault
message bs = do
  x ← first bs
  alone x.0 x.1
