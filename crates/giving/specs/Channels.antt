-- A channel as plain numbers and a list, and what may happen to it.
use Rattle.std.specs.Prelude.{ℕ, ◌+◌, ◌-◌, max, Bool, cond, not, ◌&&◌, List, [], ◌∷◌, ◌++◌, length, drop, sum_by, ◌==◌, nat_le, nat_lt, slice_index_or}
use Rattle.std.specs.declared.cmp.Ordering.TheVariants.{Less, Equal, Greater}
use Rattle.std.specs.declared.cmp.Ordering.{Ordering}
use Rattle.std.specs.VecDeque.{deque_items}
use Rattle.giving.specs.declared.channel.Channel.{Channel}
use Rattle.pieces.specs.declared.piece.Piece.{Piece}

pub record Chan : Type 0 where
  pub given : ℕ
  pub heard : ℕ
  pub taken : ℕ
  pub answered : ℕ
  pub waiting : List Piece

abbrev pub chan : Channel → Chan
chan c = record { given = c.given.0; heard = c.heard.0; taken = c.taken.0; answered = c.answered.0; waiting = deque_items c.waiting }

abbrev pub fresh : Chan
fresh = record { given = 0; heard = 0; taken = 0; answered = 0; waiting = [] }

-- the next number is used for a piece, which then waits; it is given for ask a, or for none where that is 0
abbrev pub gave : Chan → ℕ → Piece → Chan
gave c a p = record c { given = c.given + 1; answered = max c.answered a; waiting = c.waiting ++ p ∷ [] }

-- an ask is answered, with nothing
abbrev pub declined : Chan → ℕ → Chan
declined c a = record c { answered = max c.answered a }

-- the other station has taken all up to a number
abbrev pub heard_to : Chan → ℕ → Chan
heard_to c n = record c { heard = max c.heard n; waiting = drop (n - c.heard) c.waiting }

-- the other station's next number is taken
abbrev pub took : Chan → Chan
took c = record c { taken = c.taken + 1 }

-- a number is left
abbrev pub numbered : Chan → Bool
numbered c = nat_lt c.given 4294967295

-- the ask is later than all that were answered
abbrev pub unanswered : Chan → ℕ → Bool
unanswered c a = nat_lt c.answered a

-- the number was given, and is not yet acknowledged
abbrev pub news : Chan → ℕ → Bool
news c n = nat_lt c.heard n && nat_le n c.given

-- how a number stands to the next one that is to be taken
abbrev pub stands : Chan → ℕ → Ordering
stands c n = cond (nat_le n c.taken) Less (cond (n == c.taken + 1) Equal Greater)

-- how many pieces wait in all channels together
abbrev pub all_waiting : List Chan → ℕ
all_waiting cs = sum_by (λ c. length c.waiting) cs

-- a piece more may wait
abbrev pub roomy : List Chan → Bool
roomy cs = nat_lt (all_waiting cs) 4096

abbrev pub line : List Chan → ℕ → Chan
line cs k = slice_index_or cs k fresh

-- a station that is there, and not this one itself
abbrev pub other : ℕ → List Chan → ℕ → Bool
other me cs k = nat_lt k (length cs) && not (k == me)
