-- The number of each refusal, and what it prints.
use Rattle.std.specs.Prelude.{ℕ, List, Some, None, Option, codes, decimal}
use Rattle.giving.specs.declared.refusal.Refusal.{Refusal}
use Rattle.giving.specs.declared.refusal.Refusal.TheVariants.{Malformed, OutOfTurn, NotOpen, NothingHeld, NoSuchTicket, Full, NoSuchStation, Memory}

abbrev pub number : Refusal → Option ℕ
number Malformed = Some 1
number OutOfTurn = Some 2
number NotOpen = Some 3
number NothingHeld = Some 4
number NoSuchTicket = Some 5
number Full = Some 6
number NoSuchStation = Some 7
number Memory = None

-- what a refusal prints
abbrev pub printed : Refusal → List ℕ
printed r = elim (number r) [ Some n ↦ decimal n | None ↦ codes "memory" ]
