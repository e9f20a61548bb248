use Rattle.std.proofs.Common.{◌≡◌, ◌==◌, false, take}
use Rattle.std.specs.List.{list_any}
use Rattle.pieces.specs.declared.names.Seat.{Seat}
use Rattle.choosing.proofs.choice.is_taken.Given as goal

abbrev pub invariant-loop-other : goal.invariant-loop-other
invariant-loop-other l = list_any (λ (s : Seat). s.0 == l.seat.0) (take l.other-index l.taken) ≡ false
