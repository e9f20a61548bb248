use Rattle.std.proofs.Common.{◌≡◌, length, drop}
use Rattle.pieces.specs.Memory.{altered_all}
use Rattle.pieces.proofs.memory.lent.change_all_at.Given as goal

abbrev pub invariant-loop-seat : goal.invariant-loop-seat
invariant-loop-seat g l =
    (length l.all ≡ 25600)
    × (altered_all g.C.Change.changed l.all l.place (drop l.seat-index l.seats) l.trip.from.0 l.trip.to.0
    ≡ altered_all g.C.Change.changed l.initial.all l.place l.seats l.trip.from.0 l.trip.to.0)
