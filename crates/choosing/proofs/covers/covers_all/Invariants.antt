use Rattle.std.proofs.Common.{◌≡◌, true, take}
use Rattle.pieces.specs.Memory.{covered_all}
use Rattle.choosing.proofs.covers.covers_all.Given as goal

abbrev pub invariant-loop-index : goal.invariant-loop-index
invariant-loop-index l = covered_all l.memory.words.items l.slot.index (take l.index l.seats) l.party.trip.from.0 l.party.trip.to.0 ≡ true
