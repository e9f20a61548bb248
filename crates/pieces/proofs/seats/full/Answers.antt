use Rattle.std.proofs.Common.{◌-◌, arith}
use Rattle.std.proofs.lemmas.Nat.{one_shl}
use Rattle.pieces.specs.Stretches.{span}
use Rattle.pieces.proofs.seats.full.Goals as goal

pub returns : goal.returns
unfolding span
returns c = omega (arith, one_shl (c.args.stops - 1) 64 (omega arith))
