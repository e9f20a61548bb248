use Rattle.std.proofs.Common.{length}
use Rattle.files.proofs.Reached.{Reached}
use Rattle.files.proofs.whole.whole.Given as goal

abbrev pub invariant-loop-behind : goal.invariant-loop-behind
invariant-loop-behind l = Reached l.file l.rest

abbrev pub decreases-loop-behind : goal.decreases-loop-behind
decreases-loop-behind l = length l.rest
