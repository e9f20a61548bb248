use Rattle.std.proofs.Common.{length}
use Rattle.lines.proofs.Digits.{Reads}
use Rattle.lines.specs.Hex.{hex_value}
use Rattle.lines.proofs.hex.unhex.Given as goal

abbrev pub invariant-loop-left : goal.invariant-loop-left
invariant-loop-left l = Reads (hex_value l.fn.text) l.found.items l.left

abbrev pub decreases-loop-left : goal.decreases-loop-left
decreases-loop-left l = length l.left
