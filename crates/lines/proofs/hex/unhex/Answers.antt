use Rattle.std.proofs.Common.{◌∙◌, sym}
use Rattle.lines.proofs.Digits.{reads-more}
use Rattle.lines.proofs.hex.unhex.Goals as goal

pub loop-left-preserved : goal.loop-left-preserved
loop-left-preserved c =
    rw c.in_ok-push.ensures.items (reads-more _ c.loop-left.found.items c.loop-left.left.now c.in-Some.byte c.loop-left.invariant c.in-len2-up.len_at_least (sym c.pair_value.ensures ∙ c.in-Some.is))
