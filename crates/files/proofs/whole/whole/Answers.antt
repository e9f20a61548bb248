use Rattle.std.proofs.Common.{arith}
use Rattle.lines.specs.Bytes.{AreBytes}
use Rattle.files.proofs.Reached.{reached_end, reached_next, reached_start}
use Rattle.files.proofs.whole.whole.Goals as goal

pub loop-behind-init : goal.loop-behind-init
loop-behind-init c = reached_start _

pub loop-behind-preserved : goal.loop-behind-preserved
loop-behind-preserved c = search (reached_next, c.in-Ok.ensures.value, c.in-Ok.ensures.shorter)

pub returns-in_default : goal.returns-in_default
returns-in_default c =
    let bytes : AreBytes c.args.file.now = λ i. omega (arith, c.type_inv.file i) in
    search (reached_end, c.in_default.ensures.value)
