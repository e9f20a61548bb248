use Rattle.std.proofs.Common.{arith, ◌≢◌, get_or}
use Rattle.script.proofs.Numbers.{number-parsed}
use Rattle.script.proofs.command.number.Goals as goal

pub returns : goal.returns
returns c =
    let plain : get_or c.args.word.now 0 0 ≢ 43 = grind (arith, c.starts_with.ensures.byte, c.if-starts_with.false) in
    grind (arith, number-parsed c.args.word.now c.parse.result c.parse.ensures.value.0 plain)
