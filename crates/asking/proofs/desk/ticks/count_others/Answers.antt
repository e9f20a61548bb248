use Rattle.std.proofs.Common.{length, arith}
use Rattle.asking.proofs.Listed.{others_length}
use Rattle.asking.proofs.desk.ticks.count_others.Goals as goal
use Rattle.std.proofs.lemmas.Bool.Decides.{nat_tests}
use Rattle.state.specs.Views.{view}

pub returns : goal.returns
returns c =
    let s = view c.args.station.now in
    grind (arith, nat_tests, others_length s.me (length s.channels))
