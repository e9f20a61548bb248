use Rattle.std.proofs.Common.{◌-◌, arith}
use Rattle.pieces.proofs.Around.{first_count}
use Rattle.pieces.proofs.Counts.{start_run, two_steps}
use Rattle.pieces.proofs.words.run_start.Goals as goal

pub overflow_sub-result : goal.overflow_sub-result
overflow_sub-result c =
    let a = c.args.from.0 in
    (start_run c.args.word a (64 - a) _ _ (omega arith) (two_steps c.args.word a (omega arith)) c.leading_ones-run.ensures).0

pub returns : goal.returns
returns c =
    let a = c.args.from.0 in
    let f = (start_run c.args.word a (64 - a) _ _ (omega arith) (two_steps c.args.word a (omega arith)) c.leading_ones-run.ensures).1 in
    record { value = first_count _ _ _ f; run = f }
