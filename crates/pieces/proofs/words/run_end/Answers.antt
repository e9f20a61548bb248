use Rattle.std.proofs.Common.{refl, arith}
use Rattle.pieces.proofs.Around.{end_count}
use Rattle.pieces.proofs.Counts.{end_run}
use Rattle.pieces.proofs.words.run_end.Goals as goal

pub returns : goal.returns
returns c =
    let e = end_run c.args.word c.args.to.0 _ (omega arith) (omega arith) refl in
    record { value = end_count _ _ _ e; run = e }
