use Rattle.std.proofs.Common.{refl}
use Rattle.pieces.proofs.Around.{spare_is}
use Rattle.pieces.proofs.words.leftover.Goals as goal

pub returns : goal.returns
returns c =
    let run = c.in_ok-run.ensures in
    (run.0, spare_is _ _ _ _ _ run.1 run.2, (_, _, run.1, run.2, refl))
