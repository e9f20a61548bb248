use Rattle.lines.proofs.Laws.{reads_back}
use Rattle.recovery.proofs.Alone.{alone}
use Rattle.recovery.proofs.alone_stands.Goals as goal

pub returns : goal.returns
returns c = alone reads_back.1
