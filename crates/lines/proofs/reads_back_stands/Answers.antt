use Rattle.lines.proofs.Laws.{reads_back}
use Rattle.lines.proofs.reads_back_stands.Goals as goal

pub returns : goal.returns
returns c = reads_back
