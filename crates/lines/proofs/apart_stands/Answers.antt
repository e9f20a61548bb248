use Rattle.lines.proofs.Laws.{apart}
use Rattle.lines.proofs.apart_stands.Goals as goal

pub returns : goal.returns
returns c = apart
