use Rattle.lines.proofs.Laws.{refuses}
use Rattle.lines.proofs.refuses_stands.Goals as goal

pub returns : goal.returns
returns c = refuses
