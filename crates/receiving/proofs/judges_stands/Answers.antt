use Rattle.receiving.proofs.Judging.{judges}
use Rattle.receiving.proofs.judges_stands.Goals as goal

pub returns : goal.returns
returns c = judges
