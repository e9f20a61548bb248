use Rattle.pieces.proofs.Runs.{puts_back}
use Rattle.pieces.proofs.laws.put_back_stands.Goals as goal

pub returns : goal.returns
returns c = puts_back
