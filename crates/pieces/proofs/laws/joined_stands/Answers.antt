use Rattle.pieces.proofs.Runs.{runs_stand}
use Rattle.pieces.proofs.laws.joined_stands.Goals as goal

pub returns : goal.returns
returns c = runs_stand
