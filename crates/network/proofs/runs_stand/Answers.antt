use Rattle.network.proofs.Bridge.{runs}
use Rattle.network.proofs.runs_stand.Goals as goal

pub returns : goal.returns
returns c = runs
