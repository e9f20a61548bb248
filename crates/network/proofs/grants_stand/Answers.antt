use Rattle.network.proofs.Granted.{grants}
use Rattle.network.proofs.grants_stand.Goals as goal

pub returns : goal.returns
returns c = grants
