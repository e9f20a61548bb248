use Rattle.network.proofs.Promised.{everywhere}
use Rattle.network.proofs.promises_stand.Goals as goal

pub returns : goal.returns
returns c = everywhere
