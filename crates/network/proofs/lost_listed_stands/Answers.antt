use Rattle.network.proofs.Lost.{lost_listed}
use Rattle.network.proofs.lost_listed_stands.Goals as goal

pub returns : goal.returns
returns c = lost_listed
