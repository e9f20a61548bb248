use Rattle.network.proofs.Arrive.{arrives}
use Rattle.network.proofs.arrives_stands.Goals as goal

pub returns : goal.returns
returns c = arrives
