use Rattle.network.proofs.Grow.{grows}
use Rattle.network.proofs.grows_stands.Goals as goal

pub returns : goal.returns
returns c = grows
