use Rattle.network.proofs.Once.{twice}
use Rattle.network.proofs.never_twice_stands.Goals as goal

pub returns : goal.returns
returns c = twice
