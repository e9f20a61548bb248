use Rattle.network.proofs.Once.{only}
use Rattle.network.proofs.only_what_is_stands.Goals as goal

pub returns : goal.returns
returns c = only
