use Rattle.network.proofs.Granted.{keeps}
use Rattle.network.proofs.keeps_stands.Goals as goal

pub returns : goal.returns
returns c = keeps
