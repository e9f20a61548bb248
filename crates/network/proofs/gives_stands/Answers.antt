use Rattle.network.proofs.Alone.{gives}
use Rattle.network.proofs.gives_stands.Goals as goal

pub returns : goal.returns
returns c = gives
