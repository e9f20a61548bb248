use Rattle.network.proofs.Asked.{answers_once}
use Rattle.network.proofs.answers_once_stands.Goals as goal

pub returns : goal.returns
returns c = answers_once
