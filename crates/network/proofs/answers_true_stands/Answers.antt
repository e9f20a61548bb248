use Rattle.network.proofs.Asked.{answers_true}
use Rattle.network.proofs.answers_true_stands.Goals as goal

pub returns : goal.returns
returns c = answers_true
