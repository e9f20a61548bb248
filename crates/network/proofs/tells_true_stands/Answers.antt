use Rattle.network.proofs.Tallies.{tells_true}
use Rattle.network.proofs.tells_true_stands.Goals as goal

pub returns : goal.returns
returns c = tells_true
