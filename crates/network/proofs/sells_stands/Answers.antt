use Rattle.network.proofs.Alone.{sells}
use Rattle.network.proofs.sells_stands.Goals as goal

pub returns : goal.returns
returns c = sells
