use Rattle.network.proofs.Alone.{alone}
use Rattle.network.proofs.sells_alone_stands.Goals as goal

pub returns : goal.returns
returns c = alone
