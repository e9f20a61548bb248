use Rattle.network.proofs.Numbers.{asks_rise}
use Rattle.network.proofs.asks_rise_stands.Goals as goal

pub returns : goal.returns
returns c = asks_rise
