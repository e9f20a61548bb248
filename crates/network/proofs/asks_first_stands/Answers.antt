use Rattle.network.proofs.Turns.{asks_first}
use Rattle.network.proofs.asks_first_stands.Goals as goal

pub returns : goal.returns
returns c = asks_first
