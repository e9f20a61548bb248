use Rattle.asking.proofs.TurnStations.{in_turn}
use Rattle.asking.proofs.asks_in_turn_stands.Goals as goal

pub returns : goal.returns
returns c = in_turn
