use Rattle.asking.proofs.Rounds.{goes_round}
use Rattle.asking.proofs.goes_round_stands.Goals as goal

pub returns : goal.returns
returns c = goes_round
