use Rattle.receiving.proofs.Lowest.{lowest_wins}
use Rattle.receiving.proofs.lowest_wins_stands.Goals as goal

pub returns : goal.returns
returns c = lowest_wins
