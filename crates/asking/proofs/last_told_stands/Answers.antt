use Rattle.asking.proofs.LastTold.{last_told}
use Rattle.asking.proofs.last_told_stands.Goals as goal

pub returns : goal.returns
returns c = last_told
