use Rattle.network.proofs.Sites.{remembers}
use Rattle.network.proofs.remembers_stands.Goals as goal

pub returns : goal.returns
returns c = remembers
