use Rattle.network.proofs.Once.{once}
use Rattle.network.proofs.one_place_stands.Goals as goal

pub returns : goal.returns
returns c = once
