use Rattle.network.proofs.Sales.{keeps_none}
use Rattle.network.proofs.keeps_none_stands.Goals as goal

pub returns : goal.returns
returns c = keeps_none
