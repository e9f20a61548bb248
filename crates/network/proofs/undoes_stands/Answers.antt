use Rattle.network.proofs.Undoing.{undoes}
use Rattle.network.proofs.undoes_stands.Goals as goal

pub returns : goal.returns
returns c = undoes
