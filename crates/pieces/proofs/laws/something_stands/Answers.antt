use Rattle.pieces.proofs.Anything.{something}
use Rattle.pieces.proofs.laws.something_stands.Goals as goal

pub returns : goal.returns
returns c = something
