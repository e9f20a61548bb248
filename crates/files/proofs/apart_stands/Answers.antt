use Rattle.files.proofs.Laws.{apart}
use Rattle.files.proofs.apart_stands.Goals as goal

pub returns : goal.returns
returns c = apart
