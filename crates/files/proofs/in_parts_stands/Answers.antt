use Rattle.files.proofs.Laws.{in_parts}
use Rattle.files.proofs.in_parts_stands.Goals as goal

pub returns : goal.returns
returns c = in_parts
