use Rattle.files.proofs.Laws as files
use Rattle.recovery.proofs.Rises.{in_parts}
use Rattle.recovery.proofs.parts_stand.Goals as goal

pub returns : goal.returns
returns c = in_parts files.in_parts
