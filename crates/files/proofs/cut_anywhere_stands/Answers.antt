use Rattle.files.proofs.Laws.{cut_anywhere}
use Rattle.files.proofs.cut_anywhere_stands.Goals as goal

pub returns : goal.returns
returns c = cut_anywhere
