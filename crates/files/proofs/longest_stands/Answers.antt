use Rattle.files.proofs.Laws.{longest}
use Rattle.files.proofs.longest_stands.Goals as goal

pub returns : goal.returns
returns c = longest
