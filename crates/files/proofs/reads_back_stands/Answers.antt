use Rattle.files.proofs.Records.{again, back}
use Rattle.files.proofs.reads_back_stands.Goals as goal

pub returns : goal.returns
returns c = (again, back)
