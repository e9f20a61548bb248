use Rattle.files.proofs.Laws.{one_reading}
use Rattle.files.proofs.one_reading_stands.Goals as goal

pub returns : goal.returns
returns c = one_reading
