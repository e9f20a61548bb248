use Rattle.files.proofs.Firm.{still_bad}
use Rattle.files.proofs.bad_stays_stand.Goals as goal

pub returns : goal.returns
returns c = still_bad
