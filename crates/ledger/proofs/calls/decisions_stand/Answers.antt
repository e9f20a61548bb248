use Rattle.ledger.proofs.Decided.{decisions_fit}
use Rattle.ledger.proofs.calls.decisions_stand.Goals as goal

pub returns : goal.returns
returns c = decisions_fit
