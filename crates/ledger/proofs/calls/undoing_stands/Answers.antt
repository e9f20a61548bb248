use Rattle.ledger.proofs.Undone.{sells_back}
use Rattle.ledger.proofs.calls.undoing_stands.Goals as goal

pub returns : goal.returns
returns c = sells_back
