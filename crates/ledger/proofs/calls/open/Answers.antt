use Rattle.std.proofs.Common.{rules}
use Rattle.ledger.proofs.Decided.{opens_one}
use Rattle.ledger.proofs.calls.open.Goals as goal

pub write-requires : goal.write-requires
write-requires c = search (rules, opens_one)
