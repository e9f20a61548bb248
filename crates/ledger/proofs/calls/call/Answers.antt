use Rattle.std.proofs.Common.{rules}
use Rattle.ledger.proofs.Decided.{outcome_fits, outcome_numbered}
use Rattle.ledger.proofs.calls.call.Goals as goal

pub settle-requires : goal.settle-requires
settle-requires c = search (rules, outcome_fits, outcome_numbered)

pub say-requires : goal.say-requires
say-requires c = search (rules, outcome_numbered)
