use Rattle.std.proofs.Common.{rules}
use Rattle.ledger.proofs.Gifts.{gifts_count}
use Rattle.ledger.proofs.calls.record_count.Goals as goal

pub returns-in-Gave : goal.returns-in-Gave
returns-in-Gave c = search (rules, gifts_count)
