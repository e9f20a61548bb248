use Rattle.std.proofs.Common.{◌≤◌, vec_len, vec_capacity, rules}
use Rattle.ledger.proofs.Memory.{unwritten_by}
use Rattle.ledger.proofs.calls.make_ready.Goals as goal

pub returns-in_err-reserve-2-clause-cases : goal.returns-in_err-reserve-2-clause-cases
returns-in_err-reserve-2-clause-cases c =
    let j = c.args.journal.now in
    let l : vec_len j ≤ vec_capacity j = search rules in
    search (rules, unwritten_by c.args.station.now j c.args.outcome c.record_count.result)
