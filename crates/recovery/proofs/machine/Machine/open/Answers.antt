use Rattle.std.proofs.Common.{vec_items, arith}
use Rattle.ledger.specs.Decisions.{records}
use Rattle.recovery.proofs.Sizes.{records_most, step_most}
use Rattle.recovery.proofs.machine.Machine.open.Goals as goal

pub write_down-requires : goal.write_down-requires
write_down-requires c =
    let m = step_most (vec_items c.args.self.now.records) (records c.open-outcome.result) (vec_items c.open-outcome.new.journal) c.open-outcome.ensures.written (omega arith) (records_most c.open-outcome.result) in
    omega (arith, m, c.in_ok-reserve.ensures.ok)
