use Rattle.std.proofs.Common.{ap, ◌∙◌, sym}
use Rattle.recovery.proofs.Redone.{stopped_why}
use Rattle.recovery.proofs.machine.Machine.come_up.Goals as goal
use Rattle.recovery.specs.Rising.{risen}
use Rattle.state.specs.States.{State}
use Rattle.state.specs.Views.{view}
use Rattle.std.proofs.lemmas.Result.{err_from_is_err_and}
use Rattle.timetable.specs.Tables.{table}

pub returns-in_err-replay-clause-err : goal.returns-in_err-replay-clause-err
returns-in_err-replay-clause-err c =
    let n = c.in_ok-machine.ensures in
    let p = err_from_is_err_and c.from_residual-in_err-replay.result c.from_residual-in_err-replay.ensures.1 in
    rw (p.1, p.2, ← n.0) (stopped_why (table c.args.table.now) (view c.in_ok-machine.machine.station) c.args.file.now c.replay.new.station c.in_err-replay.field-0.0 c.in_err-replay.ensures)

pub returns-clause-ok : goal.returns-clause-ok
returns-clause-ok c =
    let n = c.in_ok-machine.ensures in
    (ap (λ (s : State). risen (table c.args.table.now) s c.args.file.now) (sym n.0) ∙ c.in_ok-replay.ensures.rises, n.1)
