use Rattle.recovery.proofs.Redone.{redone_more, redone_none, stopped_here}
use Rattle.recovery.proofs.replay.replay.Goals as goal
use Rattle.state.specs.Views.{view}
use Rattle.std.proofs.lemmas.Result.{err_from_is_err_and}
use Rattle.timetable.specs.Tables.{table}

pub loop-entry-init : goal.loop-entry-init
loop-entry-init c = redone_none (table c.args.table.now) (view c.args.station.now) c.args.file.now c.whole-whole.result.now c.whole-whole.ensures

pub returns-in_err-redo : goal.returns-in_err-redo
returns-in_err-redo c =
    let l = c.loop-entry in
    let p = err_from_is_err_and c.from_residual.result c.from_residual.ensures.1 in
    rw (p.1, p.2)
    (stopped_here (table c.args.table.now) (view c.args.station.now) c.args.file.now l.rest.now (view l.station) l.records l.invariant c.in-Ok.entry c.in-Ok.behind.now c.in-Ok.ensures.value c.in-Ok.ensures.shorter
    c.redo.new.station c.in_err-redo.field-0.0 c.in_err-redo.ensures.same c.in_err-redo.ensures.why)

pub loop-entry-preserved : goal.loop-entry-preserved
loop-entry-preserved c =
    let l = c.loop-entry in
    redone_more (table c.args.table.now) (view c.args.station.now) c.args.file.now l.rest.now (view l.station) l.records l.invariant c.in-Ok.entry c.in-Ok.behind.now c.in-Ok.ensures.value c.in-Ok.ensures.shorter
    (view c.redo.new.station) c.in_ok-redo.ensures.ok.0 c.in_ok-redo.ensures.ok.1
