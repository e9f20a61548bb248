use Rattle.std.proofs.Common.{subst, sym, arith}
use Rattle.asking.proofs.Listed.{Listed, trains_listed}
use Rattle.asking.proofs.Saying.{list_said}
use Rattle.asking.proofs.desk.ticks.tell.Goals as goal
use Rattle.asking.specs.Ticks.{telling}
use Rattle.std.specs.List.{All}
use Rattle.state.specs.Views.{view}
use Rattle.timetable.specs.Tables.{table}

pub telling_of-requires : goal.telling_of-requires
telling_of-requires c =
    let s = view c.args.station.now in
    let (o, l) = subst (All (Listed (table c.args.table.now) s.slots)) (sym c.requires.trains) (trains_listed (table c.args.table.now) s) c.loop-train.train-index (record { 0 = 0 }) c.loop-train-test.true in
    record { running = o; listed = l }

pub loop-train-preserved : goal.loop-train-preserved
loop-train-preserved c =
    let s = view c.args.station.now in (
      omega (arith, c.push_reserved.ensures.len, c.loop-train.invariant.0),
      omega (arith, c.push_reserved.ensures.capacity, c.loop-train.invariant.1),
      list_said (telling (table c.args.table.now) s s.me c.args.to) c.args.trains.now c.loop-train.train-index (record { 0 = 0 }) _ _ _ _ c.loop-train-test.true c.telling_of.ensures c.loop-train.invariant.2 c.push_reserved.ensures.items,
    )
