use Rattle.std.proofs.Common.{◌≡◌, ◌+◌, ◌++◌, map, take, vec_items, vec_len, vec_capacity}
use Rattle.asking.specs.Ticks.{telling}
use Rattle.asking.proofs.desk.ticks.tell.Given as goal
use Rattle.state.specs.Views.{view}
use Rattle.timetable.specs.Tables.{table}

abbrev pub invariant-loop-train : goal.invariant-loop-train
invariant-loop-train l =
    (vec_len l.out ≡ vec_len l.initial.out + l.train-index)
    × (vec_capacity l.out ≡ vec_capacity l.initial.out)
    × (vec_items l.out ≡ vec_items l.initial.out ++ map (telling (table l.table) (view l.station) (view l.station).me l.to) (take l.train-index l.trains))
