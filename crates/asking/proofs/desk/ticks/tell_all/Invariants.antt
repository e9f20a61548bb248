use Rattle.std.proofs.Common.{◌≡◌, ◌++◌, vec_items, vec_capacity}
use Rattle.asking.specs.Ticks.{tellings_to}
use Rattle.asking.specs.Turns.{others}
use Rattle.asking.proofs.desk.ticks.tell_all.Given as goal
use Rattle.state.specs.Views.{view}
use Rattle.std.specs.List.{flat_map}
use Rattle.timetable.specs.Tables.{table}

abbrev pub invariant-loop-k : goal.invariant-loop-k
invariant-loop-k l =
    (vec_capacity l.out ≡ vec_capacity l.initial.out)
    × (vec_items l.out ≡ vec_items l.initial.out ++ flat_map (tellings_to (table l.table) (view l.station)) (others (view l.station).me l.k))
