use Rattle.std.proofs.Common.{◌≡◌, ◌++◌, vec_items, vec_capacity}
use Rattle.asking.specs.Ticks.{reminders_to}
use Rattle.asking.proofs.desk.ticks.remind_all.Given as goal
use Rattle.state.specs.Views.{view}
use Rattle.std.specs.List.{flat_map, range_with_len}

abbrev pub invariant-loop-k : goal.invariant-loop-k
invariant-loop-k l =
    (vec_capacity l.out ≡ vec_capacity l.initial.out)
    × (vec_items l.out ≡ vec_items l.initial.out ++ flat_map (reminders_to (view l.station)) (range_with_len 0 l.k))
