use Rattle.std.proofs.Common.{◌≡◌, ◌+◌, ◌++◌, map, vec_items, vec_len, vec_capacity}
use Rattle.asking.specs.Ticks.{reminder}
use Rattle.asking.proofs.desk.ticks.remind.Given as goal
use Rattle.state.specs.Views.{view}
use Rattle.std.specs.List.{range_with_len}

abbrev pub invariant-loop-place : goal.invariant-loop-place
invariant-loop-place l =
    (vec_len l.out ≡ vec_len l.initial.out + l.place)
    × (vec_capacity l.out ≡ vec_capacity l.initial.out)
    × (vec_items l.out ≡ vec_items l.initial.out ++ map (reminder (view l.station) (view l.station).me l.to.0) (range_with_len 0 l.place))
