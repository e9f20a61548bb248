use Rattle.std.proofs.Common.{ap, arith, length}
use Rattle.asking.proofs.Saying.{map_said}
use Rattle.asking.proofs.desk.ticks.remind.Goals as goal
use Rattle.asking.specs.Ticks.{reminder}
use Rattle.giving.specs.Channels.{line}
use Rattle.giving.specs.Posts.{chans}
use Rattle.std.proofs.lemmas.List.FromFn.{length-map-range_with_len}
use Rattle.state.specs.Views.{view}

pub reminder_of-requires : goal.reminder_of-requires
reminder_of-requires c =
    omega (arith, c.loop-place-test.true, c.waiting_for-place-end.ensures, ap (λ z. length (line (chans z) c.args.to.0).waiting) c.channels.ensures)

pub push_reserved-requires : goal.push_reserved-requires
push_reserved-requires c =
    let s = view c.args.station.now in
    omega (
      arith,
      c.requires,
      c.loop-place.invariant.0,
      c.loop-place.invariant.1,
      c.loop-place-test.true,
      c.waiting_for-place-end.ensures,
      ap (λ z. length (line (chans z) c.args.to.0).waiting) c.channels.ensures,
      length-map-range_with_len (reminder s s.me c.args.to.0) 0 (length (line s.channels c.args.to.0).waiting),
    )

pub loop-place-preserved : goal.loop-place-preserved
loop-place-preserved c =
    let s = view c.args.station.now in (
      omega (arith, c.push_reserved.ensures.len, c.loop-place.invariant.0),
      omega (arith, c.push_reserved.ensures.capacity, c.loop-place.invariant.1),
      map_said (reminder s s.me c.args.to.0) c.loop-place.place _ _ _ _ c.reminder_of.ensures c.loop-place.invariant.2 c.push_reserved.ensures.items,
    )
