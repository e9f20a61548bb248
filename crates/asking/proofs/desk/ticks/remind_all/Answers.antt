use Rattle.std.proofs.Common.{vec_items, ap, arith, length, length-append, List}
use Rattle.asking.proofs.Saying.{flat_said, flat_room}
use Rattle.asking.proofs.desk.ticks.remind_all.Goals as goal
use Rattle.asking.specs.Ticks.{reminders_to}
use Rattle.giving.specs.declared.message.Message.{Message}
use Rattle.state.specs.Views.{view}
use Rattle.std.specs.List.{flat_map, range_with_len}

pub remind-requires : goal.remind-requires
remind-requires c =
    let s = view c.args.station.now in
    let i = c.loop-k.invariant in
    omega (
      arith,
      c.requires.room,
      i.0,
      c.loop-k.out.ok.0,
      c.args.out.now.ok.0,
      ap (λ (xs : List Message). length xs) i.1,
      length-append (vec_items c.args.out.now) (flat_map (reminders_to s) (range_with_len 0 c.loop-k.k)),
      flat_room (reminders_to s) c.loop-k.k (length s.channels) (omega (arith, c.loop-k-test.true, c.stations-k-end.ensures)),
    )

pub loop-k-preserved : goal.loop-k-preserved
loop-k-preserved c =
    let s = view c.args.station.now in (
      omega (arith, c.remind.ensures.room, c.loop-k.invariant.0),
      flat_said (reminders_to s) c.loop-k.k _ _ _ c.loop-k.invariant.1 c.remind.ensures.said,
    )
