use Rattle.std.proofs.Common.{◌≡◌, ◌<◌, true, false, eqb, List, vec_items, vec_capacity, length, ap, ◌∙◌, length-append, arith}
use Rattle.asking.proofs.Listed.{tellings_room, told_more, told_none}
use Rattle.asking.proofs.desk.ticks.tell_all.Goals as goal
use Rattle.asking.proofs.desk.ticks.tell_all.Goals.{then-ne, else-ne}
use Rattle.asking.specs.Ticks.{tellings_to}
use Rattle.asking.specs.Turns.{others}
use Rattle.giving.specs.declared.message.Message.{Message}
use Rattle.pieces.specs.declared.names.Train.{Train}
use Rattle.std.proofs.lemmas.Bool.Decides.{nat_tests}
use Rattle.std.specs.List.{flat_map}
use Rattle.state.specs.Views.{view}
use Rattle.timetable.specs.Tables.{table}

pub tell-requires-clause-room : goal.tell-requires-clause-room
tell-requires-clause-room c =
    let s = view c.args.station.now in
    let tb = table c.args.table.now in
    let k = c.loop-k.k in
    let i = c.loop-k.invariant in
    let e : eqb k s.me ≡ false = grind (arith, nat_tests) in
    let h : k < length s.channels = omega (arith, c.loop-k-test.true, c.stations-k-end.ensures) in
    omega (
      arith,
      c.requires.room,
      ap (λ (ts : List Train). length ts) c.requires.trains,
      i.0,
      c.loop-k.out.ok.0,
      c.args.out.now.ok.0,
      ap (λ (xs : List Message). length xs) i.1,
      length-append (vec_items c.args.out.now) (flat_map (tellings_to tb s) (others s.me k)),
      tellings_room tb s k e h,
    )

pub loop-k-preserved : goal.loop-k-preserved
loop-k-preserved c =
    let s = view c.args.station.now in
    let f = tellings_to (table c.args.table.now) s in
    let k = c.loop-k.k in
    let i = c.loop-k.invariant in
    elim c.if-ne.branch [
      | then-ne w ↦
          let e : eqb k s.me ≡ false = grind (arith, nat_tests) in (
            ap vec_capacity w.out-is ∙ w.tell.ensures.room ∙ i.0,
            told_more f s.me k _ _ i.1 _ e (ap vec_items w.out-is ∙ w.tell.ensures.said),
          )
      | else-ne w ↦
          let e : eqb k s.me ≡ true = grind (arith, nat_tests) in
          (ap vec_capacity w.out-is ∙ i.0, ap vec_items w.out-is ∙ told_none f s.me k _ _ i.1 e)
    ]
