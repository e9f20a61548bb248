use Rattle.std.proofs.Common.{◌≡◌, ◌+◌, true, length, sym, subst, arith, rules}
use Rattle.choosing.specs.Parties.{seats_of, unused}
use Rattle.ledger.proofs.Gifts.{ahead, ahead_more, ahead_none, ended, fit_more, folds_more, folds_none, moved}
use Rattle.ledger.proofs.calls.write_gifts.Goals as goal
use Rattle.state.specs.Changes.{all_fit}
use Rattle.state.specs.Views.{view}
use Rattle.timetable.specs.Tables.{table}

pub write-requires : goal.write-requires
write-requires c =
    let l = c.loop-k in
    let m = ahead_more c.args.to c.args.ask c.args.first.0 c.args.party.now l.k c.seats-seat-items.result.now c.seats-seat-items.ensures unused c.new-piece.result c.new-piece.ensures c.loop-k-test.true in
    let e : length c.seats-seat-items.result.now ≡ length (seats_of c.args.party.now) = search rules in
    record { fits = (fit_more (table c.args.table.now) (view l.station) _ _ _ m l.invariant.0).0; ready = tt; room = omega (arith, l.invariant.1, c.loop-k-test.true, e) }

pub loop-k-preserved : goal.loop-k-preserved
loop-k-preserved c =
    let l = c.loop-k in
    let m = ahead_more c.args.to c.args.ask c.args.first.0 c.args.party.now l.k c.seats-seat-items.result.now c.seats-seat-items.ensures unused c.new-piece.result c.new-piece.ensures c.loop-k-test.true in (
      subst (λ x. all_fit (table c.args.table.now) x (ahead c.args.to c.args.ask c.args.first.0 c.args.party.now (l.k + 1)) ≡ true) (sym c.write.ensures.state) (fit_more (table c.args.table.now) (view l.station) _ _ _ m l.invariant.0).1,
      omega (arith, c.write.ensures.room.0, c.write.ensures.room.1, l.invariant.1),
      folds_more (table c.args.table.now) (view l.station) (view c.write.new.station) _ _ _ _ m c.write.ensures.state l.invariant.2,
      moved _ _ _ _ _ _ c.write.ensures.written m l.invariant.3,
    )

pub returns : goal.returns
returns c =
    let l = c.loop-k in
    let m = ahead_none c.args.to c.args.ask c.args.first.0 c.args.party.now l.k c.seats-seat-items.result.now c.seats-seat-items.ensures c.loop-k-test.false in
    record { state = folds_none (table c.args.table.now) (view l.station) _ _ m l.invariant.2; written = ended _ _ _ m l.invariant.3 }
