use Rattle.std.proofs.Common.{rules, ◌≡◌, Err, sym, ◌∙◌}
use Rattle.files.specs.Reading.{party as party_in}
use Rattle.files.proofs.Seating.{no_piece, no_seat, none_seated, one_seated}
use Rattle.files.proofs.fields.party.Goals as goal

pub loop-init : goal.loop-init
loop-init c = none_seated _ _ _ _ _ c.new-party.ensures

pub returns-in_err-next : goal.returns-in_err-next
returns-in_err-next c =
    let met : party_in c.args.pieces.now ≡ Err c.in_err-next.field-0.0 = no_piece _ _ _ _ _ _ _ c.in_ok-train.ensures c.loop.invariant c.loop-test.true c.in_err-next.ensures in
    search rules

pub returns-in_err-seat_on : goal.returns-in_err-seat_on
returns-in_err-seat_on c =
    let met : party_in c.args.pieces.now ≡ Err c.in_err-seat_on.field-0.0 =
    no_seat _ _ _ _ _ _ _ _ _ c.in_ok-train.ensures c.loop.invariant c.loop-test.true c.in_ok-next.ensures (sym c.seat_on.ensures ∙ c.in_err-seat_on.was) in
    search rules

pub loop-preserved : goal.loop-preserved
loop-preserved c = one_seated _ _ _ _ _ _ _ _ _ _ _ c.loop.invariant c.loop-test.true c.in_ok-next.ensures (sym c.seat_on.ensures ∙ c.in_ok-seat_on.was) c.push.ensures
