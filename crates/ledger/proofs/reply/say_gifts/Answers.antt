use Rattle.std.proofs.Common.{◌≡◌, ◌+◌, List, [], ◌∷◌, ◌++◌, length, ap, vec_items, arith, rules}
use Rattle.choosing.specs.Parties.{unused}
use Rattle.giving.specs.declared.message.Body.TheVariants as body
use Rattle.pieces.specs.declared.names.Seat.{Seat}
use Rattle.ledger.proofs.Gifts.{ended, moved, unsaid_more, unsaid_none}
use Rattle.ledger.proofs.reply.say_gifts.Goals as goal

pub push_reserved-requires : goal.push_reserved-requires
push_reserved-requires c =
    let l = c.loop-k in
    let e = ap (λ (xs : List Seat). length xs) c.seats-seat-items.ensures in
    omega (arith, c.requires.room, l.invariant.0, l.invariant.1, c.loop-k-test.true, e)

pub loop-k-preserved : goal.loop-k-preserved
loop-k-preserved c =
    let l = c.loop-k in
    let a = c.args in
    let e = ap (λ (xs : List Seat). length xs) c.seats-seat-items.ensures in
    let says : vec_items c.push_reserved.new.self ≡ vec_items l.out ++ record { from = a.me; to = a.to; body = body.Given (record { 0 = a.first.0 + l.k }) c.new-piece.result } ∷ [] = search rules in
    let more = unsaid_more a.me.0 a.to a.first.0 a.party.now l.k c.seats-seat-items.result.now c.seats-seat-items.ensures unused c.new-piece.result c.new-piece.ensures c.loop-k-test.true in
    (search rules, search rules, omega (arith, e, c.loop-k-test.true), moved _ _ _ _ _ _ says more l.invariant.3)

pub returns : goal.returns
returns c =
    let l = c.loop-k in
    let a = c.args in
    let e = ap (λ (xs : List Seat). length xs) c.seats-seat-items.ensures in
    record {
      said = ended _ _ _ (unsaid_none a.me.0 a.to a.first.0 a.party.now l.k c.seats-seat-items.result.now c.seats-seat-items.ensures c.loop-k-test.false) l.invariant.3;
      room = (omega (arith, e, l.invariant.0, l.invariant.2, c.loop-k-test.false), l.invariant.1);
    }
