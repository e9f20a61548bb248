use Rattle.std.proofs.Common.{ℕ, length, get_or, refl, ap, arith}
use Rattle.std.proofs.lemmas.List.{length-take}
use Rattle.choosing.specs.Choice.{group}
use Rattle.choosing.specs.declared.party.Party.{Party}
use Rattle.choosing.proofs.Seated.{one_more_seated, nobody_more}
use Rattle.choosing.proofs.choice.choose_all.Goals as goal

pub loop-init : goal.loop-init
unfolding group
loop-init c = (c.new-party.ensures, refl)

pub returns-in_default : goal.returns-in_default
returns-in_default c =
    let ws = c.args.words.now in
    nobody_more c.args.train c.args.trip (λ (k : ℕ). get_or ws k 0) (length ws) c.loop.counter c.args.people c.loop.party c.seats.result.now
    (omega arith) (omega arith) c.loop.invariant c.seats.ensures c.in_default.ensures.value

pub push-requires : goal.push-requires
push-requires c = omega (arith, length-take c.loop.party.count c.loop.party.seats, ap (λ (x : Party). x.count) c.loop.invariant.0)

pub loop-preserved : goal.loop-preserved
loop-preserved c =
    let ws = c.args.words.now in
    one_more_seated c.args.train c.args.trip (λ (k : ℕ). get_or ws k 0) (length ws) c.loop.counter c.loop.party c.push.new.self c.seats.result.now c.in-Some.seat
    (omega arith) c.loop.invariant c.seats.ensures c.in-Some.ensures.value c.push.ensures
