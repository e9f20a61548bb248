use Rattle.std.proofs.Common.{◌+◌, ◌-◌, ◌*◌, ap, ◌∙◌, arith}
use Rattle.choosing.specs.Parties.{party_of}
use Rattle.choosing.proofs.Seated.{group_part}
use Rattle.choosing.proofs.choice.choose_all_lent.Goals as goal

pub returns : goal.returns
returns c =
    let i = c.args.place * 400 in
    c.choose_all.ensures
    ∙ ap (party_of c.args.train c.args.trip)
    (group_part c.args.all.now c.args.place c.args.people c.args.count (i + c.from.result - i) c.args.trip.from.0 c.args.trip.to.0 (omega arith) (omega arith))
