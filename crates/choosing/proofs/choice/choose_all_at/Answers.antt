use Rattle.std.proofs.Common.{◌≤◌, length, ap, ◌∙◌, arith}
use Rattle.choosing.specs.Parties.{party_of}
use Rattle.choosing.proofs.Seated.{group_first}
use Rattle.pieces.specs.Memory.{word_at}
use Rattle.choosing.proofs.choice.choose_all_at.Goals as goal

pub returns : goal.returns
returns c =
    let n = c.args.count in
    let few : n ≤ length c.train.result.now = omega arith in
    let e = group_first c.train.result.now (word_at c.args.memory.now.words.items c.args.slot.index) c.args.people n c.args.trip.from.0 c.args.trip.to.0 few (λ s l. c.train.ensures.each s (omega arith)) in
    rw c.from.ensures at c.choose_all.ensures ∙ ap (party_of c.args.train c.args.trip) e
