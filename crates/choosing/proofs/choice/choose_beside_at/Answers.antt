use Rattle.std.proofs.Common.{◌≡◌, ◌≤◌, length, set, sym, ap, ◌∙◌, ap₂, arith}
use Rattle.choosing.specs.Choice.{beside}
use Rattle.choosing.specs.Parties.{party_of}
use Rattle.choosing.proofs.Seated.{aside_each, group_first, put_aside}
use Rattle.pieces.specs.Memory.{word_at}
use Rattle.choosing.proofs.choice.choose_beside_at.Goals as goal
use Rattle.choosing.proofs.choice.choose_beside_at.Goals.{in-Some, in_default}

pub returns : goal.returns
returns c =
    let n = c.args.count in
    let kept = c.args.kept in
    let xs = c.train.result.now in
    let f = word_at c.args.memory.now.words.items c.args.slot.index in
    let few : n ≤ length xs = omega arith in
    let many : n ≤ length c.match-kept.words = omega arith in
    let copied = c.copy_from_slice.ensures.after in
    let same : c.match-kept.words ≡ put_aside kept xs =
    elim c.match-kept.branch [
      | in-Some w ↦ w.words-is ∙ ap₂ (λ ys i. set ys i 0) copied w.from.ensures ∙ ap (λ r. put_aside r xs) (sym w.in-Some.is)
      | in_default w ↦ w.words-is ∙ copied ∙ ap (λ r. put_aside r xs) (sym w.in_default.is)
    ] in
    let e = group_first c.match-kept.words (beside kept f) c.args.people n c.args.trip.from.0 c.args.trip.to.0 many
    (λ s l. rw same (aside_each kept xs f n few (λ t u. c.train.ensures.each t (omega arith)) s l)) in
    rw c.from-2.ensures at c.choose_all.ensures ∙ ap (party_of c.args.train c.args.trip) e
