use Rattle.std.proofs.Common.{◌+◌, rules}
use Rattle.choosing.proofs.Covered.{next_covered, front_uncovered}
use Rattle.choosing.proofs.covers.covers_all.Goals as goal
use Rattle.choosing.proofs.covers.covers_all.Goals.{then-not-covers-via-then-not-covers, then-not-covers-via-else-not-covers+then-is_taken}

pub returns-then-not-covers : goal.returns-then-not-covers
returns-then-not-covers c =
    let t = c.args.party.now.trip in
    let ws = c.args.memory.now.words.items in
    let ss = c.seats-seats.result.now in
    let i = c.loop-index.index in
    let e = next_covered c.args.slot.index t.from.0 t.to.0 t.ordered ws ss i c.loop-index-test.true c.loop-index.invariant in
    let f = front_uncovered c.args.slot.index t.from.0 t.to.0 t.ordered ws ss (i + 1) in
    elim c.then-not-covers.branch [
      | then-not-covers-via-then-not-covers w ↦ search (rules, e, f)
      | then-not-covers-via-else-not-covers+then-is_taken w ↦ search (rules, e, f)
    ]

pub loop-index-preserved : goal.loop-index-preserved
loop-index-preserved c =
    let t = c.args.party.now.trip in
    let e = next_covered c.args.slot.index t.from.0 t.to.0 t.ordered c.args.memory.now.words.items c.seats-seats.result.now c.loop-index.index c.loop-index-test.true c.loop-index.invariant in
    search (rules, e)
