use Rattle.std.proofs.Common.{refl, ◌∙◌, arith}
use Rattle.choosing.specs.Parties.{seats_of}
use Rattle.files.proofs.Lengths.{length-seats}
use Rattle.files.proofs.writing.write.Goals as goal

pub write_sold-requires : goal.write_sold-requires
write_sold-requires c =
    let p = c.in-Sold.party in
    let room = rw c.in-Sold.is at c.requires in
    omega (arith, room, length-seats p.train p.trip (seats_of p))

pub returns-in-Taken-clause-items : goal.returns-in-Taken-clause-items
returns-in-Taken-clause-items c = c.write_taken.ensures.items ∙ rw (c.given.ensures, c.in-Taken.is) refl
