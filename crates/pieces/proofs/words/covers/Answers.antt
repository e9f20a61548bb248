use Rattle.std.proofs.lemmas.Bool.Decides.{same_from_decides}
use Rattle.pieces.proofs.Bitwise.{covers_decides, covered_decides}
use Rattle.pieces.proofs.words.covers.Goals as goal

pub returns : goal.returns
returns c =
    let w = c.args.word in
    let a = c.args.trip.from.0 in
    let b = c.args.trip.to.0 in
    let h = covers_decides w c.mask-asked.result a b c.mask-asked.ensures.each in
    record { value = same_from_decides _ _ h (covered_decides w a b); means = h }
