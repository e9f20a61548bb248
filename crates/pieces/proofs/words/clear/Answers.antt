use Rattle.pieces.proofs.Bitwise.{clear_decides}
use Rattle.pieces.proofs.words.clear.Goals as goal

pub returns : goal.returns
returns c = clear_decides c.args.word c.mask.result c.args.trip.from.0 c.args.trip.to.0 c.mask.ensures.each
