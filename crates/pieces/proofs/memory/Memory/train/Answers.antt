use Rattle.pieces.proofs.Blocks.{part_is}
use Rattle.pieces.proofs.memory.Memory.train.Goals as goal

pub returns-clause-value : goal.returns-clause-value
returns-clause-value c = part_is _ _ c.args.slot.index _ _ c.deref.ensures.value c.range.ensures.0 c.range.ensures.1
