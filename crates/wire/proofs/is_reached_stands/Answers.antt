use Rattle.wire.proofs.Lives.{is_reached}
use Rattle.wire.proofs.is_reached_stands.Goals as goal

pub returns : goal.returns
returns c = is_reached
