use Rattle.wire.proofs.Lives.{said_is_read}
use Rattle.wire.proofs.said_is_read_stands.Goals as goal

pub returns : goal.returns
returns c = said_is_read
