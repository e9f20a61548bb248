use Rattle.wire.proofs.Lives.{over_bytes}
use Rattle.wire.proofs.over_bytes_stands.Goals as goal

pub returns : goal.returns
returns c = over_bytes
