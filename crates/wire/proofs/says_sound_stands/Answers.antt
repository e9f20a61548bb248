use Rattle.wire.proofs.Said.{says_sound}
use Rattle.wire.proofs.says_sound_stands.Goals as goal

pub returns : goal.returns
returns c = says_sound
