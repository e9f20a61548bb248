use Rattle.lines.proofs.Digits.{hex-back, hex-written}
use Rattle.lines.proofs.hex_back_stands.Goals as goal

pub returns : goal.returns
returns c = (hex-back, hex-written)
