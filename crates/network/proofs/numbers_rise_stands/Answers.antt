use Rattle.network.proofs.Numbers.{rise}
use Rattle.network.proofs.numbers_rise_stands.Goals as goal

pub returns : goal.returns
returns c = rise
