use Rattle.files.proofs.Laws.{cut_anywhere}
use Rattle.recovery.proofs.Rises.{comes_up}
use Rattle.recovery.proofs.comes_up_stands.Goals as goal

pub returns : goal.returns
returns c = comes_up cut_anywhere
