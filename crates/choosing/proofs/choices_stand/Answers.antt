use Rattle.choosing.proofs.Groups.{choices}
use Rattle.choosing.proofs.choices_stand.Goals as goal

pub returns : goal.returns
returns c = choices
