use Rattle.asking.proofs.TurnTrains.{by_numbers}
use Rattle.asking.proofs.trains_by_number_stand.Goals as goal

pub returns : goal.returns
returns c = by_numbers
