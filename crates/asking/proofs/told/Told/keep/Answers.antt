use Rattle.std.proofs.Common.{arith}
use Rattle.std.proofs.lemmas.Grind.{common_steps}
use Rattle.asking.proofs.ToldPlaces.{kept_at}
use Rattle.asking.proofs.told.Told.keep.Goals as goal

pub returns-in-Some : goal.returns-in-Some
returns-in-Some c = grind (arith, common_steps, kept_at)

pub returns-in-None : goal.returns-in-None
returns-in-None c = grind (arith, common_steps, kept_at)
