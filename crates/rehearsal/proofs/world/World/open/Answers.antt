use Rattle.network.specs.Falls.{none}
use Rattle.rehearsal.proofs.world.World.open.Goals as goal

pub returns-in_default-clause-steps : goal.returns-in_default-clause-steps
returns-in_default-clause-steps c = λ _. ∣ none ∣₁
