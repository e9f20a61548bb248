-- By computation.
use Rattle.std.proofs.Common.{rules}
use Rattle.choosing.specs.Choice.{chosen, group, lowest}
use Rattle.pieces.specs.Stretches.{holds, covered, span, less, plus, before, behind, spare}
use Rattle.cases.proofs.cases_stand.Goals as goal

pub returns : goal.returns
unfolding chosen group lowest holds covered span less plus before behind spare
returns c = search rules
