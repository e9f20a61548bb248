use Rattle.std.proofs.Common.{arith}
use Rattle.std.proofs.lemmas.Grind.{common_steps}
use Rattle.asking.specs.Told.{nothing}
use Rattle.asking.proofs.ToldPlaces.{told_at}
use Rattle.asking.proofs.told.Told.tally.Goals as goal

pub returns-in-Some : goal.returns-in-Some
returns-in-Some c = grind (arith, common_steps, told_at c.args.self.now.notes.items c.args.train c.args.from c.index.result.now)

pub returns-in-None : goal.returns-in-None
returns-in-None c = grind (arith, common_steps, told_at c.args.self.now.notes.items c.args.train c.args.from (record { train = c.args.train; from = c.args.from; tally = nothing }))
