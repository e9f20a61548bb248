use Rattle.std.proofs.Common.{rules}
use Rattle.std.proofs.lemmas.List.Edits.{map_over_more}
use Rattle.state.specs.Changes.{forgotten}
use Rattle.state.proofs.station.sales.forget_all.Goals as goal

pub loop-sale-preserved : goal.loop-sale-preserved
loop-sale-preserved c = search (rules, map_over_more (forgotten c.args.train))
