use Rattle.std.proofs.Common.{ap, ◌∙◌}
use Rattle.std.specs.List.{list_any}
use Rattle.state.proofs.Searches.{among_is}
use Rattle.state.proofs.station.Station.was_closed.Goals as goal

pub returns : goal.returns
returns c = c.contains.ensures.value ∙ ap (list_any _) c.deref.ensures.value ∙ among_is c.args.self.now.closed.items c.args.train
