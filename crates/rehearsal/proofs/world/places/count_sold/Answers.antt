use Rattle.std.proofs.Common.{rules, ◌∙◌, arith, tests}
use Rattle.network.proofs.Count.{count_nil}
use Rattle.std.proofs.lemmas.Iterator.{YieldsList-from_slice}
use Rattle.std.proofs.lemmas.Iterator.Adapters.{fits_from_length, at_most_from_yields_List}
use Rattle.std.proofs.lemmas.Iterator.Consumers.{YieldsList-at}
use Rattle.state.specs.Views.{view}
use Rattle.rehearsal.proofs.Finding.{sold_counted}
use Rattle.rehearsal.proofs.world.places.count_sold.Goals as goal

pub sum-requires-clause-fits : goal.sum-requires-clause-fits
sum-requires-clause-fits c =
    fits_from_length _ _ 4294967295 _
    (at_most_from_yields_List (YieldsList-at c.map.ensures.source (YieldsList-from_slice (view c.args.station.now).tickets (cc))) (omega arith))
    c.map.ensures.closure (omega arith) (λ x r q k. search (rules, tests))

pub returns : goal.returns
returns c = search (rules, tests, count_nil) ∙ sold_counted c.args.at.train c.args.at.seat.0 c.args.at.stop.0 (view c.args.station.now).tickets
