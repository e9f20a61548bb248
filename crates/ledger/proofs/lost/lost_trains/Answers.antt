use Rattle.std.proofs.Common.{◌≡◌, rules, subst, sym}
use Rattle.ledger.specs.Lost.{Listed}
use Rattle.ledger.proofs.Missing.{listed_all_trains, listed_of}
use Rattle.state.specs.Views.{view}
use Rattle.timetable.specs.Tables.{table}
use Rattle.ledger.proofs.lost.lost_trains.Goals as goal

pub returns : goal.returns
returns c =
    let tb = table c.args.table.now in
    let s = view c.args.station.now in
    let ts = c.trains-train-items.result in
    let e : c.loop-train.trains.items ≡ listed_of tb s c.args.who ts = search rules in
    (search rules, subst (Listed tb s c.args.who) (sym e) (listed_all_trains tb s c.args.who ts c.trains-train-items.ensures.ordered c.trains-train-items.ensures.each))
