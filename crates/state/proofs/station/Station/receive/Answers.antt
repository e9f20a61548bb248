use Rattle.std.proofs.Common.{ap, ◌∙◌, rules}
use Rattle.state.specs.States.{State, is_open}
use Rattle.state.specs.Views.{view}
use Rattle.timetable.specs.Tables.{table}
use Rattle.state.proofs.Opens.{listed_seat, open_after}
use Rattle.state.proofs.station.Station.receive.Goals as goal

pub put_back-requires : goal.put_back-requires
put_back-requires c = (
  search (rules, listed_seat),
  ap (λ (s : State). is_open s c.args.piece.train) c.open_unless_open.ensures
      ∙ open_after (table c.args.table.now c.args.piece.train.0) c.args.piece (view c.args.self.now) c.requires.listed (search rules),
)
