use Rattle.std.proofs.Common.{arith}
use Rattle.asking.proofs.Listed.{reminders_length}
use Rattle.asking.proofs.desk.ticks.say_again.Goals as goal
use Rattle.state.specs.Views.{view}

pub returns-in_err-reserve : goal.returns-in_err-reserve
returns-in_err-reserve c = grind (arith, reminders_length (view c.args.station.now))

pub remind_all-requires : goal.remind_all-requires
remind_all-requires c = grind (arith, reminders_length (view c.args.station.now))
