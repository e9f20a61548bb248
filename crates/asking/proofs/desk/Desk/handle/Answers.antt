use Rattle.std.proofs.Common.{rules}
use Rattle.asking.proofs.desk.Desk.handle.Goals as goal
use Rattle.timetable.specs.Tables.{table}

pub returns-in-Answered-clause-said : goal.returns-in-Answered-clause-said
returns-in-Answered-clause-said c = let e = c.take_answer.ensures.said (table c.args.table.now) in search rules
