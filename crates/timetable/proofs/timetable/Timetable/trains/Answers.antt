use Rattle.std.proofs.Common.{sym, ◌∙◌}
use Rattle.timetable.proofs.Ordered.{any_number, by_number_pairs}
use Rattle.timetable.proofs.timetable.Timetable.trains.Goals as goal

pub returns-clause-each : goal.returns-clause-each
returns-clause-each c t = sym (any_number t c.keys.result) ∙ sym (c.keys.ensures.has t)

pub returns-clause-ordered : goal.returns-clause-ordered
returns-clause-ordered c = by_number_pairs c.keys.result (rw c.keys.ensures.rest c.keys.ensures.ordered)
