use Rattle.std.proofs.Common.{length}
use Rattle.recovery.proofs.Redone.{Redone}
use Rattle.recovery.proofs.replay.replay.Given as goal
use Rattle.state.specs.Views.{view}
use Rattle.timetable.specs.Tables.{table}

abbrev pub invariant-loop-entry : goal.invariant-loop-entry
invariant-loop-entry l = Redone (table l.table) (view l.initial.station) l.file l.rest (view l.station) l.records

abbrev pub decreases-loop-entry : goal.decreases-loop-entry
decreases-loop-entry l = length l.rest
