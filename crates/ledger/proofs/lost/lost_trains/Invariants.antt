use Rattle.std.proofs.Common.{◌≡◌, ◌++◌, vec_items}
use Rattle.state.specs.Views.{view}
use Rattle.timetable.specs.Tables.{table}
use Rattle.ledger.proofs.Missing.{listed_of}
use Rattle.ledger.proofs.lost.lost_trains.Given as goal

abbrev pub invariant-loop-train : goal.invariant-loop-train
invariant-loop-train l =
    vec_items l.trains ++ listed_of (table l.table) (view l.station) l.who l.train-iterator ≡ listed_of (table l.table) (view l.station) l.who l.initial.train-iterator
