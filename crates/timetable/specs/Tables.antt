-- A timetable as a function from trains to rows.
use Rattle.std.specs.BTreeMap.{get}
use Rattle.timetable.specs.Keys.{by_number}
use Rattle.timetable.specs.Rows.{Table}
use Rattle.timetable.specs.declared.timetable.Timetable.{Timetable}

abbrev pub table : Timetable → Table
table t n = get by_number t.rows (record { 0 = n })
