-- What a file makes of a station.
use Rattle.std.specs.Prelude.{ℕ, ◌&&◌, List, fold, Ok, Result}
use Rattle.files.specs.Reading.{is_cut, records_of, rest_of}
use Rattle.giving.specs.Calls.{unless}
use Rattle.giving.specs.declared.refusal.Refusal.{Refusal}
use Rattle.giving.specs.declared.refusal.Refusal.TheVariants.{Malformed}
use Rattle.state.specs.Changes.{all_fit, apply}
use Rattle.state.specs.States.{State}
use Rattle.timetable.specs.Rows.{Table}

-- the changes of its records, one after the other; it is refused by 1 where what is behind them is no record that was cut, or where one of them does
-- not fit
abbrev pub risen : Table → State → List ℕ → Result State Refusal
risen tb s bs = unless (is_cut (rest_of bs) && all_fit tb s (records_of bs)) Malformed (Ok (fold (apply tb) s (records_of bs)))
