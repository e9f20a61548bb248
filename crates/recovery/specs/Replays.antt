-- What a replay of a file has done, and why it was given up where it was.
use Rattle.std.specs.Prelude.{◌≡◌, ℕ, ◌≤◌, true, ◌⊎◌, List, [], ◌∷◌, ◌++◌, length, fold, Ok, Err}
use Rattle.files.specs.Bytes.{journal_bytes}
use Rattle.files.specs.Reading.{records_of}
use Rattle.giving.specs.declared.refusal.Refusal.{Refusal}
use Rattle.giving.specs.declared.refusal.Refusal.TheVariants.{Malformed, Memory}
use Rattle.recovery.specs.Rising.{risen}
use Rattle.state.specs.Changes.{all_fit, apply}
use Rattle.state.specs.Ready.{Spent}
use Rattle.state.specs.States.{State}
use Rattle.state.specs.Views.{view}
use Rattle.state.specs.declared.record.Record.{Record}
use Rattle.state.specs.declared.station.Station.{Station}
use Rattle.timetable.specs.Rows.{Table}

-- The changes of some first of the records were made, and the station is as they make it. It was given up because nothing can rise from the file; or because
-- the station has no room for the next record, which fits.
pub record Stopped (tb : Table) (s : State) (bs : List ℕ) (z : Station) (e : Refusal) : Type 0 where
  pub done : List Record
  pub left : List Record
  pub split : records_of bs ≡ done ++ left
  pub state : view z ≡ fold (apply tb) s done
  pub why : ((e ≡ Malformed) × (risen tb s bs ≡ Err Malformed))
      ⊎ ((e ≡ Memory) × (r : Record) × (rs : List Record) × (left ≡ r ∷ rs) × (all_fit tb s (done ++ r ∷ []) ≡ true) × Spent z r)

-- All of a file was done: of its n records, which have k bytes.
pub record Finished (tb : Table) (s : State) (bs : List ℕ) (z : Station) (n k : ℕ) : Type 0 where
  pub rises : risen tb s bs ≡ Ok (view z)
  pub records : n ≡ length (records_of bs)
  pub bytes : k ≡ length (journal_bytes (records_of bs))
  pub within : k ≤ length bs
