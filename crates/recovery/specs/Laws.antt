-- What holds of every station that comes up from its file.
use Rattle.std.specs.Prelude.{◌≡◌, ℕ, ◌≤◌, true, List, ◌++◌, length, take, Ok, Err, Result}
use Rattle.files.specs.Bytes.{journal_bytes}
use Rattle.files.specs.Reading.{is_cut, rest_of}
use Rattle.giving.specs.declared.refusal.Refusal.{Refusal}
use Rattle.recovery.specs.Rising.{risen}
use Rattle.recovery.specs.Runs.{Did, led}
use Rattle.state.specs.States.{State, begun}
use Rattle.state.specs.declared.record.Record.{Record}
use Rattle.timetable.specs.Rows.{Table}

-- After a cut at any place a station is as after the last record that is whole on the file, and never before what was synced: `es` are the records that
-- were synced, `fs` those written since, and `gs` those of them that are left.
abbrev pub ComesUp : Type 0
ComesUp = (n i : ℕ) (tb : Table) (es fs : List Record) → Did n i tb (es ++ fs) → (k : ℕ) → length (journal_bytes es) ≤ k →
    (gs : List Record) × (hs : List Record) × (fs ≡ gs ++ hs)
    × (risen tb (begun n i) (take k (journal_bytes (es ++ fs))) ≡ Ok (led n i tb (es ++ gs)))
    × ((xs ys : List Record) → fs ≡ xs ++ ys → length (journal_bytes (es ++ xs)) ≤ k → length xs ≤ length gs)

-- what follows of a state
abbrev pub onward : Result State Refusal → (State → Result State Refusal) → Result State Refusal
onward (Ok s) f = f s
onward (Err e) f = Err e

-- A file that is read in parts comes to the same: what is behind the records of one part is read with the next part.
abbrev pub InParts : Type 0
InParts = (tb : Table) (s : State) (xs ys : List ℕ) → is_cut (rest_of xs) ≡ true →
    risen tb s (xs ++ ys) ≡ onward (risen tb s xs) (λ t. risen tb t (rest_of xs ++ ys))
