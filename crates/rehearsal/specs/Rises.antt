-- Stations that come up from their files.
use Rattle.std.specs.Prelude.{◌≡◌, ℕ, ◌<◌, List, [], map, fold, take, vec_items, slice_index_or, Ok}
use Rattle.files.specs.Reading.{records_of}
use Rattle.recovery.specs.Rising.{risen}
use Rattle.rehearsal.specs.Seen.{rows, count, state_of}
use Rattle.rehearsal.specs.declared.world.World.{World as Code}
use Rattle.state.specs.Changes.{apply}
use Rattle.state.specs.States.{begun}

-- the bytes of station k's file
abbrev pub file_of : Code → ℕ → List ℕ
file_of w k = slice_index_or (map (λ p. vec_items p.file) (vec_items w.posts)) k []

-- from whatever first part of its file a station comes up, with the records that are whole there; and from all of it, at the state that it is at
abbrev pub Rises : Code → Type 0
Rises w = (k : ℕ) → k < count w →
    ((b : ℕ) → risen (rows w) (begun (count w) k) (take b (file_of w k)) ≡ Ok (fold (apply (rows w)) (begun (count w) k) (records_of (take b (file_of w k)))))
    × (risen (rows w) (begun (count w) k) (file_of w k) ≡ Ok (state_of w k))
