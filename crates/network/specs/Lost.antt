-- The trains of a station that lost its file, and who lists them.
use Rattle.std.specs.Prelude.{◌≡◌, ℕ, ◌<◌, true, false, Some, None, ◌≢◌, slice_index_or}
use mathlib.Core.List.{Memᴰ}
use Rattle.choosing.specs.declared.party.Party.{Party}
use Rattle.giving.specs.declared.ids.StationId.{StationId}
use Rattle.ledger.specs.Lost.{missing}
use Rattle.network.specs.Falls.{Reach}
use Rattle.network.specs.Places.{holding, under_way}
use Rattle.network.specs.Worlds.{World, state}
use Rattle.pieces.specs.declared.names.Train.{Train}
use Rattle.pieces.specs.declared.piece.Piece.{Piece}
use Rattle.state.specs.States.{was_closed}
use Rattle.timetable.specs.Rows.{Table}

-- what goes with the file of station j: it held some of the train, had sold some, was about to get some, or gave some that nobody has taken yet
pub data Had (n : ℕ) (tb : Table) (w : World) (j : ℕ) (t : Train) : Type 0 where
  held : (s u : ℕ) → s < 400 → holding t s u (state n tb w j) ≡ true → Had n tb w j t
  ticket : (a : ℕ) (p : Party) → slice_index_or (state n tb w j).tickets a None ≡ Some p → p.train ≡ t → Had n tb w j t
  coming : (i : ℕ) (p : Piece) → i < n → Memᴰ p (under_way i j (state n tb w i) (state n tb w j)) → p.train ≡ t → Had n tb w j t
  going : (k : ℕ) (p : Piece) → k < n → Memᴰ p (under_way j k (state n tb w j) (state n tb w k)) → p.train ≡ t → Had n tb w j t

-- Every train of which a station had any, and that no other one has closed, is on the list of one of the others at least: of that list the contract
-- of `lost_trains` says that it has just the trains that are `missing`. A station's number is a byte.
abbrev pub LostListedIn : ℕ → Table → World → Type 0
LostListedIn n tb w = (j : StationId) → j.0 < n → j.0 < 256 → 1 < n → (t : Train) →
    ((k : ℕ) → k < n → k ≢ j.0 → was_closed (state n tb w k) t ≡ false) → Had n tb w j.0 t →
    (i : ℕ) × (i < n) × (i ≢ j.0) × (missing (tb t.0) (state n tb w i) j t ≡ true)

abbrev pub LostListed : Type 0
LostListed = (n : ℕ) (tb : Table) (w : World) → Reach n tb w → LostListedIn n tb w
