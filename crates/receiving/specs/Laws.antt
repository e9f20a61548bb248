-- What holds of all that may come over a line.
use Rattle.std.specs.Prelude.{◌≡◌, ℕ, ◌≤◌, Bool, true, false, Some, Option, Result, MatchOption}
use Rattle.asking.specs.Events.{resolved}
use Rattle.asking.specs.Minds.{Mind}
use Rattle.giving.specs.Refusals.{number}
use Rattle.giving.specs.declared.ids.StationId.{StationId}
use Rattle.giving.specs.declared.message.Body.{Body}
use Rattle.giving.specs.declared.refusal.Refusal.{Refusal}
use Rattle.lines.specs.declared.fault.Fault.{Fault}
use Rattle.receiving.specs.Grounds.{lowest}
use Rattle.receiving.specs.Incoming.{event_read}
use Rattle.receiving.specs.Verdicts.{judged, verdict_of}
use Rattle.state.specs.States.{State}
use Rattle.timetable.specs.Rows.{Table}

-- of the refusals that apply it is the one with the lowest number; it is none where none applies that has a number
abbrev pub IsLowest : (Refusal → Bool) → Option Refusal → Type 0
IsLowest f o = MatchOption o ((r : Refusal) (n : ℕ) → number r ≡ Some n → f r ≡ false) (λ r. (f r ≡ true) × ((q : Refusal) (n k : ℕ) → f q ≡ true → number r ≡ Some n → number q ≡ Some k → n ≤ k))

abbrev pub LowestWins : Type 0
LowestWins = (f : Refusal → Bool) → IsLowest f (lowest f)

-- whatever was read, and whoever is said to have sent it, it is taken, passed over or turned away as the table says
abbrev pub Judges : Type 0
Judges = (tb : Table) (s : State) (m : Mind) (k : StationId) (x : Result Body Fault) → verdict_of (resolved tb s m (event_read k x)) ≡ judged tb s m k x
