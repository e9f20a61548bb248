-- One station alone, whatever comes over its lines, made up too.
use Rattle.std.specs.Prelude.{◌≡◌, ℕ, ◌<◌, List, [], ◌∷◌, ◌++◌, Err}
use Rattle.asking.specs.Events.{resolved}
use Rattle.asking.specs.Minds.{Mind}
use Rattle.asking.specs.Replies.{minded, spoken, written}
use Rattle.choosing.specs.Parties.{pieces_of}
use Rattle.giving.specs.declared.refusal.Refusal.{Refusal}
use Rattle.lines.specs.Bytes.{AreBytes}
use Rattle.network.specs.Answers.{Splits}
use Rattle.receiving.specs.Incoming.{incoming}
use Rattle.recovery.specs.Runs.{Did, led}
use Rattle.state.specs.Changes.{apply}
use Rattle.state.specs.States.{State}
use Rattle.state.specs.declared.record.Record.{Record}
use Rattle.state.specs.declared.record.Record.TheVariants.{Opened, Closed, Sold, Undone, Given, Taken, Heard, Asked, Declined}
use Rattle.timetable.specs.Rows.{Table}

-- what a record sells or gives was held before it, and is not held after it; nothing else that was held is lost
abbrev pub TakesHeld : Table → State → Record → Type 0
TakesHeld tb x (Opened t) = Unit
TakesHeld tb x (Closed t) = Unit
TakesHeld tb x (Sold k p) = Splits x (apply tb x (Sold k p)) (pieces_of p)
TakesHeld tb x (Undone k) = Unit
TakesHeld tb x (Given to k a p) = Splits x (apply tb x (Given to k a p)) (p ∷ [])
TakesHeld tb x (Taken from k p) = Unit
TakesHeld tb x (Heard from k) = Unit
TakesHeld tb x (Asked a) = Unit
TakesHeld tb x (Declined to a) = Unit

-- Whatever came to it, it never sold or gave what it did not hold.
abbrev pub OnlyHeld : Type 0
OnlyHeld = (n i : ℕ) (tb : Table) (xs ys : List Record) (e : Record) → Did n i tb (xs ++ e ∷ ys) → TakesHeld tb (led n i tb xs) e

-- Whatever comes next, from whomever it may be, it goes on: what it writes of it fits behind what it has written.
abbrev pub GoesOn : Type 0
GoesOn = (n i : ℕ) (tb : Table) (es : List Record) → i < 256 → Did n i tb es → (m : Mind) (from : ℕ) (bs : List ℕ) → AreBytes bs →
    Did n i tb (es ++ written (led n i tb es) (resolved tb (led n i tb es) m (incoming i from bs)))

-- What is turned away changes nothing: nothing is written, said or kept in mind of it.
abbrev pub TurnsAway : Type 0
TurnsAway = (tb : Table) (s : State) (m : Mind) (from : ℕ) (bs : List ℕ) (r : Refusal) → resolved tb s m (incoming s.me from bs) ≡ Err r →
    (written s (resolved tb s m (incoming s.me from bs)) ≡ []) × (minded s m (incoming s.me from bs) (resolved tb s m (incoming s.me from bs)) ≡ m)
    × (spoken tb s m (incoming s.me from bs) (resolved tb s m (incoming s.me from bs)) ≡ [])

abbrev pub Alone : Type 0
Alone = OnlyHeld × GoesOn × TurnsAway
