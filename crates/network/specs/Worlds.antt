-- Stations, each with its journal, and all that was ever said between them.
use Rattle.std.specs.Prelude.{◌≡◌, ℕ, ◌<◌, ◌≤◌, Bool, true, false, ◌&&◌, List, [], ◌∷◌, ◌++◌, length, replicate, fold, count_by, ◌==◌, slice_index_or, slice_set}
use mathlib.Core.List.{Memᴰ}
use Rattle.giving.specs.Channels.{Chan, line}
use Rattle.asking.specs.Replies.{request}
use Rattle.asking.specs.Ticks.{reminder, telling}
use Rattle.giving.specs.declared.ids.Ask.{Ask}
use Rattle.giving.specs.declared.ids.Number.{Number}
use Rattle.giving.specs.declared.ids.StationId.{StationId}
use Rattle.giving.specs.declared.message.Body.TheVariants as body
use Rattle.giving.specs.declared.message.Message.{Message}
use Rattle.ledger.specs.Decisions.{reckoning}
use Rattle.state.specs.Changes.{apply, fits}
use Rattle.state.specs.States.{State, begun, is_open}
use Rattle.state.specs.declared.record.Record.{Record}
use Rattle.state.specs.declared.record.Record.TheVariants.{Opened, Closed, Sold, Undone, Given, Taken, Heard, Asked, Declined}
use Rattle.pieces.specs.declared.demand.Demand.{Demand}
use Rattle.pieces.specs.declared.names.Train.{Train}
use Rattle.pieces.specs.declared.piece.Piece.{Piece}
use Rattle.timetable.specs.Rows.{Table}

-- Nothing is ever taken out of `said`: a message is delivered never, twice or late.
pub record World : Type 0 where
  pub journals : List (List Record)
  pub said : List Message

abbrev pub journal : World → ℕ → List Record
journal w i = slice_index_or w.journals i []

-- of n stations, the state of number i: what its journal makes of the one that it began with
abbrev pub state : (n : ℕ) → Table → World → ℕ → State
state n tb w i = fold (apply tb) (begun n i) (journal w i)

-- what station i keeps of its line with station j
abbrev pub channel : State → ℕ → Chan
channel s j = line s.channels j

-- ---- what may happen

-- what a station takes and hears was said to it, and it gives no more for an ask once it has said how much it gave
abbrev pub Backed : List Message → ℕ → Record → Type 0
Backed ms i (Opened t) = Unit {0}
Backed ms i (Closed t) = Unit {0}
Backed ms i (Sold n p) = Unit {0}
Backed ms i (Undone n) = Unit {0}
Backed ms i (Given to n a p) = (m : ℕ) → Memᴰ (record { from = record { 0 = i }; to = to; body = body.Answered a m }) ms → ⊥
Backed ms i (Taken from n p) = Memᴰ (record { from = from; to = record { 0 = i }; body = body.Given n p }) ms
Backed ms i (Heard from n) = Memᴰ (record { from = from; to = record { 0 = i }; body = body.Taken n }) ms
Backed ms i (Asked a) = Unit {0}
Backed ms i (Declined to a) = Unit {0}

-- the world, with these records for the journal of station i
abbrev pub with_journal : World → ℕ → List Record → World
with_journal w i js = record { journals = slice_set w.journals i js; said = w.said }

abbrev pub wrote : World → ℕ → Record → World
wrote w i e = with_journal w i (journal w i ++ e ∷ [])

abbrev pub spoke : World → Message → World
spoke w m = record { journals = w.journals; said = w.said ++ m ∷ [] }

-- up to which number i has taken what j gave it
abbrev pub account : State → (i j : ℕ) → Message
account s i j = record { from = record { 0 = i }; to = record { 0 = j }; body = body.Taken (record { 0 = (channel s j).taken }) }

-- a piece is given to station j for ask a
abbrev pub is_gift : StationId → Ask → Record → Bool
is_gift j a (Given to n b p) = to.0 == j.0 && b.0 == a.0
is_gift j a e = false

-- how many pieces a journal gives to it for that ask
abbrev pub given_for : StationId → Ask → List Record → ℕ
given_for j a js = count_by (is_gift j a) js

-- how many pieces i gave for the last ask of j that it answered
abbrev pub settlement : State → List Record → (i : ℕ) → StationId → Message
settlement s js i j = reckoning i j (record { 0 = (channel s j.0).answered }) (given_for j (record { 0 = (channel s j.0).answered }) js)

-- A station writes a record that fits its state, or says something that is true of it.
pub data Step (n : ℕ) (tb : Table) : World → World → Type 0 where
  writes : (w : World) (i : ℕ) (e : Record) → i < n → Backed w.said i e → fits tb (state n tb w i) e ≡ true → Step n tb w (wrote w i e)
  reminds : (w : World) (i j k : ℕ) → k < length (channel (state n tb w i) j).waiting → Step n tb w (spoke w (reminder (state n tb w i) i j k))
  accounts : (w : World) (i j : ℕ) → Step n tb w (spoke w (account (state n tb w i) i j))
  asks : (w : World) (i : ℕ) (j : StationId) (d : Demand) → Step n tb w (spoke w (request (state n tb w i) i j d))
  answers : (w : World) (i : ℕ) (j : StationId) → 1 ≤ (channel (state n tb w i) j.0).answered → Step n tb w (spoke w (settlement (state n tb w i) (journal w i) i j))
  tells : (w : World) (i : ℕ) (j : StationId) (t : Train) → is_open (state n tb w i) t ≡ true → Step n tb w (spoke w (telling tb (state n tb w i) i j t))

-- what carries a piece from one station to another: it is said, and it is taken
pub data Carry (n : ℕ) (tb : Table) : World → World → Type 0 where
  said : (w : World) (i j k : ℕ) → k < length (channel (state n tb w i) j).waiting → Carry n tb w (spoke w (reminder (state n tb w i) i j k))
  taken : (w : World) (j : ℕ) (from : StationId) (m : Number) (p : Piece) → j < n → Backed w.said j (Taken from m p) → fits tb (state n tb w j) (Taken from m p) ≡ true → Carry n tb w (wrote w j (Taken from m p))

abbrev pub beginning : ℕ → World
beginning n = record { journals = replicate n []; said = [] }
