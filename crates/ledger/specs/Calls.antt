-- Calls as a whole: how much they say, and where memory was short.
use Rattle.std.specs.Prelude.{◌≡◌, ℕ, ◌+◌, ◌<◌, ◌≤◌, cond, ◌⊎◌, length, None, vec_len, vec_capacity, Option, Vec, Ok, Err}
use Rattle.choosing.specs.Parties.{seats_of}
use Rattle.giving.specs.declared.message.Message.{Message}
use Rattle.ledger.specs.Decisions.{Answer, answered, given_by, settled}
use Rattle.ledger.specs.declared.input.Input.{Input}
use Rattle.ledger.specs.declared.input.Input.TheVariants.{Close, Sell, Undo, Give, Take, Hear, Grant}
use Rattle.ledger.specs.declared.input.Input.TheVariants as input
use Rattle.ledger.specs.declared.input.Outcome.{Outcome}
use Rattle.ledger.specs.declared.input.Outcome.TheVariants.{Done, Gave, Nothing, Passed}
use Rattle.state.specs.Ready.{Ready, Spent}
use Rattle.state.specs.declared.record.Record.{Record}
use Rattle.state.specs.declared.station.Station.{Station}
use Rattle.std.specs.declared.alloc.Global.{Global}
use Rattle.timetable.specs.declared.row.Row.{Row}

-- how many messages a call has that came to this
abbrev pub said : Input → Outcome → ℕ
said (Close t) o = 0
said (Sell d) o = 0
said (Undo n) o = 0
said (Give to d) o = given_by o
said (Take from n p) o = cond (answered o) 1 0
said (Hear from n) o = 0
said (input.Ask d) o = 0
said (Grant from a d) o = cond (settled o) (given_by o + 1) 0

-- there is a number for each piece that was given
abbrev pub Numbered : Outcome → Type 0
Numbered (Done e) = Unit
Numbered (Gave to n a p) = n.0 + length (seats_of p) ≤ 4294967296
Numbered Nothing = Unit
Numbered (Passed r) = Unit

-- there is memory in the station for an outcome
abbrev pub ReadyFor : Station → Outcome → Type 0
ReadyFor s (Done e) = Ready s e
ReadyFor s (Gave to n a p) = Unit
ReadyFor s Nothing = Unit
ReadyFor s (Passed r) = Unit

-- the vector had no room for so many more
abbrev pub Filled : {X : Type 0} → Vec X Global → ℕ → Type 0
Filled v k = vec_capacity v < vec_len v + k

-- there was no room to write an outcome, in the station or in the journal
abbrev pub Unwritten : Station → Vec Record Global → Outcome → Type 0
Unwritten s j (Done e) = Spent s e ⊎ Filled j 1
Unwritten s j (Gave to n a p) = Filled j (length (seats_of p))
Unwritten s j Nothing = ⊥
Unwritten s j (Passed r) = ⊥

-- there was no room for its messages
abbrev pub Unsaid : Vec Message Global → Input → Outcome → Type 0
Unsaid m i o = Filled m (said i o)

-- why a call that is decided so may be refused for want of memory
abbrev pub Short : Station → Vec Record Global → Vec Message Global → Input → Answer → Type 0
Short s j m i (Ok o) = Unwritten s j o ⊎ Unsaid m i o
Short s j m i (Err r) = ⊥

-- why an opening that is decided so may be: a first row of the train wants memory too
abbrev pub ShortOpen : Station → Vec Record Global → Option Row → Answer → Type 0
ShortOpen s j w (Ok (Done e)) = Unwritten s j (Done e) ⊎ (w ≡ None)
ShortOpen s j w (Ok (Gave to n a p)) = ⊥
ShortOpen s j w (Ok Nothing) = ⊥
ShortOpen s j w (Ok (Passed r)) = ⊥
ShortOpen s j w (Err r) = ⊥
