-- Rows that may be made, and rows put into a timetable.
use Rattle.std.specs.Prelude.{◌≡◌, ℕ, Bool, true, false, cond, ◌&&◌, Some, None, Ok, Err, Option, Result, ◌==◌, nat_le}
use Rattle.giving.specs.declared.refusal.Refusal.{Refusal}
use Rattle.giving.specs.declared.refusal.Refusal.TheVariants.{Malformed, OutOfTurn, NotOpen, NothingHeld, NoSuchTicket, Full, NoSuchStation, Memory}
use Rattle.timetable.specs.Rows.{Table}
use Rattle.timetable.specs.declared.row.Row.{Row}

-- a train may have so many seats and stops
abbrev pub rowable : (seats stops : ℕ) → Bool
rowable n m = nat_le 1 n && (nat_le n 400 && (nat_le 2 m && nat_le m 30))

-- the same train with the same seats, stops and first station
abbrev pub is_same_row : Row → Row → Bool
is_same_row a b = a.train.0 == b.train.0 && (a.seats == b.seats && (a.stops == b.stops && a.first.0 == b.first.0))

-- a timetable with no row
abbrev pub empty : Table
empty k = None

-- a timetable with a row more
abbrev pub put : Table → Row → Table
put tb r k = cond (k == r.train.0) (Some r) (tb k)

-- the train has no row yet, or this one
abbrev pub admitted : Option Row → Row → Bool
admitted None r = true
admitted (Some w) r = is_same_row w r

-- why a row is not put in: the train has another one; or there is no memory for its first
abbrev pub Barred : Refusal → Option Row → Row → Type 0
Barred Malformed o r = admitted o r ≡ false
Barred Memory o r = o ≡ None
Barred OutOfTurn o r = ⊥
Barred NotOpen o r = ⊥
Barred NothingHeld o r = ⊥
Barred NoSuchTicket o r = ⊥
Barred Full o r = ⊥
Barred NoSuchStation o r = ⊥

-- what it came to that a row was put in; a refusal changes nothing
abbrev pub Added : Table → Row → Table → Result Unit Refusal → Type 0
Added s r t (Ok _) = (admitted (s r.train.0) r ≡ true) × (t ≡ put s r)
Added s r t (Err e) = Barred e (s r.train.0) r × (t ≡ s)
