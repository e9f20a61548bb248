-- What the calls on a station's channels come to: `me` is the station's own number, `cs` its channels before the call.
use Rattle.std.specs.Prelude.{ℕ, ◌+◌, ◌-◌, min, Bool, cond, ◌&&◌, List, Ok, Err, Result, ◌==◌, nat_le, slice_set}
use Rattle.giving.specs.Channels.{Chan, gave, declined, heard_to, took, all_waiting, numbered, news, roomy, line, other}
use Rattle.giving.specs.declared.ids.Number.{Number}
use Rattle.giving.specs.declared.refusal.Refusal.{Refusal}
use Rattle.giving.specs.declared.refusal.Refusal.TheVariants.{Malformed, OutOfTurn, Full, NoSuchStation}
use Rattle.pieces.specs.declared.piece.Piece.{Piece}

-- the first ground that fails, or else the answer
abbrev pub unless : {X : Type 0} → Bool → Refusal → Result X Refusal → Result X Refusal
unless ok e r = cond ok r (Err e)

-- the next number that a station has to give to another
abbrev pub next_number : List Chan → ℕ → Number
next_number cs k = record { 0 = (line cs k).given + 1 }

-- a piece more may wait, and there is a number left for it
abbrev pub givable : List Chan → ℕ → Bool
givable cs k = roomy cs && numbered (line cs k)

-- how many pieces more may be given to station k: as many as may wait, and as there are numbers for
abbrev pub room : List Chan → ℕ → ℕ
room cs k = min (4096 - all_waiting cs) (4294967295 - (line cs k).given)

-- a piece is given to station k, for ask a
abbrev pub gives : ℕ → List Chan → ℕ → Result Number Refusal
gives me cs k = unless (givable cs k) Full (unless (other me cs k) NoSuchStation (Ok (next_number cs k)))

abbrev pub after_give : ℕ → List Chan → ℕ → ℕ → Piece → List Chan
after_give me cs k a p = cond (givable cs k && other me cs k) (slice_set cs k (gave (line cs k) a p)) cs

-- an ask of station k is answered with nothing
abbrev pub declines : ℕ → List Chan → ℕ → Result Unit Refusal
declines me cs k = unless (other me cs k) NoSuchStation (Ok tt)

abbrev pub after_decline : ℕ → List Chan → ℕ → ℕ → List Chan
after_decline me cs k a = cond (other me cs k) (slice_set cs k (declined (line cs k) a)) cs

-- station k has taken all up to number n
abbrev pub hears : ℕ → List Chan → ℕ → ℕ → Result Bool Refusal
hears me cs k n = unless (nat_le n (line cs k).given) Malformed (unless (other me cs k) NoSuchStation (Ok (news (line cs k) n)))

abbrev pub after_hear : ℕ → List Chan → ℕ → ℕ → List Chan
after_hear me cs k n = cond (other me cs k && news (line cs k) n) (slice_set cs k (heard_to (line cs k) n)) cs

-- number n is received from station k
abbrev pub receives : ℕ → List Chan → ℕ → ℕ → Result Unit Refusal
receives me cs k n = unless (other me cs k) NoSuchStation (unless (n == (line cs k).taken + 1) OutOfTurn (Ok tt))

abbrev pub after_receive : ℕ → List Chan → ℕ → ℕ → List Chan
after_receive me cs k n = cond (other me cs k && n == (line cs k).taken + 1) (slice_set cs k (took (line cs k))) cs
