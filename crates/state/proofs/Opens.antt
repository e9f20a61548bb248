-- Trains that are opened, and what a record that fits has.
use Rattle.std.proofs.Common.{◌≡◌, ℕ, zero, suc, ◌+◌, ◌<◌, Bool, true, false, cond, ◌&&◌, ◌||◌, eqb, ltb, List, [], ◌∷◌, length, set, Some, None, Option, refl, arith, lt-ltb, eq-eqb}
use Rattle.std.proofs.lemmas.List.{length-set}
use Rattle.std.proofs.lemmas.Bool.{and_parts, false≢true}
use Rattle.std.proofs.lemmas.Bool.Decides.{nat_tests}
use Rattle.std.specs.List.{AllByRecursion}
use Rattle.choosing.proofs.Groups.{below_all}
use Rattle.choosing.specs.Parties.{below, seats_of, some}
use Rattle.choosing.specs.declared.party.Party.{Party}
use Rattle.giving.specs.declared.ids.Ticket.{Ticket}
use Rattle.pieces.specs.declared.names.Seat.{Seat}
use Rattle.pieces.specs.declared.names.Train.{Train}
use Rattle.pieces.specs.declared.piece.Piece.{Piece}
use Rattle.timetable.specs.Rows.{Table, listed}
use Rattle.timetable.specs.declared.row.Row.{Row}
use Rattle.state.specs.Changes.{opened, fits, holds_all, listed_all, returnable}
use Rattle.state.specs.Ready.{SeatedAll, Standing}
use Rattle.state.specs.States.{State, place_of, place, is_open, openable, sold, tickets_left}
use Rattle.state.specs.declared.record.Record.TheVariants.{Sold}

-- a piece that a train has is of one of 400 seats
pub listed_seat : (o : Option Row) (p : Piece) → listed o p ≡ true → p.seat.0 < 400
listed_seat None p h = let z : ◌≡◌ {A = ℕ} 0 1 = cc in absurd (omega arith)
listed_seat (Some r) p h = let f = r.few in grind (arith, nat_tests)

-- and so is each seat of a party
pub listed_seats : (o : Option Row) (p : Party) → listed_all o p ≡ true → AllByRecursion (λ (s : Seat). s.0 < 400) (seats_of p)
listed_seats None p h = let z : ◌≡◌ {A = ℕ} 0 1 = cc in absurd (omega arith)
listed_seats (Some r) p h = below_all r.seats (seats_of p) r.few (and_parts (ltb p.trip.to.0 r.stops) (below r.seats (seats_of p)) h).1

-- a sale that fits is of such a party, and there is a number for it
pub sold_seated : (tb : Table) (s : State) (n : Ticket) (p : Party) → fits tb s (Sold n p) ≡ true → SeatedAll s p × (tickets_left s ≡ true)
sold_seated tb s n p f =
    let (_, a) = and_parts (some (length (seats_of p))) (listed_all (tb p.train.0) p && (is_open s p.train && (holds_all s p && (tickets_left s && eqb n.0 (sold s + 1))))) f in
    let (l, b) = and_parts (listed_all (tb p.train.0) p) (is_open s p.train && (holds_all s p && (tickets_left s && eqb n.0 (sold s + 1)))) a in
    let (o, c) = and_parts (is_open s p.train) (holds_all s p && (tickets_left s && eqb n.0 (sold s + 1))) b in
    let (_, d) = and_parts (holds_all s p) (tickets_left s && eqb n.0 (sold s + 1)) c in
    ((listed_seats (tb p.train.0) p l, o), (and_parts (tickets_left s) (eqb n.0 (sold s + 1)) d).0)

-- a ticket that may be undone stands
pub returnable_standing : (tb : Table) (s : State) (y : Option Party) → returnable tb s y ≡ true → Standing s y
returnable_standing tb s None f = absurd (false≢true f)
returnable_standing tb s (Some p) f = let (l, o) = and_parts (listed_all (tb p.train.0) p) (is_open s p.train) f in (listed_seats (tb p.train.0) p l, o)

-- a train that is written into a place is found
place_set : (ys : List (Option Train)) (i : ℕ) (t : Train) → i < length ys → place_of (set ys i (Some t)) (Some t) < length ys
place_set [] i t h = absurd (omega arith)
place_set (y ∷ ys) zero t h =
    let e : eqb t.0 t.0 ≡ true = eq-eqb t.0 t.0 refl in
    grind (arith, nat_tests)
place_set (y ∷ ys) (suc i) t h =
    let g = place_set ys i t (omega arith) in
    grind (arith, nat_tests)

-- a train that was opened is open
opened_open : (r : Row) (t : Train) (s : State) → openable s ≡ true → is_open (opened (Some r) t s) t ≡ true
opened_open r t s h =
    let f : place_of s.slots None < length s.slots = grind (arith, nat_tests) in
    let g = place_set s.slots (place_of s.slots None) t f in
    let l = length-set s.slots (place_of s.slots None) (Some t) in
    lt-ltb (place (opened (Some r) t s) t) (length (set s.slots (place_of s.slots None) (Some t))) (omega arith)

opened_if : (b : Bool) (o : Option Row) (p : Piece) (s : State) → is_open s p.train ≡ b → listed o p ≡ true → (b || openable s) ≡ true → is_open (cond b s (opened o p.train s)) p.train ≡ true
opened_if true o p s e l h = e
opened_if false None p s e l h = let z : ◌≡◌ {A = ℕ} 0 1 = cc in absurd (omega arith)
opened_if false (Some r) p s e l h = opened_open r p.train s h

-- the train of a piece that comes is open in the end
pub open_after : (o : Option Row) (p : Piece) (s : State) → listed o p ≡ true → (is_open s p.train || openable s) ≡ true → is_open (cond (is_open s p.train) s (opened o p.train s)) p.train ≡ true
open_after o p s l h = opened_if (is_open s p.train) o p s refl l h
