-- What holds of a station by itself, whatever its journal.
-- Assumes nothing.
use Rattle.std.proofs.Common.{◌≡◌, ℕ, ◌+◌, ◌-◌, ◌<◌, ◌≤◌, max, true, false, ◌||◌, eqb, List, [], ◌∷◌, ◌++◌, length, drop, is_some, Some, None, Option, sym, refl, ap, ◌∙◌, arith, length-append, drop-drop}
use Rattle.std.proofs.lemmas.List.{drop-append-le}
use Rattle.choosing.specs.Parties.{below, seats_of, some}
use Rattle.choosing.specs.declared.party.Party.{Party}
use Rattle.giving.specs.Channels.{Chan, gave, declined, took, heard_to, line}
use Rattle.giving.specs.declared.ids.Ask.{Ask}
use Rattle.giving.specs.declared.ids.Number.{Number}
use Rattle.giving.specs.declared.ids.StationId.{StationId}
use Rattle.giving.specs.declared.ids.Ticket.{Ticket}
use Rattle.state.specs.Changes.{fits, fresh_ask, holds_all, listed_all}
use Rattle.state.specs.States.{State, place_of, is_open, known, openable, holds_piece, sold}
use Rattle.state.specs.declared.record.Record.TheVariants.{Opened, Sold, Given, Taken, Heard, Asked, Declined}
use Rattle.pieces.specs.declared.names.Train.{Train}
use Rattle.pieces.specs.declared.piece.Piece.{Piece}
use Rattle.std.proofs.lemmas.Bool.{both_ways, eq-eqb, false≢true}
use Rattle.std.proofs.lemmas.Bool.Decides.{nat_tests}
use Rattle.timetable.specs.Rows.{Table, listed}
use Rattle.timetable.specs.declared.row.Row.{Row}

-- ---- a line: what is given and taken on it, in order

pub record Line (c : Chan) (gs ts : List Piece) : Type 0 where
  pub given : c.given ≡ length gs
  pub taken : c.taken ≡ length ts
  pub heard : c.heard ≤ length gs
  pub waiting : c.waiting ≡ drop c.heard gs

pub line_gave : (c : Chan) (gs ts : List Piece) (a : ℕ) (p : Piece) → Line c gs ts → Line (gave c a p) (gs ++ p ∷ []) ts
line_gave c gs ts a p l =
    let e = length-append gs (p ∷ []) in
    record {
      given = omega (arith, e, l.given);
      taken = l.taken;
      heard = omega (arith, e, l.heard);
      waiting = ap (λ xs. xs ++ p ∷ []) l.waiting ∙ sym (drop-append-le c.heard gs (p ∷ []) l.heard);
    }

pub line_took : (c : Chan) (gs ts : List Piece) (p : Piece) → Line c gs ts → Line (took c) gs (ts ++ p ∷ [])
line_took c gs ts p l = record { given = l.given; taken = omega (arith, length-append ts (p ∷ []), l.taken); heard = l.heard; waiting = l.waiting }

pub line_declined : (c : Chan) (gs ts : List Piece) (a : ℕ) → Line c gs ts → Line (declined c a) gs ts
line_declined c gs ts a l = record { given = l.given; taken = l.taken; heard = l.heard; waiting = l.waiting }

pub line_heard : (c : Chan) (gs ts : List Piece) (n : ℕ) → n ≤ c.given → Line c gs ts → Line (heard_to c n) gs ts
line_heard c gs ts n h l =
    let e : c.heard + (n - c.heard) ≡ max c.heard n = omega arith in
    record {
      given = l.given;
      taken = l.taken;
      heard = omega (arith, l.heard, l.given);
      waiting = ap (drop (n - c.heard)) l.waiting ∙ drop-drop (n - c.heard) c.heard gs ∙ ap (λ k. drop k gs) e;
    }

-- ---- what a record that fits says

pub record Listed (o : Option Row) (p : Piece) : Type 0 where
  pub row : Row
  pub is : o ≡ Some row
  pub seat : p.seat.0 < row.seats
  pub to : p.trip.to.0 < row.stops

pub listed_row : (o : Option Row) (p : Piece) → listed o p ≡ true → Listed o p
listed_row None p e = absurd (false≢true e)
listed_row (Some r) p e = record { row = r; is = refl; seat = grind (arith, nat_tests); to = grind (arith, nat_tests) }

-- the row of a party's train
pub record ListedAll (o : Option Row) (p : Party) : Type 0 where
  pub row : Row
  pub is : o ≡ Some row
  pub to : p.trip.to.0 < row.stops
  pub seats : below row.seats (seats_of p) ≡ true

pub listed_party : (o : Option Row) (p : Party) → listed_all o p ≡ true → ListedAll o p
listed_party None p e = absurd (false≢true e)
listed_party (Some r) p e = record { row = r; is = refl; to = grind (arith, nat_tests); seats = grind (arith, nat_tests) }

pub free_lt : (x : State) → openable x ≡ true → place_of x.slots None < length x.slots
free_lt x e = grind (arith, nat_tests)

module _ (tb : Table) (x : State) where
  pub fits_opened : (t : Train) → fits tb x (Opened t) ≡ true → (is_some (tb t.0) ≡ true) × (known x t ≡ false) × (place_of x.slots None < length x.slots)
  fits_opened t f = grind (arith, nat_tests)

  pub record FitsSold (n : Ticket) (p : Party) : Type 0 where
    pub people : some (length (seats_of p)) ≡ true
    pub listed : listed_all (tb p.train.0) p ≡ true
    pub «open» : is_open x p.train ≡ true
    pub held : holds_all x p ≡ true
    pub next : n.0 ≡ sold x + 1

  pub fits_sold : (n : Ticket) (p : Party) → fits tb x (Sold n p) ≡ true → FitsSold n p
  fits_sold n p f = grind (arith, nat_tests)

  pub record FitsGiven (to : StationId) (n : Number) (a : Ask) (p : Piece) : Type 0 where
    pub listed : listed (tb p.train.0) p ≡ true
    pub «open» : is_open x p.train ≡ true
    pub held : holds_piece x p ≡ true
    pub there : to.0 < length x.channels
    pub away : x.me ≡ to.0 → ⊥
    pub fresh : fresh_ask (line x.channels to.0) a.0 ≡ true

  pub fits_given : (to : StationId) (n : Number) (a : Ask) (p : Piece) → fits tb x (Given to n a p) ≡ true → FitsGiven to n a p
  fits_given to n a p f = record { listed = grind (arith, nat_tests); «open» = grind (arith, nat_tests); held = grind (arith, nat_tests); there = grind (arith, nat_tests); away = λ e. both_ways (eqb to.0 x.me) (grind (arith, nat_tests)) (eq-eqb to.0 x.me (sym e)); fresh = grind (arith, nat_tests) }

  pub record FitsTaken (from : StationId) (n : Number) (p : Piece) : Type 0 where
    pub listed : listed (tb p.train.0) p ≡ true
    pub there : from.0 < length x.channels
    pub next : n.0 ≡ (line x.channels from.0).taken + 1
    pub room : (known x p.train || openable x) ≡ true

  pub fits_taken : (from : StationId) (n : Number) (p : Piece) → fits tb x (Taken from n p) ≡ true → FitsTaken from n p
  fits_taken from n p f = grind (arith, nat_tests)

  pub fits_heard : (from : StationId) (n : Number) → fits tb x (Heard from n) ≡ true → (from.0 < length x.channels) × (n.0 ≤ (line x.channels from.0).given)
  fits_heard from n f = grind (arith, nat_tests)

  pub fits_declined : (to : StationId) (a : Ask) → fits tb x (Declined to a) ≡ true → (to.0 < length x.channels) × ((line x.channels to.0).answered < a.0)
  fits_declined to a f = grind (arith, nat_tests)

  pub fits_asked : (a : Ask) → fits tb x (Asked a) ≡ true → a.0 ≡ x.asked + 1
  fits_asked a f = grind (arith, nat_tests)
