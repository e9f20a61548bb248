-- Records read from the front of some bytes, with the first fault that is met.
use Rattle.std.specs.Prelude.{ℕ, zero, suc, ◌*◌, ◌/◌, Bool, true, false, cond, ◌&&◌, List, [], ◌∷◌, length, Result, Ok, Err, ◌==◌}
use Rattle.choosing.specs.Parties.{party_of, some}
use Rattle.choosing.specs.declared.party.Party.{Party}
use Rattle.lines.specs.Fields.{Reader, ◌>>=◌, then, checked, made, byte, front, word, piece}
use Rattle.lines.specs.declared.fault.Fault.{Fault}
use Rattle.lines.specs.declared.fault.Fault.TheVariants.{Cut, Bad}
use Rattle.pieces.specs.declared.names.Seat.{Seat}
use Rattle.pieces.specs.declared.names.Train.{Train}
use Rattle.pieces.specs.declared.piece.Piece.{Piece}
use Rattle.pieces.specs.declared.trip.Trip.{Trip}
use Rattle.state.specs.declared.record.Record.{Record}
use Rattle.state.specs.declared.record.Record.TheVariants.{Opened, Closed, Sold, Undone, Given, Taken, Heard, Asked, Declined}

-- ---- the pieces of a ticket

-- the seat of a piece of this train and this trip
abbrev pub seat_on : Train → Trip → Piece → Result Seat Fault
seat_on z t p = cond (p.train.0 == z.0 && (p.trip.from.0 == t.from.0 && p.trip.to.0 == t.to.0)) (Ok p.seat) (Err Bad)

-- the seats of so many pieces
abbrev pub seats : Train → Trip → ℕ → Reader (List Seat)
seats z t zero bs = Ok ([], bs)
seats z t (suc n) bs = made (λ x. x.0 ∷ x.1) (then (checked (seat_on z t) piece) (λ _. seats z t n)) bs

-- the party of some pieces, of eight bytes each, which are all of the train and the trip of the first
abbrev pub party : List ℕ → Result Party Fault
party bs = do
  p ← piece bs
  ss ← seats p.0.train p.0.trip (length bs / 8) bs
  Ok (party_of p.0.train p.0.trip ss.0)

-- how many people a ticket is for
abbrev pub people : ℕ → Result ℕ Fault
people n = cond (some n) (Ok n) (Err Bad)

-- the pieces of a ticket, as they stand there
abbrev pub pieces : Reader (List ℕ)
pieces = made (λ x. x.1) (then (checked people byte) (λ n. front (8 * n)))

-- ---- records: what is made of what is read, and its reader

abbrev pub as_sold : ℕ × Party → Record
as_sold x = Sold (record { 0 = x.0 }) x.1

-- a fault in a piece is met once they are all there
abbrev pub sold : Reader Record
sold = made as_sold (then word (λ _. checked party pieces))

abbrev pub as_undone : ℕ → Record
as_undone n = Undone (record { 0 = n })

abbrev pub undone : Reader Record
undone = made as_undone word

abbrev pub as_given : ℕ × (ℕ × (ℕ × Piece)) → Record
as_given x = Given (record { 0 = x.0 }) (record { 0 = x.1.0 }) (record { 0 = x.1.1.0 }) x.1.1.1

abbrev pub given : Reader Record
given = made as_given (then byte (λ _. then word (λ _. then word (λ _. piece))))

abbrev pub as_taken : ℕ × (ℕ × Piece) → Record
as_taken x = Taken (record { 0 = x.0 }) (record { 0 = x.1.0 }) x.1.1

abbrev pub taken : Reader Record
taken = made as_taken (then byte (λ _. then word (λ _. piece)))

abbrev pub as_opened : ℕ → Record
as_opened n = Opened (record { 0 = n })

abbrev pub opened : Reader Record
opened = made as_opened word

abbrev pub as_closed : ℕ → Record
as_closed n = Closed (record { 0 = n })

abbrev pub closed : Reader Record
closed = made as_closed word

abbrev pub as_heard : ℕ × ℕ → Record
as_heard x = Heard (record { 0 = x.0 }) (record { 0 = x.1 })

abbrev pub heard : Reader Record
heard = made as_heard (then byte (λ _. word))

abbrev pub as_asked : ℕ → Record
as_asked n = Asked (record { 0 = n })

abbrev pub asked : Reader Record
asked = made as_asked word

abbrev pub as_declined : ℕ × ℕ → Record
as_declined x = Declined (record { 0 = x.0 }) (record { 0 = x.1 })

abbrev pub declined : Reader Record
declined = made as_declined (then byte (λ _. word))

-- what a record of a kind says
abbrev pub of_kind : ℕ → Reader Record
of_kind k bs =
    cond (k == 6) (sold bs)
    (cond (k == 7) (undone bs)
    (cond (k == 8) (given bs)
    (cond (k == 9) (taken bs)
    (cond (k == 10) (opened bs)
    (cond (k == 11) (closed bs)
    (cond (k == 12) (heard bs)
    (cond (k == 20) (asked bs)
    (cond (k == 21) (declined bs) (Err Bad)))))))))

-- the record that some bytes begin with, and the bytes behind it
abbrev pub first : Reader Record
first bs = do
  k ← byte bs
  of_kind k.0 k.1

-- ---- all records up to the first fault, and what is behind them

abbrev pub on_record : {B : Type 0} → B → Result (Record × List ℕ) Fault → (Record → List ℕ → B) → B
on_record b (Ok x) f = f x.0 x.1
on_record b (Err e) f = b

-- the first n records at most
abbrev pub records_in : ℕ → List ℕ → List Record
records_in zero bs = []
records_in (suc n) bs = on_record [] (first bs) (λ e r. e ∷ records_in n r)

-- and what is behind them
abbrev pub rest_in : ℕ → List ℕ → List ℕ
rest_in zero bs = bs
rest_in (suc n) bs = on_record bs (first bs) (λ e r. rest_in n r)

-- all of them, since each has a byte at least
abbrev pub records_of : List ℕ → List Record
records_of bs = records_in (length bs) bs

abbrev pub rest_of : List ℕ → List ℕ
rest_of bs = rest_in (length bs) bs

abbrev pub cut : {A : Type 0} → Result A Fault → Bool
cut (Ok x) = false
cut (Err Cut) = true
cut (Err Bad) = false

-- more bytes may make a record of it
abbrev pub is_cut : List ℕ → Bool
is_cut bs = cut (first bs)
