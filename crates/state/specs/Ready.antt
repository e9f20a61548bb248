-- What a record needs besides that it fits, and the smaller changes that records are made of.
use Rattle.std.specs.Prelude.{◌≡◌, ◌+◌, ◌<◌, ◌≤◌, true, vec_len, vec_capacity, Some, None, Option}
use Rattle.choosing.specs.Parties.{seats_of}
use Rattle.choosing.specs.declared.party.Party.{Party}
use Rattle.pieces.specs.declared.names.Seat.{Seat}
use Rattle.pieces.specs.declared.piece.Piece.{Piece}
use Rattle.std.specs.List.{AllByRecursion}
use Rattle.state.specs.Changes.{stale, trimmed}
use Rattle.state.specs.States.{State, is_open}
use Rattle.state.specs.declared.record.Record.{Record}
use Rattle.state.specs.declared.record.Record.TheVariants.{Opened, Closed, Sold, Undone, Given, Taken, Heard, Asked, Declined}
use Rattle.state.specs.declared.station.Station.{Station}

-- there is memory for what a record adds
abbrev pub Ready : Station → Record → Type 0
Ready s (Opened t) = Unit
Ready s (Closed t) = vec_len s.closed < vec_capacity s.closed
Ready s (Sold n p) = vec_len s.tickets < vec_capacity s.tickets
Ready s (Undone n) = Unit
Ready s (Given to n a p) = Unit
Ready s (Taken from n p) = Unit
Ready s (Heard from n) = Unit
Ready s (Asked a) = Unit
Ready s (Declined to a) = Unit

-- what a record adds to had no room left
abbrev pub Spent : Station → Record → Type 0
Spent s (Opened t) = ⊥
Spent s (Closed t) = vec_capacity s.closed ≤ vec_len s.closed
Spent s (Sold n p) = vec_capacity s.tickets ≤ vec_len s.tickets
Spent s (Undone n) = ⊥
Spent s (Given to n a p) = ⊥
Spent s (Taken from n p) = ⊥
Spent s (Heard from n) = ⊥
Spent s (Asked a) = ⊥
Spent s (Declined to a) = ⊥

-- a piece of a seat that has a word, of an open train
abbrev pub Seated : State → Piece → Type 0
Seated s p = (p.seat.0 < 400) × (is_open s p.train ≡ true)

-- and a party of such pieces
abbrev pub SeatedAll : State → Party → Type 0
SeatedAll s p = AllByRecursion (λ (x : Seat). x.0 < 400) (seats_of p) × (is_open s p.train ≡ true)

-- a ticket that stands, for such a party
abbrev pub Standing : State → Option Party → Type 0
Standing s (Some p) = SeatedAll s p
Standing s None = ⊥

-- the tickets at the front that do not stand any more are dropped
abbrev pub trimming : State → State
trimming s = record s { dropped = s.dropped + stale s.tickets; tickets = trimmed s.tickets }
