-- A sale and its undoing.
use Rattle.std.specs.Prelude.{◌≡◌, [], ◌∷◌, ◌++◌, None, Ok}
use Rattle.choosing.specs.declared.party.Party.{Party}
use Rattle.giving.specs.declared.ids.Ticket.{Ticket}
use Rattle.ledger.specs.Decisions.{decided}
use Rattle.pieces.specs.declared.demand.Demand.{Demand}
use Rattle.ledger.specs.declared.input.Input.TheVariants.{Sell, Undo}
use Rattle.ledger.specs.declared.input.Outcome.TheVariants.{Done}
use Rattle.state.specs.Changes.{apply, with_sold, with_tickets}
use Rattle.state.specs.States.{State}
use Rattle.state.specs.declared.record.Record.TheVariants.{Sold, Undone}
use Rattle.timetable.specs.Rows.{Table}

-- a ticket that was sold can be undone, and then the state is what it was before, but for a ticket that has its number and does not stand, and for
-- that one of the train was sold
abbrev pub SellsBack : Type 0
SellsBack = (tb : Table) (s : State) (d : Demand) (n : Ticket) (p : Party) → decided tb s (Sell d) ≡ Ok (Done (Sold n p)) →
    (decided tb (apply tb s (Sold n p)) (Undo n) ≡ Ok (Done (Undone n)))
    × (apply tb (apply tb s (Sold n p)) (Undone n) ≡ with_sold (with_tickets s (s.tickets ++ None ∷ [])) p.train)
