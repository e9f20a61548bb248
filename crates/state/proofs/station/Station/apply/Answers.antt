use Rattle.std.proofs.Common.{◌≡◌, true, subst}
use Rattle.state.proofs.Opens.{sold_seated, returnable_standing}
use Rattle.state.proofs.station.Station.apply.Goals as goal
use Rattle.state.specs.Changes.{fits}
use Rattle.state.specs.Ready.{Ready}
use Rattle.state.specs.States.{ticket_of}
use Rattle.state.specs.Views.{view}
use Rattle.timetable.specs.Tables.{table}

pub sell-requires : goal.sell-requires
sell-requires c =
    let s = c.args.self.now in
    let (a, b) = sold_seated (table c.args.table.now) (view s) c.in-Sold.field-0 c.in-Sold.party (subst (λ e. fits (table c.args.table.now) (view s) e ≡ true) c.in-Sold.is c.requires.fits) in
    record { seated = a; left = b; ready = subst (Ready s) c.in-Sold.is c.requires.ready }

pub undo-requires : goal.undo-requires
undo-requires c =
    let s = view c.args.self.now in
    returnable_standing (table c.args.table.now) s (ticket_of s c.in-Undone.ticket.0) (subst (λ e. fits (table c.args.table.now) s e ≡ true) c.in-Undone.is c.requires.fits)
