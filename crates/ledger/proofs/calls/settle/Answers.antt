use Rattle.std.proofs.Common.{◌≡◌, ◌+◌, ◌≤◌, true, length, vec_len, vec_capacity, subst, arith}
use Rattle.ledger.proofs.Gifts.{gifts_count}
use Rattle.ledger.proofs.calls.settle.Goals as goal
use Rattle.ledger.specs.Calls.{Numbered}
use Rattle.ledger.specs.Decisions.{entries}
use Rattle.state.specs.Changes.{all_fit}
use Rattle.state.specs.Views.{view}
use Rattle.timetable.specs.Tables.{table}

pub write_gifts-requires : goal.write_gifts-requires
write_gifts-requires c =
    let g = c.in-Gave in
    let j = c.args.journal.now in
    let e = gifts_count g.to g.ask g.first.0 g.party in
    let r = subst (λ o. vec_len j + length (entries o) ≤ vec_capacity j) g.is c.requires.room in
    record {
      fits = subst (λ o. all_fit (table c.args.table.now) (view c.args.station.now) (entries o) ≡ true) g.is c.requires.fits;
      room = omega (arith, e, r);
      numbered = subst Numbered g.is c.requires.numbered;
    }
