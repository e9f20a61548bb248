use Rattle.std.proofs.Common.{◌≡◌, ◌+◌, ◌≤◌, true, ◌++◌, length, vec_items, vec_len, vec_capacity, fold}
use Rattle.choosing.specs.Parties.{pieces_of, seats_of}
use Rattle.ledger.proofs.Gifts.{ahead}
use Rattle.ledger.proofs.calls.write_gifts.Given as goal
use Rattle.ledger.specs.Decisions.{gifts}
use Rattle.state.specs.Changes.{all_fit, apply}
use Rattle.state.specs.Views.{view}
use Rattle.timetable.specs.Tables.{table}

abbrev pub invariant-loop-k : goal.invariant-loop-k
invariant-loop-k l =
    (all_fit (table l.table) (view l.station) (ahead l.to l.ask l.first.0 l.party l.k) ≡ true)
    × (vec_len l.journal + length (seats_of l.party) ≤ vec_capacity l.journal + l.k)
    × (fold (apply (table l.table)) (view l.station) (ahead l.to l.ask l.first.0 l.party l.k) ≡ fold (apply (table l.table)) (view l.initial.station) (gifts l.to l.ask l.first.0 (pieces_of l.party)))
    × (vec_items l.journal ++ ahead l.to l.ask l.first.0 l.party l.k ≡ vec_items l.initial.journal ++ gifts l.to l.ask l.first.0 (pieces_of l.party))
