use Rattle.std.proofs.Common.{◌≡◌, ◌+◌, ◌≤◌, ◌++◌, length, vec_items, vec_len, vec_capacity}
use Rattle.choosing.specs.Parties.{pieces_of, seats_of}
use Rattle.ledger.proofs.Gifts.{unsaid}
use Rattle.ledger.proofs.reply.say_gifts.Given as goal
use Rattle.ledger.specs.Decisions.{notices}

abbrev pub invariant-loop-k : goal.invariant-loop-k
invariant-loop-k l =
    (vec_len l.out ≡ vec_len l.initial.out + l.k)
    × (vec_capacity l.out ≡ vec_capacity l.initial.out)
    × (l.k ≤ length (seats_of l.party))
    × (vec_items l.out ++ unsaid l.me.0 l.to l.first.0 l.party l.k ≡ vec_items l.initial.out ++ notices l.me.0 l.to l.first.0 (pieces_of l.party))
