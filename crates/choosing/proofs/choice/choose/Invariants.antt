use Rattle.std.proofs.Common.{◌≡◌, ℕ, None, get_or}
use Rattle.choosing.proofs.Taken.{best, with_least}
use Rattle.choosing.proofs.choice.choose.Given as goal

abbrev pub invariant-seats : goal.invariant-seats
invariant-seats l =
    (with_least l.best l.least ≡ best (λ (k : ℕ). get_or l.words k 0) l.taken l.trip.from.0 l.trip.to.0 l.trip.ordered l.index)
    × (l.best ≡ None → l.least ≡ 30)
