-- How an ask goes round.
use Rattle.std.specs.Prelude.{◌≡◌, ℕ, ◌+◌, ◌-◌, ◌<◌, ◌≤◌, List, [], ◌∷◌, ◌++◌, length, drop, fold, sum_by, Some, None, Option}
use Rattle.asking.specs.Minds.{Inquiry, advanced}

-- an ask when those who were asked have answered, one after the other, that they gave so many
abbrev pub when_answered : Inquiry → List ℕ → Option Inquiry
when_answered q ns = fold advanced (Some q) ns

abbrev pub total : List ℕ → ℕ
total ns = sum_by (λ n. n) ns

-- As long as more is wanted than was given, and somebody has not been asked, the next in turn is asked for what is still wanted; the ask is over with the
-- answer that gives all of it, and with that of the last.
abbrev pub GoesRound : Type 0
GoesRound = (q : Inquiry) (ns : List ℕ) → total ns < q.demand.people → length ns < length q.order →
    (when_answered q ns ≡ Some (record { demand = record q.demand { people = q.demand.people - total ns }; order = drop (length ns) q.order }))
    × ((n : ℕ) → q.demand.people ≤ total ns + n → when_answered q (ns ++ n ∷ []) ≡ None)
    × ((n : ℕ) → length ns + 1 ≡ length q.order → when_answered q (ns ++ n ∷ []) ≡ None)
