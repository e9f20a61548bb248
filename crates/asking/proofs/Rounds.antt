-- How an ask goes round.
-- Assumes nothing.
use Rattle.std.proofs.Common.{◌≡◌, ℕ, suc, ◌+◌, ◌-◌, ◌<◌, leb, List, [], ◌∷◌, length, drop, fold, Some, Option, refl, ap, ap₂, ◌∙◌, arith, length-drop, drop-drop}
use Rattle.asking.specs.Minds.{Inquiry, advanced}
use Rattle.asking.specs.Rounds.{GoesRound, total, when_answered}
use Rattle.giving.specs.declared.ids.StationId.{StationId}
use Rattle.std.proofs.lemmas.Bool.{le-leb, lt-leb, or_left, or_right}
use Rattle.std.proofs.lemmas.List.Sums.{fold_push, sum_by-cons}

-- still wanted, and still to answer
abbrev left : Inquiry → (given answers : ℕ) → Inquiry
left q g k = record { demand = record q.demand { people = q.demand.people - g }; order = drop k q.order }

goes_on : (q : Inquiry) (n : ℕ) → n < q.demand.people → 1 < length q.order → advanced (Some q) n ≡ Some (left q n 1)
goes_on q n h l = rw (lt-leb q.demand.people n h, lt-leb (length q.order) 1 l) refl

fewer : (p n m s : ℕ) → s ≡ n + m → p - n - m ≡ p - s
fewer p n m s e = omega arith

behind : (k : ℕ) → 1 + k ≡ suc k
behind k = omega arith

on : (q : Inquiry) (ns : List ℕ) → total ns < q.demand.people → length ns < length q.order → when_answered q ns ≡ Some (left q (total ns) (length ns))
on q [] h l = ap (λ (k : ℕ). Some (record { demand = record q.demand { people = k }; order = q.order })) (omega arith)
on q (n ∷ ns) h l =
    let s = sum_by-cons (λ (k : ℕ). k) n ns in
    let r = left q n 1 in
    ap (λ (z : Option Inquiry). fold advanced z ns) (goes_on q n (omega (arith, h, s)) (omega arith))
    ∙ on r ns (omega (arith, h, s)) (omega (arith, length-drop 1 q.order))
    ∙ ap₂ (λ (k : ℕ) (o : List StationId). Some (record { demand = record q.demand { people = k }; order = o })) (fewer q.demand.people n (total ns) (total (n ∷ ns)) s) (drop-drop (length ns) 1 q.order ∙ ap (λ (k : ℕ). drop k q.order) (behind (length ns)))

pub goes_round : GoesRound
goes_round q ns h l =
    let r = left q (total ns) (length ns) in
    let is = on q ns h l in (
      is,
      λ n g. fold_push advanced (Some q) ns n ∙ ap (λ z. advanced z n) is ∙ rw (or_left (leb r.demand.people n) (leb (length r.order) 1) (le-leb r.demand.people n (omega (arith, g)))) refl,
      λ n g. fold_push advanced (Some q) ns n ∙ ap (λ z. advanced z n) is ∙ rw (or_right (leb r.demand.people n) (leb (length r.order) 1) (le-leb (length r.order) 1 (omega (arith, g, length-drop (length ns) q.order)))) refl,
    )
