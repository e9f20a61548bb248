use Rattle.std.proofs.Common.{◌≡◌, ℕ, ◌+◌, ◌-◌, ◌<◌, Some, length, get_or, sym, ap, ap₂, ◌∙◌, subst, arith, rules}
use Rattle.choosing.specs.Choice.{Chosen, chosen, drawn_all}
use Rattle.choosing.proofs.Rule.{choice_is, seat}
use Rattle.choosing.proofs.Taken.{best, skips, takes, stops, bare, with_least}
use Rattle.std.proofs.lemmas.Option.{none-some}
use Rattle.choosing.proofs.choice.choose.Goals as goal
use Rattle.choosing.proofs.choice.choose.Goals.{then-left-least+then-not-is_taken+else-left-eq0, else-left-least, else-left-least-via-then-left-least+else-not-is_taken, else-left-least-via-else-left-least}

pub seats-init : goal.seats-init
unfolding chosen
seats-init c = search rules

pub seats-preserved-in_default : goal.seats-preserved-in_default
seats-preserved-in_default c =
    let a = c.args.trip.from.0 in
    let b = c.args.trip.to.0 in
    let ordered : a < b = c.args.trip.ordered in
    (c.seats.invariant.0 ∙ sym (skips (λ (k : ℕ). get_or c.args.words.now k 0) c.args.taken.now a b ordered c.seats.index c.in_default.ensures), c.seats.invariant.1)

pub seats-preserved : goal.seats-preserved
seats-preserved c =
    let a = c.args.trip.from.0 in
    let b = c.args.trip.to.0 in
    let ordered : a < b = c.args.trip.ordered in
    let found = c.in-Some.ensures in
    let few : c.in-Some.left < 30 = omega (arith, c.args.trip.near, found.2.3.near, found.2.4) in
    let t = takes (λ (k : ℕ). get_or c.args.words.now k 0) c.args.taken.now a b ordered c.seats.index c.in-Some.left c.seats.least c.seats.best
    c.seats.invariant.0 c.seats.invariant.1 few found.0 found.1 in
    elim c.if-left-least.branch [
      | then-left-least+then-not-is_taken+else-left-eq0 w ↦
          let e : with_least c.if-left-least.best c.if-left-least.least ≡ Some (seat c.seats.index, c.in-Some.left) = ap₂ with_least w.best-is w.least-is in
          (grind (arith, e, t, w.is_taken.ensures.value), λ h. absurd (none-some _ (sym h ∙ w.best-is)))
      | else-left-least w ↦
          let e : with_least c.if-left-least.best c.if-left-least.least ≡ with_least c.seats.best c.seats.least = ap₂ with_least w.best-is w.least-is in (
            elim w.else-left-least.branch [
              | else-left-least-via-then-left-least+else-not-is_taken v ↦ grind (arith, e, t, v.is_taken.ensures.value)
              | else-left-least-via-else-left-least v ↦ grind (arith, e, t)
            ],
            λ h. w.least-is ∙ c.seats.invariant.1 (sym w.best-is ∙ h),
          )
    ]

pub returns-after-seats : goal.returns-after-seats
returns-after-seats c =
    let f = λ (k : ℕ). get_or c.args.words.now k 0 in
    let ss = c.args.taken.now in
    let a = c.args.trip.from.0 in
    let b = c.args.trip.to.0 in
    let n = length c.args.words.now in
    let ordered : a < b = c.args.trip.ordered in
    let e : c.seats.index ≡ n = omega arith in
    let value = bare f ss a b ordered n c.seats.best c.seats.least (c.seats.invariant.0 ∙ ap (best f ss a b ordered) e) in
    record { value = value; best = subst (λ r. Chosen (drawn_all f a b ss) n a b r) (sym value) (choice_is (drawn_all f a b ss) a b n) }

pub returns-then-left-eq0 : goal.returns-then-left-eq0
returns-then-left-eq0 c =
    let f = λ (k : ℕ). get_or c.args.words.now k 0 in
    let ss = c.args.taken.now in
    let a = c.args.trip.from.0 in
    let b = c.args.trip.to.0 in
    let i = c.seats.index in
    let n = length c.args.words.now in
    let ordered : a < b = c.args.trip.ordered in
    let found = c.in-Some.ensures in
    let few : c.in-Some.left < 30 = omega (arith, c.args.trip.near, found.2.3.near, found.2.4) in
    let t = takes f ss a b ordered i c.in-Some.left c.seats.least c.seats.best c.seats.invariant.0 c.seats.invariant.1 few found.0 found.1 in
    let now : best f ss a b ordered (i + 1) ≡ Some (seat i, 0) = grind (arith, t, c.is_taken.ensures.value) in
    let e : n - (i + 1) + (i + 1) ≡ n = omega arith in
    let s = stops f ss a b ordered (n - (i + 1)) (i + 1) (seat i) now in
    let value = bare f ss a b ordered n (Some (seat i)) 0 (cc (e, s)) in
    record { value = value; best = subst (λ r. Chosen (drawn_all f a b ss) n a b r) (sym value) (choice_is (drawn_all f a b ss) a b n) }
