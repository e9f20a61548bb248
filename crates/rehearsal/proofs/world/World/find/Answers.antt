use mathlib.Core.Logic.{∥∥₁_elim}
use Rattle.std.proofs.Common.{◌≡◌, ℕ, ◌<◌, [], length, vec_items, ap, ◌∙◌, arith}
use native.Mathlib.Nat.{ℕ_set}
use Rattle.network.specs.Places.{gather}
use Rattle.rehearsal.proofs.Gathered.{found_none, found_more}
use Rattle.rehearsal.proofs.Living.{one_place}
use Rattle.rehearsal.specs.Found.{spots_of, places_of}
use Rattle.rehearsal.proofs.world.World.find.Goals as goal

pub loop-k-init : goal.loop-k-init
loop-k-init c =
    record {
      all = λ _. c.new-found.ensures.items ∙ found_none [] (spots_of c.args.self.now c.args.at.train c.args.at.seat.0 c.args.at.stop.0);
      none = λ _. c.new-found.ensures.items;
    }

pub loop-k-preserved : goal.loop-k-preserved
loop-k-preserved c =
    record {
      all = λ s. found_more [] _ _ c.loop-k.k (spots_of c.args.self.now c.args.at.train c.args.at.seat.0 c.args.at.stop.0) (c.loop-k.invariant.all s) (c.in_ok-spots.ensures.all s);
      none = λ s. c.in_ok-spots.ensures.none s ∙ c.loop-k.invariant.none s;
    }

pub returns-clause-one : goal.returns-clause-one
returns-clause-one c =
    let w = c.args.self.now in
    let t = c.args.at.train in
    let s = c.args.at.seat.0 in
    let u = c.args.at.stop.0 in
    let whole : s < 400 → vec_items c.loop-k.found ≡ places_of w t s u =
    λ h. c.loop-k.invariant.all h ∙ ap (λ (k : ℕ). gather k (spots_of w t s u)) (omega (arith, c.loop-k-test.false, c.loop-k.auto.k-end, c.stations-k-end.ensures)) in
    λ g r e o shut ls lu. ap length (whole (omega (arith, ls, r.few))) ∙ ∥∥₁_elim w.lives (ℕ_set _ _) (λ l. one_place _ _ _ _ l g t r e o shut s u ls lu)
