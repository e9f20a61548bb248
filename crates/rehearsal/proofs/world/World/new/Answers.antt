use Rattle.std.proofs.Common.{ℕ, false, vec_items, sym, refl, ap, ◌∙◌, subst, arith}
use Rattle.rehearsal.proofs.Begun.{begun_next, begun_lives}
use Rattle.rehearsal.specs.Lives.{Lives}
use Rattle.state.specs.States.{begun}
use Rattle.timetable.specs.Tables.{table}
use Rattle.rehearsal.proofs.world.World.new.Goals as goal

pub loop-k-preserved : goal.loop-k-preserved
loop-k-preserved c =
    begun_next c.args.stations c.loop-k.k _ _ _ c.loop-k.invariant c.in_ok-push.ensures.items (c.in_ok-machine.ensures.0 ∙ ap (λ (m : ℕ). begun m c.loop-k.k) c.from.ensures) c.new-file.ensures.items c.in_ok-machine.ensures.1 refl

pub invariant_of-result-clause-lives : goal.invariant_of-result-clause-lives
invariant_of-result-clause-lives c =
    ∣ subst (λ ms. Lives (table c.new-2.result) (vec_items c.loop-k.posts) ms false) (sym c.new-3.ensures.items) (begun_lives (table c.new-2.result) c.args.stations (vec_items c.loop-k.posts) (omega (arith, c.loop-k.invariant.0)) c.loop-k.invariant.1) ∣₁
