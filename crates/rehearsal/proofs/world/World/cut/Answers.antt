use mathlib.Core.Logic.{∥∥₁_map}
use Rattle.std.proofs.Common.{◌<◌, length, vec_items, refl, sym, subst, arith}
use lib.Seq.{map-set}
use Rattle.network.specs.Falls.{Moves, none}
use Rattle.rehearsal.proofs.Goings.{rest_goes}
use Rattle.rehearsal.proofs.Posts.{cut_is}
use Rattle.rehearsal.proofs.Turning.{fallen_count, same_site, still, still_to_come}
use Rattle.rehearsal.specs.Seen.{count, rows, seen}
use Rattle.rehearsal.specs.Turns.{idle}
use Rattle.rehearsal.proofs.world.World.cut.Goals as goal

pub returns-in_default-clause-steps : goal.returns-in_default-clause-steps
returns-in_default-clause-steps c = λ _. ∣ none ∣₁

pub invariant_of-self-clause-lives : goal.invariant_of-self-clause-lives
invariant_of-self-clause-lives c =
    let w = c.args.self.now in
    let m = c.cut_at.new.self in
    let b : c.in-Some.place < length (vec_items m.posts) = omega (arith, c.in-Some.ensures.0, c.in-Some.ensures.1, fallen_count w m c.in-Some.place (idle w c.in-Some.place) 0 c.in_ok-cut_at.ensures.came) in
    ∥∥₁_map m.lives (λ l. (rest_goes _ _ _ _ l c.in-Some.place c.index_mut.result.now _ b c.index_mut.ensures.value refl refl).0)

pub returns-clause-steps : goal.returns-clause-steps
returns-clause-steps c =
    let w = c.args.self.now in
    let m = c.cut_at.new.self in
    let p = c.index_mut.result.now in
    λ g. ∥∥₁_map (c.in_ok-cut_at.ensures.steps g)
    (λ s. subst (Moves (count w) (rows w) (seen w)) (sym (same_site (vec_items m.posts) c.in-Some.place p (record p { cut = c.index.result.now.cut }) c.index_mut.ensures.value refl (vec_items m.said))) s)

pub returns-clause-came : goal.returns-clause-came
returns-clause-came c =
    let w = c.args.self.now in
    let m = c.cut_at.new.self in
    let i = c.in-Some.place in
    let f = c.in_ok-cut_at.ensures.came in
    let b : i < length (vec_items m.posts) = omega (arith, c.in-Some.ensures.0, c.in-Some.ensures.1, fallen_count w m i (idle w i) 0 f) in
    let there : i < length (vec_items w.posts) = omega (arith, c.in-Some.ensures.0, c.in-Some.ensures.1) in
    let p = c.index_mut.result.now in
    let h = still_to_come w m _ i (idle w i) 0 c.index.result.now.cut f (still m _ i p _ b c.index_mut.ensures.value refl refl refl refl refl refl) (map-set (λ p. p.cut) (vec_items m.posts) i _)
    (sym (cut_is (vec_items w.posts) i c.index.result.now there c.index.ensures)) in
    rw (← c.in-Some.ensures.1) (there, h.0, h.1)
