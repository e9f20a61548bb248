use mathlib.Core.Logic.{∥∥₁_map}
use Rattle.std.proofs.Common.{ℕ, ◌<◌, length, vec_items, set, Some, refl, ap, ◌∙◌, arith}
use lib.Seq.{map-set}
use Rattle.rehearsal.proofs.Goings.{rest_goes}
use Rattle.rehearsal.proofs.Turning.{still}
use Rattle.rehearsal.specs.Seen.{cuts}
use Rattle.rehearsal.proofs.world.World.cut_next.Goals as goal

pub invariant_of-self-clause-lives : goal.invariant_of-self-clause-lives
invariant_of-self-clause-lives c =
    let b : c.in-Some.place < length (vec_items c.args.self.now.posts) = omega (arith, c.in-Some.ensures.0, c.in-Some.ensures.1) in
    ∥∥₁_map c.args.self.now.lives (λ l. (rest_goes _ _ _ _ l c.in-Some.place c.index_mut.result.now _ b c.index_mut.ensures.value refl refl).0)

pub returns-clause-came : goal.returns-clause-came
returns-clause-came c =
    let b : c.in-Some.place < length (vec_items c.args.self.now.posts) = omega (arith, c.in-Some.ensures.0, c.in-Some.ensures.1) in
    let w = c.args.self.now in
    let p = c.index_mut.result.now in
    let e = c.index_mut.ensures.value in (
      c.in-Some.ensures.0,
      still w _ c.in-Some.place p _ b e refl refl refl refl refl refl,
      map-set (λ p. p.cut) (vec_items w.posts) c.in-Some.place _ ∙ ap (λ (k : ℕ). set (cuts w) k (Some c.args.bytes)) c.in-Some.ensures.1,
    )
