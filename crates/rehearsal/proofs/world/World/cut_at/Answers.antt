use mathlib.Core.Logic.{∥∥₁_map}
use Rattle.std.proofs.Common.{◌≡◌, ◌<◌, length, set, vec_items, refl, ap, arith}
use Rattle.rehearsal.proofs.Goings.{cut_goes}
use Rattle.rehearsal.proofs.Living.{Goes}
use Rattle.rehearsal.proofs.Posts.{same_post}
use Rattle.rehearsal.proofs.Turning.{cut_between}
use Rattle.rehearsal.specs.Seen.{count, rows}
use Rattle.rehearsal.proofs.world.World.cut_at.Goals as goal
use Rattle.rehearsal.proofs.world.World.cut_at.Goals.{After-restart}

module _ (c : After-restart) where
  there : c.args.place < count c.args.self.now
  there = omega arith

  -- all that was on the file is there
  at : c.len-bytes.result ≡ length (vec_items c.index_mut.result.now.file)
  at = omega (arith, c.len-bytes.ensures, ap (λ p. length (vec_items p.file)) (same_post (vec_items c.args.self.now.posts) c.args.place c.index.result.now there c.index.ensures c.index_mut.result.now c.index_mut.ensures.value))

  left : ∥ Goes (rows c.args.self.now) (vec_items c.args.self.now.posts) (vec_items c.args.self.now.said) c.args.self.now.made_up (set (vec_items c.args.self.now.posts) c.args.place c.restart.new.self) (vec_items c.args.self.now.said) ∥₁
  left = ∥∥₁_map c.args.self.now.lives (λ l. cut_goes _ _ _ _ l c.args.place c.index_mut.result.now c.restart.new.self there c.index_mut.ensures.value _ at _ c.restart.ensures)

pub invariant_of-self-clause-lives : goal.invariant_of-self-clause-lives
invariant_of-self-clause-lives c = ∥∥₁_map (left (goal.at.invariant_of-self-clause-lives c).After-restart) (λ g. g.0)

pub returns : goal.returns
returns c =
    let s = (goal.at.returns c).After-restart in
    record {
      steps = λ g. ∥∥₁_map (left s) (λ x. x.1 g);
      genuine = refl;
      came = cut_between c.args.self.now _ c.args.place c.index_mut.result.now c.restart.new.self (there s) c.index_mut.ensures.value refl c.args.self.now.lives refl refl _ (at s) _ c.restart.ensures;
    }
