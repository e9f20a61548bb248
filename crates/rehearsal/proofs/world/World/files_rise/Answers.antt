use mathlib.Core.Logic.{∥∥₁_elim}
use Rattle.std.proofs.Props.{props}
use Rattle.rehearsal.proofs.Rising.{all_rises, left_rises}
use Rattle.rehearsal.proofs.world.World.files_rise.Goals as goal

pub returns : goal.returns
returns c =
    let w = c.args.self.now in
    λ k b. (
      λ n. ∥∥₁_elim w.lives (Prim.hlevel props) (λ l. left_rises _ _ _ _ l k b n),
      ∥∥₁_elim w.lives (Prim.hlevel props) (λ l. all_rises _ _ _ _ l k b),
    )
