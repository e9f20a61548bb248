use Rattle.std.proofs.Common.{◌≡◌, length, vec_items}
use Rattle.rehearsal.proofs.Begun.{Begun}
use Rattle.rehearsal.proofs.world.World.new.Given as goal

abbrev pub invariant-loop-k : goal.invariant-loop-k
invariant-loop-k l = (length (vec_items l.posts) ≡ l.k) × Begun l.stations (vec_items l.posts)
