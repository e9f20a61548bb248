use Rattle.std.proofs.Common.{◌≡◌, ◌++◌, vec_items}
use Rattle.network.specs.Places.{gather}
use Rattle.rehearsal.specs.Found.{way_to}
use Rattle.rehearsal.proofs.world.World.ways.Given as goal

abbrev pub invariant-loop-k : goal.invariant-loop-k
invariant-loop-k l = vec_items l.found ≡ vec_items l.initial.found ++ gather l.k (way_to l.self l.at.train l.at.seat.0 l.at.stop.0 l.who.0)
