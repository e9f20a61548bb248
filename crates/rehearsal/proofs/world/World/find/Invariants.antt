use Rattle.std.proofs.Common.{◌≡◌, ◌<◌, ◌≤◌, [], vec_items}
use Rattle.network.specs.Places.{gather}
use Rattle.rehearsal.specs.Found.{spots_of}
use Rattle.rehearsal.proofs.world.World.find.Given as goal

abbrev pub invariant-loop-k : goal.invariant-loop-k
invariant-loop-k l =
    record {
      all : l.at.seat.0 < 400 → vec_items l.found ≡ gather l.k (spots_of l.self l.at.train l.at.seat.0 l.at.stop.0);
      none : 400 ≤ l.at.seat.0 → vec_items l.found ≡ [];
    }
