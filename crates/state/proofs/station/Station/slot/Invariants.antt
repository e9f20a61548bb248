use Rattle.std.proofs.Common.{◌≡◌, ◌+◌, drop, vec_items}
use Rattle.state.specs.States.{place_of}
use Rattle.state.proofs.station.Station.slot.Given as goal

abbrev pub invariant-loop-index : goal.invariant-loop-index
invariant-loop-index l = place_of (vec_items l.self.slots) l.train ≡ l.index + place_of (drop l.index (vec_items l.self.slots)) l.train
