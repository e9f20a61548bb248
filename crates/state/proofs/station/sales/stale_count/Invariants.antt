use Rattle.std.proofs.Common.{◌≡◌, ◌+◌, drop}
use Rattle.state.specs.Changes.{stale}
use Rattle.state.proofs.station.sales.stale_count.Given as goal

abbrev pub invariant-loop-count : goal.invariant-loop-count
invariant-loop-count l = stale l.sales ≡ l.count + stale (drop l.count l.sales)
