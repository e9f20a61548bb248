use Rattle.std.proofs.Common.{◌≡◌, ◌++◌, map, take, drop}
use Rattle.state.specs.Changes.{forgotten}
use Rattle.state.proofs.station.sales.forget_all.Given as goal

abbrev pub invariant-loop-sale : goal.invariant-loop-sale
invariant-loop-sale l = l.sales ≡ map (forgotten l.train) (take l.sale-index l.initial.sales) ++ drop l.sale-index l.initial.sales
