use Rattle.std.proofs.Common.{◌≡◌, map, replicate, vec_items}
use Rattle.giving.specs.Channels.{chan, fresh}
use Rattle.giving.proofs.channels.Channels.new.Given as goal

abbrev pub invariant-loop : goal.invariant-loop
invariant-loop l = map chan (vec_items l.lines) ≡ replicate l.counter fresh
