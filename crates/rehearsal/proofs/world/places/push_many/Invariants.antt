use Rattle.std.proofs.Common.{◌≡◌, ◌++◌, replicate, vec_items}
use Rattle.rehearsal.proofs.world.places.push_many.Given as goal

abbrev pub invariant-loop : goal.invariant-loop
invariant-loop l = vec_items l.found ≡ vec_items l.initial.found ++ replicate l.counter l.place
