use Rattle.std.proofs.Common.{sym, refl, arith}
use Rattle.pieces.proofs.Same.{trip_is}
use Rattle.pieces.proofs.trip.Trip.new.Goals as goal

pub returns-then-to-lt30 : goal.returns-then-to-lt30
returns-then-to-lt30 c = record { value = sym (trip_is _); means = (refl, refl, omega arith, omega arith) }
