use Rattle.std.proofs.Common.{rules, arith}
use Rattle.std.proofs.lemmas.Bool.Decides.{nat_tests}
use mathlib.Core.Path.{fun_ext}
use Rattle.timetable.proofs.timetable.Timetable.add.Goals as goal

pub returns : goal.returns
returns c =
    (search rules, fun_ext (λ k. let wrote = c.in_ok-insert.ensures.updates.0 (record { 0 = k }) in grind (arith, nat_tests)))
