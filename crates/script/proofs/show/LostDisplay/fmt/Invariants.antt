use Rattle.std.proofs.Common.{take}
use Rattle.std.specs.Fmt.{HasWritten, IsPlainFormatter}
use Rattle.std.specs.List.{flat_map}
use Rattle.script.specs.Shown.{train_text}
use Rattle.script.proofs.show.LostDisplay.fmt.Given as goal

abbrev pub invariant-loop-train : goal.invariant-loop-train
invariant-loop-train g l =
    IsPlainFormatter l.initial.f → HasWritten g.W.Write.write_str_gives l.initial.f (flat_map train_text (take l.train-index l.train-items)) l.f
