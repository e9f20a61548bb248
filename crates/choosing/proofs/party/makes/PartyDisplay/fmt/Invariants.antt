use Rattle.std.proofs.Common.{take}
use Rattle.std.specs.Fmt.{HasWritten, IsPlainFormatter}
use Rattle.std.specs.List.{flat_map}
use Rattle.choosing.specs.Parties.{seat_printed}
use Rattle.choosing.proofs.party.makes.PartyDisplay.fmt.Given as goal

abbrev pub invariant-loop-seat : goal.invariant-loop-seat
invariant-loop-seat g l =
    IsPlainFormatter l.initial.f → HasWritten g.W.Write.write_str_gives l.initial.f (flat_map (seat_printed l.self.trip) (take l.seat-index l.seat-items)) l.f
