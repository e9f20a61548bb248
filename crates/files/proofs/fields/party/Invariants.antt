use Rattle.files.proofs.Seating.{Seated}
use Rattle.files.proofs.fields.party.Given as goal

abbrev pub invariant-loop : goal.invariant-loop
invariant-loop l = Seated l.train l.trip l.end l.pieces l.counter l.rest l.party
