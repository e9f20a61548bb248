use Rattle.std.proofs.Common.{rules, ◌∙◌}
use Rattle.choosing.specs.Parties.{seats_of}
use Rattle.rehearsal.proofs.Finding.{party_counted}
use Rattle.rehearsal.proofs.world.places.count_party.Goals as goal

pub returns-clause-value : goal.returns-clause-value
returns-clause-value c =
    search rules ∙ party_counted c.args.at.train c.args.at.seat.0 c.args.at.stop.0 c.args.party.now.train c.args.party.now.trip (seats_of c.args.party.now)
