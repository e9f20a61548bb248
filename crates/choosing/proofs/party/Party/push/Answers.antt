use Rattle.std.proofs.Common.{refl, ap}
use Rattle.std.proofs.Common.{set}
use Rattle.choosing.proofs.Parties.{one_more, room_for_one}
use Rattle.choosing.proofs.party.Party.push.Goals as goal

pub returns : goal.returns
returns c z t ss h = one_more c.args.self.now _ z t ss c.args.seat (room_for_one c.args.self.now z t ss h c.requires) h refl refl (ap (λ i. set c.args.self.now.seats i c.args.seat) c.from.ensures) refl
