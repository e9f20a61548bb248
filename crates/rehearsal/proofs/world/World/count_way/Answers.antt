use Rattle.std.proofs.Common.{vec_items, ap, ◌∙◌, arith}
use Rattle.network.specs.Places.{count_in}
use Rattle.rehearsal.proofs.Finding.{way_is, waiting_counted}
use Rattle.rehearsal.proofs.world.World.count_way.Goals as goal

pub returns : goal.returns
returns c =
    c.count_waiting_for.ensures ∙ waiting_counted c.args.at.train c.args.at.seat.0 c.args.at.stop.0 _
    ∙ ap (count_in c.args.at.train c.args.at.seat.0 c.args.at.stop.0)
    (way_is (vec_items c.args.self.now.posts) c.args.from.0 c.args.to.0 c.post.result.now c.post-2.result.now (omega arith) c.post.ensures (omega arith) c.post-2.ensures
    c.channels-giver.result.now c.channels-taker.result.now c.channels-giver.ensures c.channels-taker.ensures
    c.taken_from-taken.result c.heard_from.result c.saturating_sub-skip.result c.taken_from-taken.ensures c.heard_from.ensures c.saturating_sub-skip.ensures)
