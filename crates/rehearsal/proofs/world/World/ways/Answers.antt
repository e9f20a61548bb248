use Rattle.std.proofs.Common.{ℕ, ◌++◌, replicate, vec_items, ap, ◌∙◌}
use Rattle.network.specs.declared.place.Place.TheVariants.{Way}
use Rattle.rehearsal.proofs.Gathered.{found_none, found_more}
use Rattle.rehearsal.specs.Found.{way_to}
use Rattle.rehearsal.proofs.world.World.ways.Goals as goal

pub loop-k-init : goal.loop-k-init
loop-k-init c = found_none (vec_items c.args.found.now) (way_to c.args.self.now c.args.at.train c.args.at.seat.0 c.args.at.stop.0 c.args.who.0)

pub loop-k-preserved : goal.loop-k-preserved
loop-k-preserved c =
    let k = c.loop-k.k in
    found_more _ _ _ k (way_to c.args.self.now c.args.at.train c.args.at.seat.0 c.args.at.stop.0 c.args.who.0) c.loop-k.invariant
    (c.in_ok-push_many.ensures ∙ ap (λ (n : ℕ). vec_items c.loop-k.found ++ replicate n (Way c.args.who (record { 0 = k }))) c.count_way.ensures)
