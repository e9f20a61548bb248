use Rattle.std.proofs.Common.{rules}
use Rattle.state.specs.States.{begun, nobody}
use Rattle.state.proofs.Same.{same_state}
use Rattle.state.proofs.station.Station.new.Goals as goal

pub returns : goal.returns
unfolding nobody
returns c =
    same_state _ (begun c.args.stations c.args.me.0) (search rules) (c.in_ok-slots.ensures.items_if_clones_equal (λ y e. search rules)) c.in_ok-memory.ensures
    (search rules) (search rules) (search rules) (search rules) (search rules) (search rules) (search rules)
