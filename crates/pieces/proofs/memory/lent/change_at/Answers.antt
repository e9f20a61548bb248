use Rattle.std.proofs.Common.{ℕ, ◌+◌, ◌-◌, ◌*◌, arith}
use Rattle.pieces.proofs.Blocks.{part_edit}
use Rattle.pieces.proofs.memory.lent.change_at.Goals as goal

pub returns : goal.returns
returns g c =
    let i = c.args.place * 400 in
    part_edit (λ (w : ℕ). g.C.Change.changed w c.args.trip.from.0 c.args.trip.to.0) c.args.all.now _ i 400 (i + 400 - i) c.args.seat.0 (omega arith) (omega arith) (omega arith)
    c.change.ensures
