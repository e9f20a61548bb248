use Rattle.std.proofs.Common.{◌≡◌, ◌-◌, ◌*◌, ◌%◌, ◌^◌, arith}
use Rattle.std.proofs.lemmas.Nat.{one_shl, pow_below}
use Rattle.pieces.specs.Stretches.{span}
use Rattle.pieces.proofs.Bitwise.{holds_span, same_each}
use Rattle.pieces.proofs.words.mask.Goals as goal

pub overflow_sub-result : goal.overflow_sub-result
overflow_sub-result c =
    let a = c.args.trip.from.0 in
    let b = c.args.trip.to.0 in
    omega (arith, one_shl a 64 (omega arith), one_shl b 64 (omega arith), pow_below a b (omega arith))

pub returns : goal.returns
unfolding span
returns c =
    let a = c.args.trip.from.0 in
    let b = c.args.trip.to.0 in
    let e : (1 * 2 ^ b) % 2 ^ 64 - (1 * 2 ^ a) % 2 ^ 64 ≡ span a b = omega (arith, one_shl a 64 (omega arith), one_shl b 64 (omega arith)) in
    record { value = e; each = same_each _ _ _ (λ k. holds_span a b k (omega arith)) e }
