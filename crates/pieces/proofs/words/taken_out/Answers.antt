use Rattle.std.proofs.Common.{arith, rules}
use Rattle.pieces.proofs.Bitwise.{but_is_less, holds_less, same_each}
use Rattle.pieces.proofs.words.taken_out.Goals as goal

pub returns : goal.returns
returns c = record {
  value = search (rules, but_is_less);
  each = same_each _ _ _ (λ k. holds_less c.args.word c.args.trip.from.0 c.args.trip.to.0 k (omega arith)) (search (rules, but_is_less));
}
