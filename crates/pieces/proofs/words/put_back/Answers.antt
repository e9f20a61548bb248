use Rattle.std.proofs.Common.{arith, rules}
use Rattle.pieces.specs.Stretches.{plus}
use Rattle.pieces.proofs.Bitwise.{holds_plus, same_each}
use Rattle.pieces.proofs.words.put_back.Goals as goal

pub returns : goal.returns
unfolding plus
returns c = record {
  value = search rules;
  each = same_each _ _ _ (λ k. holds_plus c.args.word c.args.trip.from.0 c.args.trip.to.0 k (omega arith)) (search rules);
}
