use Rattle.std.proofs.Common.{◌≡◌, ℕ, ◌/◌, ◌^◌, eqb, ltb, sym, ap, ◌∙◌, arith}
use lib.Bits.{bit_and}
use Rattle.std.proofs.lemmas.Bool.{cond_both, ltb-false}
use Rattle.std.proofs.lemmas.Nat.Bits.{shr_and_one}
use Rattle.pieces.specs.Stretches.{holds}
use Rattle.pieces.proofs.Bitwise.{holds_past}
use Rattle.pieces.proofs.words.held.Goals as goal

pub returns : goal.returns
unfolding holds
returns c =
    let w = c.args.word in
    let k = c.from.result in
    ap (λ (x : ℕ). eqb (bit_and x 1) 1) c.unbounded_shr.ensures
    ∙ cond_both (ltb k 64) (w / 2 ^ k) 0 (λ x. eqb (bit_and x 1) 1 ≡ holds w k) (λ _. ap (λ (x : ℕ). eqb x 1) (shr_and_one w k))
    (λ f. sym (holds_past w 64 k (omega arith) (ltb-false k 64 f)))
    ∙ ap (holds w) c.from.ensures
