use Rattle.std.proofs.Common.{ℕ, get_or, ◌∙◌}
use Rattle.choosing.proofs.Lowest.{lowest_cong, lowest_near}
use Rattle.pieces.specs.Memory.{word_at}
use Rattle.choosing.proofs.choice.lowest_held_at.Goals as goal

pub returns-clause-value : goal.returns-clause-value
returns-clause-value c =
    rw c.train.ensures.long at c.lowest_held.ensures
    ∙ lowest_cong (λ (k : ℕ). get_or c.train.result.now k 0) (word_at c.args.memory.now.words.items c.args.slot.index) 400 c.train.ensures.each

pub returns-clause-near : goal.returns-clause-near
returns-clause-near c = lowest_near (λ (k : ℕ). get_or c.train.result.now k 0) 400 _ (rw c.train.ensures.long at c.lowest_held.ensures)
