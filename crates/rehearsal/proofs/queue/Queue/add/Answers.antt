use Rattle.std.proofs.Common.{ℕ, ◌+◌, ◌∷◌, [], ◌++◌, deque_items, refl, ap, ◌∙◌, arith}
use Rattle.network.specs.Places.{gather}
use Rattle.rehearsal.proofs.Gathered.{counted_none, counted_more}
use Rattle.rehearsal.proofs.queue.Queue.add.Goals as goal

pub loop-at-init : goal.loop-at-init
loop-at-init c = (λ _. refl, counted_none (deque_items c.args.self.now.places) c.args.from _)

pub loop-at-preserved : goal.loop-at-preserved
loop-at-preserved c = (
  omega arith,
  counted_more (deque_items c.args.self.now.places) (deque_items c.loop-at.self.places) (deque_items c.push_back.new.self) c.args.from c.loop-at.at c.loop-at.auto.at c.loop-at.invariant.1 c.in_ok-push_back.ensures.items,
)

pub returns : goal.returns
returns c = c.loop-at.invariant.1 ∙ ap (λ (k : ℕ). deque_items c.args.self.now.places ++ gather k (λ k. (c.args.from + k) ∷ [])) (grind (arith, c.loop-at.invariant.0, c.loop-at.auto.at-end))
