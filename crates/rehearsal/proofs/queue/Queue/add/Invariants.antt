use Rattle.std.proofs.Common.{◌≡◌, ◌+◌, ◌-◌, ◌≤◌, [], ◌∷◌, ◌++◌, deque_items}
use Rattle.network.specs.Places.{gather}
use Rattle.rehearsal.proofs.queue.Queue.add.Given as goal

abbrev pub invariant-loop-at : goal.invariant-loop-at
invariant-loop-at l =
    (l.to ≤ l.from → l.at ≡ l.from) × (deque_items l.self.places ≡ deque_items l.initial.self.places ++ gather (l.at - l.from) (λ k. (l.from + k) ∷ []))
