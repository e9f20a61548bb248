use Rattle.std.proofs.Common.{◌≡◌, ℕ, sym, subst, ◌∙◌, rules, arith}
use Rattle.asking.specs.Events.{event_of}
use Rattle.lines.specs.Bytes.{SoundBody}
use Rattle.network.specs.Runs.{HeedsAll}
use Rattle.receiving.specs.Incoming.{incoming}
use Rattle.recovery.specs.Runs.{Typed}
use Rattle.rehearsal.proofs.Comings.{event_back}
use Rattle.rehearsal.specs.Seen.{state_of}
use Rattle.rehearsal.specs.Turns.{TurnedBy}
use Rattle.rehearsal.proofs.world.World.bring.Goals as goal
use Rattle.rehearsal.proofs.world.World.bring.Goals.{After-bytes}

-- what comes is what was said
same : (c : After-bytes) → incoming (state_of c.args.self.now c.args.place).me c.from.result c.bytes.result.now ≡ event_of c.args.message.from c.args.message.body
same c =
    let m = c.args.message in
    let me = (state_of c.args.self.now c.args.place).me in
    let sound : SoundBody m.body = search rules in
    subst (λ (n : ℕ). incoming me n c.bytes.result.now ≡ event_of m.from m.body) (sym c.from.ensures) (event_back me m.from m.body c.bytes.result.now (omega arith) sound (c.bytes.ensures ∙ c.of-frame.ensures))

pub perform-requires-clause-typed : goal.perform-requires-clause-typed
perform-requires-clause-typed c =
    let typed : Typed (event_of c.args.message.from c.args.message.body) = search rules in
    subst Typed (sym (same (goal.at.perform-requires-clause-typed c).After-bytes)) typed

pub perform-requires-clause-told : goal.perform-requires-clause-told
perform-requires-clause-told c = λ _ _. subst (HeedsAll _ c.args.place) (sym (same (goal.at.perform-requires-clause-told c).After-bytes)) c.requires.told

pub returns-clause-came : goal.returns-clause-came
returns-clause-came c = subst (λ x. TurnedBy c.args.self.now c.args.place x c.perform.new.self c.perform.result) (same (goal.at.returns-clause-came c).After-bytes) c.perform.ensures.came
