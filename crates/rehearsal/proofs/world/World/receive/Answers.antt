use Rattle.std.proofs.Common.{◌<◌, arith}
use Rattle.lines.proofs.Laws.{reads_back}
use Rattle.recovery.proofs.Alone.{typed_incoming}
use Rattle.network.specs.Falls.{none}
use Rattle.rehearsal.proofs.Comings.{me_is}
use Rattle.rehearsal.specs.Seen.{count, state_of}
use Rattle.rehearsal.proofs.world.World.receive.Goals as goal

pub perform-requires-clause-typed : goal.perform-requires-clause-typed
perform-requires-clause-typed c =
    let w = c.args.self.now in
    let i = c.in-Some.place in
    let there : i < count w = omega (arith, c.in-Some.ensures.0, c.in-Some.ensures.1) in
    let me : (state_of w i).me < 256 = omega (arith, me_is w i there, there, w.few) in
    typed_incoming reads_back.1 (state_of w i).me c.args.from c.args.bytes.now me (λ k. (c.type_inv.bytes k).fits)

pub returns-in_default-clause-steps : goal.returns-in_default-clause-steps
returns-in_default-clause-steps c = λ _. ∣ none ∣₁
