use Rattle.std.proofs.Common.{◌≡◌, ap, ◌∙◌, rules}
use Rattle.asking.specs.Events.{resolved}
use Rattle.lines.specs.Reading.{message}
use Rattle.receiving.proofs.Judging.{judges}
use Rattle.receiving.specs.Incoming.{incoming, sender}
use Rattle.receiving.specs.Verdicts.{verdict_of}
use Rattle.recovery.proofs.machine.Machine.receive.Goals as goal
use Rattle.recovery.specs.Machines.{mind_in, shown}
use Rattle.timetable.specs.Tables.{table}

pub returns-clause-verdict : goal.returns-clause-verdict
returns-clause-verdict c kept =
    let tb = table c.args.trains.now in
    let s = shown c.args.self.now in
    let m = mind_in c.args.self.now in
    let is : c.incoming-event.result ≡ incoming s.me c.args.from c.args.bytes.now = search rules in
    ap verdict_of (c.handle.ensures.answer kept) ∙ ap (λ e. verdict_of (resolved tb s m e)) is ∙ judges tb s m (sender s.me c.args.from) (message c.args.bytes.now)
