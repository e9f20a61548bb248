use Rattle.std.proofs.Common.{◌≡◌, Some, None, subst, sym, ap, ◌∙◌, IfOk}
use Rattle.script.proofs.Commands.{command-none, command-line, command-station}
use Rattle.script.proofs.Cuts.{next-word}
use Rattle.script.specs.Lines.{line_command_of}
use Rattle.script.proofs.command.read.Goals as goal

pub returns-in_default-next : goal.returns-in_default-next
returns-in_default-next c = command-none c.args.line.now _ c.in-Some.ensures (next-word c.in-Some.words c.next.new.self None c.in_default-next.ensures.steps)

pub returns-in-Some-number : goal.returns-in-Some-number
returns-in-Some-number c =
    let e = next-word c.in-Some.words c.next.new.self (Some c.in-Some-next.first) c.in-Some-next.ensures.steps in
    let same = command-station c.args.line.now c.in-Some-next.first.now _ _ c.in-Some-number.who c.in-Some.ensures e (sym c.number.ensures ∙ c.in-Some-number.is) in
    subst (λ r. IfOk c.station_command.result (λ s. s ≡ r)) same c.station_command.ensures

pub returns-in_default-2 : goal.returns-in_default-2
returns-in_default-2 c =
    let e = next-word c.in-Some.words c.next.new.self (Some c.in-Some-next.first) c.in-Some-next.ensures.steps in
    command-line c.args.line.now c.in-Some-next.first.now _ _ None c.in-Some.ensures e (sym c.number.ensures ∙ c.in_default-number.is) (rw c.in_default-2.is at c.in_ok-args.ensures)

pub returns : goal.returns
returns c =
    let e = next-word c.in-Some.words c.next.new.self (Some c.in-Some-next.first) c.in-Some-next.ensures.steps in
    let all = command-line c.args.line.now c.in-Some-next.first.now _ _ (Some c.in-Some-2.args.items) c.in-Some.ensures e (sym c.number.ensures ∙ c.in_default-number.is) (rw c.in-Some-2.is at c.in_ok-args.ensures) in
    c.line_command.ensures ∙ (ap (line_command_of c.in-Some-next.first.now) c.deref.ensures.value ∙ all)
