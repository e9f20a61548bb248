use Rattle.std.proofs.Common.{Some, None, ap, ◌∙◌}
use Rattle.script.proofs.Commands.{deed-none, deed-words}
use Rattle.script.proofs.Cuts.{next-word}
use Rattle.script.specs.Lines.{deed_of}
use Rattle.script.specs.Words.{words_left}
use Rattle.script.proofs.command.words_deed.Goals as goal

pub returns-in_default : goal.returns-in_default
returns-in_default c = deed-none (words_left c.args.words) (next-word c.args.words c.next.new.self None c.in_default.ensures.steps)

pub returns-in_default-2 : goal.returns-in_default-2
returns-in_default-2 c =
    let e = next-word c.args.words c.next.new.self (Some c.in-Some.word) c.in-Some.ensures.steps in
    deed-words c.in-Some.word.now _ _ None e (rw c.in_default-2.is at c.in_ok-args.ensures)

pub returns : goal.returns
returns c =
    let e = next-word c.args.words c.next.new.self (Some c.in-Some.word) c.in-Some.ensures.steps in
    let h = deed-words c.in-Some.word.now _ _ (Some c.in-Some-2.args.items) e (rw c.in-Some-2.is at c.in_ok-args.ensures) in
    c.station_deed.ensures ∙ ap (deed_of c.in-Some.word.now) c.deref.ensures.value ∙ h
