use Rattle.std.proofs.Common.{sym, ◌∙◌, Some, None}
use Rattle.script.proofs.Cuts.{next-word}
use Rattle.script.proofs.Numbers.{reads-begun, reads-ended, reads-none, reads-more}
use Rattle.script.specs.Words.{words_left}
use Rattle.script.proofs.command.numbers.Goals as goal

pub loop-word-init : goal.loop-word-init
loop-word-init c = rw c.new-found.ensures.items (rw c.into_iter-word-iterator.ensures.into_iter_gives (reads-begun (words_left c.args.words)))

pub returns-in_default : goal.returns-in_default
returns-in_default c =
    let e = next-word c.loop-word.word-iterator c.next.new.self (Some c.in-Some.word) c.in-Some.ensures.steps in
    reads-none _ c.loop-word.found.items c.in-Some.word.now _ _ c.loop-word.invariant e (sym c.number.ensures ∙ c.in_default.is)

pub loop-word-preserved : goal.loop-word-preserved
loop-word-preserved c =
    let e = next-word c.loop-word.word-iterator c.next.new.self (Some c.in-Some.word) c.in-Some.ensures.steps in
    rw c.in_ok-push.ensures.items (reads-more _ c.loop-word.found.items c.in-Some.word.now c.in-Some-number.n _ _ c.loop-word.invariant e (sym c.number.ensures ∙ c.in-Some-number.is))

pub returns : goal.returns
returns c = reads-ended _ c.loop-word.found.items _ c.loop-word.invariant (next-word c.loop-word.word-iterator c.next.new.self None c.in-None.ensures.steps)
