use Rattle.script.proofs.Numbers.{Reads}
use Rattle.script.specs.Words.{words_left, numbers_of}
use Rattle.script.proofs.command.numbers.Given as goal

abbrev pub invariant-loop-word : goal.invariant-loop-word
invariant-loop-word l = Reads (numbers_of (words_left l.fn.words)) l.found.items (words_left l.word-iterator)
