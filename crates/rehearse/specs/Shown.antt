-- What is printed of a step of a station.
use Rattle.std.specs.Prelude.{ℕ, List, codes}
use Rattle.asking.specs.declared.event.Reply.{Reply}
use Rattle.counter.specs.Answers.{answer_text}
use Rattle.rehearsal.specs.declared.turn.Turn.{Turn}
use Rattle.rehearsal.specs.declared.turn.Turn.TheVariants.{Came, Fell}

abbrev pub turn_text : Turn Reply → List ℕ
turn_text (Came r) = answer_text r
turn_text Fell = codes "cut"
