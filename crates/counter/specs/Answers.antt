-- What is printed of answers.
use Rattle.std.specs.Prelude.{ℕ, cond, List, ◌++◌, length, codes, ◌==◌, Ok}
use Rattle.std.specs.Fmt.{decimal}
use Rattle.asking.specs.Events.{Response}
use Rattle.asking.specs.declared.event.Reply.TheVariants.{Came, Asks, Ticked}
use Rattle.choosing.specs.Parties as party
use Rattle.choosing.specs.Parties.{seats_of}
use Rattle.ledger.specs.declared.input.Outcome.{Outcome}
use Rattle.ledger.specs.declared.input.Outcome.TheVariants.{Done, Gave}
use Rattle.receiving.specs.Verdicts.{verdict_of, verdict_text}
use Rattle.state.specs.declared.record.Record.TheVariants.{Opened, Closed, Sold, Undone}

-- what a call came to that was not refused: what a person asked for; and what came over a line, by its verdict. Pieces that are given for an ask are
-- said to the station that asked, and not counted again
abbrev pub outcome_text : Outcome → List ℕ
outcome_text (Done (Opened t)) = codes "opened " ++ decimal t.0
outcome_text (Done (Closed t)) = codes "closed " ++ decimal t.0
outcome_text (Done (Sold k p)) = codes "ticket " ++ (decimal k.0 ++ (codes " " ++ party.printed p))
outcome_text (Done (Undone k)) = codes "undone " ++ decimal k.0
outcome_text (Gave to n a p) = cond (a.0 == 0) (codes "gave " ++ (decimal to.0 ++ (codes " " ++ decimal (length (seats_of p))))) (verdict_text (verdict_of (Ok (Came (Gave to n a p)))))
outcome_text o = verdict_text (verdict_of (Ok (Came o)))

-- what a station answers
abbrev pub answer_text : Response → List ℕ
answer_text (Ok (Came o)) = outcome_text o
answer_text (Ok (Asks k)) = codes "asked " ++ decimal k.0
answer_text (Ok Ticked) = codes "tick"
answer_text r = verdict_text (verdict_of r)
