-- What becomes of what comes over a line.
use Rattle.std.specs.Prelude.{ℕ, Bool, false, cond, List, ◌++◌, codes, Some, None, Option, Ok, Err, Result}
use Rattle.asking.specs.Events.{Response}
use Rattle.asking.specs.Minds.{Mind}
use Rattle.asking.specs.declared.event.Reply.TheVariants.{Came, Asks, Noted, Ticked}
use Rattle.giving.specs.Refusals.{printed}
use Rattle.giving.specs.declared.ids.StationId.{StationId}
use Rattle.giving.specs.declared.message.Body.{Body}
use Rattle.giving.specs.declared.refusal.Refusal.{Refusal}
use Rattle.ledger.specs.declared.input.Outcome.TheVariants as outcome
use Rattle.lines.specs.declared.fault.Fault.{Fault}
use Rattle.receiving.specs.Grounds.{applies, is_news, lowest, of_message, passes}
use Rattle.receiving.specs.declared.verdict.Verdict.{Verdict}
use Rattle.receiving.specs.declared.verdict.Verdict.TheVariants.{Taken, Passed, TurnedAway}
use Rattle.state.specs.States.{State}
use Rattle.timetable.specs.Rows.{Table}

-- what a response says of it
abbrev pub verdict_of : Response → Verdict
verdict_of (Ok (Came (outcome.Done e))) = Taken
verdict_of (Ok (Came (outcome.Gave to n a p))) = Taken
verdict_of (Ok (Came outcome.Nothing)) = Passed None
verdict_of (Ok (Came (outcome.Passed r))) = Passed (Some r)
verdict_of (Ok (Asks k)) = Taken
verdict_of (Ok Noted) = Taken
verdict_of (Ok Ticked) = Taken
verdict_of (Err r) = TurnedAway r

abbrev pub verdict_text : Verdict → List ℕ
verdict_text Taken = codes "taken"
verdict_text (Passed None) = codes "passed"
verdict_text (Passed (Some r)) = codes "passed " ++ printed r
verdict_text (TurnedAway r) = codes "no " ++ printed r

-- by the ground of what is passed over or turned away, if there is one; and whether it is news
abbrev pub by_ground : (passed : Refusal → Bool) → Option Refusal → (news : Bool) → Verdict
by_ground passed (Some r) n = cond (passed r) (Passed (Some r)) (TurnedAway r)
by_ground passed None n = cond n Taken (Passed None)

-- what is to become of what was read from station k
abbrev pub judged : Table → State → Mind → StationId → Result Body Fault → Verdict
judged tb s m k x = by_ground (passes x) (lowest (applies tb s m k x)) (of_message false (is_news s m k) x)
