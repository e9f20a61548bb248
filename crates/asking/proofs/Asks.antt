-- An ask that is made: what is written, and who is asked first.
-- Assumes nothing.
use Rattle.std.proofs.Common.{◌≡◌, ℕ, ◌+◌, ◌<◌, Bool, true, false, ltb, List, [], ◌∷◌, length, get_or, Ok, Err, Result, refl, ap, ◌∙◌, arith}
use Rattle.asking.proofs.Listed.{in_order_length, others_length}
use Rattle.asking.specs.Events.{turned}
use Rattle.asking.specs.Minds.{Mind, first}
use Rattle.asking.specs.Turns.{goes_before, others, turns}
use Rattle.asking.specs.declared.event.Reply.TheVariants.{Asks}
use Rattle.asking.specs.declared.told.Note.{Note}
use Rattle.giving.specs.Calls.{unless}
use Rattle.giving.specs.declared.ids.StationId.{StationId}
use Rattle.giving.specs.declared.refusal.Refusal.{Refusal}
use Rattle.giving.specs.declared.refusal.Refusal.TheVariants.{Full, NoSuchStation}
use Rattle.ledger.specs.Decisions.{after, asking, decided, judged, met}
use Rattle.ledger.specs.declared.input.Input.TheVariants as input
use Rattle.ledger.specs.declared.input.Outcome.{Outcome}
use Rattle.ledger.specs.declared.input.Outcome.TheVariants.{Done}
use Rattle.pieces.specs.declared.demand.Demand.{Demand}
use Rattle.pieces.specs.declared.names.Train.{Train}
use Rattle.pieces.specs.declared.trip.Trip.{Trip}
use Rattle.state.specs.Changes.{apply}
use Rattle.state.specs.States.{State, asks_left}
use Rattle.state.specs.declared.record.Record.TheVariants.{Asked}
use Rattle.std.proofs.lemmas.Bool.{ltb-true}
use Rattle.std.proofs.lemmas.Bool.Decides.{nat_tests}
use Rattle.timetable.specs.Rows.{Table}
use Rattle.timetable.specs.declared.row.Row.{Row}

-- where there is another station, one is asked first
pub turns_some : (xs : List Note) (t : Train) (me n : ℕ) → 1 < n → 0 < length (turns xs t me n)
turns_some xs t me n h = grind (arith, nat_tests, in_order_length (goes_before xs t) (others me n), others_length me n)

pub first_is : (ks : List StationId) (k : StationId) → 0 < length ks → k ≡ get_or ks 0 k → k ≡ first ks
first_is [] k h e = absurd (omega arith)
first_is (j ∷ js) k h e = e

module _ (s : State) (o : Outcome) where
  asks_one : (a b : Bool) → ltb 1 (length s.channels) ≡ b → unless a Full (unless b NoSuchStation (Ok (Done (Asked (record { 0 = s.asked + 1 }))))) ≡ Ok o
      → (o ≡ Done (Asked (record { 0 = s.asked + 1 }))) × (1 < length s.channels)
  asks_one true true e h = (cc, ltb-true 1 (length s.channels) e)
  asks_one true false e h = cc
  asks_one false b e h = cc

  asks_by : (j : Result (Row × Trip) Refusal) → met j (λ r t. asking s) ≡ Ok o → (o ≡ Done (Asked (record { 0 = s.asked + 1 }))) × (1 < length s.channels)
  asks_by (Ok j) h = asks_one (asks_left s) (ltb 1 (length s.channels)) refl h
  asks_by (Err e) h = cc

module _ (tb : Table) (s : State) (d : Demand) (o : Outcome) (h : decided tb s (input.Ask d) ≡ Ok o) where
  pub asks_is : (o ≡ Done (Asked (record { 0 = s.asked + 1 }))) × (1 < length s.channels)
  asks_is = asks_by s o (judged tb s d) h

  pub asked_state : after tb s (Ok o) ≡ apply tb s (Asked (record { 0 = s.asked + 1 }))
  asked_state = ap (λ (x : Outcome). after tb s (Ok x)) asks_is.0

  pub asked_turned : (m : Mind) → turned s m (input.Ask d) (decided tb s (input.Ask d)) ≡ Ok (Asks (first (turns m.told d.train s.me (length s.channels))))
  asked_turned m = ap (turned s m (input.Ask d)) (h ∙ ap (λ (x : Outcome). Ok x) asks_is.0)
