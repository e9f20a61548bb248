-- A sale and its undoing.
-- Assumes nothing.
use Rattle.std.proofs.Common.{◌≡◌, ℕ, ◌+◌, ◌-◌, Bool, true, cond, ◌&&◌, eqb, List, [], ◌∷◌, ◌++◌, length, Some, None, Option, Ok, get_or, set, refl, ap, ◌∙◌, subst, arith}
use Rattle.choosing.specs.Parties.{seats_of, some}
use Rattle.choosing.specs.declared.party.Party.{Party}
use Rattle.giving.specs.declared.ids.Ticket.{Ticket}
use Rattle.giving.specs.declared.refusal.Refusal.TheVariants.{NoSuchTicket}
use Rattle.ledger.proofs.Decided.{decided_fits}
use Rattle.choosing.proofs.Undo.{put_back_all}
use Rattle.ledger.specs.Decisions.{decided, records}
use Rattle.giving.specs.Calls.{unless}
use Rattle.ledger.specs.Laws.{SellsBack}
use Rattle.ledger.specs.declared.input.Input.TheVariants.{Sell, Undo}
use Rattle.ledger.specs.declared.input.Outcome.TheVariants.{Done}
use Rattle.state.proofs.Same.{same_state}
use Rattle.state.specs.Changes.{all_fit, apply, fits, holds_all, listed_all, returnable, returned, with_sold, with_tickets}
use Rattle.state.specs.States.{State, is_open, place, sold, ticket_of, tickets_left}
use Rattle.state.specs.declared.record.Record.TheVariants.{Sold, Undone}
use Rattle.std.proofs.lemmas.Bool.{and_parts, and_from, eqb-true, lt-ltb}
use Rattle.timetable.specs.Rows.{Table}

get_d_last : (xs : List (Option Party)) (x : Option Party) → get_or (xs ++ x ∷ []) (length xs) None ≡ x
get_d_last [] x = refl
get_d_last (y ∷ xs) x = get_d_last xs x

set_last : (xs : List (Option Party)) (x y : Option Party) → set (xs ++ x ∷ []) (length xs) y ≡ xs ++ y ∷ []
set_last [] x y = refl
set_last (z ∷ xs) x y = ap (λ zs. z ∷ zs) (set_last xs x y)

module _ (tb : Table) (s : State) (n : Ticket) (p : Party) (f : fits tb s (Sold n p) ≡ true) where
  abbrev next : State
  next = apply tb s (Sold n p)

  grounds : (listed_all (tb p.train.0) p ≡ true) × (is_open s p.train ≡ true) × (holds_all s p ≡ true) × (n.0 ≡ sold s + 1)
  grounds =
      let (_, a) = and_parts (some (length (seats_of p))) (listed_all (tb p.train.0) p && (is_open s p.train && (holds_all s p && (tickets_left s && eqb n.0 (sold s + 1))))) f in
      let (l, b) = and_parts (listed_all (tb p.train.0) p) (is_open s p.train && (holds_all s p && (tickets_left s && eqb n.0 (sold s + 1)))) a in
      let (o, c) = and_parts (is_open s p.train) (holds_all s p && (tickets_left s && eqb n.0 (sold s + 1))) b in
      let (h, d) = and_parts (holds_all s p) (tickets_left s && eqb n.0 (sold s + 1)) c in
      (l, o, h, eqb-true n.0 (sold s + 1) (and_parts (tickets_left s) (eqb n.0 (sold s + 1)) d).1)

  -- the ticket stands at the end
  at : n.0 - 1 - s.dropped ≡ length s.tickets
  at = let (_, _, _, e) = grounds in omega arith

  ticket : ticket_of next n.0 ≡ Some p
  ticket =
      let (_, _, _, e) = grounds in
      ap (λ (b : Bool). cond b (get_or (s.tickets ++ Some p ∷ []) (n.0 - 1 - s.dropped) None) None) (lt-ltb s.dropped n.0 (omega arith))
      ∙ ap (λ (k : ℕ). get_or (s.tickets ++ Some p ∷ []) k None) at ∙ get_d_last s.tickets (Some p)

  undone : decided tb next (Undo n) ≡ Ok (Done (Undone n))
  undone =
      let (l, o, _, _) = grounds in
      ap (λ (y : Option Party). unless (returnable tb next y) NoSuchTicket (Ok (Done (Undone n)))) ticket
      ∙ ap (λ (b : Bool). unless b NoSuchTicket (Ok (Done (Undone n)))) (and_from _ _ l o)

  back : apply tb next (Undone n) ≡ with_sold (with_tickets s (s.tickets ++ None ∷ [])) p.train
  back =
      let (_, _, h, _) = grounds in
      ap (λ (y : Option Party). with_tickets (returned y next) (set (s.tickets ++ Some p ∷ []) (n.0 - 1 - s.dropped) None)) ticket
      ∙ same_state _ _ refl refl (put_back_all s.words (place s p.train) (seats_of p) p.trip.from.0 p.trip.to.0 p.trip.ordered h) refl refl refl refl
      (ap (λ (k : ℕ). set (s.tickets ++ Some p ∷ []) k None) at ∙ set_last s.tickets (Some p) None) refl refl

pub sells_back : SellsBack
sells_back tb s d n p h =
    let f = (and_parts (fits tb s (Sold n p)) true (subst (λ o. all_fit tb s (records o) ≡ true) h (decided_fits tb s (Sell d)))).0 in
    (undone tb s n p f, back tb s n p f)
