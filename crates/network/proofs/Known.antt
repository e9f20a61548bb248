-- An open train is in the timetable.
-- Assumes nothing.
use Rattle.std.proofs.Common.{◌≡◌, ℕ, ◌<◌, true, false, length, is_some, Some, None, fold, Option, sym, ap, ◌∙◌, ⊎_elim}
use Rattle.choosing.specs.declared.party.Party.{Party}
use Rattle.network.proofs.Fine.{begun_shut}
use Rattle.network.proofs.Held.{Sound}
use Rattle.network.proofs.Linked.{every}
use Rattle.network.proofs.Local.{fits_opened, fits_taken}
use Rattle.network.proofs.Moves.{Received, shut, there, anew, received_by}
use Rattle.network.proofs.Trains.{opened_same, closing_same, closing_shut}
use Rattle.network.specs.Falls.{Reach}
use Rattle.network.specs.Worlds.{World, state}
use Rattle.pieces.specs.declared.names.Train.{Train}
use Rattle.state.specs.Changes.{apply, fits, opened, returned}
use Rattle.state.specs.States.{State, begun, place_of, is_open, known, was_closed, ticket_of}
use Rattle.state.specs.declared.record.Record.{Record}
use Rattle.state.specs.declared.record.Record.TheVariants.{Opened, Closed, Undone, Taken}
use Rattle.std.proofs.lemmas.Bool.{cases_eq, or_parts, true≢false}
use Rattle.std.proofs.lemmas.List.Sums.{fold_push}
use Rattle.timetable.specs.Rows.{Table}
use Rattle.timetable.specs.declared.row.Row.{Row}

abbrev Known : Table → State → Type 0
Known tb x = (t : Train) → is_open x t ≡ true → is_some (tb t.0) ≡ true

module _ (tb : Table) (x : State) (sound : Sound x) (h : Known tb x) where
  opens : (z : Train) (r : Row) → is_open x z ≡ false → place_of x.slots None < length x.slots → is_some (tb z.0) ≡ true → Known tb (opened (Some r) z x)
  opens z r o l is t g = ⊎_elim (λ d. ap (λ (k : ℕ). is_some (tb k)) d ∙ is) (λ d. h t (sym (opened_same x sound z r o l t d) ∙ g)) (cases_eq t.0 z.0)

  known_next : (e : Record) → fits tb x e ≡ true → Known tb (apply tb x e)
  known_next (Opened z) f = go (tb z.0) (fits_opened tb x z f)
    where
      go : (o : Option Row) → (is_some (tb z.0) ≡ true) × (known x z ≡ false) × (place_of x.slots None < length x.slots) → Known tb (opened o z x)
      go None g = h
      go (Some r) (g, k, l) = opens z r (or_parts (is_open x z) (was_closed x z) k).0 l g
  known_next (Closed z) f = λ t g. ⊎_elim (λ d. absurd (true≢false (sym g ∙ closing_shut x sound z f t d))) (λ d. h t (sym (closing_same x sound z f t d) ∙ g)) (cases_eq t.0 z.0)
  known_next (Undone n) f = go (ticket_of x n.0)
    where
      go : (y : Option Party) → Known tb (returned y x)
      go (Some p) = h
      go None = h
  known_next (Taken from n p) f = go (received_by tb x p (fits_taken tb x from n p f).listed (fits_taken tb x from n p f).room)
    where
      go : {y : State} → Received tb x p y → Known tb y
      go (shut c) = h
      go (there c o) = h
      go (anew r is c o l) = opens p.train r o l (ap is_some is)
  known_next e f = h

pub known_all : (n : ℕ) (tb : Table) {w : World} → Reach n tb w → (i : ℕ) → Known tb (state n tb w i)
known_all n tb r i =
    every n tb (λ i js. Known tb (fold (apply tb) (begun n i) js)) (λ i t o. absurd (true≢false (sym o ∙ begun_shut n i t)))
    (λ i js e sound f h. rw (fold_push (apply tb) (begun n i) js e) (known_next tb (fold (apply tb) (begun n i) js) sound h e f)) r i
