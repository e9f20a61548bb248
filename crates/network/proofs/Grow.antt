-- A timetable with more trains.
-- Assumes nothing.
use Rattle.std.proofs.Common.{◌≡◌, ℕ, Bool, true, ◌&&◌, length, is_some, Some, None, fold, Option, sym, refl, ap, ◌∙◌}
use Rattle.choosing.specs.Parties.{seats_of, some as some_people}
use Rattle.choosing.specs.declared.party.Party.{Party}
use Rattle.network.proofs.Known.{known_all}
use Rattle.network.proofs.Linked.{every}
use Rattle.network.proofs.Local.{listed_row, listed_party, fits_opened, fits_taken}
use Rattle.network.specs.Falls.{Site, Move, steps, syncs, falls, none, more, Reached, Reach}
use Rattle.network.specs.Promises.{Extends, Grows}
use Rattle.network.specs.Worlds.{World, state, Step, writes, reminds, accounts, asks, answers, tells}
use Rattle.pieces.specs.declared.names.Train.{Train}
use Rattle.pieces.specs.declared.piece.Piece.{Piece}
use Rattle.state.specs.Changes.{apply, fits, listed_all, opened, returnable}
use Rattle.state.specs.States.{State, begun, is_open, ticket_of}
use Rattle.state.specs.declared.record.Record.{Record}
use Rattle.state.specs.declared.record.Record.TheVariants.{Opened, Sold, Undone, Given, Taken}
use Rattle.std.proofs.lemmas.List.Sums.{fold_push}
use Rattle.std.proofs.lemmas.Bool.{and_from, and_parts, false≢true}
use Rattle.timetable.specs.Rows.{Table, listed}
use Rattle.timetable.specs.declared.row.Row.{Row}

module _ (tb ub : Table) (ext : Extends tb ub) where
  some : (k : ℕ) → is_some (tb k) ≡ true → tb k ≡ ub k
  some k = go (tb k) refl
    where
      go : (o : Option Row) → tb k ≡ o → is_some o ≡ true → tb k ≡ ub k
      go None e h = absurd (false≢true h)
      go (Some r) e h = e ∙ sym (ext k r e)

  there : (p : Piece) → listed (tb p.train.0) p ≡ true → tb p.train.0 ≡ ub p.train.0
  there p h = let l = listed_row (tb p.train.0) p h in l.is ∙ sym (ext p.train.0 l.row l.is)

  listed_more : (p : Piece) (c : Bool) → (listed (tb p.train.0) p && c) ≡ true → (listed (ub p.train.0) p && c) ≡ true
  listed_more p c h = let (a, b) = and_parts (listed (tb p.train.0) p) c h in and_from (listed (ub p.train.0) p) c (ap (λ o. listed o p) (sym (there p a)) ∙ a) b

  there_all : (p : Party) → listed_all (tb p.train.0) p ≡ true → tb p.train.0 ≡ ub p.train.0
  there_all p h = let l = listed_party (tb p.train.0) p h in l.is ∙ sym (ext p.train.0 l.row l.is)

  party_more : (p : Party) (c : Bool) → (listed_all (tb p.train.0) p && c) ≡ true → (listed_all (ub p.train.0) p && c) ≡ true
  party_more p c h = let (a, b) = and_parts (listed_all (tb p.train.0) p) c h in and_from (listed_all (ub p.train.0) p) c (ap (λ o. listed_all o p) (sym (there_all p a)) ∙ a) b

  pub fits_more : (x : State) (e : Record) → fits tb x e ≡ true → fits ub x e ≡ true
  fits_more x (Opened t) f = let (a, b) = and_parts (is_some (tb t.0)) _ f in and_from (is_some (ub t.0)) _ (ap is_some (sym (some t.0 a)) ∙ a) b
  fits_more x (Sold n p) f = let (a, b) = and_parts (some_people (length (seats_of p))) _ f in and_from (some_people (length (seats_of p))) _ a (party_more p _ b)
  fits_more x (Undone n) f = go (ticket_of x n.0) f
    where
      go : (y : Option Party) → returnable tb x y ≡ true → returnable ub x y ≡ true
      go None h = h
      go (Some p) h = party_more p _ h
  fits_more x (Given to n a p) f = listed_more p _ f
  fits_more x (Taken from n p) f = listed_more p _ f
  fits_more x e f = f

  pub apply_more : (x : State) (e : Record) → fits tb x e ≡ true → apply tb x e ≡ apply ub x e
  apply_more x (Opened t) f = ap (λ o. opened o t x) (some t.0 (fits_opened tb x t f).0)
  apply_more x (Taken from n p) f = rw (there p (fits_taken tb x from n p f).listed) refl
  apply_more x e f = refl

  module _ (n : ℕ) where
    same : {w : World} → Reach n tb w → (i : ℕ) → state n tb w i ≡ state n ub w i
    same r i =
        every n tb (λ i js. fold (apply tb) (begun n i) js ≡ fold (apply ub) (begun n i) js) (λ i. refl)
        (λ i js e _ f h. fold_push (apply tb) (begun n i) js e ∙ apply_more (fold (apply tb) (begun n i) js) e f ∙ ap (λ x. apply ub x e) h ∙ sym (fold_push (apply ub) (begun n i) js e)) r i

    step_more : {w v : World} → Step n tb w v → ((i : ℕ) (t : Train) → is_open (state n tb w i) t ≡ true → is_some (tb t.0) ≡ true) → ((i : ℕ) → state n tb w i ≡ state n ub w i) → Step n ub w v
    step_more (writes w i e l t f) known same = writes w i e l t (rw (← same i) (fits_more (state n tb w i) e f))
    step_more (reminds w i j k l) known same = rw (same i) (reminds w i j k (rw (← same i) l))
    step_more (accounts w i j) known same = rw (same i) (accounts w i j)
    step_more (asks w i j d) known same = rw (same i) (asks w i j d)
    step_more (answers w i j l) known same = rw (same i) (answers w i j (rw (← same i) l))
    step_more (tells w i j t o) known same = rw (same i, some t.0 (known i t o)) (tells w i j t (rw (← same i) o))

    move_more : {s t : Site} → Move n tb s t → Reached n tb s → Move n ub s t
    move_more (steps w v ks a c) r = steps w v ks (step_more a (known_all n tb (ks, r)) (same (ks, r))) c
    move_more (syncs s i) r = syncs s i
    move_more (falls s i k h) r = falls s i k h

    reach_more : {s : Site} → Reached n tb s → Reached n ub s
    reach_more none = none
    reach_more (more r m) = more (reach_more r) (move_more m r)

pub grows : Grows
grows n tb ub s ext r = (reach_more tb ub ext n r, same tb ub ext n (s.synced, r))
