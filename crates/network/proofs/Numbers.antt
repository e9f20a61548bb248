-- The numbers of a station's tickets rise, and so do those of its asks.
-- Assumes nothing.
use Rattle.std.proofs.Common.{◌≡◌, ℕ, ◌-◌, ◌<◌, ◌≤◌, true, List, [], ◌∷◌, ◌++◌, map, length, Some, None, fold, Option, refl, ap, subst, arith, length-append, length-drop, length-set}
use Rattle.choosing.specs.declared.party.Party.{Party}
use Rattle.network.proofs.Linked.{every}
use Rattle.network.proofs.Local.{fits_asked, fits_sold}
use Rattle.network.proofs.Moves.{opened_beside, returned_beside, received_beside}
use Rattle.network.specs.Promises.{AsksRise, NumbersRise}
use Rattle.network.specs.Falls.{Reach}
use Rattle.network.specs.Worlds.{World, journal}
use Rattle.state.specs.Changes.{all_fit, apply, fits, forgotten, stale}
use Rattle.state.specs.States.{State, begun, sold, ticket_of}
use Rattle.state.specs.declared.record.Record.{Record}
use Rattle.state.specs.declared.record.Record.TheVariants.{Opened, Closed, Sold, Undone, Taken, Asked}
use Rattle.std.proofs.lemmas.List.{length-map}
use Rattle.std.proofs.lemmas.Bool.{and_from, and_parts}
use Rattle.timetable.specs.Rows.{Table}

-- ---- a journal that fits

module _ (tb : Table) where
  fit_split : (s : State) (xs ys : List Record) → all_fit tb s (xs ++ ys) ≡ true → all_fit tb (fold (apply tb) s xs) ys ≡ true
  fit_split s [] ys h = h
  fit_split s (e ∷ xs) ys h = fit_split (apply tb s e) xs ys (and_parts (fits tb s e) (all_fit tb (apply tb s e) (xs ++ ys)) h).1

  fit_push : (s : State) (xs : List Record) (e : Record) → all_fit tb s xs ≡ true → fits tb (fold (apply tb) s xs) e ≡ true → all_fit tb s (xs ++ e ∷ []) ≡ true
  fit_push s [] e h f = and_from _ _ f refl
  fit_push s (x ∷ xs) e h f =
      let (a, b) = and_parts (fits tb s x) (all_fit tb (apply tb s x) xs) h in
      and_from _ _ a (fit_push (apply tb s x) xs e b f)

-- so does every journal
pub fitting : (n : ℕ) (tb : Table) {w : World} → Reach n tb w → (i : ℕ) → all_fit tb (begun n i) (journal w i) ≡ true
fitting n tb reach i = every n tb (λ i js. all_fit tb (begun n i) js ≡ true) (λ i. refl) (λ i js e _ f h. fit_push tb (begun n i) js e h f) reach i

-- ---- a count that never falls, and that numbers are taken from

module _ (tb : Table) (m : State → ℕ) (rises : (x : State) (e : Record) → fits tb x e ≡ true → m x ≤ m (apply tb x e)) where
  rises_all : (x : State) (ys zs : List Record) → all_fit tb x (ys ++ zs) ≡ true → m x ≤ m (fold (apply tb) x ys)
  rises_all x [] zs h = omega arith
  rises_all x (e ∷ ys) zs h =
      let (a, b) = and_parts (fits tb x e) (all_fit tb (apply tb x e) (ys ++ zs)) h in
      omega (arith, rises x e a, rises_all (apply tb x e) ys zs b)

  -- of two records the later one has the higher number, where each has the next
  later : (s : State) (e f : Record) (k l : ℕ) (ys zs : List Record) → (fits tb s e ≡ true → k ≤ m (apply tb s e)) → ((y : State) → fits tb y f ≡ true → m y < l) → all_fit tb s (e ∷ (ys ++ f ∷ zs)) ≡ true → k < l
  later s e f k l ys zs first second h =
      let v = apply tb s e in
      let (a, b) = and_parts (fits tb s e) (all_fit tb v (ys ++ f ∷ zs)) h in
      let y = fold (apply tb) v ys in
      let (d, _) = and_parts (fits tb y f) (all_fit tb (apply tb y f) zs) (fit_split tb v ys (f ∷ zs) b) in
      omega (arith, first a, rises_all v ys (f ∷ zs) b, second y d)

  rise_by : (n i : ℕ) (w : World) → Reach n tb w → (xs ys zs : List Record) (e f : Record) (k l : ℕ) → journal w i ≡ xs ++ e ∷ (ys ++ f ∷ zs) →
      ((s : State) → fits tb s e ≡ true → k ≤ m (apply tb s e)) → ((y : State) → fits tb y f ≡ true → m y < l) → k < l
  rise_by n i w reach xs ys zs e f k l is first second =
      let s = fold (apply tb) (begun n i) xs in
      later s e f k l ys zs (first s) second (fit_split tb (begun n i) xs (e ∷ (ys ++ f ∷ zs)) (subst (λ js. all_fit tb (begun n i) js ≡ true) is (fitting n tb reach i)))

-- ---- tickets

stale_within : (xs : List (Option Party)) → stale xs ≤ length xs
stale_within [] = omega arith
stale_within (Some p ∷ xs) = omega arith
stale_within (None ∷ xs) = omega (arith, stale_within xs)

-- how many tickets were ever sold never falls
sold_rises : (tb : Table) (x : State) (e : Record) → fits tb x e ≡ true → sold x ≤ sold (apply tb x e)
sold_rises tb x (Opened t) f = let b = opened_beside (tb t.0) t x in omega (arith, b.dropped, ap length b.tickets)
sold_rises tb x (Closed t) f = let xs = map (forgotten t) x.tickets in omega (arith, length-drop (stale xs) xs, stale_within xs, length-map x.tickets (forgotten t))
sold_rises tb x (Sold n p) f = omega (arith, length-append x.tickets (Some p ∷ []))
sold_rises tb x (Undone n) f = omega (arith, (returned_beside (ticket_of x n.0) x).dropped, length-set x.tickets (n.0 - 1 - x.dropped) None)
sold_rises tb x (Taken from n p) f = let b = received_beside tb x p in omega (arith, b.dropped, ap length b.tickets)
sold_rises tb x e f = omega arith

pub rise : NumbersRise
rise n tb w reach i xs ys zs k l p q e =
    rise_by tb sold (sold_rises tb) n i w reach xs ys zs (Sold k p) (Sold l q) k.0 l.0 e
    (λ s f. omega (arith, (fits_sold tb s k p f).next, length-append s.tickets (Some p ∷ []))) (λ y f. omega (arith, (fits_sold tb y l q f).next))

-- ---- asks

-- nor does the number of the last ask
asked_rises : (tb : Table) (x : State) (e : Record) → fits tb x e ≡ true → x.asked ≤ (apply tb x e).asked
asked_rises tb x (Opened t) f = omega (arith, (opened_beside (tb t.0) t x).asked)
asked_rises tb x (Undone n) f = omega (arith, (returned_beside (ticket_of x n.0) x).asked)
asked_rises tb x (Taken from n p) f = omega (arith, (received_beside tb x p).asked)
asked_rises tb x (Asked a) f = omega (arith, fits_asked tb x a f)
asked_rises tb x e f = omega arith

pub asks_rise : AsksRise
asks_rise n tb w reach i xs ys zs a b e =
    rise_by tb (λ x. x.asked) (asked_rises tb) n i w reach xs ys zs (Asked a) (Asked b) a.0 b.0 e (λ s f. omega arith) (λ y f. omega (arith, fits_asked tb y b f))
