-- A station by itself, whatever came to it.
-- Assumes nothing.
use Rattle.std.proofs.Common.{◌≡◌, ℕ, ◌-◌, true, false, List, [], ◌∷◌, ◌++◌, fold, Ok, Err, sym, refl, ap, ◌∙◌, subst, append_assoc, append-nil}
use Rattle.asking.specs.Events.{Response, resolved}
use Rattle.asking.specs.Minds.{Mind}
use Rattle.asking.specs.Replies.{written}
use Rattle.asking.specs.declared.event.Event.{Event}
use Rattle.ledger.specs.Decisions.{Answer, decided_open, for_memory, listing, records}
use Rattle.network.proofs.Count.{given_of, taken_of, given_to, taken_from, flat_push}
use Rattle.network.proofs.Fine.{Lists, Real, fine_first, real_next, sent_next}
use Rattle.network.proofs.Held.{Sound}
use Rattle.network.proofs.Local.{Line}
use Rattle.network.proofs.Moves.{line_next, sound_next}
use Rattle.network.specs.Places.{under_way}
use Rattle.network.specs.Worlds.{channel}
use Rattle.recovery.proofs.Journals.{did_stands}
use Rattle.recovery.specs.Runs.{Did, handled, opened, fell, led, Typed, TypedRow}
use Rattle.state.specs.Changes.{all_fit, apply, fits}
use Rattle.state.specs.States.{State, begun}
use Rattle.state.specs.declared.record.Record.{Record}
use Rattle.std.proofs.lemmas.Bool.{and_parts}
use Rattle.std.proofs.lemmas.List.Elements.{All-append, All-drop}
use Rattle.std.specs.List.{All}
use Rattle.timetable.specs.Rows.{Table}
use Rattle.timetable.specs.declared.row.Row.{Row}

-- ---- what holds of it

pub record Stands (tb : Table) (x : State) (js : List Record) : Type 0 where
  pub sound : Sound x
  pub line : (k : ℕ) → Line (channel x k) (given_to k js) (taken_from k js)
  pub real : All (Real tb) x.tickets
  pub sent : (k : ℕ) → All (Lists tb) (given_to k js)

module _ (tb : Table) where
  stands_next : (x : State) (js : List Record) (e : Record) → fits tb x e ≡ true → Stands tb x js → Stands tb (apply tb x e) (js ++ e ∷ [])
  stands_next x js e f h =
      record {
        sound = sound_next tb x e f h.sound;
        line = λ k. rw (flat_push (given_of k) js e, flat_push (taken_of k) js e) (line_next tb x e k (given_to k js) (taken_from k js) f (h.line k));
        real = real_next tb x e f h.real;
        sent = λ k. rw (flat_push (given_of k) js e) (All-append (Lists tb) (given_to k js) (given_of k e) (h.sent k) (sent_next tb x e k f));
      }

  stands_then : (x : State) (js es : List Record) → all_fit tb x es ≡ true → Stands tb x js → Stands tb (fold (apply tb) x es) (js ++ es)
  stands_then x js [] f h = subst (Stands tb x) (sym (append-nil js)) h
  stands_then x js (e ∷ es) f h =
      let (a, b) = and_parts (fits tb x e) (all_fit tb (apply tb x e) es) f in
      subst (Stands tb (fold (apply tb) (apply tb x e) es)) (append_assoc js (e ∷ []) es) (stands_then (apply tb x e) (js ++ e ∷ []) es b (stands_next x js e a h))

  pub stands : (n i : ℕ) (es : List Record) → Did n i tb es → Stands tb (led n i tb es) es
  stands n i es d =
      let f = fine_first n tb i in
      stands_then (begun n i) [] es (did_stands n i d).1 (record { sound = f.sound; line = f.line; real = f.real; sent = f.sent })

  -- the train has all pieces on their way to another station, whatever that one is
  pub listed_way : (x y : State) (js : List Record) → Stands tb x js → (i j : ℕ) → All (Lists tb) (under_way i j x y)
  listed_way x y js h i j =
      All-drop (Lists tb) ((channel y i).taken - (channel x j).heard) (channel x j).waiting
      (subst (All (Lists tb)) (sym (h.line j).waiting) (All-drop (Lists tb) (channel x j).heard (given_to j js) (h.sent j)))

-- ---- what it may have written after a step, by its state before

module _ (n i : ℕ) (tb : Table) (es : List Record) (d : Did n i tb es) (s : State) (is : s ≡ led n i tb es) where
  same : Did n i tb (es ++ [])
  same = subst (Did n i tb) (sym (append-nil es)) d

  pub did_event : (m : Mind) (e : Event) (r : Response) → Typed e → (for_memory r ≡ false → r ≡ resolved tb s m e) → Did n i tb (es ++ written s r)
  did_event m e (Ok o) t a =
      subst (λ x. Did n i tb (es ++ written x (Ok o))) (sym is)
      (subst (λ (r : Response). Did n i tb (es ++ written (led n i tb es) r)) (sym (a refl ∙ ap (λ x. resolved tb x m e) is)) (handled d m e t))
  did_event m e (Err q) t a = same

  pub did_open : (r : Row) (o : Answer) → TypedRow r → (for_memory o ≡ false → o ≡ decided_open tb s r) → Did n i (listing tb r o) (es ++ records o)
  did_open r (Ok o) t a = subst (λ (z : Answer). Did n i (listing tb r z) (es ++ records z)) (sym (a refl ∙ ap (λ x. decided_open tb x r) is)) (opened d r t)
  did_open r (Err q) t a = same

-- a first part of it, after a fall
pub did_left : {n i : ℕ} {tb : Table} (es fs gs hs : List Record) → fs ≡ gs ++ hs → Did n i tb (es ++ fs) → Did n i tb (es ++ gs)
did_left {n} {i} {tb} es fs gs hs split d = fell (es ++ gs) hs (subst (Did n i tb) (ap (λ l. es ++ l) split ∙ sym (append_assoc es gs hs)) d)
