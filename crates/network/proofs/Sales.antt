-- Whether a ticket of a train was ever sold is what a station's journal says.
-- Assumes nothing.
use Rattle.std.proofs.Common.{◌≡◌, ℕ, ◌<◌, Bool, true, false, ◌||◌, eqb, ltb, List, [], ◌∷◌, ◌++◌, length, get_or, set, is_some, Some, None, fold, Option, sym, refl, ap, ◌∙◌, ⊎_elim, arith, get_or-set_other, get_or-set_same, length-set}
use Rattle.choosing.specs.Choice.{lowest}
use Rattle.choosing.specs.declared.party.Party.{Party}
use Rattle.giving.specs.declared.ids.Ticket.{Ticket}
use Rattle.network.proofs.Fine.{begun_shut}
use Rattle.network.proofs.Held.{Sound, open_lt, place_apart}
use Rattle.network.proofs.Linked.{every}
use Rattle.network.proofs.Local.{fits_opened, fits_sold, fits_taken}
use Rattle.network.proofs.Moves.{Received, shut, there, anew, received_by}
use Rattle.network.proofs.Slots.{train_is}
use Rattle.network.proofs.Stock.{among_push}
use Rattle.network.proofs.Trains.{place_z, place_t, not_free, opened_same, closed_place, closing_same, closing_shut}
use Rattle.network.specs.Promises.{SoldIn, KeepsNone}
use Rattle.network.specs.Falls.{Reach}
use Rattle.network.specs.Worlds.{World, journal, state}
use Rattle.pieces.specs.Memory.{word_at}
use Rattle.pieces.specs.declared.names.Train.{Train}
use Rattle.state.specs.Changes.{apply, fits, opened, closing, returned}
use Rattle.state.specs.States.{State, begun, place_of, place, is_open, among, has_sold, known, was_closed, ticket_of}
use Rattle.state.specs.declared.record.Record.{Record}
use Rattle.state.specs.declared.record.Record.TheVariants.{Opened, Closed, Sold, Undone, Taken}
use Rattle.std.specs.List.{list_any}
use Rattle.std.proofs.Math.Bool.{or-false}
use Rattle.std.proofs.lemmas.Bool.{cases_eq, cases_Bool, cond-false, eq-eqb, eqb-true, ne_eqb, false_from_ne_true, or_from, or_left, or_right, or_parts, true≢false}
use Rattle.std.proofs.lemmas.List.{length-replicate}
use Rattle.std.proofs.lemmas.List.Folds.{list_any-append}
use Rattle.std.proofs.lemmas.List.Sums.{fold_push}
use Rattle.timetable.specs.Rows.{Table}
use Rattle.timetable.specs.declared.row.Row.{Row}

-- ---- what a journal says

-- a record sells a ticket of the train
abbrev pub sells : Train → Record → Bool
sells t (Sold n p) = eqb t.0 p.train.0
sells t e = false

abbrev pub sold_in : Train → List Record → Bool
sold_in t js = list_any (sells t) js

sold_push : (t : Train) (js : List Record) (e : Record) → sold_in t (js ++ e ∷ []) ≡ (sold_in t js || sells t e)
sold_push t js e = list_any-append (sells t) js (e ∷ []) ∙ ap (λ b. sold_in t js || b) (or-false (sells t e))

-- it is the test of what is promised
pub sold_true : (t : Train) (js : List Record) → SoldIn js t → sold_in t js ≡ true
sold_true t js (xs, ys, k, p, e, g) =
    ap (sold_in t) e
    ∙ list_any-append (sells t) xs (Sold k p ∷ ys)
    ∙ or_right (sold_in t xs) (sold_in t (Sold k p ∷ ys)) (or_left (eqb t.0 p.train.0) (sold_in t ys) (eq-eqb t.0 p.train.0 g))

pub sold_where : (t : Train) (js : List Record) → sold_in t js ≡ true → SoldIn js t
sold_where t [] h = absurd (true≢false (sym h))
sold_where t (e ∷ js) h = go e h (sold_where t js)
  where
    later : (d : Record) → SoldIn js t → SoldIn (d ∷ js) t
    later d (xs, ys, k, p, f, g) = (d ∷ xs, ys, k, p, ap (λ zs. d ∷ zs) f, g)

    go : (d : Record) → sold_in t (d ∷ js) ≡ true → (sold_in t js ≡ true → SoldIn js t) → SoldIn (d ∷ js) t
    go (Sold k p) f r = ⊎_elim (λ g. ([], js, k, p, refl, eqb-true t.0 p.train.0 g)) (λ g. later (Sold k p) (r (ap (λ b. b || sold_in t js) (sym g) ∙ f))) (cases_Bool (eqb t.0 p.train.0))
    go d f r = later d (r f)

-- ---- what a station remembers

-- beside the slots ss, with the closed trains cs: an open train's mark is b of it, and b is false of a train that is not known
pub record Marks (ss : List (Option Train)) (ms : List Bool) (cs : List Train) (b : Train → Bool) : Type 0 where
  pub all : length ms ≡ 64
  pub is : (t : Train) → ltb (place_of ss (Some t)) (length ss) ≡ true → get_or ms (place_of ss (Some t)) false ≡ b t
  pub none : (t : Train) → (ltb (place_of ss (Some t)) (length ss) || among t cs) ≡ false → b t ≡ false

abbrev pub Marked : State → (Train → Bool) → Type 0
Marked x b = Marks x.slots x.ever_sold x.closed b

module _ (x : State) (sound : Sound x) (b : Train → Bool) (h : Marked x b) where
  -- a train that is opened is marked as one of which none was sold
  opens : (z : Train) (r : Row) → known x z ≡ false → place_of x.slots None < length x.slots → Marked (opened (Some r) z x) b
  opens z r u l =
      record {
        all = length-set x.ever_sold k false ∙ h.all;
        is = λ t o. ⊎_elim (here t) (other t o) (cases_eq t.0 z.0);
        none = λ t v. ⊎_elim (λ d. ap b (train_is d) ∙ h.none z u) (λ d. h.none t (ap (λ y. y || was_closed x t) (sym (opened_same x sound z r s l t d)) ∙ v)) (cases_eq t.0 z.0);
      }
    where
      k : ℕ
      k = place_of x.slots None

      s : is_open x z ≡ false
      s = (or_parts (is_open x z) (was_closed x z) u).0

      here : (t : Train) → t.0 ≡ z.0 → has_sold (opened (Some r) z x) t ≡ b t
      here t d =
          ap (has_sold (opened (Some r) z x)) (train_is d)
          ∙ ap (λ (i : ℕ). get_or (set x.ever_sold k false) i false) (place_z x sound z r s l)
          ∙ get_or-set_same x.ever_sold k false false (omega (arith, l, sound.slots, h.all))
          ∙ sym (ap b (train_is d) ∙ h.none z u)

      other : (t : Train) → is_open (opened (Some r) z x) t ≡ true → (t.0 ≡ z.0 → ⊥) → has_sold (opened (Some r) z x) t ≡ b t
      other t o d =
          ap (λ (i : ℕ). get_or (set x.ever_sold k false) i false) (place_t x sound z r s l t d)
          ∙ get_or-set_other x.ever_sold k (place x t) false false (not_free x sound z r s l t)
          ∙ h.is t (sym (opened_same x sound z r s l t d) ∙ o)

  -- one that is closed is not open, and known
  closes : (z : Train) → is_open x z ≡ true → Marked (closing z x) b
  closes z o =
      record {
        all = h.all;
        is = λ t g. ⊎_elim (λ d. absurd (true≢false (sym g ∙ closing_shut x sound z o t d))) (other t g) (cases_eq t.0 z.0);
        none = unknown;
      }
    where
      other : (t : Train) → is_open (closing z x) t ≡ true → (t.0 ≡ z.0 → ⊥) → has_sold (closing z x) t ≡ b t
      other t g d = ap (λ (i : ℕ). get_or x.ever_sold i false) (closed_place x sound z o t d) ∙ h.is t (sym (closing_same x sound z o t d) ∙ g)

      unknown : (t : Train) → known (closing z x) t ≡ false → b t ≡ false
      unknown t v =
          let (f, g) = or_parts (is_open (closing z x) t) (was_closed (closing z x) t) v in
          let (c, d) = or_parts (among t x.closed) (eqb t.0 z.0) (sym (among_push t z x.closed) ∙ g) in
          h.none t (or_from (is_open x t) (was_closed x t) (sym (closing_same x sound z o t (λ e. true≢false (sym (eq-eqb t.0 z.0 e) ∙ d))) ∙ f) c)

  -- a ticket of an open train that is sold marks it
  sale : (tb : Table) (n : Ticket) (p : Party) → is_open x p.train ≡ true → Marked (apply tb x (Sold n p)) (λ t. b t || eqb t.0 p.train.0)
  sale tb n p o =
      record {
        all = length-set x.ever_sold k true ∙ h.all;
        is = λ t g. ⊎_elim (here t) (other t g) (cases_eq t.0 p.train.0);
        none = λ t v. or_from (b t) (eqb t.0 p.train.0) (h.none t v) (ne_eqb t.0 p.train.0 (λ d. true≢false (sym o ∙ ap (is_open x) (sym (train_is d)) ∙ (or_parts (is_open x t) (was_closed x t) v).0)));
      }
    where
      k : ℕ
      k = place x p.train

      here : (t : Train) → t.0 ≡ p.train.0 → has_sold (apply tb x (Sold n p)) t ≡ (b t || eqb t.0 p.train.0)
      here t d =
          ap (λ (z : Train). get_or (set x.ever_sold k true) (place x z) false) (train_is d)
          ∙ get_or-set_same x.ever_sold k true false (omega (arith, open_lt x p.train o, sound.slots, h.all))
          ∙ sym (or_right (b t) (eqb t.0 p.train.0) (eq-eqb t.0 p.train.0 d))

      other : (t : Train) → is_open x t ≡ true → (t.0 ≡ p.train.0 → ⊥) → has_sold (apply tb x (Sold n p)) t ≡ (b t || eqb t.0 p.train.0)
      other t g d = get_or-set_other x.ever_sold k (place x t) true false (place_apart x t p.train o d) ∙ h.is t g ∙ sym (or-false (b t)) ∙ ap (λ y. b t || y) (sym (ne_eqb t.0 p.train.0 d))

-- the same marks, said otherwise
marked_as : (x : State) (b c : Train → Bool) → ((t : Train) → b t ≡ c t) → Marked x b → Marked x c
marked_as x b c e h = record { all = h.all; is = λ t o. h.is t o ∙ e t; none = λ t v. sym (e t) ∙ h.none t v }

module _ (tb : Table) (x : State) (sound : Sound x) (b : Train → Bool) (h : Marked x b) where
  -- where nothing was sold
  still : (y : State) → Marked y b → Marked y (λ t. b t || false)
  still y = marked_as y b (λ t. b t || false) (λ t. sym (or-false (b t)))

  marked_by : (e : Record) → fits tb x e ≡ true → Marked (apply tb x e) (λ t. b t || sells t e)
  marked_by (Opened z) f = go (tb z.0) (fits_opened tb x z f)
    where
      go : (o : Option Row) → (is_some (tb z.0) ≡ true) × (known x z ≡ false) × (place_of x.slots None < length x.slots) → Marked (opened o z x) (λ t. b t || false)
      go None g = still x h
      go (Some r) (_, u, l) = still (opened (Some r) z x) (opens x sound b h z r u l)
  marked_by (Closed z) f = still (closing z x) (closes x sound b h z f)
  marked_by (Sold n p) f = sale x sound b h tb n p (fits_sold tb x n p f).«open»
  marked_by (Undone n) f = go (ticket_of x n.0)
    where
      go : (y : Option Party) → Marked (returned y x) (λ t. b t || false)
      go (Some p) = still x h
      go None = still x h
  marked_by (Taken from n p) f = go (received_by tb x p (fits_taken tb x from n p f).listed (fits_taken tb x from n p f).room)
    where
      go : {y : State} → Received tb x p y → Marked y (λ t. b t || false)
      go (shut c) = still x h
      go (there c o) = still x h
      go (anew r is c o l) = still (opened (Some r) p.train x) (opens x sound b h p.train r (or_from (is_open x p.train) (was_closed x p.train) o c) l)
  marked_by e f = still x h

pub marked_all : (n : ℕ) (tb : Table) {w : World} → Reach n tb w → (i : ℕ) → Marked (state n tb w i) (λ t. sold_in t (journal w i))
marked_all n tb r i =
    every n tb (λ i js. Marked (fold (apply tb) (begun n i) js) (λ t. sold_in t js))
    (λ i. record { all = length-replicate {A = Bool} 64 false; is = λ t o. absurd (true≢false (sym o ∙ begun_shut n i t)); none = λ t v. refl })
    (λ i js e sound f h.
    let x = fold (apply tb) (begun n i) js in
    rw (fold_push (apply tb) (begun n i) js e) (marked_as (apply tb x e) (λ t. sold_in t js || sells t e) (λ t. sold_in t (js ++ e ∷ [])) (λ t. sym (sold_push t js e)) (marked_by tb x sound (λ t. sold_in t js) h e f))) r i

-- ---- what that comes to

pub has_sold_all : (n : ℕ) (tb : Table) {w : World} → Reach n tb w → (i : ℕ) (t : Train) → is_open (state n tb w i) t ≡ true → SoldIn (journal w i) t → has_sold (state n tb w i) t ≡ true
has_sold_all n tb {w} r i t o h = (marked_all n tb r i).is t o ∙ sold_true t (journal w i) h

pub keeps_none : KeepsNone
keeps_none n tb w r i t o h =
    let x = state n tb w i in
    let e : has_sold x t ≡ false = (marked_all n tb r i).is t o ∙ false_from_ne_true (sold_in t (journal w i)) (λ g. h (sold_where t (journal w i) g)) in
    cond-false (has_sold x t) (lowest (word_at x.words (place x t)) 400) None e
