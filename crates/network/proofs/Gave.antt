-- To which stations pieces of an open train were given is remembered.
-- Assumes nothing.
use Rattle.std.proofs.Common.{◌≡◌, ℕ, ◌<◌, Bool, true, false, eqb, List, [], ◌∷◌, ◌++◌, length, get_or, set, is_some, Some, None, fold, Option, sym, refl, ap, ◌∙◌, ⊎_elim, arith, get_or-set_other, get_or-set_same, length-set}
use Rattle.choosing.specs.declared.party.Party.{Party}
use Rattle.giving.specs.declared.ids.Ask.{Ask}
use Rattle.giving.specs.declared.ids.Number.{Number}
use Rattle.giving.specs.declared.ids.StationId.{StationId}
use Rattle.network.proofs.Count.{given_of, given_to, flat_push}
use Rattle.network.proofs.Fine.{closed_before}
use Rattle.network.proofs.Held.{Sound, open_lt}
use Rattle.network.proofs.Linked.{every}
use Rattle.network.proofs.Lists.{set_any}
use Rattle.network.proofs.Local.{fits_opened, fits_given, fits_taken}
use Rattle.network.proofs.Moves.{Received, shut, there, anew, received_by}
use Rattle.network.proofs.Slots.{train_is}
use Rattle.network.proofs.Stock.{among_push}
use Rattle.network.proofs.Trains.{place_t, not_free, opened_same, closed_place, closing_same}
use Rattle.network.specs.Falls.{Reach}
use Rattle.network.specs.Worlds.{World, journal, state}
use Rattle.pieces.specs.declared.names.Train.{Train}
use Rattle.pieces.specs.declared.piece.Piece.{Piece}
use Rattle.state.specs.Changes.{apply, fits, opened, closing, returned}
use Rattle.state.specs.States.{State, nobody, begun, place_of, place, is_open, among, has_given, known, was_closed, ticket_of}
use Rattle.state.specs.declared.record.Record.{Record}
use Rattle.state.specs.declared.record.Record.TheVariants.{Opened, Closed, Undone, Given, Taken}
use Rattle.std.specs.List.{All}
use Rattle.std.proofs.lemmas.Bool.{cases_eq, cond_both, eq-eqb, eqb-true, or_parts, or_right, true≢false}
use Rattle.std.proofs.lemmas.List.{length-replicate}
use Rattle.std.proofs.lemmas.List.Elements.{All-nil, All-cons, All-set, All-append, All-weaker, All-replicate}
use Rattle.std.proofs.lemmas.List.Sums.{fold_push}
use Rattle.timetable.specs.Rows.{Table}
use Rattle.timetable.specs.declared.row.Row.{Row}

-- a mark of each station beside each slot
record Marks (ms : List (List Bool)) : Type 0 where
  slots : length ms ≡ 64
  stations : All (λ (bs : List Bool). length bs ≡ 256) ms

abbrev Marked : State → Type 0
Marked x = Marks x.ever_gave

nobody_long : length nobody ≡ 256
unfolding nobody
nobody_long = length-replicate {A = Bool} 256 false

-- an open train that was given is open on, and marked on, until it is closed
abbrev Keeps : State → State → Type 0
Keeps x y = (t : Train) (k : StationId) → was_closed y t ≡ false → is_open x t ≡ true → has_given x t k ≡ true → (is_open y t ≡ true) × (has_given y t k ≡ true)

abbrev Next : State → State → Type 0
Next x y = Marked y × Keeps x y

module _ (x : State) (sound : Sound x) (m : Marked x) where
  opens : (z : Train) (r : Row) → is_open x z ≡ false → place_of x.slots None < length x.slots → Next x (opened (Some r) z x)
  opens z r s l = (
    record { slots = length-set x.ever_gave k nobody ∙ m.slots; stations = All-set (λ (bs : List Bool). length bs ≡ 256) x.ever_gave k nobody nobody_long m.stations },
    λ t j c o g. ⊎_elim (λ d. absurd (true≢false (sym o ∙ ap (is_open x) (train_is d) ∙ s))) (λ d. (opened_same x sound z r s l t d ∙ o, other t j d ∙ g)) (cases_eq t.0 z.0),
  )
    where
      k : ℕ
      k = place_of x.slots None

      other : (t : Train) (j : StationId) → (t.0 ≡ z.0 → ⊥) → has_given (opened (Some r) z x) t j ≡ has_given x t j
      other t j d =
          ap (λ (i : ℕ). get_or (get_or (set x.ever_gave k nobody) i []) j.0 false) (place_t x sound z r s l t d)
          ∙ ap (λ bs. get_or bs j.0 false) (get_or-set_other x.ever_gave k (place x t) nobody [] (not_free x sound z r s l t))

  closes : (z : Train) → is_open x z ≡ true → Next x (closing z x)
  closes z o = (m, λ t j c p g. let d = away t c in (closing_same x sound z o t d ∙ p, ap (λ (i : ℕ). get_or (get_or x.ever_gave i []) j.0 false) (closed_place x sound z o t d) ∙ g))
    where
      away : (t : Train) → was_closed (closing z x) t ≡ false → t.0 ≡ z.0 → ⊥
      away t c d = true≢false (sym (among_push t z x.closed ∙ or_right (among t x.closed) (eqb t.0 z.0) (eq-eqb t.0 z.0 d)) ∙ c)

  -- a piece of an open train that is given marks it
  module _ (tb : Table) (to : StationId) (n : Number) (a : Ask) (p : Piece) (o : is_open x p.train ≡ true) where
    abbrev i : ℕ
    i = place x p.train

    abbrev bs : List Bool
    bs = get_or x.ever_gave i []

    long : length bs ≡ 256
    long = m.stations i [] (omega (arith, open_lt x p.train o, sound.slots, m.slots))

    gives : Next x (apply tb x (Given to n a p))
    gives = (
      record { slots = length-set x.ever_gave i _ ∙ m.slots; stations = All-set (λ (bs : List Bool). length bs ≡ 256) x.ever_gave i (set bs to.0 true) (length-set bs to.0 true ∙ long) m.stations },
      λ t j c q g. (q, set_any (λ k cs. get_or (get_or x.ever_gave k []) j.0 false ≡ true → get_or cs j.0 false ≡ true) x.ever_gave i (set bs to.0 true) [] (more j) (λ k h. h) (place x t) g),
    )
      where
        more : (j : StationId) → get_or bs j.0 false ≡ true → get_or (set bs to.0 true) j.0 false ≡ true
        more j = set_any (λ k b. get_or bs k false ≡ true → b ≡ true) bs to.0 true false (λ _. refl) (λ k h. h) j.0

    marks : (k : StationId) → k.0 ≡ to.0 → to.0 < 256 → has_given (apply tb x (Given to n a p)) p.train k ≡ true
    marks k e b =
        ap (λ cs. get_or cs k.0 false) (get_or-set_same x.ever_gave i (set bs to.0 true) [] (omega (arith, open_lt x p.train o, sound.slots, m.slots)))
        ∙ ap (λ (j : ℕ). get_or (set bs to.0 true) j false) e
        ∙ get_or-set_same bs to.0 true false (omega (arith, b, long))

  next : (tb : Table) (e : Record) → fits tb x e ≡ true → Next x (apply tb x e)
  next tb (Opened z) f = go (tb z.0) (fits_opened tb x z f)
    where
      go : (o : Option Row) → (is_some (tb z.0) ≡ true) × (known x z ≡ false) × (place_of x.slots None < length x.slots) → Next x (opened o z x)
      go None g = (m, λ t k c o g. (o, g))
      go (Some r) (_, k, l) = opens z r (or_parts (is_open x z) (was_closed x z) k).0 l
  next tb (Closed z) f = closes z f
  next tb (Undone n) f = go (ticket_of x n.0)
    where
      go : (y : Option Party) → Next x (returned y x)
      go (Some p) = (m, λ t k c o g. (o, g))
      go None = (m, λ t k c o g. (o, g))
  next tb (Given to n a p) f = gives tb to n a p (fits_given tb x to n a p f).«open»
  next tb (Taken from n p) f = go (received_by tb x p (fits_taken tb x from n p f).listed (fits_taken tb x from n p f).room)
    where
      go : {y : State} → Received tb x p y → Next x y
      go (shut c) = (m, λ t k c o g. (o, g))
      go (there c o) = (m, λ t k c o g. (o, g))
      go (anew r is c o l) = opens p.train r o l
  next tb e f = (m, λ t k c o g. (o, g))

-- ---- what a journal says

-- a piece that was given to a station is of a train that is closed, or open and marked
abbrev pub Noted : State → StationId → Piece → Type 0
Noted x k p = was_closed x p.train ≡ false → (is_open x p.train ≡ true) × (has_given x p.train k ≡ true)

record Notes (x : State) (js : List Record) : Type 0 where
  marked : Marked x
  given : (k : StationId) → k.0 < 256 → All (Noted x k) (given_to k.0 js)

module _ (tb : Table) (x : State) (sound : Sound x) (js : List Record) (h : Notes x js) where
  noted_now : (e : Record) → fits tb x e ≡ true → (k : StationId) → k.0 < 256 → All (Noted (apply tb x e) k) (given_of k.0 e)
  noted_now (Given to n a p) f k b =
      let P = Noted (apply tb x (Given to n a p)) k in
      let o = (fits_given tb x to n a p f).«open» in
      cond_both (eqb k.0 to.0) (p ∷ []) [] (All P) (λ d. let e = eqb-true k.0 to.0 d in All-cons P p [] (λ _. (o, marks x sound h.marked tb to n a p o k e (omega (arith, e, b)))) (All-nil P)) (λ _. All-nil P)
  noted_now e f k b = All-nil (Noted (apply tb x e) k)

  notes_next : (e : Record) → fits tb x e ≡ true → Notes (apply tb x e) (js ++ e ∷ [])
  notes_next e f =
      let (m, keeps) = next x sound h.marked tb e f in
      let y = apply tb x e in
      record {
        marked = m;
        given = λ k b.
            rw (flat_push (given_of k.0) js e)
            (All-append (Noted y k) (given_to k.0 js) (given_of k.0 e)
            (All-weaker (Noted x k) (Noted y k) (λ p n c. let (o, g) = n (closed_before tb x e p.train c) in keeps p.train k c o g) (given_to k.0 js) (h.given k b))
            (noted_now e f k b));
      }

-- of whatever a station gave
pub noted_all : (n : ℕ) (tb : Table) {w : World} → Reach n tb w → (i : ℕ) (k : StationId) → k.0 < 256 → All (Noted (state n tb w i) k) (given_to k.0 (journal w i))
noted_all n tb {w} r i =
    (every n tb (λ i js. Notes (fold (apply tb) (begun n i) js) js)
    (λ i. record { marked = record { slots = length-replicate {A = List Bool} 64 nobody; stations = All-replicate (λ (bs : List Bool). length bs ≡ 256) 64 nobody nobody_long }; given = λ k b. All-nil (Noted (begun n i) k) })
    (λ i js e sound f h. rw (fold_push (apply tb) (begun n i) js e) (notes_next tb (fold (apply tb) (begun n i) js) sound js h e f)) r i).given
