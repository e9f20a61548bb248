-- What a station decides and says is a run of moves.
-- Assumes nothing.
use Rattle.std.proofs.Common.{◌≡◌, ℕ, zero, suc, ◌+◌, ◌<◌, ◌≤◌, Bool, true, false, cond, ◌&&◌, ◌||◌, not, eqb, leb, ◌⊎◌, List, [], ◌∷◌, ◌++◌, map, length, get_or, set, Some, None, fold, Option, sym, refl, ap, ◌∙◌, subst, inl, inr, append_assoc, append-nil, arith, length-append, length-drop, length-set, get_or-set_same, Ok, Err}
use Rattle.std.proofs.lemmas.List.{set-get_or, set-set, get_or_at, length-map}
use mathlib.Core.List.{Memᴰ}
use Rattle.asking.specs.Events.{Response, resolved, turned, under_way}
use Rattle.asking.specs.Minds.{Mind, Inquiry, advanced, first, wanted}
use Rattle.asking.specs.Replies.{after_ask, minded, query, written}
use Rattle.asking.specs.Ticks.{reminder, reminders, reminders_to, telling, tellings, tellings_to, ticked}
use Rattle.asking.specs.Told.{sensible}
use Rattle.asking.specs.Turns.{open_trains, others}
use Rattle.asking.proofs.Asks.{asks_is}
use Rattle.asking.proofs.Listed.{Listed, trains_each}
use Rattle.asking.proofs.OrderRises.{each_by}
use Rattle.asking.specs.declared.event.Event.{Event}
use Rattle.asking.specs.declared.event.Event.TheVariants.{Call, Answered, Told, Tick, Garbled}
use Rattle.asking.specs.declared.event.Reply.TheVariants.{Came, Noted, Ticked}
use Rattle.choosing.specs.Parties.{pieces_of, seats_of}
use Rattle.choosing.specs.declared.party.Party.{Party}
use Rattle.giving.specs.Calls.{unless}
use Rattle.giving.specs.Channels.{Chan, declined, fresh, gave, line, other}
use Rattle.giving.specs.declared.ids.Ask.{Ask}
use Rattle.giving.specs.declared.ids.Number.{Number}
use Rattle.giving.specs.declared.ids.StationId.{StationId}
use Rattle.giving.specs.declared.message.Body.TheVariants as body
use Rattle.giving.specs.declared.message.Message.{Message}
use Rattle.giving.specs.declared.refusal.Refusal.{Refusal}
use Rattle.giving.specs.declared.refusal.Refusal.TheVariants.{Malformed, NoSuchStation}
use Rattle.ledger.proofs.Decided.{Gifts, Tells as Writes, cond_by, decided_fits, told_is, gave_is, opens_is, opens_gives, opens_admitted, opens_one, unless_by}
use Rattle.ledger.specs.Decisions.{Answer, decided, decided_open, entries, gifts, listing, records, notices, receipt, reckoning, answered, replies, for_memory}
use Rattle.ledger.specs.declared.input.Input.{Input}
use Rattle.ledger.specs.declared.input.Input.TheVariants.{Close, Sell, Undo, Give, Take, Hear, Grant}
use Rattle.ledger.specs.declared.input.Input.TheVariants as input
use Rattle.ledger.specs.declared.input.Outcome.{Outcome}
use Rattle.ledger.specs.declared.input.Outcome.TheVariants.{Done, Gave, Nothing, Passed}
use Rattle.network.proofs.Asked.{Sum, given_push, none_later, settled_all, summed}
use Rattle.network.proofs.Count.{given_to}
use Rattle.network.proofs.Grow.{grows}
use Rattle.network.proofs.Linked.{Intact, ok_reach}
use Rattle.network.proofs.Lists.{all_mem}
use Rattle.network.proofs.Local.{fits_declined, fits_given}
use Rattle.network.proofs.Sites.{moves_then, on_file, silent_covered, sited, told_covered}
use Rattle.network.specs.Promises.{Extends}
use Rattle.network.specs.Runs.{Heeds, HeedsAll, Happens, called, opened_by, Runs}
use Rattle.network.specs.Falls.{Site, site, OnFile, sync, steps, syncs, Moves, none, more, Reached, Reach}
use Rattle.network.specs.Worlds.{World, journal, with_journal, state, channel, Backed, wrote, spoke, settlement, given_for, is_gift, Step, writes, reminds, accounts, asks, answers, tells}
use Rattle.pieces.specs.Parts.{blank}
use Rattle.pieces.specs.declared.demand.Demand.{Demand}
use Rattle.pieces.specs.declared.piece.Piece.{Piece}
use Rattle.state.specs.Changes.{all_fit, apply, fits}
use Rattle.state.specs.States.{State, begun, is_open}
use Rattle.state.specs.declared.record.Record.{Record}
use Rattle.state.specs.declared.record.Record.TheVariants.{Given, Asked, Declined}
use Rattle.std.proofs.lemmas.Bool.{and_parts, and_from, cases_eq, cond_both, ne_eqb, eq-eqb, ltb-true}
use Rattle.std.proofs.lemmas.List.Sums.{fold-append}
use Rattle.std.specs.List.{AllByRecursion, flat_map, range_with_len}
use Rattle.timetable.proofs.Same.{same_row}
use Rattle.timetable.specs.Additions.{put, admitted}
use Rattle.timetable.specs.Rows.{Table}
use Rattle.timetable.specs.declared.row.Row.{Row}

-- ---- lists of which each element has something

module _ {X : Type 0} (P : X → Type 0) where
  pub all_append : (xs ys : List X) → AllByRecursion P xs → AllByRecursion P ys → AllByRecursion P (xs ++ ys)
  all_append [] ys h g = g
  all_append (x ∷ xs) ys h g = (h.0, all_append xs ys h.1 g)

  all_front : (xs ys : List X) → AllByRecursion P (xs ++ ys) → AllByRecursion P xs
  all_front [] ys h = tt
  all_front (x ∷ xs) ys h = (h.0, all_front xs ys h.1)

  pub all_cond : (b : Bool) (x : X) → P x → AllByRecursion P (cond b (x ∷ []) [])
  all_cond true x h = (h, tt)
  all_cond false x h = tt

  module _ {Y : Type 0} (Q : Y → Type 0) where
    pub all_mapped : (f : Y → X) (ys : List Y) → ((y : Y) → Q y → P (f y)) → AllByRecursion Q ys → AllByRecursion P (map f ys)
    all_mapped f [] h g = tt
    all_mapped f (y ∷ ys) h g = (h y g.0, all_mapped f ys h g.1)

    pub all_flat : (f : Y → List X) (ys : List Y) → ((y : Y) → Q y → AllByRecursion P (f y)) → AllByRecursion Q ys → AllByRecursion P (flat_map f ys)
    all_flat f [] h g = tt
    all_flat f (y ∷ ys) h g = all_append (f y) (flat_map f ys) (h y g.0) (all_flat f ys h g.1)

pub any_all : {X : Type 0} (xs : List X) → AllByRecursion (λ _. Unit {0}) xs
any_all [] = tt
any_all (x ∷ xs) = (tt, any_all xs)

pub ranged : (a n b : ℕ) → a + n ≤ b → AllByRecursion (λ k. k < b) (range_with_len a n)
ranged a zero b h = tt
ranged a (suc n) b h = (omega arith, ranged (a + 1) n b (omega arith))

-- ---- what is told is told of what is written

module _ (ms : List Message) (i : ℕ) where
  told_one : (x : Input) (e : Record) → Writes x e → Heeds ms i x → Backed ms i e
  told_one (Close t) e h g = subst (Backed ms i) h tt
  told_one (Sell d) e (n, p, h) g = subst (Backed ms i) h tt
  told_one (Undo n) e h g = subst (Backed ms i) h tt
  told_one (Give to d) e h g = absurd h
  told_one (Take from n p) e h g = subst (Backed ms i) h g
  told_one (Hear from n) e h g = subst (Backed ms i) h g
  told_one (input.Ask d) e (a, h) g = subst (Backed ms i) h tt
  told_one (Grant from a d) e h g = subst (Backed ms i) h tt

  -- no answer to the ask was said
  abbrev Open : StationId → Ask → Type 0
  Open to a = (m : ℕ) → Memᴰ (record { from = record { 0 = i }; to = to; body = body.Answered a m }) ms → ⊥

  told_gifts : (to : StationId) (a : Ask) (n : ℕ) (ps : List Piece) → Open to a → AllByRecursion (Backed ms i) (gifts to a n ps)
  told_gifts to a n [] h = tt
  told_gifts to a n (p ∷ ps) h = (h, told_gifts to a (suc n) ps h)

  told_all : (tb : Table) (s : State) (x : Input) (o : Answer) → o ≡ decided tb s x → Heeds ms i x → ((to : StationId) (a : Ask) (p : Party) → Gifts s x to a p → Open to a) → AllByRecursion (Backed ms i) (records o)
  told_all tb s x (Ok (Done e)) d h u = (told_one x e (told_is tb s x e (sym d)) h, tt)
  told_all tb s x (Ok (Gave to n a p)) d h u = told_gifts to a n.0 (pieces_of p) (u to a p (gave_is tb s x to n a p (sym d)).whom)
  told_all tb s x o d h u = tt

-- ---- a station writes

module _ (n : ℕ) (tb : Table) (i : ℕ) (l : i < n) where
  -- the world when it has written some records
  abbrev wrote_all : World → List Record → World
  wrote_all w es = with_journal w i (journal w i ++ es)

  wrote_none : (w : World) → wrote_all w [] ≡ w
  wrote_none w = ap (λ js. record { journals = js; said = w.said }) (ap (set w.journals i) (append-nil (journal w i)) ∙ set-get_or w.journals i [])

  module _ (w : World) (c : length w.journals ≡ n) where
    journal_then : (es : List Record) → journal (wrote_all w es) i ≡ journal w i ++ es
    journal_then es = get_or-set_same w.journals i (journal w i ++ es) [] (omega (arith, c))

    -- its state then
    state_then : (es : List Record) → state n tb (wrote_all w es) i ≡ fold (apply tb) (state n tb w i) es
    state_then es = ap (fold (apply tb) (begun n i)) (journal_then es) ∙ fold-append (apply tb) (begun n i) (journal w i) es

    wrote_more : (e : Record) (es : List Record) → wrote_all (wrote w i e) es ≡ wrote_all w (e ∷ es)
    wrote_more e es =
        ap (λ js. record { journals = js; said = w.said })
        (set-set w.journals i (journal w i ++ e ∷ []) (journal (wrote w i e) i ++ es)
        ∙ ap (set w.journals i) (ap (λ j. j ++ es) (journal_then (e ∷ [])) ∙ append_assoc (journal w i) (e ∷ []) es))

  write_all : (es : List Record) (w : World) (ks : List ℕ) → length w.journals ≡ n → AllByRecursion (Backed w.said i) es → all_fit tb (state n tb w i) es ≡ true → Moves n tb (site w ks) (site (wrote_all w es) ks)
  write_all [] w ks c t f = rw (wrote_none w) none
  write_all (e ∷ es) w ks c t f =
      let (a, b) = and_parts (fits tb (state n tb w i) e) (all_fit tb (apply tb (state n tb w i) e) es) f in
      moves_then (more none (steps w (wrote w i e) ks (writes w i e l t.0 a) (silent_covered (site w ks) (wrote w i e) refl)))
      (subst (λ v. Moves n tb (site (wrote w i e) ks) (site v ks)) (wrote_more w c e es)
      (write_all es (wrote w i e) ks (length-set w.journals i _ ∙ c) t.1 (subst (λ s. all_fit tb s es ≡ true) (sym (state_then w c (e ∷ []))) b)))

fit_front : (tb : Table) (x : State) (gs hs : List Record) → all_fit tb x (gs ++ hs) ≡ true → all_fit tb x gs ≡ true
fit_front tb x [] hs f = refl
fit_front tb x (e ∷ gs) hs f = let (a, b) = and_parts (fits tb x e) (all_fit tb (apply tb x e) (gs ++ hs)) f in and_from (fits tb x e) _ a (fit_front tb (apply tb x e) gs hs b)

-- ---- pieces given one after the other

module _ (tb : Table) (to : StationId) (a : Ask) where
  -- what is given waits at the end of the line
  gifts_wait : (ps : List Piece) (x : State) (m : ℕ) → all_fit tb x (gifts to a m ps) ≡ true →
      ((channel (fold (apply tb) x (gifts to a m ps)) to.0).waiting ≡ (channel x to.0).waiting ++ ps) × ((channel (fold (apply tb) x (gifts to a m ps)) to.0).heard ≡ (channel x to.0).heard)
  gifts_wait [] x m f = (sym (append-nil (channel x to.0).waiting), refl)
  gifts_wait (p ∷ ps) x m f =
      let e = Given to (record { 0 = m }) a p in
      let (b, c) = and_parts (fits tb x e) (all_fit tb (apply tb x e) (gifts to a (suc m) ps)) f in
      let (g, h) = gifts_wait ps (apply tb x e) (suc m) c in
      let is = get_or-set_same x.channels to.0 (gave (line x.channels to.0) a.0 p) fresh (fits_given tb x to _ a p b).there in
      (g ∙ ap (λ c. c.waiting ++ ps) is ∙ append_assoc (channel x to.0).waiting (p ∷ []) ps, h ∙ ap (λ c. c.heard) is)

  -- and their ask is the last that was answered
  gifts_answer : (ps : List Piece) (x : State) (m : ℕ) → all_fit tb x (gifts to a m ps) ≡ true → (channel x to.0).answered ≤ a.0 → ((channel x to.0).answered ≡ a.0) ⊎ (0 < length ps) →
      (channel (fold (apply tb) x (gifts to a m ps)) to.0).answered ≡ a.0
  gifts_answer [] x m f h (inl e) = e
  gifts_answer [] x m f h (inr e) = absurd (omega arith)
  gifts_answer (p ∷ ps) x m f h g =
      let e = Given to (record { 0 = m }) a p in
      let (b, c) = and_parts (fits tb x e) (all_fit tb (apply tb x e) (gifts to a (suc m) ps)) f in
      let is = ap (λ (c : Chan). c.answered) (get_or-set_same x.channels to.0 (gave (line x.channels to.0) a.0 p) fresh (fits_given tb x to _ a p b).there) in
      gifts_answer ps (apply tb x e) (suc m) c (omega arith) (inl (omega arith))

  gifts_counted : (ps : List Piece) (js : List Record) (m : ℕ) → given_for to a (js ++ gifts to a m ps) ≡ given_for to a js + length ps
  gifts_counted [] js m = ap (given_for to a) (append-nil js) ∙ omega arith
  gifts_counted (p ∷ ps) js m =
      let e = Given to (record { 0 = m }) a p in
      let one : is_gift to a e ≡ true = and_from _ _ (eq-eqb to.0 to.0 refl) (eq-eqb a.0 a.0 refl) in
      omega (arith, ap (given_for to a) (sym (append_assoc js (e ∷ []) (gifts to a (suc m) ps))), gifts_counted ps (js ++ e ∷ []) (suc m), given_push to a js e, ap (λ b. cond {A = ℕ} b 1 0) one)

-- ---- and says

-- s is the state that the journal js leads to
module _ (n : ℕ) (tb : Table) (i : ℕ) (js : List Record) (s : State) (led : fold (apply tb) (begun n i) js ≡ s) where
  -- with this journal, the station can say it
  abbrev Sayable : Message → Type 0
  Sayable m = (m.from.0 ≡ i) × ((v : World) → journal v i ≡ js → Step n tb v (spoke v m))

  -- and it says it, when all that it wrote is synced
  says : (ms : List Message) (v : World) (ks : List ℕ) → journal v i ≡ js → OnFile (site v ks) i → AllByRecursion Sayable ms → Moves n tb (site v ks) (site (record { journals = v.journals; said = v.said ++ ms }) ks)
  says [] v ks is o h = rw (append-nil v.said) none
  says (m ∷ ms) v ks is o h =
      moves_then (more none (steps v (spoke v m) ks (h.0.1 v is) (told_covered (site v ks) m (rw h.0.0 o))))
      (subst (λ z. Moves n tb (site (spoke v m) ks) (site (record { journals = v.journals; said = z }) ks)) (append_assoc v.said (m ∷ []) ms) (says ms (spoke v m) ks is o h.1))

  abbrev here : (v : World) → journal v i ≡ js → state n tb v i ≡ s
  here v is = ap (fold (apply tb) (begun n i)) is ∙ led

  module _ (me : s.me ≡ i) where
    receipts : (from : StationId) → Sayable (receipt s from)
    receipts from = (me, λ v is. subst (λ m. Step n tb v (spoke v m)) (rw (here v is, ← me) refl) (accounts v i from.0))

    -- the piece behind those at the front that waits
    notice : (to : StationId) (p : Piece) (xs ps : List Piece) (m : ℕ) → (channel s to.0).waiting ≡ xs ++ p ∷ ps → m ≡ (channel s to.0).heard + 1 + length xs →
        Sayable (record { from = record { 0 = s.me }; to = to; body = body.Given (record { 0 = m }) p })
    notice to p xs ps m e c = (me, λ v is. subst (λ z. Step n tb v (spoke v z)) (same v is) (reminds v i to.0 (length xs) (rw (here v is) long)))
      where
        long : length xs < length (channel s to.0).waiting
        long = omega (arith, ap length e, length-append xs (p ∷ ps))

        piece : get_or (channel s to.0).waiting (length xs) blank ≡ p
        piece = ap (λ l. get_or l (length xs) blank) e ∙ get_or_at xs p ps blank (length xs) refl

        same : (v : World) → journal v i ≡ js → reminder (state n tb v i) i to.0 (length xs) ≡ record { from = record { 0 = s.me }; to = to; body = body.Given (record { 0 = m }) p }
        same v is = rw (here v is, ← me, ← c, piece) refl

    -- each piece that waits behind those at the front
    noticed : (to : StationId) (ps xs : List Piece) (m : ℕ) → (channel s to.0).waiting ≡ xs ++ ps → m ≡ (channel s to.0).heard + 1 + length xs → AllByRecursion Sayable (notices s.me to m ps)
    noticed to [] xs m e c = tt
    noticed to (p ∷ ps) xs m e c =
        (notice to p xs ps m e c, noticed to ps (xs ++ p ∷ []) (suc m) (e ∙ sym (append_assoc xs (p ∷ []) ps)) (omega (arith, c, length-append xs (p ∷ []))))

    -- how many pieces were given for an ask, the last that was answered
    reckons : (to : StationId) (a : Ask) (m : ℕ) → 1 ≤ a.0 → (channel s to.0).answered ≡ a.0 → given_for to a js ≡ m → Sayable (reckoning s.me to a m)
    reckons to a m l e g = (me, λ v is. subst (λ z. Step n tb v (spoke v z)) (same v is) (answers v i to (rw (here v is) (omega (arith, l, e)))))
      where
        ask : record { 0 = (channel s to.0).answered } ≡ a
        ask = ap (λ (k : ℕ). record { 0 = k }) e

        same : (v : World) → journal v i ≡ js → settlement (state n tb v i) (journal v i) i to ≡ reckoning s.me to a m
        same v is = rw (here v is, is, ask, g, ← me) refl

    queried : (q : Option Inquiry) → AllByRecursion Sayable (query s q)
    queried None = tt
    queried (Some q) = ((me, λ v is. subst (λ z. Step n tb v (spoke v z)) (rw (here v is, ← me) refl) (asks v i (first q.order) q.demand)), tt)

    -- at a tick
    reminded : AllByRecursion Sayable (reminders s)
    reminded =
        all_flat Sayable (λ _. Unit {0}) (reminders_to s) (range_with_len 0 (length s.channels))
        (λ j _. all_mapped Sayable (λ k. k < length (channel s j).waiting) (reminder s s.me j) (range_with_len 0 (length (channel s j).waiting))
        (λ k l. (me, λ v is. subst (λ z. Step n tb v (spoke v z)) (rw (here v is, ← me) refl) (reminds v i j k (rw (here v is) l)))) (ranged 0 _ _ (omega arith)))
        (any_all _)

    told_of : AllByRecursion Sayable (tellings tb s)
    told_of =
        all_flat Sayable (λ _. Unit {0}) (tellings_to tb s) (others s.me (length s.channels))
        (λ j _. all_mapped Sayable (λ t. is_open s t ≡ true) (telling tb s s.me j) (open_trains tb s)
        (λ t o. (me, λ v is. subst (λ z. Step n tb v (spoke v z)) (rw (here v is, ← me) refl) (tells v i j t (rw (here v is) o))))
        (each_by (Listed tb s.slots) (λ t. is_open s t ≡ true) (λ t h. h.0) (open_trains tb s) (trains_each tb s)))
        (any_all _)

    ticks : (k : ℕ) → AllByRecursion Sayable (ticked tb s k)
    ticks k = all_append Sayable (reminders s) (cond (eqb k 0) (tellings tb s) []) reminded (cond_both (eqb k 0) (tellings tb s) [] (AllByRecursion Sayable) (λ _. told_of) (λ _. tt))

module _ (n : ℕ) (tb : Table) (s : Site) (reached : Reached n tb s) (i : ℕ) (l : i < n) where
  abbrev w : World
  w = s.world

  reach : Reach n tb w
  reach = (s.synced, reached)

  ok : Intact n tb w
  ok = ok_reach n tb reach

  abbrev now : State
  now = state n tb w i

  -- the world after what was written
  abbrev wrote_world : List Record → World
  wrote_world es = wrote_all n tb i l w es

  -- no answer was said to an ask for which pieces are given now
  unsaid : (x : Input) (to : StationId) (a : Ask) (p : Party) → Gifts now x to a p → (m : ℕ) → Memᴰ (record { from = record { 0 = i }; to = to; body = body.Answered a m }) w.said → ⊥
  unsaid x to a p g m h = go x g (all_mem (Sum n tb w) h (summed n tb reach))
    where
      go : (x : Input) → Gifts now x to a p → (1 ≤ a.0) × (a.0 ≤ (channel now to.0).answered) × (given_for to a (journal w i) ≡ m) → ⊥
      go (Give j d) (_, e) (k, _, _) = omega (arith, k, ap (λ (b : Ask). b.0) e)
      go (Grant j b d) (_, _, u, _) (_, k, _) = omega (arith, k, ltb-true (channel now to.0).answered a.0 u)
      go (Close t) g k = absurd g
      go (Sell d) g k = absurd g
      go (Undo m) g k = absurd g
      go (Take from m p) g k = absurd g
      go (Hear from m) g k = absurd g
      go (input.Ask d) g k = absurd g

  -- records that can be written
  abbrev Writable : List Record → Type 0
  Writable es = AllByRecursion (Backed w.said i) es × (all_fit tb now es ≡ true)

  writable : (x : Input) (o : Answer) → o ≡ decided tb now x → Heeds w.said i x → Writable (records o)
  writable x o d h = (told_all w.said i tb now x o d h (unsaid x), subst (λ z. all_fit tb now (records z) ≡ true) (sym d) (decided_fits tb now x))

  -- they are written
  write : (es : List Record) → Writable es → Moves n tb s (site (wrote_world es) s.synced)
  write es (t, f) = write_all n tb i l es w s.synced ok.count t f

  -- the station falls when only the first of them are on its file
  midst : (es : List Record) → Writable es → (gs hs : List Record) → es ≡ gs ++ hs → Moves n tb s (sync (site (wrote_world gs) s.synced) i)
  midst es (t, f) gs hs e =
      more (write gs (all_front (Backed w.said i) gs hs (subst (AllByRecursion (Backed w.said i)) e t), fit_front tb now gs hs (subst (λ es. all_fit tb now es ≡ true) e f))) (syncs (site (wrote_world gs) s.synced) i)

  -- and when all are, and nothing is said
  writes_only : (es : List Record) → Writable es → Happens n tb s i es (wrote_world es)
  writes_only es may = (more (write es may) (syncs (site (wrote_world es) s.synced) i), midst es may)

  -- ---- what is said, when these records were written

  module _ (es : List Record) where
    abbrev js : List Record
    js = journal w i ++ es

    abbrev then : State
    then = fold (apply tb) now es

    journal_is : journal (wrote_world es) i ≡ js
    journal_is = journal_then n tb i l w ok.count es

    then_is : fold (apply tb) (begun n i) js ≡ then
    then_is = fold-append (apply tb) (begun n i) (journal w i) es

    me_is : Writable es → then.me ≡ i
    me_is may = ap (λ z. z.me) (sym (ap (fold (apply tb) (begun n i)) journal_is ∙ then_is)) ∙ ((ok_reach n tb (s.synced, moves_then reached (write es may))).fine i).me

    abbrev Can : Message → Type 0
    Can = Sayable n tb i js then then_is

    -- all of it can be said
    told_then : Writable es → (ms : List Message) → AllByRecursion Can ms → Happens n tb s i es (record { journals = set w.journals i js; said = w.said ++ ms })
    told_then may ms h =
        let t = site (wrote_world es) s.synced in
        let (a, b) = writes_only es may in
        (moves_then a (says n tb i js then then_is ms (wrote_world es) (sync t i).synced journal_is (on_file n t i (sited (moves_then reached (write es may)))) h), b)

  counted : (k : ℕ) → (channel now k).heard + length (channel now k).waiting ≡ (channel now k).given
  counted k = let z = (ok.fine i).line k in omega (arith, z.heard, z.given, ap length z.waiting, length-drop (channel now k).heard (given_to k (journal w i)))

  -- nothing was given for an ask that is to be answered
  ungiven : (to : StationId) (a : Ask) → (channel now to.0).answered < a.0 → given_for to a (journal w i) ≡ 0
  ungiven to a u = none_later now (journal w i) to a (settled_all n tb reach i) u

  -- ---- what an outcome says

  fits_all : (x : Input) (o : Outcome) → Ok o ≡ decided tb now x → all_fit tb now (entries o) ≡ true
  fits_all x o d = subst (λ z. all_fit tb now (records z) ≡ true) (sym d) (decided_fits tb now x)

  -- pieces that were given
  module _ (x : Input) (j : StationId) (m : Number) (a : Ask) (p : Party) (d : Ok (Gave j m a p) ≡ decided tb now x) (st : Writable (gifts j a m.0 (pieces_of p))) where
    fit : all_fit tb now (gifts j a m.0 (pieces_of p)) ≡ true
    fit = fits_all x (Gave j m a p) d

    gifts_said : AllByRecursion (Can (gifts j a m.0 (pieces_of p))) (notices (fold (apply tb) now (gifts j a m.0 (pieces_of p))).me j m.0 (pieces_of p))
    gifts_said =
        let es = gifts j a m.0 (pieces_of p) in
        let (b, c) = gifts_wait tb j a (pieces_of p) now m.0 fit in
        noticed n tb i (journal w i ++ es) (fold (apply tb) now es) (then_is es) (me_is es st) j (pieces_of p) (channel now j.0).waiting m.0 b
        (omega (arith, ap (λ k. k.0) (gave_is tb now x j m a p (sym d)).next, counted j.0, c))

  -- an ask that is answered with none
  declined_said : (from : StationId) (a : Ask) (e : Record) → Declined from a ≡ e → fits tb now e ≡ true → (st : Writable (e ∷ [])) → Can (e ∷ []) (reckoning (apply tb now e).me from a 0)
  declined_said from a e h f st =
      let (b, u) = fits_declined tb now from a (subst (λ e. fits tb now e ≡ true) (sym h) f) in
      reckons n tb i (journal w i ++ e ∷ []) (apply tb now e) (then_is (e ∷ [])) (me_is (e ∷ []) st) from a 0 (omega (arith, u))
      (subst (λ e. (channel (apply tb now e) from.0).answered ≡ a.0) h (omega (arith, u, ap (λ (c : Chan). c.answered) (get_or-set_same now.channels from.0 (declined (channel now from.0) a.0) fresh b))))
      (subst (λ e. given_for from a (journal w i ++ e ∷ []) ≡ 0) h (omega (arith, given_push from a (journal w i) (Declined from a), ungiven from a u)))

  -- and one for which pieces are given
  granted_said : (from : StationId) (a : Ask) (z : Demand) (j : StationId) (m : Number) (b : Ask) (p : Party) → Ok (Gave j m b p) ≡ decided tb now (Grant from a z) → (st : Writable (gifts j b m.0 (pieces_of p))) →
      Can (gifts j b m.0 (pieces_of p)) (reckoning (fold (apply tb) now (gifts j b m.0 (pieces_of p))).me from a (length (seats_of p)))
  granted_said from a z j m b p d st =
      let es = gifts j b m.0 (pieces_of p) in
      let s = fold (apply tb) now es in
      let (e, f, u, some) = (gave_is tb now (Grant from a z) j m b p (sym d)).whom in
      let l = ltb-true (channel now j.0).answered b.0 u in
      let k = ltb-true 0 (length (seats_of p)) some in
      let long : length (pieces_of p) ≡ length (seats_of p) = length-map (seats_of p) _ in
      let g = ap (λ (c : Ask). c.0) f in
      reckons n tb i (journal w i ++ es) s (then_is es) (me_is es st) from a (length (seats_of p)) (omega (arith, l, g))
      (ap (λ (c : StationId). (channel s c.0).answered) e ∙ gifts_answer tb j b (pieces_of p) now m.0 (fits_all (Grant from a z) (Gave j m b p) d) (omega (arith, l)) (inr (omega (arith, k, long))) ∙ sym g)
      (ap (λ (c : StationId). given_for c a (journal w i ++ es)) e ∙ ap (λ (c : Ask). given_for j c (journal w i ++ es)) f ∙ omega (arith, gifts_counted tb j b (pieces_of p) (journal w i) m.0, ungiven j b l, long))

  outcome_said : (x : Input) (o : Outcome) → Ok o ≡ decided tb now x → (st : Writable (entries o)) → AllByRecursion (Can (entries o)) (replies (fold (apply tb) now (entries o)) x o)
  outcome_said (Take from m p) o d st =
      all_cond (Can (entries o)) (answered o) (receipt (fold (apply tb) now (entries o)) from) (receipts n tb i (journal w i ++ entries o) (fold (apply tb) now (entries o)) (then_is (entries o)) (me_is (entries o) st) from)
  outcome_said (Give to z) (Gave j m a p) d st = gifts_said (Give to z) j m a p d st
  outcome_said (Give to z) (Done e) d st = tt
  outcome_said (Give to z) Nothing d st = tt
  outcome_said (Give to z) (Passed r) d st = tt
  outcome_said (Grant from a z) (Done e) d st =
      (declined_said from a e (told_is tb now (Grant from a z) e (sym d)) (and_parts (fits tb now e) true (fits_all (Grant from a z) (Done e) d)).0 st, tt)
  outcome_said (Grant from a z) (Gave j m b p) d st =
      all_append (Can (gifts j b m.0 (pieces_of p))) _ _ (gifts_said (Grant from a z) j m b p d st) (granted_said from a z j m b p d st, tt)
  outcome_said (Grant from a z) Nothing d st = tt
  outcome_said (Grant from a z) (Passed r) d st = tt
  outcome_said (Close t) o d st = tt
  outcome_said (Sell z) o d st = tt
  outcome_said (Undo m) o d st = tt
  outcome_said (Hear from m) o d st = tt
  outcome_said (input.Ask z) o d st = tt

  -- ---- events

  plain : (x : Input) (o : Outcome) → Ok o ≡ decided tb now x → Heeds w.said i x → Happens n tb s i (entries o) (record { journals = set w.journals i (journal w i ++ entries o); said = w.said ++ replies (fold (apply tb) now (entries o)) x o })
  plain x o d h = let st = writable x (Ok o) d h in told_then (entries o) st _ (outcome_said x o d st)

  -- nothing is written, and this is said
  speaks : (ms : List Message) → AllByRecursion (Can []) ms → Happens n tb s i [] (record { journals = set w.journals i (journal w i ++ []); said = w.said ++ ms })
  speaks ms h = told_then [] (tt, refl) ms h

  silent : Happens n tb s i [] (record { journals = set w.journals i (journal w i ++ []); said = w.said ++ [] })
  silent = speaks [] tt

  now_me : now.me ≡ i
  now_me = me_is [] (tt, refl)

  -- an event may come to r
  abbrev Goes : Mind → Event → Response → Type 0
  Goes m e r = Happens n tb s i (written now r) (called n tb w i m e r)

  asked : (m : Mind) (d : Demand) (e : Record) → Ok (Done e) ≡ decided tb now (input.Ask d) → Goes m (Call (input.Ask d)) (turned now m (input.Ask d) (Ok (Done e)))
  asked m d e g =
      let a = Asked (record { 0 = now.asked + 1 }) in
      let st = subst (λ o. Writable (entries o)) (asks_is tb now d (Done e) (sym g)).0 (writable (input.Ask d) (Ok (Done e)) g tt) in
      told_then (a ∷ []) st _ (queried n tb i (journal w i ++ a ∷ []) (apply tb now a) (then_is (a ∷ [])) (me_is (a ∷ []) st) (after_ask now m (input.Ask d)).inquiry)

  calls : (m : Mind) (x : Input) (o : Answer) → o ≡ decided tb now x → Heeds w.said i x → Goes m (Call x) (turned now m x o)
  calls m (input.Ask d) (Ok (Done e)) g h = asked m d e g
  calls m (input.Ask d) (Ok (Gave j k a p)) g h = plain (input.Ask d) (Gave j k a p) g h
  calls m (input.Ask d) (Ok Nothing) g h = plain (input.Ask d) Nothing g h
  calls m (input.Ask d) (Ok (Passed r)) g h = plain (input.Ask d) (Passed r) g h
  calls m (input.Ask d) (Err r) g h = silent
  calls m (Close t) (Ok o) g h = plain (Close t) o g h
  calls m (Close t) (Err r) g h = silent
  calls m (Sell z) (Ok o) g h = plain (Sell z) o g h
  calls m (Sell z) (Err r) g h = silent
  calls m (Undo k) (Ok o) g h = plain (Undo k) o g h
  calls m (Undo k) (Err r) g h = silent
  calls m (Give to z) (Ok o) g h = plain (Give to z) o g h
  calls m (Give to z) (Err r) g h = silent
  calls m (Take from k p) (Ok o) g h = plain (Take from k p) o g h
  calls m (Take from k p) (Err r) g h = silent
  calls m (Hear from k) (Ok o) g h = plain (Hear from k) o g h
  calls m (Hear from k) (Err r) g h = silent
  calls m (Grant from a z) (Ok o) g h = plain (Grant from a z) o g h
  calls m (Grant from a z) (Err r) g h = silent

  -- whatever was refused
  refuses : (m : Mind) (e : Event) (r : Refusal) → Goes m e (Err r)
  refuses m (Call x) r = silent
  refuses m (Answered from a k) r = silent
  refuses m (Told from t y) r = silent
  refuses m Tick r = silent
  refuses m Garbled r = silent

  happens : (m : Mind) (e : Event) → HeedsAll w.said i e → Goes m e (resolved tb now m e)
  happens m (Call x) h = calls m x (decided tb now x) refl h
  happens m (Answered from a k) h =
      let P = λ (r : Response). Goes m (Answered from a k) r in
      let R = refuses m (Answered from a k) in
      unless_by P R (leb k 8 && (not (under_way now m from a) || leb k (wanted m.inquiry))) Malformed _ (λ _.
      unless_by P R (other now.me now.channels from.0) NoSuchStation _ (λ _.
      cond_by P R (under_way now m from a) (Ok Noted) (Ok (Came Nothing))
      (λ _. speaks (query now (advanced m.inquiry k)) (queried n tb i (journal w i ++ []) now (then_is []) now_me (advanced m.inquiry k)))
      silent))
  happens m (Told from t y) h =
      let P = λ (r : Response). Goes m (Told from t y) r in
      let R = refuses m (Told from t y) in
      unless_by P R (sensible (tb t.0) y) Malformed _ (λ _.
      unless_by P R (other now.me now.channels from.0) NoSuchStation _ (λ _.
      cond_by P R (is_open now t) (Ok Noted) (Ok (Came Nothing)) (λ _. silent) silent))
  happens m Tick h = speaks _ (ticks n tb i (journal w i ++ []) now (then_is []) now_me (minded now m Tick (Ok Ticked)).ticks)
  happens m Garbled h = silent

  -- want of memory included
  pub happens_any : (m : Mind) (e : Event) (r : Response) → HeedsAll w.said i e → (for_memory r ≡ false → r ≡ resolved tb now m e) → Goes m e r
  happens_any m e (Ok r) h d = subst (λ z. Goes m e z) (sym (d refl)) (happens m e h)
  happens_any m e (Err r) h d = refuses m e r

-- ---- opening

pub put_extends : (tb : Table) (r : Row) → admitted (tb r.train.0) r ≡ true → Extends tb (put tb r)
put_extends tb r a k q e = go (cases_eq k r.train.0)
  where
    same : (o : Option Row) → tb r.train.0 ≡ o → admitted o r ≡ true → tb r.train.0 ≡ Some q → Some r ≡ Some q
    same None f g h = cc
    same (Some v) f g h = ap Some (sym (same_row v r g)) ∙ sym f ∙ h

    go : (k ≡ r.train.0) ⊎ (k ≡ r.train.0 → ⊥) → put tb r k ≡ Some q
    go (inl d) = rw (eq-eqb k r.train.0 d) (same (tb r.train.0) refl a (ap tb (sym d) ∙ e))
    go (inr d) = rw (ne_eqb k r.train.0 d) e

module _ (n : ℕ) (tb : Table) (s : Site) (reached : Reached n tb s) (i : ℕ) (r : Row) (l : i < n) where
  -- a row more, and what was reached with the timetable as it was
  pub opening : (o : Answer) → (for_memory o ≡ false → o ≡ decided_open tb (state n tb s.world i) r) → Happens n (listing tb r o) s i (records o) (opened_by s.world i o)
  opening (Ok (Done e)) f =
      let d : decided_open tb (state n tb s.world i) r ≡ Ok (Done e) = sym (f refl) in
      let (g, same) = grows n tb (put tb r) s (put_extends tb r (opens_admitted tb (state n tb s.world i) r e d)) reached in
      writes_only n (put tb r) s g i l (e ∷ [])
      ((subst (Backed s.world.said i) (opens_is tb (state n tb s.world i) r e d) tt, tt), and_from _ _ (subst (λ x. fits (put tb r) x e ≡ true) (same i) (opens_one tb (state n tb s.world i) r e d)) refl)
  opening (Ok (Gave to m a p)) f = absurd (opens_gives tb (state n tb s.world i) r to m a p (sym (f refl)))
  opening o d = writes_only n tb s reached i l [] (tt, refl)

pub runs : Runs
runs = (λ n tb s r i m e l h. happens n tb s r i l m e h, λ n tb s r i q l. opening n tb s r i q l (decided_open tb (state n tb s.world i) q) (λ _. refl))
