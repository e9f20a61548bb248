-- A world in memory after a step of one of its stations, or a first part of one.
-- Assumes nothing.
use Rattle.std.proofs.Common.{◌≡◌, ℕ, zero, suc, ◌<◌, Bool, true, false, is_ok, cond, ◌⊎◌, List, [], ◌∷◌, ◌++◌, map, length, get_or, set, replicate, Some, fold, sym, refl, ap, ◌∙◌, subst, inl, inr, ⊎_elim, arith, length-set, get_or-set_other, get_or-set_same, Ok, Err}
use mathlib.Core.List.{Memᴰ}
use lib.ListN.{length-map}
use lib.Seq.{map-set}
use Rattle.asking.specs.Events.{Response, resolved, event_of}
use Rattle.asking.specs.Replies.{lasting, minded, spoken, written}
use Rattle.asking.specs.Minds.{Mind}
use Rattle.asking.specs.declared.event.Event.{Event}
use Rattle.asking.specs.declared.event.Event.TheVariants.{Call, Answered, Told, Tick, Garbled}
use Rattle.giving.specs.declared.ids.StationId.{StationId}
use Rattle.giving.specs.declared.message.Body.{Body}
use Rattle.giving.specs.declared.message.Body.TheVariants as body
use Rattle.giving.specs.declared.message.Message.{Message}
use Rattle.giving.specs.declared.refusal.Refusal.{Refusal}
use Rattle.giving.specs.declared.refusal.Refusal.TheVariants.{Memory}
use Rattle.ledger.proofs.Decided.{opens_admitted}
use Rattle.ledger.specs.Decisions.{Answer, decided_open, listing, records, for_memory}
use Rattle.ledger.specs.declared.input.Outcome.TheVariants.{Done, Gave, Nothing, Passed}
use Rattle.network.proofs.Bridge.{happens_any, opening, put_extends}
use Rattle.network.proofs.Grow.{grows}
use Rattle.network.proofs.Lists.{set_ind}
use Rattle.network.proofs.Once.{once}
use Rattle.network.proofs.Sites.{moves_then}
use Rattle.network.specs.Falls.{site, sync, Moves, Reached}
use Rattle.network.specs.Places.{holding, count_in, standing, under_way, gather, spots, places}
use Rattle.network.specs.Promises.{Extends}
use Rattle.network.specs.Runs.{HeedsAll, Happens}
use Rattle.network.specs.Worlds.{World, journal, state}
use Rattle.network.specs.declared.place.Place.{Place}
use Rattle.network.specs.declared.place.Place.TheVariants.{Held, Sold, Way}
use Rattle.pieces.specs.declared.names.Train.{Train}
use Rattle.recovery.proofs.Journals.{did_stands, grown}
use Rattle.recovery.specs.Runs.{Did, grew, Typed, TypedRow}
use Rattle.rehearsal.proofs.Alone.{Stands, did_event, did_open, stands}
use Rattle.rehearsal.proofs.Gathered.{gather_cong}
use Rattle.rehearsal.proofs.Posts.{here_is, journals_then}
use Rattle.rehearsal.specs.Lives.{Filed, Lives, shown, journal_of, mind_in, world_of, site_of, nowhere}
use Rattle.rehearsal.specs.declared.post.Post.{Post}
use Rattle.state.specs.Changes.{apply}
use Rattle.state.specs.States.{State, begun, is_open, was_closed}
use Rattle.state.specs.declared.record.Record.{Record}
use Rattle.std.proofs.lemmas.Bool.{cases_eq, cases_lt, false≢true, true≢false}
use Rattle.std.proofs.lemmas.List.{get_or_past}
use Rattle.std.proofs.lemmas.List.Elements.{All-set}
use Rattle.std.proofs.lemmas.List.Sums.{fold-append}
use Rattle.timetable.specs.Rows.{Table, stretches}
use Rattle.timetable.specs.declared.row.Row.{Row}

-- to a world that lives, by moves as long as nothing made up was taken
abbrev pub Goes : Table → List Post → List Message → (made_up : Bool) → List Post → List Message → Type 0
Goes ub ps ms x qs ns = Lives ub qs ns x × (x ≡ false → Moves (length ps) ub (site_of ps ms) (site_of qs ns))

-- who turns an event away says nothing
unspoken : (tb : Table) (s : State) (m : Mind) (x : Event) (q : Refusal) → spoken tb s m x (Err q) ≡ []
unspoken tb s m (Call i) q = refl
unspoken tb s m (Answered from a n) q = refl
unspoken tb s m (Told from t y) q = refl
unspoken tb s m Tick q = refl
unspoken tb s m Garbled q = refl

-- with what is made up, less is promised
pub marked : (tb : Table) (ps : List Post) (ms : List Message) (x y : Bool) → (y ≡ false → x ≡ false) → Lives tb ps ms x → Lives tb ps ms y
marked tb ps ms x y f l = record { reached = λ g. l.reached (f g); faithful = l.faithful; filed = l.filed; did = l.did }

module _ (tb : Table) (ps : List Post) (ms : List Message) (made_up : Bool) (lives : Lives tb ps ms made_up) where
  abbrev n : ℕ
  n = length ps

  abbrev w : World
  w = world_of ps ms

  -- a station as it is read
  pub shown_is : (i : ℕ) (p : Post) → i < n → p ≡ get_or ps i p → shown p ≡ state n tb w i
  shown_is i p b e = sym (here_is ps i p b e) ∙ lives.faithful i b

  -- and by itself
  pub stands_at : (i : ℕ) → i < n → Stands tb (get_or (map shown ps) i nowhere) (journal w i)
  stands_at i b = subst (λ x. Stands tb x (journal w i)) (sym (lives.faithful i b)) (stands tb n i (journal w i) (lives.did i b))

  module _ (i : ℕ) (p q : Post) (b : i < n) (e : p ≡ get_or ps i p) where
    -- the site with these records behind its journal, all of them on its file
    site_then : (ns : List Message) (es : List Record) → journal_of q ≡ journal_of p ++ es →
        sync (site (record { journals = set (map journal_of ps) i (journal w i ++ es); said = ns }) (map length (map journal_of ps))) i ≡ site_of (set ps i q) ns
    site_then ns es j =
        let js = journal w i ++ es in
        let is : set (map journal_of ps) i js ≡ map journal_of (set ps i q) = sym (journals_then ps i p b e (λ _. es) q j) in
        ap (λ (l : List Record). site (record { journals = set (map journal_of ps) i js; said = ns }) (set (map length (map journal_of ps)) i (length l)))
        (get_or-set_same (map journal_of ps) i js [] (omega (arith, length-map ps journal_of)))
        ∙ ap (λ ks. site (record { journals = set (map journal_of ps) i js; said = ns }) ks) (sym (map-set length (map journal_of ps) i js))
        ∙ ap (λ (l : List (List Record)). site (record { journals = l; said = ns }) (map length l)) is

    -- with a timetable that may be larger
    module _ (ub : Table) (ext : Extends tb ub) where
      pub more_rows : (k : ℕ) → k < n → state n tb w k ≡ state n ub w k
      more_rows k l = (grown tb ub ext (begun n k) (journal w k) (did_stands n k (lives.did k l)).1).1

      -- the states follow the journals
      module _ (es : List Record) (j : journal_of q ≡ journal_of p ++ es) (f : Filed q) (v : shown q ≡ fold (apply ub) (shown p) es) where
        faithful_then : (ns : List Message) (k : ℕ) → k < length (set ps i q) → get_or (map shown (set ps i q)) k nowhere ≡ state (length (set ps i q)) ub (world_of (set ps i q) ns) k
        faithful_then ns k l =
            ap (λ xs. get_or xs k nowhere) (map-set shown ps i q) ∙ go k (subst (λ (n : ℕ). k < n) (length-set ps i q) l) (cases_eq k i)
            ∙ ap (λ js. fold (apply ub) (begun n k) (get_or js k [])) (sym (journals_then ps i p b e (λ _. es) q j)) ∙ ap (λ (n : ℕ). state n ub (world_of (set ps i q) ns) k) (sym (length-set ps i q))
          where
            js : List Record
            js = journal w i ++ es

            go : (k : ℕ) → k < n → (k ≡ i) ⊎ (k ≡ i → ⊥) → get_or (set (map shown ps) i (shown q)) k nowhere ≡ fold (apply ub) (begun n k) (get_or (set (map journal_of ps) i (journal w i ++ es)) k [])
            go k l (inl d) =
                ap (λ (m : ℕ). get_or (set (map shown ps) i (shown q)) m nowhere) d ∙ get_or-set_same (map shown ps) i (shown q) nowhere (omega (arith, length-map ps shown))
                ∙ v ∙ ap (λ s. fold (apply ub) s es) (shown_is i p b e ∙ more_rows i b) ∙ sym (fold-append (apply ub) (begun n i) (journal w i) es)
                ∙ ap (fold (apply ub) (begun n i)) (sym (get_or-set_same (map journal_of ps) i js [] (omega (arith, length-map ps journal_of))))
                ∙ ap (λ (m : ℕ). fold (apply ub) (begun n m) (get_or (set (map journal_of ps) i js) m [])) (sym d)
            go k l (inr d) =
                get_or-set_other (map shown ps) i k (shown q) nowhere d ∙ lives.faithful k l ∙ more_rows k l ∙ ap (fold (apply ub) (begun n k)) (sym (get_or-set_other (map journal_of ps) i k js [] d))

        did_then : Did n i ub (journal w i ++ es) → (k : ℕ) → k < length (set ps i q) → Did (length (set ps i q)) k ub (get_or (map journal_of (set ps i q)) k [])
        did_then d k l =
            rw (length-set ps i q, journals_then ps i p b e (λ _. es) q j)
            (set_ind (λ k js. k < n → Did n k ub js) (map journal_of ps) i (journal w i ++ es) [] (omega (arith, length-map ps journal_of)) (λ _. d) (λ k _ l. grew ub ext (lives.did k l)) k
            (omega (arith, l, length-set ps i q)))

        pub goes_then : Did n i ub (journal w i ++ es) → (ns : List Message) → (made_up ≡ false → Moves n ub (site_of ps ms) (site_of (set ps i q) ns)) → Goes ub ps ms made_up (set ps i q) ns
        goes_then d ns m = (
          record {
            reached = λ g. subst (λ (n : ℕ). Reached n ub (site_of (set ps i q) ns)) (sym (length-set ps i q)) (moves_then (grows n tb ub (site_of ps ms) ext (lives.reached g)).0 (m g));
            faithful = faithful_then ns;
            filed = All-set Filed ps i q f lives.filed;
            did = did_then d;
          },
          m,
        )

    -- a step that may happen, and what is left of it in a fall
    module _ (ub : Table) (es : List Record) where
      pub whole_moves : (ns : List Message) → Happens n ub (site_of ps ms) i es (record { journals = set (map journal_of ps) i (journal w i ++ es); said = ns }) → journal_of q ≡ journal_of p ++ es →
          Moves n ub (site_of ps ms) (site_of (set ps i q) ns)
      whole_moves ns h j = subst (Moves n ub (site_of ps ms)) (site_then ns es j) h.0

      pub left_moves : (v : World) (gs hs : List Record) → Happens n ub (site_of ps ms) i es v → es ≡ gs ++ hs → journal_of q ≡ journal_of p ++ gs → Moves n ub (site_of ps ms) (site_of (set ps i q) ms)
      left_moves v gs hs h g j = subst (Moves n ub (site_of ps ms)) (site_then ms gs j) (h.1 gs hs g)

  module _ (i : ℕ) (p : Post) (b : i < n) (e : p ≡ get_or ps i p) where
    -- what a station has written after an event or an opening
    pub event_did : (x : Event) (r : Response) → Typed x → (for_memory r ≡ false → r ≡ resolved tb (shown p) (mind_in p) x) → Did n i tb (journal w i ++ written (shown p) r)
    event_did = did_event n i tb (journal w i) (lives.did i b) (shown p) (shown_is i p b e) (mind_in p)

    pub opening_did : (r : Row) (o : Answer) → TypedRow r → (for_memory o ≡ false → o ≡ decided_open tb (shown p) r) → Did n i (listing tb r o) (journal w i ++ records o)
    opening_did = did_open n i tb (journal w i) (lives.did i b) (shown p) (shown_is i p b e)

    -- nothing
    pub rest_happens : made_up ≡ false → Happens n tb (site_of ps ms) i [] (record { journals = set (map journal_of ps) i (journal w i ++ []); said = ms ++ [] })
    rest_happens g = happens_any n tb (site_of ps ms) (lives.reached g) i b (mind_in p) Tick (Err Memory) tt (λ f. absurd (true≢false f))

    -- an event, which need not have been told where it is turned away
    pub event_happens : made_up ≡ false → (x : Event) (r : Response) → (is_ok r ≡ true → HeedsAll ms i x) → (for_memory r ≡ false → r ≡ resolved tb (shown p) (mind_in p) x) →
        Happens n tb (site_of ps ms) i (written (shown p) r) (record { journals = set (map journal_of ps) i (journal w i ++ written (shown p) r); said = ms ++ spoken tb (lasting tb (shown p) r) (minded (shown p) (mind_in p) x r) x r })
    event_happens g x (Ok o) h a =
        subst (λ s. Happens n tb (site_of ps ms) i (written s (Ok o)) (record { journals = set (map journal_of ps) i (journal w i ++ written s (Ok o)); said = ms ++ spoken tb (lasting tb s (Ok o)) (minded s (mind_in p) x (Ok o)) x (Ok o) }))
        (sym (shown_is i p b e))
        (happens_any n tb (site_of ps ms) (lives.reached g) i b (mind_in p) x (Ok o) (h refl) (λ f. a f ∙ ap (λ s. resolved tb s (mind_in p) x) (shown_is i p b e)))
    event_happens g x (Err q) h a =
        subst (λ zs. Happens n tb (site_of ps ms) i [] (record { journals = set (map journal_of ps) i (journal w i ++ []); said = ms ++ zs })) (sym (unspoken tb (shown p) (minded (shown p) (mind_in p) x (Err q)) x q)) (rest_happens g)

    -- an opening
    pub opening_happens : made_up ≡ false → (r : Row) (o : Answer) → (for_memory o ≡ false → o ≡ decided_open tb (shown p) r) →
        Happens n (listing tb r o) (site_of ps ms) i (records o) (record { journals = set (map journal_of ps) i (journal w i ++ records o); said = ms })
    opening_happens g r o a = opening n tb (site_of ps ms) (lives.reached g) i r b o (λ f. a f ∙ ap (λ s. decided_open tb s r) (shown_is i p b e))

    pub opening_extends : (r : Row) (o : Answer) → (for_memory o ≡ false → o ≡ decided_open tb (shown p) r) → Extends tb (listing tb r o)
    opening_extends r (Ok (Done z)) a = put_extends tb r (opens_admitted tb (shown p) r z (sym (a refl)))
    opening_extends r (Ok (Gave to n y z)) a = λ k q f. f
    opening_extends r (Ok Nothing) a = λ k q f. f
    opening_extends r (Ok (Passed z)) a = λ k q f. f
    opening_extends r (Err z) a = λ k q f. f

-- ---- what was said can be told

mem_slice_index : {A : Type 0} (xs : List A) (i : ℕ) (d : A) → i < length xs → Memᴰ (get_or xs i d) xs
mem_slice_index [] i d l = absurd (omega arith)
mem_slice_index (x ∷ xs) zero d l = Memᴰ.head refl
mem_slice_index (x ∷ xs) (suc i) d l = Memᴰ.tail (mem_slice_index xs i d (omega arith))

heeds_said : (ms : List Message) (i : ℕ) (f t : StationId) (x : Body) → t.0 ≡ i → Memᴰ (record { from = f; to = t; body = x }) ms → HeedsAll ms i (event_of f x)
heeds_said ms i f t (body.Given n p) e m = subst (λ (k : ℕ). Memᴰ (record { from = f; to = record { 0 = k }; body = body.Given n p }) ms) e m
heeds_said ms i f t (body.Taken n) e m = subst (λ (k : ℕ). Memᴰ (record { from = f; to = record { 0 = k }; body = body.Taken n }) ms) e m
heeds_said ms i f t (body.Asked a d) e m = tt
heeds_said ms i f t (body.Answered a n) e m = tt
heeds_said ms i f t (body.Told z y) e m = tt

pub told_from : (ms : List Message) (k : ℕ) (m d : Message) (i : ℕ) (x : Event) → k < length ms → m ≡ get_or ms k d → i ≡ m.to.0 → x ≡ event_of m.from m.body → HeedsAll ms i x
told_from ms k m d i x l e f g = rw g (heeds_said ms i m.from m.to m.body (sym f) (subst (λ y. Memᴰ y ms) (sym e) (mem_slice_index ms k d l)))

-- ---- where a stretch is

places_cong : (n : ℕ) (t : Train) (s u : ℕ) (f g : ℕ → State) → ((k : ℕ) → k < n → f k ≡ g k) → places n t s u f ≡ places n t s u g
places_cong n t s u f g h =
    gather_cong n (spots n t s u f) (spots n t s u g)
    (λ i l. ap (λ z. cond (holding t s u z) (Held (record { 0 = i }) ∷ []) [] ++ (replicate (count_in t s u (standing z.tickets)) (Sold (record { 0 = i })) ++ gather n (λ j. way i j z (f j)))) (h i l)
    ∙ ap (λ ys. cond (holding t s u (g i)) (Held (record { 0 = i }) ∷ []) [] ++ (replicate (count_in t s u (standing (g i).tickets)) (Sold (record { 0 = i })) ++ ys)) (gather_cong n (λ j. way i j (g i) (f j)) (λ j. way i j (g i) (g j)) (λ j m. ap (way i j (g i)) (h j m))))
  where
    way : ℕ → ℕ → State → State → List Place
    way i j x y = replicate (count_in t s u (under_way i j x y)) (Way (record { 0 = i }) (record { 0 = j }))

pub one_place : (tb : Table) (ps : List Post) (ms : List Message) (made_up : Bool) → Lives tb ps ms made_up → made_up ≡ false → (t : Train) (r : Row) → tb t.0 ≡ Some r → is_open (get_or (map shown ps) r.first.0 nowhere) t ≡ true →
    ((k : ℕ) → k < length ps → was_closed (get_or (map shown ps) k nowhere) t ≡ false) → (s u : ℕ) → s < r.seats → u < stretches r → length (places (length ps) t s u (λ k. get_or (map shown ps) k nowhere)) ≡ 1
one_place tb ps ms made_up lives g t r e o c s u ls lu =
    ap length (places_cong (length ps) t s u (λ k. get_or (map shown ps) k nowhere) (state (length ps) tb (world_of ps ms)) lives.faithful)
    ∙ once (length ps) tb (world_of ps ms) (map length (map journal_of ps), lives.reached g) t r e (ap (λ x. is_open x t) (sym (lives.faithful r.first.0 first)) ∙ o) (λ k l. ap (λ x. was_closed x t) (sym (lives.faithful k l)) ∙ c k l) s u ls lu
  where
    first : r.first.0 < length ps
    first = ⊎_elim (λ l. l) (λ l. absurd (false≢true (ap (λ x. is_open x t) (sym (get_or_past (map shown ps) r.first.0 nowhere (omega (arith, length-map ps shown)))) ∙ o))) (cases_lt r.first.0 (length ps))
