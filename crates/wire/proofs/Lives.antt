-- What stations with wires between them can come to, the moves of stations lead to.
-- Assumes nothing.
use Rattle.std.proofs.Common.{◌≡◌, ℕ, zero, suc, ◌<◌, ◌≤◌, Bool, cond, List, [], ◌∷◌, ◌++◌, map, length, set, replicate, sym, refl, ap, ◌∙◌, subst, append_assoc, append-nil, arith, length-set, get_or-set_same}
use mathlib.Core.List.{Memᴰ}
use Rattle.asking.specs.Events.{event_of}
use Rattle.asking.specs.Minds.{Mind}
use Rattle.asking.specs.declared.event.Event.{Event}
use Rattle.asking.specs.declared.event.Event.TheVariants.{Call}
use Rattle.giving.specs.Others.{other_of}
use Rattle.giving.specs.declared.ids.StationId.{StationId}
use Rattle.giving.specs.declared.message.Body.{Body}
use Rattle.giving.specs.declared.message.Body.TheVariants as body
use Rattle.giving.specs.declared.message.Message.{Message}
use Rattle.ledger.specs.Decisions.{decided_open, listing, records}
use Rattle.ledger.specs.declared.input.Input.TheVariants.{Take, Hear}
use Rattle.lines.specs.Reading.{message}
use Rattle.network.proofs.Bridge.{all_append, runs}
use Rattle.network.proofs.Grow.{grows}
use Rattle.network.proofs.Lists.{set_ind, slice_index_same}
use Rattle.network.proofs.Promised.{everywhere}
use Rattle.network.proofs.Sites.{moves_then}
use Rattle.network.specs.Falls.{Site, site, sync, Moves, none, Reached}
use Rattle.network.specs.Promises.{Extends}
use Rattle.network.specs.Runs.{HeedsAll, Happens}
use Rattle.network.specs.Worlds.{World}
use Rattle.receiving.specs.Incoming.{event_read, incoming}
use Rattle.recovery.proofs.Alone.{typed_body}
use Rattle.recovery.proofs.Journals.{listing_extends}
use Rattle.recovery.specs.Runs.{Did, Typed, TypedRow, nothing, handled, opened, fell, grew}
use Rattle.state.specs.declared.record.Record.{Record}
use Rattle.std.proofs.lemmas.Bool.{lt-ltb}
use Rattle.std.proofs.lemmas.List.{length-replicate, map-set}
use Rattle.std.specs.List.{AllByRecursion}
use Rattle.timetable.specs.Rows.{Table}
use Rattle.timetable.specs.declared.row.Row.{Row}
use Rattle.wire.proofs.Packets.{Genuine, genuine_all, genuine_one, reads, said_more, said_one}
use Rattle.wire.proofs.Said.{Fine, says_sound}
use Rattle.wire.specs.Laws.{IsReached, OverBytes, SaidIsRead}
use Rattle.wire.specs.Minds.{TypedMind}
use Rattle.wire.specs.Nets.{Act, Lived, Net, Own, Packet, handles, receives, opens, begins, does, falls, grows as widens, journal_in, packet, quiet, said_in, sent_in, site_of, spoken_of, state_in, world_of, wrote_in, written_of}

-- ---- what is kept

pub record Stands (n : ℕ) (tb : Table) (net : Net) : Type 0 where
  pub count : length net.journals ≡ n
  pub genuine : AllByRecursion (Genuine n) net.sent
  pub did : (k : ℕ) → k < n → Did n k tb (journal_in net k)
  pub reached : Reached n tb (site_of net)

none_synced : (n : ℕ) → map (λ (es : List Record). length es) (replicate n []) ≡ replicate n 0
none_synced zero = refl
none_synced (suc n) = ap (λ ks. 0 ∷ ks) (none_synced n)

stands_first : (n : ℕ) (tb : Table) → Stands n tb (quiet n)
stands_first n tb =
    record {
      count = length-replicate n [];
      genuine = tt;
      did = λ k _. rw (slice_index_same {A = List Record} [] n k) (nothing tb);
      reached = subst (λ ks. Reached n tb (site (world_of (quiet n)) ks)) (sym (none_synced n)) none;
    }

-- a station has synced all that it wrote
synced_all : (js : List (List Record)) (ms : List Message) (i : ℕ) (es : List Record) → i < length js →
    sync (site (record { journals = set js i es; said = ms }) (map length js)) i ≡ site (record { journals = set js i es; said = ms }) (map length (set js i es))
synced_all js ms i es l =
    ap (site (record { journals = set js i es; said = ms })) (ap (set (map length js) i) (ap length (get_or-set_same js i es [] l)) ∙ sym (map-set length js i es))

-- ---- what comes from another station

heeds_body : (ms : List Message) (from to : StationId) (b : Body) → Memᴰ (record { from = from; to = to; body = b }) ms → HeedsAll ms to.0 (event_of from b)
heeds_body ms from to (body.Given n p) h = h
heeds_body ms from to (body.Taken n) h = h
heeds_body ms from to (body.Asked a d) h = tt
heeds_body ms from to (body.Answered a m) h = tt
heeds_body ms from to (body.Told t y) h = tt

heeds_own : (ms : List Message) (i : ℕ) (e : Event) → Own e → HeedsAll ms i e
heeds_own ms i (Call (Take from m p)) h = absurd h
heeds_own ms i (Call (Hear from m)) h = absurd h
heeds_own ms i e h = tt

-- ---- an act

module _ (n : ℕ) (small : n ≤ 256) (tb : Table) (net : Net) (ok : Stands n tb net) (i : ℕ) (l : i < n) where
  there : i < length net.journals
  there = omega (arith, l, ok.count)

  -- with these records more
  abbrev js : List Record → List (List Record)
  js es = set net.journals i (journal_in net i ++ es)

  abbrev world_after : List Record → List Message → World
  world_after es ms = record { journals = js es; said = said_in net.sent ++ ms }

  -- what an act comes to
  record Done (es : List Record) (ms : List Message) (ub : Table) : Type 0 where
    grown : Extends tb ub
    did : Did n i ub (journal_in net i ++ es)
    fine : AllByRecursion (Fine i) ms
    happens : Happens n ub (site_of net) i es (world_after es ms)

  handled_done : (m : Mind) (e : Event) → TypedMind m → Typed e → HeedsAll (said_in net.sent) i e → Done (written_of tb (state_in n tb net i) m e) (spoken_of tb (state_in n tb net i) m e) tb
  handled_done m e t y h =
      let d = ok.did i l in
      record {
        grown = λ k r e. e;
        did = handled d m e y;
        fine = says_sound n i tb (journal_in net i) d m t e y _ (λ _. refl);
        happens = runs.0 n tb (site_of net) ok.reached i m e l h;
      }

  opened_done : (r : Row) → TypedRow r → Done (records (decided_open tb (state_in n tb net i) r)) [] (listing tb r (decided_open tb (state_in n tb net i) r))
  opened_done r t =
      let s = state_in n tb net i in
      let o = decided_open tb s r in
      record {
        grown = listing_extends tb s r o refl;
        did = opened (ok.did i l) r t;
        fine = tt;
        happens = subst (λ ms. Happens n (listing tb r o) (site_of net) i (records o) (record { journals = js (records o); said = ms })) (sym (append-nil (said_in net.sent))) (runs.1 n tb (site_of net) ok.reached i r l);
      }

  -- what came was said to it
  received : (p : Packet) → Memᴰ p net.sent → p.to.0 ≡ i → (e : Event) × (incoming i p.from.0 p.bytes ≡ e) × Typed e × HeedsAll (said_in net.sent) i e
  received p h to =
      let g = genuine_one h ok.genuine in
      let x = g.said in
      let from : p.from ≡ x.from = ap (λ (p : Packet). p.from) g.is in
      let low : p.from.0 < 256 = omega (arith, ap (λ (k : StationId). k.0) from, g.from, small) in
      let sender : other_of (record { 0 = i }) p.from.0 ≡ x.from = ap (λ (b : Bool). cond b p.from (record { 0 = i })) (lt-ltb p.from.0 256 low) ∙ from in
      let mine : x.to.0 ≡ i = ap (λ (p : Packet). p.to.0) (sym g.is) ∙ to in (
        event_of x.from x.body,
        ap (λ k. event_read k (message p.bytes)) sender ∙ ap (event_read x.from) (reads n p g),
        typed_body x.from x.body (omega (arith, g.from, small)) g.sound,
        subst (λ k. HeedsAll (said_in net.sent) k (event_of x.from x.body)) mine (heeds_body (said_in net.sent) x.from x.to x.body (said_one n h g)),
      )

  act_done : {es : List Record} {ms : List Message} {ub : Table} → Act n tb net i es ms ub → Done es ms ub
  act_done (handles m t e y o) = handled_done m e t y (heeds_own (said_in net.sent) i e o)
  act_done (receives m t p h to) =
      let (e, is, y, g) = received p h to in
      subst (λ e. Done (written_of tb (state_in n tb net i) m e) (spoken_of tb (state_in n tb net i) m e) tb) (sym is) (handled_done m e t y g)
  act_done (opens r t) = opened_done r t

  module _ (es fs : List Record) (ms : List Message) (ub : Table) (d : Done (es ++ fs) ms ub) where
    wrote_did : (k : ℕ) → k < n → Did n k ub (journal_in (wrote_in net i es) k)
    wrote_did =
        set_ind (λ k js. k < n → Did n k ub js) net.journals i (journal_in net i ++ es) [] there
        (λ _. fell (journal_in net i ++ es) fs (subst (Did n i ub) (sym (append_assoc (journal_in net i) es fs)) d.did))
        (λ k _ b. grew ub d.grown (ok.did k b))

    moves_more : (v : Site) → Moves n ub (site_of net) v → Reached n ub v
    moves_more v m = moves_then (grows n tb ub (site_of net) d.grown ok.reached).0 m

    fallen : Stands n ub (wrote_in net i es)
    fallen =
        record {
          count = length-set net.journals i _ ∙ ok.count;
          genuine = ok.genuine;
          did = wrote_did;
          reached = subst (Reached n ub) (synced_all net.journals (said_in net.sent) i (journal_in net i ++ es) there) (moves_more _ (d.happens.1 es fs refl));
        }

  whole : (es : List Record) (ms : List Message) (ub : Table) → Done es ms ub → Stands n ub (sent_in (wrote_in net i es) ms)
  whole es ms ub d =
      record {
        count = length-set net.journals i _ ∙ ok.count;
        genuine = all_append (Genuine n) net.sent (map packet ms) ok.genuine (genuine_all n i l ms d.fine);
        did = λ k b. wrote_did es [] ms ub e k b;
        reached =
            subst (λ ys. Reached n ub (site (record { journals = js es; said = ys }) (map length (js es)))) (sym (said_more i net.sent ms d.fine))
            (subst (Reached n ub) (synced_all net.journals (said_in net.sent ++ ms) i (journal_in net i ++ es) there) (moves_more es [] ms ub e _ d.happens.0));
      }
    where
      e : Done (es ++ []) ms ub
      e = subst (λ es. Done es ms ub) (sym (append-nil es)) d

-- ---- all

pub stands : (n : ℕ) → n ≤ 256 → {tb : Table} {net : Net} → Lived n tb net → Stands n tb net
stands n s (begins tb) = stands_first n tb
stands n s (does {tb} {ub} {net} {es} {ms} v i l d) = let ok = stands n s v in whole n s tb net ok i l es ms ub (act_done n s tb net ok i l d)
stands n s (falls {tb} {ub} {net} {ms} v i l es fs d) = let ok = stands n s v in fallen n s tb net ok i l es fs ms ub (act_done n s tb net ok i l d)
stands n s (widens {tb} {net} ub ext v) =
    let ok = stands n s v in
    record { count = ok.count; genuine = ok.genuine; did = λ k l. grew ub ext (ok.did k l); reached = (grows n tb ub (site_of net) ext ok.reached).0 }

pub said_is_read : SaidIsRead
said_is_read n tb net s v p h =
    let g = genuine_one h (stands n s v).genuine in
    (g.said, g.is, reads n p g, said_one n h g)

pub is_reached : IsReached
is_reached n tb net s v = (stands n s v).reached

pub over_bytes : OverBytes
over_bytes n tb net s v = let ok = stands n s v in (everywhere n tb (site_of net) ok.reached, ok.did)
