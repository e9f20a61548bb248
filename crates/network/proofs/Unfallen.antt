-- What stations that fall can come to, stations that never fell could have come to.
-- Assumes nothing.
use Rattle.std.proofs.Common.{◌≡◌, ℕ, ◌<◌, ◌≤◌, true, List, [], ◌∷◌, ◌++◌, length, set, take, replicate, sym, refl, ap, ◌∙◌, ap₂, subst, ⊎_elim, arith, length-append, length-set, length-take, get_or-set_same, get_or-set_other, take_all, set-set, ext_get_or}
use Rattle.asking.specs.Replies.{request}
use Rattle.asking.specs.Ticks.{reminder, telling}
use Rattle.giving.specs.declared.message.Message.{Message}
use Rattle.network.proofs.Lists.{set_any, set_ind, slice_index_same}
use Rattle.network.proofs.Sites.{Sited, sited, left, sited_left}
use Rattle.network.specs.Falls.{Site, site, safe, OnFile, sync, Covered, Move, steps, syncs, falls, none, more, Reached, Reach}
use Rattle.network.specs.Worlds.{World, journal, with_journal, state, Backed, wrote, spoke, account, settlement, Step, writes, reminds, accounts, asks, answers, tells, beginning}
use Rattle.state.specs.Changes.{fits}
use Rattle.state.specs.declared.record.Record.{Record}
use Rattle.std.proofs.lemmas.Bool.{cases_lt}
use Rattle.std.proofs.lemmas.List.{set-get_or, take-append-le, take-take}
use Rattle.timetable.specs.Rows.{Table}

-- the worlds that steps alone lead to
pub data Unfallen (n : ℕ) (tb : Table) : World → Type 0 where
  untouched : Unfallen n tb (beginning n)
  stepped : {w v : World} → Unfallen n tb w → Step n tb w v → Unfallen n tb v

-- ---- a world with less in its journals

-- m is the first records of l, k of them or more
abbrev Cut : ℕ → (l m : List Record) → Type 0
Cut k l m = (a : ℕ) × (k ≤ a) × (m ≡ take a l)

-- the same was said, and of each journal there are first records, those that are synced among them
record Part (s : Site) (v : World) : Type 0 where
  said : v.said ≡ s.world.said
  count : length v.journals ≡ length s.world.journals
  cut : (i : ℕ) → Cut (safe s i) (journal s.world i) (journal v i)

part_whole : (n : ℕ) (s : Site) → Sited n s → Part s s.world
part_whole n s ok = record { said = refl; count = refl; cut = λ i. (length (journal s.world i), ok.within i, sym (take_all (length (journal s.world i)) (journal s.world i) (omega arith))) }

part_sync : (n : ℕ) (s : Site) (i : ℕ) (v : World) → Sited n s → Part (sync s i) v → Part s v
part_sync n s i v ok p =
    record {
      said = p.said;
      count = p.count;
      cut = λ k. set_any (λ k m. Cut m (journal s.world k) (journal v k) → Cut (safe s k) (journal s.world k) (journal v k)) s.synced i _ 0
          (λ (a, b, e). (a, omega (arith, b, ok.within i), e)) (λ k c. c) k (p.cut k);
    }

cut_twice : (k b : ℕ) (l m : List Record) → k ≤ b → Cut k (take b l) m → Cut k l m
cut_twice k b l m h (a, g, e) =
    ⊎_elim (λ c. (a, g, e ∙ take-take a b l (omega (arith, c)))) (λ c. (b, h, e ∙ take_all a (take b l) (omega (arith, c, length-take b l)))) (cases_lt a b)

part_left : (s : Site) (i k : ℕ) (v : World) → safe s i ≤ k → Part (left s i k) v → Part s v
part_left s i k v h p =
    record {
      said = p.said;
      count = p.count ∙ length-set s.world.journals i _;
      cut = λ j. set_any (λ j js. Cut (safe s j) js (journal v j) → Cut (safe s j) (journal s.world j) (journal v j)) s.world.journals i _ []
          (cut_twice (safe s i) k (journal s.world i) (journal v i) h) (λ k c. c) j (p.cut j);
    }

-- ---- what follows a site with a part that steps alone lead to

module _ (n : ℕ) (tb : Table) where
  abbrev AllParts : Site → Type 0
  AllParts s = (v : World) → Part s v → Unfallen n tb v

  -- a record more: a part has it, or is one of what was before
  module _ (w : World) (ks : List ℕ) (i : ℕ) (e : Record) (l : i < n) (t : Backed w.said i e) (f : fits tb (state n tb w i) e ≡ true) (ok : Sited n (site w ks)) (v : World) (p : Part (site (wrote w i e) ks) v) where
    abbrev js : List Record
    js = journal w i

    abbrev a : ℕ
    a = (p.cut i).0

    is : journal v i ≡ take a (js ++ e ∷ [])
    is = (p.cut i).2 ∙ ap (take a) (get_or-set_same w.journals i (js ++ e ∷ []) [] (omega (arith, l, ok.count)))

    count : length v.journals ≡ length w.journals
    count = p.count ∙ length-set w.journals i _

    without : a ≤ length js → Part (site w ks) v
    without h =
        record {
          said = p.said;
          count = count;
          cut = λ k. set_any (λ k l. Cut (safe (site w ks) k) l (journal v k) → Cut (safe (site w ks) k) (journal w k) (journal v k)) w.journals i (js ++ e ∷ []) []
              (λ _. (a, (p.cut i).1, is ∙ take-append-le a js (e ∷ []) h)) (λ k c. c) k (p.cut k);
        }

    -- v without it
    abbrev less : World
    less = with_journal v i js

    there : i < length v.journals
    there = omega (arith, l, ok.count, count)

    part_less : Part (site w ks) less
    part_less =
        record {
          said = p.said;
          count = length-set v.journals i js ∙ count;
          cut = set_ind (λ k m. Cut (safe (site w ks) k) (journal w k) m) v.journals i js [] there (length js, ok.within i, sym (take_all (length js) js (omega arith)))
              (λ k d. subst (λ l. Cut (safe (site w ks) k) l (journal v k)) (get_or-set_other w.journals i k (js ++ e ∷ []) [] d) (p.cut k));
        }

    here : journal less i ≡ js
    here = get_or-set_same v.journals i js [] there

    with_it : length js < a → wrote less i e ≡ v
    with_it h =
        ap (λ (ls : List (List Record)). record { journals = ls; said = v.said })
        (set-set v.journals i js (journal less i ++ e ∷ [])
        ∙ ap (set v.journals i) (ap (λ l. l ++ e ∷ []) here ∙ sym (is ∙ take_all a (js ++ e ∷ []) (omega (arith, h, length-append js (e ∷ [])))))
        ∙ set-get_or v.journals i [])

    part_wrote : AllParts (site w ks) → Unfallen n tb v
    part_wrote before =
        ⊎_elim (λ h. subst (Unfallen n tb) (with_it h) (stepped (before less part_less) (writes less i e l (rw p.said t) (rw here f)))) (λ h. before v (without h)) (cases_lt (length js) a)

  -- a message more: a part has all that its station wrote
  part_spoke : (w : World) (ks : List ℕ) (i : ℕ) (m : Message) → OnFile (site w ks) i → ((x : World) → journal x i ≡ journal w i → Step n tb x (spoke x m)) → AllParts (site w ks) → AllParts (site (spoke w m) ks)
  part_spoke w ks i m f step before v p =
      let (a, b, e) = p.cut i in
      let x : World = record { journals = v.journals; said = w.said } in
      subst (λ ms. Unfallen n tb (record { journals = v.journals; said = ms })) (sym p.said)
      (stepped (before x (record { said = refl; count = p.count; cut = p.cut })) (step x (e ∙ take_all a (journal w i) (omega (arith, b, f)))))

  part_step : {w v : World} → Step n tb w v → (ks : List ℕ) → Covered (site w ks) v → Sited n (site w ks) → AllParts (site w ks) → AllParts (site v ks)
  part_step (writes w i e l t f) ks c ok before v p = part_wrote w ks i e l t f ok v p before
  part_step (reminds w i j k l) ks c ok before v p = part_spoke w ks i (reminder (state n tb w i) i j k) (c _ refl) (λ x is. rw (← is) (reminds x i j k (rw is l))) before v p
  part_step (accounts w i j) ks c ok before v p = part_spoke w ks i (account (state n tb w i) i j) (c _ refl) (λ x is. rw (← is) (accounts x i j)) before v p
  part_step (asks w i j d) ks c ok before v p = part_spoke w ks i (request (state n tb w i) i j d) (c _ refl) (λ x is. rw (← is) (asks x i j d)) before v p
  part_step (answers w i j l) ks c ok before v p = part_spoke w ks i (settlement (state n tb w i) (journal w i) i j) (c _ refl) (λ x is. rw (← is) (answers x i j (rw is l))) before v p
  part_step (tells w i j t o) ks c ok before v p = part_spoke w ks i (telling tb (state n tb w i) i j t) (c _ refl) (λ x is. rw (← is) (tells x i j t (rw is o))) before v p

  part_move : {s t : Site} → Move n tb s t → Sited n s → AllParts s → AllParts t
  part_move (steps w u ks a c) ok before v p = part_step a ks c ok before v p
  part_move (syncs s i) ok before v p = before v (part_sync n s i v ok p)
  part_move (falls s i k h) ok before v p = before v (part_left s i k v h (part_sync n (left s i k) i v (sited_left n s i k h ok) p))

  parts : {s : Site} → Reached n tb s → AllParts s
  parts none v p =
      subst (Unfallen n tb)
      (ap₂ (λ js ms. record { journals = js; said = ms })
      (ext_get_or [] (replicate n []) v.journals (sym p.count) (λ i _. let (a, _, e) = p.cut i in slice_index_same [] n i ∙ sym (e ∙ ap (take a) (slice_index_same [] n i) ∙ take_all a [] (omega arith))))
      (sym p.said))
      untouched
  parts (more r m) v p = part_move m (sited r) (parts r) v p

  pub unfallen : {w : World} → Reach n tb w → Unfallen n tb w
  unfallen {w} (ks, r) = parts r w (part_whole n (site w ks) (sited r))
