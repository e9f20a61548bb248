-- What every move keeps of the records that are synced.
-- Assumes nothing.
use Rattle.std.proofs.Common.{◌≡◌, ℕ, ◌≤◌, [], ◌∷◌, ◌++◌, length, set, take, drop, sym, refl, ap, ◌∙◌, subst, arith, ⊎_elim, length-append, length-set, length-take, get_or-set_same, take-append-drop}
use Rattle.giving.specs.declared.message.Message.{Message}
use Rattle.network.proofs.Lists.{Begins, begins_push, begins_refl, set_any, slice_index_same}
use Rattle.network.specs.Falls.{Site, site, safe, OnFile, sync, cut_back, Covered, Move, steps, syncs, falls, Moves, none, more, start, Reached}
use Rattle.network.specs.Promises.{Remembers}
use Rattle.network.specs.Worlds.{World, journal, with_journal, spoke, Step, writes, reminds, accounts, asks, answers, tells}
use Rattle.std.proofs.lemmas.Bool.{cases_lt}
use Rattle.std.proofs.lemmas.List.{get_or_past, length-replicate, same_from_push, take-append-le, take-take}
use Rattle.timetable.specs.Rows.{Table}

pub moves_then : {n : ℕ} {tb : Table} {s t u : Site} → Moves n tb s t → Moves n tb t u → Moves n tb s u
moves_then a none = a
moves_then a (more b m) = more (moves_then a b) m

-- nothing is said, or this is, by one that synced
pub silent_covered : (s : Site) (v : World) → v.said ≡ s.world.said → Covered s v
silent_covered s v e m f = absurd (omega (arith, ap length e, ap length f, length-append s.world.said (m ∷ [])))

pub told_covered : (s : Site) (m : Message) → OnFile s m.from.0 → Covered s (spoke s.world m)
told_covered s m o k e = subst (λ (k : Message). OnFile s k.from.0) (same_from_push s.world.said s.world.said m k e).1 o

-- ---- where all of a journal stays

-- a step adds to journals
pub record Longer (w v : World) : Type 0 where
  pub count : length v.journals ≡ length w.journals
  pub begins : (i : ℕ) → Begins (journal w i) (journal v i)

longer_said : (w : World) (m : Message) → Longer w (spoke w m)
longer_said w m = record { count = refl; begins = λ i. begins_refl (journal w i) }

longer : {n : ℕ} {tb : Table} {w v : World} → Step n tb w v → Longer w v
longer (writes w i e l t f) =
    record {
      count = length-set w.journals i (journal w i ++ e ∷ []);
      begins = set_any (λ k js. Begins (journal w k) js) w.journals i (journal w i ++ e ∷ []) [] (begins_push (journal w i) (e ∷ [])) (λ k. begins_refl (journal w k));
    }
longer (reminds w i j k l) = longer_said w _
longer (accounts w i j) = longer_said w _
longer (asks w i j d) = longer_said w _
longer (answers w i j l) = longer_said w _
longer (tells w i j t o) = longer_said w _

-- ---- no more is synced than there is

pub record Sited (n : ℕ) (s : Site) : Type 0 where
  pub files : length s.synced ≡ n
  pub count : length s.world.journals ≡ n
  pub within : (i : ℕ) → safe s i ≤ length (journal s.world i)

sited_sync : (n : ℕ) (s : Site) (i : ℕ) → Sited n s → Sited n (sync s i)
sited_sync n s i ok =
    record {
      files = length-set s.synced i _ ∙ ok.files;
      count = ok.count;
      within = set_any (λ k m. m ≤ length (journal s.world k)) s.synced i _ 0 (omega arith) ok.within;
    }

-- the first k records of a journal, those that are synced among them, and not yet said to be the file
abbrev pub left : Site → (i k : ℕ) → Site
left s i k = site (with_journal s.world i (take k (journal s.world i))) s.synced

pub sited_left : (n : ℕ) (s : Site) (i k : ℕ) → safe s i ≤ k → Sited n s → Sited n (left s i k)
sited_left n s i k h ok =
    record {
      files = ok.files;
      count = length-set s.world.journals i _ ∙ ok.count;
      within = set_any (λ k js. safe s k ≤ length js) s.world.journals i _ [] (omega (arith, h, ok.within i, length-take k (journal s.world i))) ok.within;
    }

sited_move : {n : ℕ} {tb : Table} {s t : Site} → Move n tb s t → Sited n s → Sited n t
sited_move (steps w v ks a c) ok = let l = longer a in record { files = ok.files; count = l.count ∙ ok.count; within = λ i. omega (arith, ok.within i, ap length (l.begins i).is, length-append (journal w i) (l.begins i).rest) }
sited_move (syncs s i) ok = sited_sync _ s i ok
sited_move (falls s i k h) ok = sited_sync _ (left s i k) i (sited_left _ s i k h ok)

sited_start : (n : ℕ) → Sited n (start n)
sited_start n = record { files = length-replicate n 0; count = length-replicate n []; within = λ i. rw (slice_index_same {A = ℕ} 0 n i) (omega arith) }

pub sited : {n : ℕ} {tb : Table} {s : Site} → Reached n tb s → Sited n s
sited {n} none = sited_start n
sited (more r m) = sited_move m (sited r)

-- who synced has all on file
pub on_file : (n : ℕ) (s : Site) (i : ℕ) → Sited n s → OnFile (sync s i) i
on_file n s i ok =
    ⊎_elim (λ l. get_or-set_same s.synced i _ 0 l)
    (λ l. get_or_past (set s.synced i _) i 0 (omega (arith, length-set s.synced i (length (journal s.world i)))) ∙ ap length (sym (get_or_past s.world.journals i [] (omega (arith, ok.files, ok.count)))))
    (cases_lt i (length s.synced))

-- ---- what is synced stays

-- no less is synced, and of what was synced all is there
record Safe (s t : Site) (i : ℕ) : Type 0 where
  floor : safe s i ≤ safe t i
  front : (a : ℕ) → a ≤ safe s i → take a (journal t.world i) ≡ take a (journal s.world i)

safe_then : (s t u : Site) (i : ℕ) → Safe s t i → Safe t u i → Safe s u i
safe_then s t u i f g = record { floor = omega (arith, f.floor, g.floor); front = λ a h. g.front a (omega (arith, f.floor, h)) ∙ f.front a h }

safe_sync : (n : ℕ) (s : Site) (j i : ℕ) → Sited n s → Safe s (sync s j) i
safe_sync n s j i ok = record { floor = set_any (λ k m. safe s k ≤ m) s.synced j _ 0 (ok.within j) (λ k. omega arith) i; front = λ a h. refl }

safe_left : (s : Site) (j k i : ℕ) → safe s j ≤ k → Safe s (left s j k) i
safe_left s j k i h =
    record {
      floor = omega arith;
      front = λ a. set_any (λ i js. a ≤ safe s i → take a js ≡ take a (journal s.world i)) s.world.journals j _ [] (λ g. take-take a k (journal s.world j) (omega (arith, g, h))) (λ i _. refl) i;
    }

safe_move : {n : ℕ} {tb : Table} {s t : Site} → Move n tb s t → (i : ℕ) → Sited n s → Safe s t i
safe_move (steps w v ks a c) i ok =
    let b = (longer a).begins i in
    record { floor = omega arith; front = λ a h. ap (take a) b.is ∙ take-append-le a (journal w i) b.rest (omega (arith, h, ok.within i)) }
safe_move (syncs s j) i ok = safe_sync _ s j i ok
safe_move (falls s j k h) i ok = safe_then s (left s j k) (cut_back s j k) i (safe_left s j k i h) (safe_sync _ (left s j k) j i (sited_left _ s j k h ok))

safe_moves : {n : ℕ} {tb : Table} (s : Site) {t : Site} → Reached n tb s → Moves n tb s t → (i : ℕ) → Safe s t i
safe_moves s r none i = record { floor = omega arith; front = λ a h. refl }
safe_moves s {t} r (more {t = v} a m) i = safe_then s v t i (safe_moves s r a i) (safe_move m i (sited (moves_then r a)))

pub remembers : Remembers
remembers n tb s t r m i = (drop (safe s i) (journal t.world i), sym (take-append-drop (safe s i) (journal t.world i)) ∙ ap (λ l. l ++ drop (safe s i) (journal t.world i)) ((safe_moves s r m i).front (safe s i) (omega arith)))
