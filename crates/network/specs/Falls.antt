-- Stations that fall: how much of each journal is on its file, and what a fall leaves of it.
use Rattle.std.specs.Prelude.{◌≡◌, ℕ, ◌≤◌, List, [], ◌∷◌, ◌++◌, length, replicate, slice_index_or, slice_set, take}
use Rattle.giving.specs.declared.message.Message.{Message}
use Rattle.network.specs.Worlds.{World, journal, with_journal, Step, Carry, beginning}
use Rattle.timetable.specs.Rows.{Table}

-- A world, with each journal as its station has it in memory; and of each journal how many of its records are synced: no fall takes those.
pub record Site : Type 0 where
  pub world : World
  pub synced : List ℕ

abbrev pub site : World → List ℕ → Site
site w ks = record { world = w; synced = ks }

-- how many records of station i are synced
abbrev pub safe : Site → ℕ → ℕ
safe s i = slice_index_or s.synced i 0

-- all that station i has written is synced
abbrev pub OnFile : Site → ℕ → Type 0
OnFile s i = safe s i ≡ length (journal s.world i)

-- station i syncs
abbrev pub sync : Site → (i : ℕ) → Site
sync s i = record { world = s.world; synced = slice_set s.synced i (length (journal s.world i)) }

-- the first k records of station i are left, and they are its file
abbrev pub cut_back : Site → (i k : ℕ) → Site
cut_back s i k = sync (site (with_journal s.world i (take k (journal s.world i))) s.synced) i

-- who says something on the way to v has all that it wrote synced
abbrev pub Covered : Site → World → Type 0
Covered s v = (m : Message) → v.said ≡ s.world.said ++ m ∷ [] → OnFile s m.from.0

-- ---- what may happen

-- A step, where who says something has all that it wrote synced; a sync; or a station falls, and comes up with its file: some first records of its
-- journal, and among them all that were synced.
pub data Move (n : ℕ) (tb : Table) : Site → Site → Type 0 where
  steps : (w v : World) (ks : List ℕ) → Step n tb w v → Covered (site w ks) v → Move n tb (site w ks) (site v ks)
  syncs : (s : Site) (i : ℕ) → Move n tb s (sync s i)
  falls : (s : Site) (i k : ℕ) → safe s i ≤ k → Move n tb s (cut_back s i k)

-- any number of moves
pub data Moves (n : ℕ) (tb : Table) (s : Site) : Site → Type 0 where
  none : Moves n tb s s
  more : {t u : Site} → Moves n tb s t → Move n tb t u → Moves n tb s u

-- what carries pieces from one station to another: they are said, once they are synced, and they are taken
pub data Carries (n : ℕ) (tb : Table) (s : Site) : Site → Type 0 where
  here : Carries n tb s s
  onward : {w v : World} {ks : List ℕ} → Carries n tb s (site w ks) → Carry n tb w v → Covered (site w ks) v → Carries n tb s (site v ks)
  safely : {t : Site} → Carries n tb s t → (i : ℕ) → Carries n tb s (sync t i)

-- ---- what they come to

-- n stations that have done nothing yet
abbrev pub start : ℕ → Site
start n = site (beginning n) (replicate n 0)

abbrev pub Reached : (n : ℕ) → Table → Site → Type 0
Reached n tb s = Moves n tb (start n) s

-- the worlds that n stations can come to, whatever falls
abbrev pub Reach : (n : ℕ) → Table → World → Type 0
Reach n tb w = (ks : List ℕ) × Reached n tb (site w ks)
