-- A world in memory after one of its stations fell in the midst of a step.
-- Assumes nothing.
use Rattle.std.proofs.Common.{◌≡◌, ℕ, ◌+◌, ◌<◌, Bool, false, List, [], ◌∷◌, ◌++◌, map, length, get_or, set, take, vec_items, fold, Ok, Err, Result, sym, refl, ap, ◌∙◌, subst, ap₂, append-nil}
use Rattle.asking.specs.Minds.{Mind, empty}
use Rattle.files.specs.Bytes.{AllSound, journal_bytes}
use Rattle.files.specs.Reading.{records_of}
use Rattle.giving.proofs.Mapped.{map_at}
use Rattle.giving.specs.Channels.{fresh}
use Rattle.giving.specs.declared.message.Message.{Message}
use Rattle.network.proofs.Fine.{me_next}
use Rattle.network.proofs.Moves.{lines_next}
use Rattle.network.specs.Promises.{Extends}
use Rattle.network.specs.Runs.{Happens}
use Rattle.network.specs.Worlds.{World, journal}
use Rattle.recovery.specs.Runs.{Did}
use Rattle.rehearsal.proofs.Alone.{did_left}
use Rattle.rehearsal.proofs.Filed.{filed_then, filed_with, left, left_behind, left_first}
use Rattle.rehearsal.proofs.Living.{Goes, goes_then, left_moves, more_rows, shown_is, whole_moves}
use Rattle.rehearsal.specs.Lives.{Filed, Lives, shown, journal_of, mind_in, world_of, site_of}
use Rattle.rehearsal.specs.Restarts.{CameBack, Restarted}
use Rattle.rehearsal.specs.declared.post.Post.{Post}
use Rattle.state.specs.Changes.{apply}
use Rattle.state.specs.States.{State, begun}
use Rattle.state.specs.declared.record.Record.{Record}
use Rattle.std.proofs.Props.{props}
use Rattle.std.proofs.lemmas.List.{length-replicate}
use Rattle.std.proofs.lemmas.List.Sums.{fold-append}
use Rattle.std.specs.declared.alloc.AllocError.{AllocError}
use Rattle.timetable.specs.Rows.{Table}

-- no record changes who a station is
pub me_stays : (tb : Table) (s : State) (es : List Record) → (fold (apply tb) s es).me ≡ s.me
me_stays tb s [] = refl
me_stays tb s (e ∷ es) = me_stays tb (apply tb s e) es ∙ me_next tb s e

lines_stay : (tb : Table) (s : State) (es : List Record) → length (fold (apply tb) s es).channels ≡ length s.channels
lines_stay tb s [] = refl
lines_stay tb s (e ∷ es) = lines_stay tb (apply tb s e) es ∙ lines_next tb s e

-- a station with these records behind its journal
pub record Remains (ub : Table) (p : Post) (es : List Record) (m : Mind) (q : Post) : Type 0 where
  pub journal : journal_of q ≡ journal_of p ++ es
  pub state : shown q ≡ fold (apply ub) (shown p) es
  pub mind : mind_in q ≡ m

pub remains_prop : (ub : Table) (p : Post) (es : List Record) (m : Mind) (q : Post) → IsProp (Remains ub p es m q)
remains_prop ub p es m q = Prim.hlevel props

module _ (tb : Table) (ps : List Post) (ms : List Message) (made_up : Bool) (lives : Lives tb ps ms made_up) (i : ℕ) (p q : Post) (b : i < length ps) (e : p ≡ get_or ps i p) (ub : Table) (ext : Extends tb ub) (es : List Record) where
  abbrev n : ℕ
  n = length ps

  filed : Filed p
  filed = subst Filed (sym e) (lives.filed i p b)

  -- ---- what is on the file

  module _ (sound : AllSound es) (m : Mind) (k : ℕ) where
    -- the first bytes of it
    abbrev front : List ℕ
    front = take (length (vec_items p.file) + k) (vec_items p.file ++ journal_bytes es)

    front_is : records_of front ≡ journal_of p ++ left k es
    front_is = ap (λ bs. records_of (take (length bs + k) (bs ++ journal_bytes es))) filed.whole ∙ left_behind k (journal_of p) es filed.sound sound

    led_to : shown p ≡ fold (apply ub) (begun n i) (journal_of p)
    led_to = shown_is tb ps ms made_up lives i p b e ∙ more_rows tb ps ms made_up lives i p q b e ub ext i b ∙ ap (fold (apply ub) (begun n i)) (map_at journal_of ps i p [] b e)

    who : (length (shown p).channels ≡ n) × ((shown p).me ≡ i)
    who =
        let is = shown_is tb ps ms made_up lives i p b e in
        let es = journal (world_of ps ms) i in
        (ap (λ s. length s.channels) is ∙ lines_stay tb (begun n i) es ∙ length-replicate n fresh, ap (λ s. s.me) is ∙ me_stays tb (begun n i) es)

    restarted : (s : State) → s ≡ fold (apply ub) (shown p) es → Restarted ub (length s.channels) s.me front q → Remains ub p (left k es) empty q × Filed q
    restarted s is r =
        let (j, f) = filed_with q (records_of front) r.sound r.file in (
          record {
            journal = j ∙ front_is;
            state = r.state ∙ ap₂ (λ (n i : ℕ). fold (apply ub) (begun n i) (records_of front)) (ap (λ s. length s.channels) is ∙ lines_stay ub (shown p) es ∙ who.0) (ap (λ s. s.me) is ∙ me_stays ub (shown p) es ∙ who.1)
                ∙ ap (fold (apply ub) (begun n i)) front_is ∙ fold-append (apply ub) (begun n i) (journal_of p) (left k es) ∙ ap (λ s. fold (apply ub) s (left k es)) (sym led_to);
            mind = r.mind;
          },
          f,
        )

    -- it came up with what is left of its records, or it has them all
    abbrev Rest : Result Unit AllocError → Type 0
    Rest (Ok x) = Remains ub p (left k es) empty q
    Rest (Err x) = Remains ub p es m q

    pub rests : (s : State) → s ≡ fold (apply ub) (shown p) es → (result : Result Unit AllocError) → CameBack ub p es s m k q result → Rest result × Filed q
    rests s is (Ok x) r = restarted s is r
    rests s is (Err x) w = let (j, f) = filed_then p q es sound filed w.file in (record { journal = j; state = w.state ∙ is; mind = w.mind }, f)

  -- ---- the world after the whole step

  module _ (sound : AllSound es) (file : vec_items q.file ≡ vec_items p.file ++ journal_bytes es) where
    pub behind : journal_of q ≡ journal_of p ++ es
    behind = (filed_then p q es sound filed file).0

    pub goes_whole : (ms' ns : List Message) → shown q ≡ fold (apply ub) (shown p) es → Did n i ub (journal (world_of ps ms) i ++ es) →
        (made_up ≡ false → Happens n ub (site_of ps ms) i es (record { journals = set (map journal_of ps) i (journal (world_of ps ms) i ++ es); said = ms' })) → ns ≡ ms' → Goes ub ps ms made_up (set ps i q) ns
    goes_whole ms' ns v d h same =
        let (j, f) = filed_then p q es sound filed file in
        subst (Goes ub ps ms made_up (set ps i q)) (sym same) (goes_then tb ps ms made_up lives i p q b e ub ext es j f v d ms' (λ g. whole_moves tb ps ms made_up lives i p q b e ub es ms' (h g) j))

  -- ---- the world after a fall

  module _ (v : World) (d : Did n i ub (journal (world_of ps ms) i ++ es)) (h : made_up ≡ false → Happens n ub (site_of ps ms) i es v) (ns : List Message) (same : ns ≡ ms) where
    goes : (gs hs : List Record) (m : Mind) → es ≡ gs ++ hs → Remains ub p gs m q → Filed q → Goes ub ps ms made_up (set ps i q) ns
    goes gs hs m split r f =
        subst (Goes ub ps ms made_up (set ps i q)) (sym same)
        (goes_then tb ps ms made_up lives i p q b e ub ext gs r.journal f r.state (did_left (journal (world_of ps ms) i) es gs hs split d) ms (λ g. left_moves tb ps ms made_up lives i p q b e ub es v gs hs (h g) split r.journal))

    pub goes_on : (sound : AllSound es) (m : Mind) (k : ℕ) (result : Result Unit AllocError) → CameBack ub p es (fold (apply ub) (shown p) es) m k q result → Goes ub ps ms made_up (set ps i q) ns
    goes_on sound m k (Ok x) r = let (hs, split) = left_first k es sound in let (z, f) = rests sound m k _ refl (Ok x) r in goes (left k es) hs empty split z f
    goes_on sound m k (Err x) r = let (z, f) = rests sound m k _ refl (Err x) r in goes es [] m (sym (append-nil es)) z f
