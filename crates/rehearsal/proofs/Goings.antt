-- What becomes of a world in memory in an event or an opening at one of its stations, or in the midst of it.
-- Assumes nothing.
use Rattle.std.proofs.Common.{◌≡◌, ℕ, ◌<◌, ◌++◌, List, map, length, get_or, set, vec_items, Bool, true, false, is_ok, Result, Vec, [], take, ap₂, ◌∙◌, sym, refl, subst, append-nil, arith}
use Rattle.asking.specs.Events.{Response, resolved}
use Rattle.asking.specs.Replies.{lasting, minded, spoken, written}
use Rattle.asking.specs.declared.event.Event.{Event}
use Rattle.files.specs.Bytes.{AllSound, journal_bytes}
use Rattle.giving.specs.declared.message.Message.{Message}
use Rattle.ledger.specs.Decisions.{Answer, after, decided_open, listing, records, for_memory}
use Rattle.network.specs.Runs.{HeedsAll}
use Rattle.network.specs.Worlds.{journal}
use Rattle.recovery.specs.Runs.{Did, Typed, TypedRow}
use Rattle.rehearsal.proofs.Fallen.{goes_on, goes_whole}
use Rattle.rehearsal.proofs.Living.{Goes, event_did, event_happens, opening_did, opening_happens, opening_extends, rest_happens}
use Rattle.rehearsal.proofs.Restarting.{came_back}
use Rattle.rehearsal.specs.Lives.{Lives, shown, journal_of, mind_in, world_of}
use Rattle.rehearsal.specs.Restarts.{FellIn, FellOpening, Restarted, Unchanged}
use Rattle.rehearsal.specs.declared.post.Post.{Post}
use Rattle.std.specs.Prelude.{MatchResult}
use Rattle.std.specs.declared.alloc.AllocError.{AllocError}
use Rattle.std.specs.declared.alloc.Global.{Global}
use Rattle.timetable.specs.Rows.{Table}
use Rattle.timetable.specs.declared.row.Row.{Row}

module _ (tb : Table) (ps : List Post) (ms : List Message) (made_up : Bool) (lives : Lives tb ps ms made_up) (i : ℕ) (p q : Post) (b : i < length ps) (e : p ≡ get_or ps i p) where
  module _ (x : Event) (typed : Typed x) where
    pub event_goes : (r : Response) (ns : List Message) → (made_up ≡ false → is_ok r ≡ true → HeedsAll ms i x) →
        AllSound (written (shown p) r) → vec_items q.file ≡ vec_items p.file ++ journal_bytes (written (shown p) r) → shown q ≡ lasting tb (shown p) r → mind_in q ≡ minded (shown p) (mind_in p) x r →
        ns ≡ ms ++ spoken tb (shown q) (mind_in q) x r → (for_memory r ≡ false → r ≡ resolved tb (shown p) (mind_in p) x) → Goes tb ps ms made_up (set ps i q) ns
    event_goes r ns told sound file v m n a =
        goes_whole tb ps ms made_up lives i p q b e tb (λ k y f. f) (written (shown p) r) sound file _ ns v
        (event_did tb ps ms made_up lives i p b e x r typed a) (λ g. event_happens tb ps ms made_up lives i p b e g x r (told g) a) (n ∙ ap₂ (λ s d. ms ++ spoken tb s d x r) v m)

    pub event_left : (out : Vec Message Global) (k : ℕ) (result : Result Unit AllocError) (ns : List Message) → (made_up ≡ false → HeedsAll ms i x) → ns ≡ ms → FellIn tb out p x k q result → Goes tb ps ms made_up (set ps i q) ns
    event_left out k result ns told same f =
        goes_on tb ps ms made_up lives i p q b e tb (λ k y f. f) (written (shown p) f.response) _
        (event_did tb ps ms made_up lives i p b e x f.response typed f.answer) (λ g. event_happens tb ps ms made_up lives i p b e g x f.response (λ _. told g) f.answer) ns same f.sound _ k result f.fell

  module _ (r : Row) (typed : TypedRow r) (ub : Table) where
    pub opening_goes : (o : Answer) → ub ≡ listing tb r o → AllSound (records o) → vec_items q.file ≡ vec_items p.file ++ journal_bytes (records o) → shown q ≡ after ub (shown p) o → (for_memory o ≡ false → o ≡ decided_open tb (shown p) r) → Goes ub ps ms made_up (set ps i q) ms
    opening_goes o listed sound file v a =
        goes_whole tb ps ms made_up lives i p q b e ub (rw listed (opening_extends tb ps ms made_up lives i p b e r o a)) (records o) sound file _ ms v (rw listed (opening_did tb ps ms made_up lives i p b e r o typed a))
        (λ g. rw listed (opening_happens tb ps ms made_up lives i p b e g r o a)) refl

    pub opening_left : (k : ℕ) (result : Result Unit AllocError) → FellOpening tb p r k ub q result → Goes ub ps ms made_up (set ps i q) ms
    opening_left k result f =
        goes_on tb ps ms made_up lives i p q b e ub (rw f.listed (opening_extends tb ps ms made_up lives i p b e r f.outcome f.answer)) (records f.outcome) (record { journals = set (map journal_of ps) i (journal (world_of ps ms) i ++ records f.outcome); said = ms })
        (rw f.listed (opening_did tb ps ms made_up lives i p b e r f.outcome typed f.answer)) (λ g. rw f.listed (opening_happens tb ps ms made_up lives i p b e g r f.outcome f.answer)) ms refl f.sound _ k result f.fell

  rest_did : Did (length ps) i tb (journal (world_of ps ms) i ++ [])
  rest_did = subst (Did (length ps) i tb) (sym (append-nil (journal (world_of ps ms) i))) (lives.did i b)

  -- the power is cut between two steps
  pub cut_goes : (k : ℕ) → k ≡ length (vec_items p.file) → (result : Result Unit AllocError) → MatchResult result (λ _. Restarted tb (length (shown p).channels) (shown p).me (take k (vec_items p.file)) q) (λ _. Unchanged p q) → Goes tb ps ms made_up (set ps i q) ms
  cut_goes k at result h =
      goes_on tb ps ms made_up lives i p q b e tb (λ k y f. f) [] _ rest_did (rest_happens tb ps ms made_up lives i p b e) ms refl tt (mind_in p) 0 result
      (came_back tb p p q [] (shown p) (mind_in p) 0 k (omega (arith, at)) (sym (append-nil (vec_items p.file))) refl refl refl result h)

  -- nothing is done
  pub rest_goes : vec_items q.file ≡ vec_items p.file → shown q ≡ shown p → Goes tb ps ms made_up (set ps i q) ms
  rest_goes file v =
      goes_whole tb ps ms made_up lives i p q b e tb (λ k y f. f) [] tt (file ∙ sym (append-nil (vec_items p.file))) _ ms v rest_did (rest_happens tb ps ms made_up lives i p b e) (sym (append-nil ms))
