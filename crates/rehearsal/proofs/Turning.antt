-- A world of the code after a fall of one of its stations.
-- Assumes nothing.
use Rattle.std.proofs.Common.{◌≡◌, ℕ, ◌<◌, List, [], take, append-nil, arith, map, length, get_or, set, vec_items, fold, Some, None, Option, Ok, Err, Result, sym, refl, ap, ◌∙◌, subst, length-set}
use mathlib.Core.Logic.{∥∥₁_elim}
use lib.Seq.{map-set, map-set_same}
use Rattle.asking.specs.Minds.{Mind}
use Rattle.files.specs.Bytes.{AllSound}
use Rattle.files.specs.Reading.{records_of}
use Rattle.giving.specs.declared.refusal.Refusal.{Refusal}
use Rattle.network.specs.Promises.{Extends}
use Rattle.rehearsal.proofs.Fallen.{Remains, remains_prop, rests}
use Rattle.rehearsal.proofs.Posts.{here_is, mind_is, states_are, journals_then, minds_are}
use Rattle.rehearsal.proofs.Restarting.{came_back}
use Rattle.rehearsal.specs.Lives.{Lives, shown, journal_of, mind_in, site_of}
use Rattle.rehearsal.specs.Restarts.{CameBack, Restarted, Unchanged}
use Rattle.network.specs.Falls.{site}
use Rattle.rehearsal.specs.Seen.{rows, count, states, cuts, state_of, mind_of, cut_of}
use Rattle.giving.specs.declared.message.Message.{Message}
use Rattle.state.specs.declared.record.Record.{Record}
use Rattle.rehearsal.specs.Turns.{Progress, Left, Fallen, Same, Still, Stuck, Turned, cut_at, idle}
use Rattle.rehearsal.specs.declared.post.Post.{Post}
use Rattle.rehearsal.specs.declared.turn.Turn.{Turn}
use Rattle.rehearsal.specs.declared.turn.Turn.TheVariants.{Fell}
use Rattle.rehearsal.specs.declared.world.World.{World as Code}
use Rattle.state.specs.Changes.{apply}
use Rattle.state.specs.States.{State}
use Rattle.std.proofs.lemmas.Bool.{false≢true}
use Rattle.std.proofs.lemmas.List.{length-map, set-get_or, set-set}
use Rattle.std.specs.Prelude.{IsErr, MatchResult}
use Rattle.std.specs.declared.alloc.AllocError.{AllocError}

-- a step answers that the station fell, or that there was no memory for it to come up
abbrev pub Ends : {T : Type 0} → Result Unit AllocError → Result (Turn T) AllocError → Type 0
Ends result o = MatchResult result (λ _. o ≡ Ok Fell) (λ _. IsErr o)

module _ (w v : Code) (i : ℕ) (p q : Post) (b : i < length (vec_items w.posts)) (e : p ≡ get_or (vec_items w.posts) i p) (put : vec_items v.posts ≡ set (vec_items w.posts) i q) where
  abbrev ps : List Post
  ps = vec_items w.posts

  -- what it has done, by its state and its mind before
  left_is : (d : State → Mind → Progress) → rows v ≡ (d (shown p) (mind_in p)).trains → vec_items v.said ≡ vec_items w.said → Remains (d (shown p) (mind_in p)).trains p (d (shown p) (mind_in p)).records (d (shown p) (mind_in p)).mind q →
      Left w i (d (state_of w i) (mind_of w i)) v
  left_is d t s r =
      subst (λ x. Left w i (d x (mind_of w i)) v) (sym (here_is ps i p b e))
      (subst (λ x. Left w i (d (shown p) x) v) (sym (mind_is ps i p b e))
      (record {
        trains = t;
        states = ap (map shown) put ∙ states_are ps i p b e (λ x. fold (apply (d (shown p) (mind_in p)).trains) x (d (shown p) (mind_in p)).records) q r.state;
        journals = ap (map journal_of) put ∙ journals_then ps i p b e (λ _. (d (shown p) (mind_in p)).records) q r.journal;
        minds = ap (map mind_in) put ∙ minds_are ps i p b e (λ _ _. (d (shown p) (mind_in p)).mind) q r.mind;
        said = s;
      }))

  -- nothing is done

  same_of : {A : Type 0} (f : Post → A) → f q ≡ f p → map f (vec_items v.posts) ≡ map f ps
  same_of f m = ap (map f) put ∙ map-set_same f ps i q p (m ∙ ap f e)

  pub still : rows v ≡ rows w → vec_items v.said ≡ vec_items w.said → shown q ≡ shown p → vec_items q.file ≡ vec_items p.file → mind_in q ≡ mind_in p → Still w v
  still t s state file mind = record { trains = t; states = same_of shown state; journals = same_of journal_of (ap records_of file); minds = same_of mind_in mind; said = s }

  pub cuts_then : cuts v ≡ set (cuts w) i q.cut
  cuts_then = ap (map (λ p. p.cut)) put ∙ map-set (λ p. p.cut) ps i q

  -- ---- falls

  module _ (lives : ∥ Lives (rows w) ps (vec_items w.said) w.made_up ∥₁) (said : vec_items v.said ≡ vec_items w.said) (d : State → Mind → Progress) where
    abbrev did : Progress
    did = d (shown p) (mind_in p)

    module _ (ext : Extends (rows w) did.trains) (trains : rows v ≡ did.trains) (sound : AllSound did.records) (k : ℕ) where
      fallen : (x : Unit) → CameBack did.trains p did.records (fold (apply did.trains) (shown p) did.records) did.mind k q (Ok x) → Fallen w i (d (state_of w i) (mind_of w i)) k v
      fallen x r =
          record {
            left = left_is (λ s m. cut_at k (d s m)) trains said (∥∥₁_elim lives (remains_prop _ p _ _ q) (λ l. (rests (rows w) ps _ _ l i p q b e did.trains ext did.records sound did.mind k _ refl (Ok x) r).0));
            cuts = cuts_then ∙ ap (set (cuts w) i) r.cut;
          }

      stuck : (x : AllocError) → CameBack did.trains p did.records (fold (apply did.trains) (shown p) did.records) did.mind k q (Err x) → Stuck w i (d (state_of w i) (mind_of w i)) v
      stuck x r =
          record {
            left = left_is d trains said (∥∥₁_elim lives (remains_prop _ p _ _ q) (λ l. (rests (rows w) ps _ _ l i p q b e did.trains ext did.records sound did.mind k _ refl (Err x) r).0));
            cuts = same_of (λ p. p.cut) r.cut;
          }

      -- a step that was answered with r when the power was cut
      module _ {T : Type 0} (came answers : Result T Refusal → Type 0) (progress : Result T Refusal → Progress) (r : Result T Refusal) (is : progress r ≡ d (state_of w i) (mind_of w i)) (cut : cut_of w i ≡ Some k) (a : answers r) where
        pub turned : (result : Result Unit AllocError) → CameBack did.trains p did.records (fold (apply did.trains) (shown p) did.records) did.mind k q result →
            (o : Result (Turn T) AllocError) → Ends result o → Turned w i v came answers progress o
        turned (Ok x) f o h = subst (Turned w i v came answers progress) (sym h) (k, r, cut, a, subst (λ z. Fallen w i z k v) (sym is) (fallen x f))
        turned (Err x) f (Ok t) h = absurd (false≢true h)
        turned (Err x) f (Err y) h = (k, r, cut, a, subst (λ z. Stuck w i z v) (sym is) (stuck x f))

  -- the power is cut between two steps
  pub cut_between : ∥ Lives (rows w) ps (vec_items w.said) w.made_up ∥₁ → rows v ≡ rows w → vec_items v.said ≡ vec_items w.said → (k : ℕ) → k ≡ length (vec_items p.file) → (result : Result Unit AllocError) →
      MatchResult result (λ _. Restarted (rows w) (length (shown p).channels) (shown p).me (take k (vec_items p.file)) q) (λ _. Unchanged p q) → MatchResult result (λ _. Fallen w i (idle w i) 0 v) (λ _. Same w v)
  cut_between lives t s k at (Ok x) r =
      fallen lives s (λ _ m. record { trains = rows w; records = []; mind = m }) (λ k y f. f) t tt 0 x
      (came_back (rows w) p p q [] (shown p) (mind_in p) 0 k (omega (arith, at)) (sym (append-nil (vec_items p.file))) refl refl refl (Ok x) r)
  cut_between lives t s k at (Err x) r = (still t s r.state r.file r.mind, same_of (λ p. p.cut) r.cut)

pub fallen_count : (w m : Code) (i : ℕ) (d : Progress) (k : ℕ) → Fallen w i d k m → count m ≡ count w
fallen_count w m i d k f = sym (length-map (vec_items m.posts) shown) ∙ ap (λ (l : List State). length l) f.left.states ∙ length-set (states w) i _ ∙ length-map (vec_items w.posts) shown

pub same_site : (ps : List Post) (i : ℕ) (p q : Post) → p ≡ get_or ps i p → journal_of q ≡ journal_of p → (ms : List Message) → site_of (set ps i q) ms ≡ site_of ps ms
same_site ps i p q e j ms = ap (λ (js : List (List Record)). site (record { journals = js; said = ms }) (map (λ (es : List Record). length es) js)) (map-set_same journal_of ps i q p (j ∙ ap journal_of e))

-- a cut that is to come is still to come after another one
pub still_to_come : (w m v : Code) (i : ℕ) (d : Progress) (k : ℕ) (c : Option ℕ) → Fallen w i d k m → Still m v → cuts v ≡ set (cuts m) i c → c ≡ cut_of w i → Left w i (cut_at k d) v × (cuts v ≡ cuts w)
still_to_come w m v i d k c f s h e = (
  record {
    trains = s.trains ∙ f.left.trains;
    states = s.states ∙ f.left.states;
    journals = s.journals ∙ f.left.journals;
    minds = s.minds ∙ f.left.minds;
    said = s.said ∙ f.left.said;
  },
  h ∙ ap (λ cs. set cs i c) f.cuts ∙ set-set (cuts w) i None c ∙ ap (set (cuts w) i) e ∙ set-get_or (cuts w) i None,
)
