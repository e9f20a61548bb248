-- What an event or an opening at a station is answered with, and what it comes to where the power is cut in the midst of it.
-- Assumes nothing.
use Rattle.std.proofs.Common.{◌≡◌, ℕ, ◌<◌, true, false, ◌⊎◌, get_or, set, vec_items, Some, Result, sym, refl, ap, ap₂, ◌∙◌, subst}
use mathlib.Core.Logic.{∥∥₁_elim}
use Rattle.asking.specs.Events.{Response, resolved}
use Rattle.asking.specs.Replies.{minded, written, Scarce}
use Rattle.asking.specs.declared.event.Event.{Event}
use Rattle.asking.specs.declared.event.Reply.{Reply}
use Rattle.ledger.specs.Calls.{Filled, ShortOpen}
use Rattle.ledger.specs.Decisions.{Answer, after, decided_open, for_memory, listing, records}
use Rattle.ledger.specs.declared.input.Outcome.{Outcome}
use Rattle.network.specs.Promises.{Extends}
use Rattle.rehearsal.proofs.Living.{opening_extends}
use Rattle.rehearsal.proofs.Posts.{here_is, mind_is, at_post}
use Rattle.rehearsal.proofs.Turning.{Ends, turned}
use Rattle.rehearsal.specs.Lives.{mind_in, shown}
use Rattle.rehearsal.specs.Restarts.{CameBack, FellIn, FellOpening}
use Rattle.rehearsal.specs.Seen.{count, cut_of, rows}
use Rattle.rehearsal.specs.Turns.{Answers, AnswersOpen, Happened, OpenedBy, TurnedBy, TurnedOpen, progress, progress_open}
use Rattle.rehearsal.specs.declared.post.Post.{Post}
use Rattle.rehearsal.specs.declared.turn.Turn.{Turn}
use Rattle.rehearsal.specs.declared.world.World.{World as Code}
use Rattle.std.proofs.Props.{props}
use Rattle.std.specs.declared.alloc.AllocError.{AllocError}
use Rattle.timetable.specs.declared.row.Row.{Row}

module _ (w : Code) (i : ℕ) (p : Post) (b : i < count w) (e : p ≡ get_or (vec_items w.posts) i p) where
  -- the answer of the station as it was read is that of the world's station
  pub answers_are : (x : Event) (r : Response) → (for_memory r ≡ false → r ≡ resolved (rows w) (shown p) (mind_in p) x) →
      (for_memory r ≡ true → Scarce (rows w) p.machine.station p.machine.records w.said p.machine.desk x (resolved (rows w) (shown p) (mind_in p) x) ⊎ Filled p.file 144) → Answers w i x r
  answers_are x r a m =
      record {
        answer = λ f. a f ∙ ap₂ (λ s d. resolved (rows w) s d x) (sym (here_is (vec_items w.posts) i p b e)) (sym (mind_is (vec_items w.posts) i p b e));
        memory = λ y d f. at_post (vec_items w.posts) i p b e (λ k s t. Scarce (rows w) k.machine.station k.machine.records w.said k.machine.desk x (resolved (rows w) s t x) ⊎ Filled k.file 144) (m f) y d;
      }

  pub answers_open : (r : Row) (o : Answer) → (for_memory o ≡ false → o ≡ decided_open (rows w) (shown p) r) →
      (for_memory o ≡ true → ShortOpen p.machine.station p.machine.records (rows w r.train.0) (decided_open (rows w) (shown p) r) ⊎ Filled p.file 144) → AnswersOpen w i r o
  answers_open r o a m =
      record {
        answer = λ f. a f ∙ ap (λ s. decided_open (rows w) s r) (sym (here_is (vec_items w.posts) i p b e));
        memory = λ y d f. at_post (vec_items w.posts) i p b e (λ k s _. ShortOpen k.machine.station k.machine.records (rows w r.train.0) (decided_open (rows w) s r) ⊎ Filled k.file 144) (m f) y d;
      }

  -- it fell with k bytes of the step on its file
  module _ (v : Code) (q : Post) (put : vec_items v.posts ≡ set (vec_items w.posts) i q) (said : vec_items v.said ≡ vec_items w.said) (k : ℕ) (cut : cut_of w i ≡ Some k) (result : Result Unit AllocError) where
    pub event_fell : rows v ≡ rows w → (x : Event) → FellIn (rows w) w.said p x k q result → (o : Result (Turn Reply) AllocError) → Ends result o → TurnedBy w i x v o
    event_fell t x f =
        let r = f.response in
        turned w v i p q b e put w.lives said (λ s d. record { trains = rows w; records = written s r; mind = minded s d x r }) (λ k y f. f) t f.sound k
        (Happened w i x v) (Answers w i x) (progress w i x) r refl cut (answers_are x r f.answer f.memory) result f.fell

    pub opening_fell : (r : Row) → FellOpening (rows w) p r k (rows v) q result → (o : Result (Turn Outcome) AllocError) → Ends result o → TurnedOpen w i r v o
    opening_fell r f =
        let o = f.outcome in
        let ext : Extends (rows w) (listing (rows w) r o) = ∥∥₁_elim w.lives (Prim.hlevel props) (λ l. opening_extends _ _ _ _ l i p b e r o f.answer) in
        turned w v i p q b e put w.lives said (λ _ m. record { trains = listing (rows w) r o; records = records o; mind = m }) ext f.listed f.sound k
        (OpenedBy w i r v) (AnswersOpen w i r) (progress_open w i r) o refl cut (answers_open r o f.answer f.memory) result
        (subst (λ t. CameBack t p (records o) (after t (shown p) o) (mind_in p) k q result) f.listed f.fell)
