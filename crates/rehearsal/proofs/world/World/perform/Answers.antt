use mathlib.Core.Logic.{∥∥₁_map, ∥∥₁_elim}
use Rattle.std.proofs.Common.{◌≡◌, ◌<◌, Bool, true, false, ◌||◌, is_ok, ◌++◌, List, set, vec_items, Ok, Result, sym, refl, ap, map, subst, ◌∙◌, arith}
use Rattle.std.proofs.Props.{props}
use Rattle.asking.specs.Replies.{lasting, minded, written}
use Rattle.asking.specs.declared.event.Event.{Event}
use Rattle.asking.specs.declared.event.Reply.{Reply}
use Rattle.network.specs.Runs.{HeedsAll}
use Rattle.recovery.specs.Runs.{Typed}
use Rattle.rehearsal.proofs.Comings.{event_here}
use Rattle.rehearsal.proofs.Fallen.{behind}
use Rattle.rehearsal.proofs.Goings.{event_goes, event_left}
use Rattle.rehearsal.proofs.Living.{Goes, marked}
use Rattle.rehearsal.proofs.Posts.{cut_is, states_are, journals_then, minds_are, cuts_same, said_then}
use Rattle.rehearsal.proofs.Turned.{answers_are, event_fell}
use Rattle.rehearsal.proofs.Turning.{Ends}
use Rattle.rehearsal.specs.Comings.{event_in}
use Rattle.rehearsal.specs.Lives.{journal_of, mind_in, shown}
use Rattle.rehearsal.specs.Seen.{count, rows, state_of}
use Rattle.rehearsal.specs.Turns.{Happened, TurnedBy}
use Rattle.rehearsal.specs.declared.post.Post.{Post}
use Rattle.rehearsal.specs.declared.turn.Turn.{Turn}
use Rattle.rehearsal.specs.declared.turn.Turn.TheVariants.{Fell}
use Rattle.rehearsal.specs.declared.world.World.{World as Code}
use Rattle.std.proofs.lemmas.Bool.{false≢true, or_parts}
use Rattle.std.specs.declared.alloc.AllocError.{AllocError}
use Rattle.rehearsal.proofs.world.World.perform.Goals as goal
use Rattle.rehearsal.proofs.world.World.perform.Goals.{Joined-made_up, After-fall, then-made_up, else-made_up}

-- the station's reply
module _ (c : Joined-made_up) where
  abbrev now : Code
  now = c.args.self.now

  here : c.args.place < count now
  here = omega arith

  -- what came is to the station as it was read what it is to the world's
  abbrev reply_event : Event
  reply_event = event_in (shown c.index_mut.result.now).me c.args.coming

  reply_same : reply_event ≡ event_in (state_of now c.args.place).me c.args.coming
  reply_same = event_here now c.args.place c.index_mut.result.now here c.index_mut.ensures.value c.args.coming

  abbrev mark : Bool
  mark = now.made_up || c.if-made_up.self

  -- what is made up is turned away where the mark is not set
  told : mark ≡ false → is_ok c.handle-reply.result ≡ true → HeedsAll (vec_items now.said) c.args.place reply_event
  told g o =
      let (a, b) = or_parts now.made_up c.if-made_up.self g in
      elim c.if-made_up.branch [
        | then-made_up w ↦ absurd (false≢true (sym b ∙ w.self-is ∙ w.is_ok.ensures.value ∙ o))
        | else-made_up w ↦ subst (HeedsAll (vec_items now.said) c.args.place) (sym reply_same) (c.requires.told a w.if-made_up.false)
      ]

  handled : ∥ Goes (rows now) (vec_items now.posts) (vec_items now.said) mark (set (vec_items now.posts) c.args.place c.handle-reply.new.self) (vec_items c.handle-reply.new.out) ∥₁
  handled =
      let z = c.handle-reply.ensures in
      ∥∥₁_map now.lives
      (λ l. event_goes _ _ _ mark (marked _ _ _ _ mark (λ g. (or_parts _ _ g).0) l) c.args.place c.index_mut.result.now c.handle-reply.new.self here c.index_mut.ensures.value
      reply_event (subst Typed (sym reply_same) c.requires.typed) c.handle-reply.result _ told z.sound z.written z.state z.mind z.said z.answer)

  happened : (v : Code) → vec_items v.posts ≡ set (vec_items now.posts) c.args.place c.handle-reply.new.self → vec_items v.said ≡ vec_items c.handle-reply.new.out → rows v ≡ rows now →
      Happened now c.args.place (event_in (state_of now c.args.place).me c.args.coming) v c.handle-reply.result
  happened v put said t =
      let ps = vec_items now.posts in
      let i = c.args.place in
      let p = c.index_mut.result.now in
      let e = c.index_mut.ensures.value in
      let q = c.handle-reply.new.self in
      let r = c.handle-reply.result in
      let x = reply_event in
      let z = c.handle-reply.ensures in
      let j : journal_of q ≡ journal_of p ++ written (shown p) r = ∥∥₁_elim now.lives (Prim.hlevel props) (λ l. behind _ _ _ _ l i p q here e (rows now) (λ k q f. f) _ z.sound z.written) in
      subst (λ x. Happened now i x v r) reply_same
      (record {
        trains = t;
        states = ap (map shown) put ∙ states_are ps i p here e (λ s. lasting (rows now) s r) q z.state;
        journals = ap (map journal_of) put ∙ journals_then ps i p here e (λ s. written s r) q j;
        minds = ap (map mind_in) put ∙ minds_are ps i p here e (λ s d. minded s d x r) q z.mind;
        cuts = ap (map (λ p. p.cut)) put ∙ cuts_same ps i p here e q z.cut;
        said = said ∙ said_then ps i p here e (rows now) q x r _ _ z.state z.mind z.said;
        answers = answers_are now i p here e x r z.answer z.memory;
      })

pub invariant_of-self-clause-lives : goal.invariant_of-self-clause-lives
invariant_of-self-clause-lives c = let s = goal.at.invariant_of-self-clause-lives c in ∥∥₁_map (handled s.Joined-made_up) (λ g. g.0)

pub returns-in_default-clause-steps : goal.returns-in_default-clause-steps
returns-in_default-clause-steps c = let s = goal.at.returns-in_default-clause-steps c in λ g. ∥∥₁_map (handled s.Joined-made_up) (λ x. x.1 g)

pub returns-in_default-clause-came : goal.returns-in_default-clause-came
returns-in_default-clause-came c =
    let j = (goal.at.returns-in_default-clause-came c).Joined-made_up in
    (cut_is (vec_items c.args.self.now.posts) c.args.place c.index.result.now (here j) c.index.ensures ∙ c.in_default.is, happened j _ refl refl refl)

-- a fall in the midst of it
module _ (c : After-fall) where
  abbrev w : Code
  w = c.args.self.now

  abbrev next : List Post
  next = set (vec_items w.posts) c.args.place c.fall.new.self

  there : c.args.place < count w
  there = omega arith

  abbrev event : Event
  event = event_in (shown c.index_mut-2.result.now).me c.args.coming

  same : event ≡ event_in (state_of w c.args.place).me c.args.coming
  same = event_here w c.args.place c.index_mut-2.result.now there c.index_mut-2.ensures.value c.args.coming

  abbrev fallen_mark : Bool
  fallen_mark = w.made_up || c.args.made_up

  left : ∥ Goes (rows w) (vec_items w.posts) (vec_items w.said) fallen_mark next (vec_items c.fall.new.said) ∥₁
  left =
      ∥∥₁_map w.lives
      (λ l. event_left _ _ _ fallen_mark (marked _ _ _ _ fallen_mark (λ g. (or_parts _ _ g).0) l) c.args.place c.index_mut-2.result.now c.fall.new.self there c.index_mut-2.ensures.value
      event (subst Typed (sym same) c.requires.typed) _ _ _ _
      (λ g. let (a, b) = or_parts w.made_up c.args.made_up g in subst (HeedsAll (vec_items w.said) c.args.place) (sym same) (c.requires.told a b)) c.fall.ensures.said c.fall.ensures.fell)

  came : (v : Code) → vec_items v.posts ≡ next → vec_items v.said ≡ vec_items c.fall.new.said → rows v ≡ rows w → (o : Result (Turn Reply) AllocError) → Ends c.fall.result o → TurnedBy w c.args.place (event_in (state_of w c.args.place).me c.args.coming) v o
  came v put said t o h =
      subst (λ x. TurnedBy w c.args.place x v o) same
      (event_fell w c.args.place c.index_mut-2.result.now there c.index_mut-2.ensures.value v c.fall.new.self put (said ∙ c.fall.ensures.said) c.in-Some.bytes
      (cut_is (vec_items w.posts) c.args.place c.index.result.now there c.index.ensures ∙ c.in-Some.is) _ t event c.fall.ensures.fell o h)

pub invariant_of-self-2-clause-lives : goal.invariant_of-self-2-clause-lives
invariant_of-self-2-clause-lives c = let s = goal.at.invariant_of-self-2-clause-lives c in ∥∥₁_map (left s.After-fall) (λ g. g.0)

pub returns-in_err-fall-clause-steps : goal.returns-in_err-fall-clause-steps
returns-in_err-fall-clause-steps c = let s = goal.at.returns-in_err-fall-clause-steps c in λ g. ∥∥₁_map (left s.After-fall) (λ x. x.1 g)

pub returns-in_err-fall-clause-came : goal.returns-in_err-fall-clause-came
returns-in_err-fall-clause-came c = let s = goal.at.returns-in_err-fall-clause-came c in came s.After-fall _ refl refl refl c.from_residual.result (rw c.in_err-fall.was c.from_residual.ensures.0)

pub returns-clause-steps : goal.returns-clause-steps
returns-clause-steps c = let s = goal.at.returns-clause-steps c in λ g. ∥∥₁_map (left s.After-fall) (λ x. x.1 g)

pub returns-clause-came : goal.returns-clause-came
returns-clause-came c = let s = goal.at.returns-clause-came c in came s.After-fall _ refl refl refl (Ok Fell) (rw c.in_ok-fall.was refl)
