use mathlib.Core.Logic.{∥∥₁_map, ∥∥₁_elim}
use Rattle.std.proofs.Common.{◌≡◌, ◌<◌, ◌++◌, List, set, vec_items, Ok, Result, refl, ap, ◌∙◌, arith, rules}
use Rattle.std.proofs.Props.{props}
use Rattle.ledger.specs.Decisions.{after, listing, records}
use Rattle.ledger.specs.declared.input.Outcome.{Outcome}
use Rattle.recovery.specs.Runs.{TypedRow}
use Rattle.rehearsal.proofs.Fallen.{behind}
use Rattle.rehearsal.proofs.Goings.{opening_goes, opening_left}
use Rattle.rehearsal.proofs.Living.{Goes, opening_extends}
use Rattle.rehearsal.proofs.Posts.{cut_is, states_are, journals_then, minds_same, cuts_same}
use Rattle.rehearsal.proofs.Turned.{answers_open, opening_fell}
use Rattle.rehearsal.proofs.Turning.{Ends}
use Rattle.rehearsal.specs.Lives.{journal_of}
use Rattle.rehearsal.specs.Seen.{count, rows, state_of, states}
use Rattle.rehearsal.specs.Turns.{TurnedOpen}
use Rattle.timetable.specs.Tables.{table}
use Rattle.rehearsal.specs.declared.post.Post.{Post}
use Rattle.rehearsal.specs.declared.turn.Turn.{Turn}
use Rattle.rehearsal.specs.declared.turn.Turn.TheVariants.{Fell}
use Rattle.rehearsal.specs.declared.world.World.{World as Code}
use Rattle.std.specs.declared.alloc.AllocError.{AllocError}
use Rattle.timetable.specs.Rows.{Table}
use Rattle.rehearsal.proofs.world.World.open_at.Goals as goal
use Rattle.rehearsal.proofs.world.World.open_at.Goals.{After-open-outcome, After-fall_opening}

-- the station's answer
opened : (c : After-open-outcome) → ∥ Goes (table c.open-outcome.new.trains) (vec_items c.args.self.now.posts) (vec_items c.args.self.now.said) c.args.self.now.made_up (set (vec_items c.args.self.now.posts) c.args.place c.open-outcome.new.self) (vec_items c.args.self.now.said) ∥₁
opened c =
    let z = c.open-outcome.ensures in
    let t : TypedRow c.args.row = search rules in
    ∥∥₁_map c.args.self.now.lives
    (λ l. opening_goes _ _ _ _ l c.args.place c.index_mut.result.now c.open-outcome.new.self (omega arith) c.index_mut.ensures.value c.args.row t (table c.open-outcome.new.trains) c.open-outcome.result z.listed z.sound z.written z.state z.answer)

pub invariant_of-self-clause-lives : goal.invariant_of-self-clause-lives
invariant_of-self-clause-lives c = ∥∥₁_map (opened (goal.at.invariant_of-self-clause-lives c).After-open-outcome) (λ g. g.0)

pub returns-in_default : goal.returns-in_default
returns-in_default c =
    let w = c.args.self.now in
    let b : c.args.place < count w = omega arith in
    let ps = vec_items w.posts in
    let ub = table c.open-outcome.new.trains in
    let i = c.args.place in
    let p = c.index_mut.result.now in
    let e = c.index_mut.ensures.value in
    let q = c.open-outcome.new.self in
    let o = c.open-outcome.result in
    let r = c.args.row in
    let z = c.open-outcome.ensures in
    let j : journal_of q ≡ journal_of p ++ records o =
    ∥∥₁_elim w.lives (Prim.hlevel props) (λ l. behind _ _ _ _ l i p q b e (listing (rows w) r o) (opening_extends _ _ _ _ l i p b e r o z.answer) _ z.sound z.written) in
    record {
      steps = λ g. ∥∥₁_map (opened (goal.at.returns-in_default c).After-open-outcome) (λ x. x.1 g);
      genuine = refl;
      came = (
        cut_is ps i c.index.result.now b c.index.ensures ∙ c.in_default.is,
        record {
          trains = z.listed;
          states = states_are ps i p b e (λ s. after ub s o) q z.state ∙ ap (λ t. set (states w) i (after t (state_of w i) o)) z.listed;
          journals = journals_then ps i p b e (λ _. records o) q j;
          minds = minds_same ps i p b e q z.mind;
          cuts = cuts_same ps i p b e q z.cut;
          said = refl;
          answers = answers_open w i p b e r o z.answer z.memory;
        },
      );
    }

-- a fall in the midst of it
module _ (c : After-fall_opening) where
  abbrev w : Code
  w = c.args.self.now

  abbrev next : List Post
  next = set (vec_items w.posts) c.args.place c.fall_opening.new.self

  abbrev ub : Table
  ub = table c.fall_opening.new.trains

  there : c.args.place < count w
  there = omega arith

  left : ∥ Goes ub (vec_items w.posts) (vec_items w.said) w.made_up next (vec_items w.said) ∥₁
  left =
      let t : TypedRow c.args.row = search rules in
      ∥∥₁_map w.lives
      (λ l. opening_left _ _ _ _ l c.args.place c.index_mut-2.result.now c.fall_opening.new.self there c.index_mut-2.ensures.value c.args.row t ub _ _ c.fall_opening.ensures)

  came : (v : Code) → vec_items v.posts ≡ next → vec_items v.said ≡ vec_items w.said → ub ≡ rows v → (o : Result (Turn Outcome) AllocError) → Ends c.fall_opening.result o → TurnedOpen w c.args.place c.args.row v o
  came v put said t =
      opening_fell w c.args.place c.index_mut-2.result.now there c.index_mut-2.ensures.value v c.fall_opening.new.self put said c.in-Some.bytes
      (cut_is (vec_items w.posts) c.args.place c.index.result.now there c.index.ensures ∙ c.in-Some.is) _ c.args.row (rw (← t) c.fall_opening.ensures)

pub invariant_of-self-2-clause-lives : goal.invariant_of-self-2-clause-lives
invariant_of-self-2-clause-lives c = ∥∥₁_map (left (goal.at.invariant_of-self-2-clause-lives c).After-fall_opening) (λ g. g.0)

pub returns-in_err-fall_opening : goal.returns-in_err-fall_opening
returns-in_err-fall_opening c =
    let s = (goal.at.returns-in_err-fall_opening c).After-fall_opening in
    record { steps = λ g. ∥∥₁_map (left s) (λ x. x.1 g); genuine = refl; came = came s _ refl refl refl c.from_residual.result (rw c.in_err-fall_opening.was c.from_residual.ensures.0) }

pub returns : goal.returns
returns c = let s = (goal.at.returns c).After-fall_opening in record { steps = λ g. ∥∥₁_map (left s) (λ x. x.1 g); genuine = refl; came = came s _ refl refl refl (Ok Fell) (rw c.in_ok-fall_opening.was refl) }
