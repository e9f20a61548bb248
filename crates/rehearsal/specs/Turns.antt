-- What may become of a world in a step of one of its stations, or in a fall.
use Rattle.std.specs.Prelude.{◌≡◌, ℕ, ◌<◌, ◌≤◌, Bool, true, false, is_ok, ◌⊎◌, List, [], ◌++◌, length, take, Vec, vec_items, slice_index_or, slice_set, fold, IsSome, None, Some, Option, Ok, Err, Result}
use Rattle.std.specs.declared.alloc.AllocError.{AllocError}
use Rattle.std.specs.declared.alloc.Global.{Global}
use Rattle.asking.specs.Events.{Response, resolved, event_of}
use Rattle.asking.specs.Minds.{Mind, empty}
use Rattle.asking.specs.Replies.{lasting, minded, spoken, written, Scarce}
use Rattle.asking.specs.declared.event.Event.{Event}
use Rattle.asking.specs.declared.event.Reply.{Reply}
use Rattle.files.specs.Bytes.{journal_bytes}
use Rattle.files.specs.Reading.{records_of}
use Rattle.giving.specs.Channels.{other}
use Rattle.giving.specs.declared.ids.StationId.{StationId}
use Rattle.giving.specs.declared.message.Message.{Message}
use Rattle.giving.specs.declared.refusal.Refusal.{Refusal}
use Rattle.ledger.specs.Calls.{Filled, ShortOpen}
use Rattle.ledger.specs.Decisions.{Answer, decided_open, listing, after, records, for_memory}
use Rattle.ledger.specs.Lost.{Listed, Unlisted}
use Rattle.ledger.specs.declared.input.Outcome.{Outcome}
use Rattle.pieces.specs.declared.names.Train.{Train}
use Rattle.rehearsal.specs.Seen.{rows, count, states, journals, minds, cuts, state_of, mind_of, cut_of}
use Rattle.rehearsal.specs.declared.post.Post.{Post}
use Rattle.rehearsal.specs.declared.turn.Turn.{Turn}
use Rattle.rehearsal.specs.declared.turn.Turn.TheVariants.{Came, Fell}
use Rattle.rehearsal.specs.declared.world.World.{World as Code}
use Rattle.state.specs.Changes.{apply}
use Rattle.state.specs.declared.record.Record.{Record}
use Rattle.timetable.specs.Rows.{Table}
use Rattle.timetable.specs.declared.row.Row.{Row}

-- nothing has changed, but what cuts are to come
pub record Still (w v : Code) : Type 0 where
  pub trains : rows v ≡ rows w
  pub states : states v ≡ states w
  pub journals : journals v ≡ journals w
  pub minds : minds v ≡ minds w
  pub said : vec_items v.said ≡ vec_items w.said

-- nothing has changed
abbrev pub Same : Code → Code → Type 0
Same w v = Still w v × (cuts v ≡ cuts w)

-- ---- steps

-- what the station i answers to an event: what is decided, unless memory was short
pub record Answers (w : Code) (i : ℕ) (e : Event) (r : Response) : Type 0 where
  pub answer : for_memory r ≡ false → r ≡ resolved (rows w) (state_of w i) (mind_of w i) e
  pub memory : (p : Post) → p ≡ slice_index_or (vec_items w.posts) i p → for_memory r ≡ true →
      Scarce (rows w) p.machine.station p.machine.records w.said p.machine.desk e (resolved (rows w) (state_of w i) (mind_of w i) e) ⊎ Filled p.file 144

-- what an event at the station i came to: its state, its journal and its mind, and no other's; what was said; and the answer
pub record Happened (w : Code) (i : ℕ) (e : Event) (v : Code) (r : Response) : Type 0 where
  pub trains : rows v ≡ rows w
  pub states : states v ≡ slice_set (states w) i (lasting (rows w) (state_of w i) r)
  pub journals : journals v ≡ slice_set (journals w) i (slice_index_or (journals w) i [] ++ written (state_of w i) r)
  pub minds : minds v ≡ slice_set (minds w) i (minded (state_of w i) (mind_of w i) e r)
  pub cuts : cuts v ≡ cuts w
  pub said : vec_items v.said ≡ vec_items w.said ++ spoken (rows w) (lasting (rows w) (state_of w i) r) (minded (state_of w i) (mind_of w i) e r) e r
  pub answers : Answers w i e r

-- what it answers where it is to open a train
pub record AnswersOpen (w : Code) (i : ℕ) (r : Row) (o : Answer) : Type 0 where
  pub answer : for_memory o ≡ false → o ≡ decided_open (rows w) (state_of w i) r
  pub memory : (p : Post) → p ≡ slice_index_or (vec_items w.posts) i p → for_memory o ≡ true →
      ShortOpen p.machine.station p.machine.records (rows w r.train.0) (decided_open (rows w) (state_of w i) r) ⊎ Filled p.file 144

-- what an opening at the station i came to
pub record OpenedBy (w : Code) (i : ℕ) (r : Row) (v : Code) (o : Answer) : Type 0 where
  pub trains : rows v ≡ listing (rows w) r o
  pub states : states v ≡ slice_set (states w) i (after (listing (rows w) r o) (state_of w i) o)
  pub journals : journals v ≡ slice_set (journals w) i (slice_index_or (journals w) i [] ++ records o)
  pub minds : minds v ≡ minds w
  pub cuts : cuts v ≡ cuts w
  pub said : vec_items v.said ≡ vec_items w.said
  pub answers : AnswersOpen w i r o

-- ---- falls

-- what a station has done in a step when its power is cut: the timetable then, what it has written, and what it has in mind
pub record Progress : Type 0 where
  pub trains : Table
  pub records : List Record
  pub mind : Mind

-- with just b bytes of it on its file it comes up with the records that are whole there, and nothing in mind
abbrev pub cut_at : ℕ → Progress → Progress
cut_at b d = record { trains = d.trains; records = records_of (take b (journal_bytes d.records)); mind = empty }

-- the station i has done this and no more: nothing of it is said
pub record Left (w : Code) (i : ℕ) (d : Progress) (v : Code) : Type 0 where
  pub trains : rows v ≡ d.trains
  pub states : states v ≡ slice_set (states w) i (fold (apply d.trains) (state_of w i) d.records)
  pub journals : journals v ≡ slice_set (journals w) i (slice_index_or (journals w) i [] ++ d.records)
  pub minds : minds v ≡ slice_set (minds w) i d.mind
  pub said : vec_items v.said ≡ vec_items w.said

-- its power was cut with b bytes of the step on its file
pub record Fallen (w : Code) (i : ℕ) (d : Progress) (b : ℕ) (v : Code) : Type 0 where
  pub left : Left w i (cut_at b d) v
  pub cuts : cuts v ≡ slice_set (cuts w) i None

-- there was no memory to come up: it stays as it was before its power was cut, which is still to come
pub record Stuck (w : Code) (i : ℕ) (d : Progress) (v : Code) : Type 0 where
  pub left : Left w i d v
  pub cuts : cuts v ≡ cuts w

-- a step of the station i: it comes to an answer, or where its power is to be cut the station falls in the midst of it
abbrev pub Turned : {T : Type 0} → (w : Code) (i : ℕ) (v : Code) → (came answers : Result T Refusal → Type 0) → (Result T Refusal → Progress) → Result (Turn T) AllocError → Type 0
Turned w i v came answers did (Ok (Came r)) = (cut_of w i ≡ None) × came r
Turned {T} w i v came answers did (Ok Fell) = (b : ℕ) × (r : Result T Refusal) × (cut_of w i ≡ Some b) × answers r × Fallen w i (did r) b v
Turned {T} w i v came answers did (Err x) = (b : ℕ) × (r : Result T Refusal) × (cut_of w i ≡ Some b) × answers r × Stuck w i (did r) v

abbrev pub progress : Code → (i : ℕ) → Event → Response → Progress
progress w i e r = record { trains = rows w; records = written (state_of w i) r; mind = minded (state_of w i) (mind_of w i) e r }

abbrev pub TurnedBy : (w : Code) (i : ℕ) → Event → (v : Code) → Result (Turn Reply) AllocError → Type 0
TurnedBy w i e v = Turned w i v (Happened w i e v) (Answers w i e) (progress w i e)

-- an event may have changed something, unless it was turned away
abbrev pub acted : Result (Turn Reply) AllocError → Bool
acted (Ok (Came r)) = is_ok r
acted (Ok Fell) = true
acted (Err x) = true

abbrev pub progress_open : Code → (i : ℕ) → Row → Answer → Progress
progress_open w i r o = record { trains = listing (rows w) r o; records = records o; mind = mind_of w i }

abbrev pub TurnedOpen : (w : Code) (i : ℕ) → Row → (v : Code) → Result (Turn Outcome) AllocError → Type 0
TurnedOpen w i r v = Turned w i v (OpenedBy w i r v) (AnswersOpen w i r) (progress_open w i r)

-- nothing is done
abbrev pub idle : Code → (i : ℕ) → Progress
idle w i = record { trains = rows w; records = []; mind = mind_of w i }

-- the trains that station i lists of station j, or why it lists none
abbrev pub Lists : Code → (i : ℕ) → (j : StationId) → Result (Vec Train Global) Refusal → Type 0
Lists w i j (Ok ts) = (other (state_of w i).me (state_of w i).channels j.0 ≡ true) × Listed (rows w) (state_of w i) j (vec_items ts)
Lists w i j (Err e) = Unlisted (rows w) (state_of w i) j e

-- a step in which nothing is done: it is answered; or where its power is to be cut the station falls, unless there is no memory to come up
abbrev pub TurnedIdle : {T : Type 0} → (w : Code) (i : ℕ) (v : Code) → (answers : Result T Refusal → Type 0) → Result (Turn T) AllocError → Type 0
TurnedIdle w i v answers (Ok (Came r)) = (cut_of w i ≡ None) × answers r × Same w v
TurnedIdle w i v answers (Ok Fell) = IsSome (cut_of w i) × Fallen w i (idle w i) 0 v
TurnedIdle w i v answers (Err x) = IsSome (cut_of w i) × Same w v

-- what it comes to where there is such a station or message, and where there is none
abbrev pub WhereThere : {X : Type 0} → Result (Option X) AllocError → Type 0 → (Result X AllocError → Type 0) → Type 0
WhereThere (Ok None) gone came = gone
WhereThere (Ok (Some x)) gone came = came (Ok x)
WhereThere (Err e) gone came = came (Err e)

-- ---- messages

-- a message that is there, and goes to a station that is there
abbrev pub Deliverable : Code → ℕ → Message → Type 0
Deliverable w k m = (k < length (vec_items w.said)) × (m ≡ slice_index_or (vec_items w.said) k m) × (m.to.0 < count w)

-- there is no such message, or it goes to a station that is not there
abbrev pub Undelivered : Code → ℕ → Type 0
Undelivered w k = (length (vec_items w.said) ≤ k) ⊎ ((m : Message) × (k < length (vec_items w.said)) × (m ≡ slice_index_or (vec_items w.said) k m) × (count w ≤ m.to.0))

-- what a message came to that was delivered
abbrev pub Delivered : Code → ℕ → Code → Result (Message × Turn Reply) AllocError → Type 0
Delivered w k v (Ok q) = Deliverable w k q.0 × TurnedBy w q.0.to.0 (event_of q.0.from q.0.body) v (Ok q.1)
Delivered w k v (Err x) = (m : Message) × Deliverable w k m × TurnedBy w m.to.0 (event_of m.from m.body) v (Err x)
