-- What becomes of a station whose power is cut.
use Rattle.std.specs.Prelude.{◌≡◌, ℕ, ◌+◌, true, false, ◌⊎◌, List, ◌++◌, None, length, take, fold, vec_items, Vec, Result, Ok, Err}
use Rattle.std.specs.declared.alloc.AllocError.{AllocError}
use Rattle.std.specs.declared.alloc.Global.{Global}
use Rattle.asking.specs.Events.{Response, resolved}
use Rattle.asking.specs.Minds.{Mind, empty}
use Rattle.asking.specs.Replies.{lasting, minded, written, Scarce}
use Rattle.asking.specs.declared.event.Event.{Event}
use Rattle.files.specs.Bytes.{AllSound, journal_bytes}
use Rattle.files.specs.Reading.{records_of}
use Rattle.giving.specs.declared.message.Message.{Message}
use Rattle.ledger.specs.Calls.{Filled, ShortOpen}
use Rattle.ledger.specs.Decisions.{Answer, after, decided_open, listing, records, for_memory}
use Rattle.rehearsal.specs.Lives.{shown, mind_in}
use Rattle.rehearsal.specs.declared.post.Post.{Post}
use Rattle.state.specs.Changes.{apply}
use Rattle.state.specs.States.{begun, State}
use Rattle.state.specs.declared.record.Record.{Record}
use Rattle.timetable.specs.Rows.{Table}
use Rattle.timetable.specs.declared.row.Row.{Row}

-- nothing has changed at a station
pub record Unchanged (p q : Post) : Type 0 where
  pub state : shown q ≡ shown p
  pub mind : mind_in q ≡ mind_in p
  pub file : vec_items q.file ≡ vec_items p.file
  pub cut : q.cut ≡ p.cut

-- station i of n came up from these bytes of its file, and goes on with the records that are whole there
pub record Restarted (tb : Table) (n i : ℕ) (bs : List ℕ) (q : Post) : Type 0 where
  pub file : vec_items q.file ≡ journal_bytes (records_of bs)
  pub sound : AllSound (records_of bs)
  pub state : shown q ≡ fold (apply tb) (begun n i) (records_of bs)
  pub mind : mind_in q ≡ empty
  pub cut : q.cut ≡ None

-- it has written these records, and is at this state and mind
pub record Wrote (p : Post) (es : List Record) (s : State) (m : Mind) (q : Post) : Type 0 where
  pub file : vec_items q.file ≡ vec_items p.file ++ journal_bytes es
  pub state : shown q ≡ s
  pub mind : mind_in q ≡ m
  pub cut : q.cut ≡ p.cut

-- with b bytes of these records on its file it came up again, or for want of memory it stays as it was
abbrev pub CameBack : Table → Post → List Record → State → Mind → (b : ℕ) → Post → Result Unit AllocError → Type 0
CameBack tb p es s m b q (Ok _) = Restarted tb (length s.channels) s.me (take (length (vec_items p.file) + b) (vec_items p.file ++ journal_bytes es)) q
CameBack tb p es s m b q (Err x) = Wrote p es s m q

-- it fell in the midst of an event
pub record FellIn (tb : Table) (ms : Vec Message Global) (p : Post) (e : Event) (b : ℕ) (q : Post) (result : Result Unit AllocError) : Type 0 where
  pub response : Response
  pub sound : AllSound (written (shown p) response)
  pub answer : for_memory response ≡ false → response ≡ resolved tb (shown p) (mind_in p) e
  pub memory : for_memory response ≡ true → Scarce tb p.machine.station p.machine.records ms p.machine.desk e (resolved tb (shown p) (mind_in p) e) ⊎ Filled p.file 144
  pub fell : CameBack tb p (written (shown p) response) (lasting tb (shown p) response) (minded (shown p) (mind_in p) e response) b q result

-- and in the midst of an opening
pub record FellOpening (tb : Table) (p : Post) (r : Row) (b : ℕ) (ub : Table) (q : Post) (result : Result Unit AllocError) : Type 0 where
  pub outcome : Answer
  pub listed : ub ≡ listing tb r outcome
  pub sound : AllSound (records outcome)
  pub answer : for_memory outcome ≡ false → outcome ≡ decided_open tb (shown p) r
  pub memory : for_memory outcome ≡ true → ShortOpen p.machine.station p.machine.records (tb r.train.0) (decided_open tb (shown p) r) ⊎ Filled p.file 144
  pub fell : CameBack ub p (records outcome) (after ub (shown p) outcome) (mind_in p) b q result
