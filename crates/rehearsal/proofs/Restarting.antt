-- A station that comes up from the first part of its file.
-- Assumes nothing.
use Rattle.std.proofs.Common.{◌≡◌, ℕ, ◌+◌, Bool, true, false, List, ◌++◌, length, take, drop, fold, Ok, Err, Result, ap, sym, subst, ◌&&◌, ◌∙◌, append_assoc, take-append-drop}
use Rattle.std.proofs.Math.Seq.{take-append_seam}
use Rattle.files.specs.Bytes.{journal_bytes}
use Rattle.files.specs.Laws.{IsFirstPart}
use Rattle.files.specs.Reading.{is_cut, records_of, rest_of}
use Rattle.giving.specs.Calls.{unless}
use Rattle.giving.specs.declared.refusal.Refusal.TheVariants.{Malformed}
use Rattle.files.proofs.Laws.{one_reading}
use Rattle.asking.specs.Minds.{Mind}
use Rattle.rehearsal.specs.Lives.{shown, mind_in}
use Rattle.rehearsal.specs.Restarts.{CameBack, Restarted, Unchanged}
use Rattle.recovery.specs.Rising.{risen}
use Rattle.rehearsal.specs.declared.post.Post.{Post}
use Rattle.state.specs.declared.record.Record.{Record}
use Rattle.std.specs.Prelude.{MatchResult, vec_items}
use Rattle.std.specs.declared.alloc.AllocError.{AllocError}
use Rattle.state.specs.Changes.{all_fit, apply}
use Rattle.state.specs.States.{State}
use Rattle.timetable.specs.Rows.{Table}

risen_is : (b : Bool) (s t : State) → unless b Malformed (Ok s) ≡ Ok t → t ≡ s
risen_is true s t e = cc
risen_is false s t e = cc

-- `part` is the whole first part of the first bytes of a file
module _ (file front part : List ℕ) (bytes : ℕ) (is : front ≡ take bytes file) (whole : IsFirstPart front part) where
  abbrev pub there : List ℕ
  there = take bytes file

  pub first_part : IsFirstPart there part
  first_part = subst (λ bs. IsFirstPart bs part) is whole

  -- the file when it is cut back to it
  pub cut_back : take (length part) file ≡ journal_bytes (records_of there)
  cut_back =
      ap (take (length part)) (sym (take-append-drop bytes file) ∙ ap (λ l. l ++ drop bytes file) first_part.behind ∙ append_assoc part (rest_of there) (drop bytes file))
      ∙ take-append_seam part (rest_of there ++ drop bytes file) ∙ first_part.records

  pub come_up : (tb : Table) (s t : State) → risen tb s part ≡ Ok t → t ≡ fold (apply tb) s (records_of there)
  come_up tb s t e =
      risen_is (is_cut (rest_of part) && all_fit tb s (records_of part)) (fold (apply tb) s (records_of part)) t e
      ∙ ap (λ es. fold (apply tb) s es) (ap records_of first_part.records ∙ one_reading.0 (records_of there) first_part.sound)

-- of a station that wrote these records when its power was cut with b bytes of them on its file
module _ (tb : Table) (p t q : Post) (es : List Record) (s : State) (m : Mind) (b k : ℕ) (at : k ≡ length (vec_items p.file) + b)
    (file : vec_items t.file ≡ vec_items p.file ++ journal_bytes es) (state : shown t ≡ s) (mind : mind_in t ≡ m) (cut : t.cut ≡ p.cut) where
  pub came_back : (result : Result Unit AllocError) → MatchResult result (λ _. Restarted tb (length (shown t).channels) (shown t).me (take k (vec_items t.file)) q) (λ _. Unchanged t q) → CameBack tb p es s m b q result
  came_back (Ok x) h = rw (← state, ← at, ← file) h
  came_back (Err x) h = record { file = h.file ∙ file; state = h.state ∙ state; mind = h.mind ∙ mind; cut = h.cut ∙ cut }
