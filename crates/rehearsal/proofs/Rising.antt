-- A station's file, whatever of it is left, is one that a station comes up from.
-- Assumes nothing.
use Rattle.std.proofs.Common.{◌≡◌, ℕ, zero, suc, ◌<◌, Bool, true, List, [], ◌∷◌, length, map, get_or, vec_items, fold, take, drop, Ok, sym, refl, ap, ◌∙◌, subst, arith}
use Rattle.files.proofs.Laws.{cut_anywhere}
use Rattle.files.specs.Bytes.{journal_bytes}
use Rattle.files.specs.Reading.{records_of}
use Rattle.giving.proofs.Mapped.{map_at}
use Rattle.giving.specs.declared.message.Message.{Message}
use Rattle.recovery.proofs.Journals.{did_stands, fit_front}
use Rattle.recovery.proofs.Rises.{risen_is}
use Rattle.recovery.specs.Rising.{risen}
use Rattle.rehearsal.specs.Lives.{Filed, Lives, journal_of, nowhere, shown}
use Rattle.rehearsal.specs.declared.post.Post.{Post}
use Rattle.state.specs.Changes.{all_fit, apply}
use Rattle.state.specs.States.{begun}
use Rattle.std.proofs.lemmas.List.{take_all, take-append-drop}
use Rattle.timetable.specs.Rows.{Table}

-- there is a station at each place
post_at : (ps : List Post) (k : ℕ) → k < length ps → (p : Post) × (p ≡ get_or ps k p)
post_at [] k h = absurd (omega arith)
post_at (p ∷ ps) zero h = (p, refl)
post_at (p ∷ ps) (suc k) h = post_at ps k (omega arith)

module _ (tb : Table) (ps : List Post) (ms : List Message) (x : Bool) (l : Lives tb ps ms x) (k : ℕ) (b : k < length ps) where
  abbrev file : List ℕ
  file = get_or (map (λ p. vec_items p.file) ps) k []

  abbrev here : Post
  here = (post_at ps k b).0

  filed : Filed here
  filed = subst Filed (sym (post_at ps k b).1) (l.filed k here b)

  file_is : file ≡ journal_bytes (journal_of here)
  file_is = map_at (λ p. vec_items p.file) ps k here [] b (post_at ps k b).1 ∙ filed.whole

  fits : all_fit tb (begun (length ps) k) (journal_of here) ≡ true
  fits = subst (λ es. all_fit tb (begun (length ps) k) es ≡ true) (map_at journal_of ps k here [] b (post_at ps k b).1) (did_stands (length ps) k (l.did k b)).1

  pub left_rises : (n : ℕ) → risen tb (begun (length ps) k) (take n file) ≡ Ok (fold (apply tb) (begun (length ps) k) (records_of (take n file)))
  left_rises n =
      let es = journal_of here in
      let (m, c) = cut_anywhere es n filed.sound in
      let at = ap (take n) file_is in
      let read : records_of (take n file) ≡ take m es = ap records_of at ∙ c.read in
      let fit = fit_front tb (begun (length ps) k) (take m es) (drop m es) (ap (all_fit tb (begun (length ps) k)) (take-append-drop m es) ∙ fits) in
      ap (risen tb (begun (length ps) k)) at ∙ risen_is tb (begun (length ps) k) (take n (journal_bytes es)) (take m es) c.read c.behind fit ∙ ap (λ xs. Ok (fold (apply tb) (begun (length ps) k) xs)) (sym read)

  pub all_rises : risen tb (begun (length ps) k) file ≡ Ok (get_or (map shown ps) k nowhere)
  all_rises =
      let whole : take (length file) file ≡ file = take_all (length file) file (omega arith) in
      let read : records_of file ≡ journal_of here = ap records_of (map_at (λ p. vec_items p.file) ps k here [] b (post_at ps k b).1) in
      ap (risen tb (begun (length ps) k)) (sym whole) ∙ left_rises (length file) ∙ ap (λ bs. Ok (fold (apply tb) (begun (length ps) k) (records_of bs))) whole
      ∙ ap (λ es. Ok (fold (apply tb) (begun (length ps) k) es)) (read ∙ sym (map_at journal_of ps k here [] b (post_at ps k b).1)) ∙ ap Ok (sym (l.faithful k b))
