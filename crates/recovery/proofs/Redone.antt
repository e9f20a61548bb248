-- A replay up to a place of the file.
-- Assumes nothing.
use Rattle.std.proofs.Common.{◌≡◌, ℕ, ◌+◌, ◌<◌, ◌≤◌, Bool, true, false, ◌&&◌, ◌⊎◌, List, [], ◌∷◌, ◌++◌, length, fold, Ok, Err, sym, refl, ap, ◌∙◌, inl, inr, ⊎_elim, append_assoc, arith, length-append}
use Rattle.files.proofs.Laws.{one_reading}
use Rattle.files.proofs.Parts.{one_more, only_parts, parts}
use Rattle.files.specs.Laws.{IsFirstPart}
use Rattle.files.specs.Reading.{first, is_cut, records_of, rest_of}
use Rattle.giving.specs.Calls.{unless}
use Rattle.giving.specs.declared.refusal.Refusal.{Refusal}
use Rattle.giving.specs.declared.refusal.Refusal.TheVariants.{Malformed, Memory}
use Rattle.recovery.proofs.Journals.{fit_join}
use Rattle.recovery.specs.Replays.{Stopped}
use Rattle.recovery.specs.Rising.{risen}
use Rattle.state.specs.Changes.{all_fit, apply, fits}
use Rattle.state.specs.Ready.{Spent}
use Rattle.state.specs.States.{State}
use Rattle.state.specs.Views.{view}
use Rattle.state.specs.declared.record.Record.{Record}
use Rattle.state.specs.declared.station.Station.{Station}
use Rattle.std.proofs.lemmas.List.Sums.{fold_push}
use Rattle.timetable.specs.Rows.{Table}

-- so many records before the place are done, and the others are read from it
pub record Redone (tb : Table) (s : State) (bs rest : List ℕ) (t : State) (n : ℕ) : Type 0 where
  pub done : List Record
  pub counted : n ≡ length done
  pub short : n + length rest ≤ length bs
  pub split : records_of bs ≡ done ++ records_of rest
  pub fit : all_fit tb s done ≡ true
  pub state : t ≡ fold (apply tb) s done

-- the record that is read next
module _ (rest : List ℕ) (e : Record) (behind : List ℕ) (is : first rest ≡ Ok (e, behind)) where
  records_next : length behind < length rest → records_of rest ≡ e ∷ records_of behind
  records_next less =
      let (es, end, p) = parts behind in
      (only_parts (one_more rest e behind es end is less p)).0 ∙ ap (λ xs. e ∷ xs) (sym (only_parts p).0)

module _ (tb : Table) (s : State) (bs : List ℕ) where
  -- a record does not fit
  unfit : all_fit tb s (records_of bs) ≡ false → risen tb s bs ≡ Err Malformed
  unfit f = ap (λ y. unless (is_cut (rest_of bs) && y) Malformed (Ok (fold (apply tb) s (records_of bs)))) f ∙ go (is_cut (rest_of bs))
    where
      go : (x : Bool) → unless (x && false) Malformed (Ok (fold (apply tb) s (records_of bs))) ≡ Err Malformed
      go true = refl
      go false = refl

  -- at the first part of the file nothing is done
  pub redone_none : (part : List ℕ) → IsFirstPart bs part → Redone tb s bs part s 0
  redone_none part f = record { done = []; counted = refl; short = omega (arith, ap length f.behind, length-append part (rest_of bs)); split = sym (ap records_of f.records ∙ one_reading.0 (records_of bs) f.sound); fit = refl; state = refl }

  module _ (rest : List ℕ) (t : State) (n : ℕ) (r : Redone tb s bs rest t n) where
    -- the next record of it
    module _ (e : Record) (behind : List ℕ) (is : first rest ≡ Ok (e, behind)) (less : length behind < length rest) where
      split_next : records_of bs ≡ r.done ++ e ∷ records_of behind
      split_next = r.split ∙ ap (λ es. r.done ++ es) (records_next rest e behind is less)

      fit_next : (b : Bool) → fits tb t e ≡ b → (es : List Record) → all_fit tb s (r.done ++ e ∷ es) ≡ (b && all_fit tb (apply tb t e) es)
      fit_next b f es =
          fit_join tb s r.done (e ∷ es) ∙ ap (λ x. x && all_fit tb (fold (apply tb) s r.done) (e ∷ es)) r.fit
          ∙ ap (λ z. all_fit tb z (e ∷ es)) (sym r.state) ∙ ap (λ x. x && all_fit tb (apply tb t e) es) f

      pub redone_more : (u : State) → fits tb t e ≡ true → u ≡ apply tb t e → Redone tb s bs behind u (n + 1)
      redone_more u f h =
          record {
            done = r.done ++ e ∷ [];
            counted = omega (arith, r.counted, length-append r.done (e ∷ []));
            short = omega (arith, r.short, less);
            split = split_next ∙ sym (append_assoc r.done (e ∷ []) (records_of behind));
            fit = fit_next true f [];
            state = h ∙ ap (λ z. apply tb z e) r.state ∙ sym (fold_push (apply tb) s r.done e);
          }

      -- where the next record is not done
      pub stopped_here : (z : Station) (q : Refusal) → view z ≡ t → ((q ≡ Malformed) × (fits tb t e ≡ false)) ⊎ ((q ≡ Memory) × (fits tb t e ≡ true) × Spent z e) → Stopped tb s bs z q
      stopped_here z q h why =
          record {
            done = r.done;
            left = e ∷ records_of behind;
            split = split_next;
            state = h ∙ r.state;
            why = ⊎_elim
                (λ m. inl (m.0, unfit (ap (all_fit tb s) split_next ∙ fit_next false m.1 (records_of behind))))
                (λ m. inr (m.0, e, records_of behind, refl, fit_next true m.1 [], m.2)) why;
          }

-- what a station that begins may be refused for
pub stopped_why : (tb : Table) (s : State) (bs : List ℕ) (z : Station) (q : Refusal) → Stopped tb s bs z q → (q ≡ Memory) ⊎ ((q ≡ Malformed) × (risen tb s bs ≡ Err Malformed))
stopped_why tb s bs z q h = ⊎_elim (λ m. inr m) (λ m. inl m.0) h.why
