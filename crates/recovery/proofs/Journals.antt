-- What a station has written has bytes, and fits.
-- Assumes nothing.
use Rattle.std.proofs.Common.{◌≡◌, ℕ, true, ◌&&◌, List, [], ◌∷◌, ◌++◌, fold, Ok, sym, refl, ap, ◌∙◌, subst}
use Rattle.files.specs.Bytes.{AllSound}
use Rattle.ledger.proofs.Decided.{opens_admitted, opens_fits}
use Rattle.ledger.specs.Decisions.{Answer, decided_open, listing, records}
use Rattle.ledger.specs.declared.input.Outcome.TheVariants.{Done}
use Rattle.network.proofs.Bridge.{put_extends}
use Rattle.network.proofs.Grow.{apply_more, fits_more}
use Rattle.network.specs.Promises.{Extends}
use Rattle.recovery.proofs.Sounding.{opened_sound, written_fits, written_sound}
use Rattle.recovery.specs.Runs.{Did, nothing, handled, opened, fell, grew, led}
use Rattle.state.specs.Changes.{all_fit, apply, fits}
use Rattle.state.specs.States.{State, begun}
use Rattle.state.specs.declared.record.Record.{Record}
use Rattle.std.proofs.Math.Bool.{and_assoc}
use Rattle.std.proofs.lemmas.Bool.{and_from, and_parts}
use Rattle.timetable.specs.Rows.{Table}
use Rattle.timetable.specs.declared.row.Row.{Row}

-- ---- several records

pub sound_join : (xs ys : List Record) → AllSound xs → AllSound ys → AllSound (xs ++ ys)
sound_join [] ys a b = b
sound_join (x ∷ xs) ys a b = (a.0, sound_join xs ys a.1 b)

sound_front : (xs ys : List Record) → AllSound (xs ++ ys) → AllSound xs
sound_front [] ys a = tt
sound_front (x ∷ xs) ys a = (a.0, sound_front xs ys a.1)

-- records fit where the first of them do, and the others behind those
pub fit_join : (tb : Table) (s : State) (xs ys : List Record) → all_fit tb s (xs ++ ys) ≡ (all_fit tb s xs && all_fit tb (fold (apply tb) s xs) ys)
fit_join tb s [] ys = refl
fit_join tb s (e ∷ xs) ys = ap (λ b. fits tb s e && b) (fit_join tb (apply tb s e) xs ys) ∙ sym (and_assoc (fits tb s e) (all_fit tb (apply tb s e) xs) (all_fit tb (fold (apply tb) (apply tb s e) xs) ys))

pub fit_front : (tb : Table) (s : State) (xs ys : List Record) → all_fit tb s (xs ++ ys) ≡ true → all_fit tb s xs ≡ true
fit_front tb s xs ys h = (and_parts (all_fit tb s xs) (all_fit tb (fold (apply tb) s xs) ys) (sym (fit_join tb s xs ys) ∙ h)).0

-- ---- a timetable with more trains

pub grown : (tb ub : Table) → Extends tb ub → (s : State) (es : List Record) → all_fit tb s es ≡ true → (all_fit ub s es ≡ true) × (fold (apply tb) s es ≡ fold (apply ub) s es)
grown tb ub ext s [] h = (refl, refl)
grown tb ub ext s (e ∷ es) h =
    let (f, g) = and_parts (fits tb s e) (all_fit tb (apply tb s e) es) h in
    let (a, b) = grown tb ub ext (apply tb s e) es g in
    let same = apply_more tb ub ext s e f in
    (and_from _ _ (fits_more tb ub ext s e f) (subst (λ x. all_fit ub x es ≡ true) same a), b ∙ ap (λ x. fold (apply ub) x es) same)

pub listing_extends : (tb : Table) (s : State) (r : Row) (o : Answer) → decided_open tb s r ≡ o → Extends tb (listing tb r o)
listing_extends tb s r (Ok (Done e)) h = put_extends tb r (opens_admitted tb s r e h)
listing_extends tb s r o h = λ k q e. e

-- ---- what was written

module _ (n i : ℕ) where
  pub did_stands : {tb : Table} {es : List Record} → Did n i tb es → AllSound es × (all_fit tb (begun n i) es ≡ true)
  did_stands (nothing tb) = (tt, refl)
  did_stands (handled {tb} {es} d m e t) =
      let (a, f) = did_stands d in
      let s = led n i tb es in
      (sound_join es _ a (written_sound tb s m e t), fit_join tb (begun n i) es _ ∙ and_from _ _ f (written_fits tb s m e))
  did_stands (opened {tb} {es} d r t) =
      let (a, f) = did_stands d in
      let s = led n i tb es in
      let o = decided_open tb s r in
      let ub = listing tb r o in
      let (g, same) = grown tb ub (listing_extends tb s r o refl) (begun n i) es f in (
        sound_join es (records o) a (opened_sound tb s r t),
        fit_join ub (begun n i) es (records o) ∙ and_from _ _ g (subst (λ x. all_fit ub x (records o) ≡ true) same (opens_fits tb s r)),
      )
  did_stands (fell {tb} es fs d) =
      let (a, f) = did_stands d in
      (sound_front es fs a, fit_front tb (begun n i) es fs f)
  did_stands (grew {tb} {es} ub ext d) =
      let (a, f) = did_stands d in
      (a, (grown tb ub ext (begun n i) es f).0)
