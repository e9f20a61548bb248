-- A station comes up from any first part of its file, and from a file that is read in parts.
-- Assumes nothing.
use Rattle.std.proofs.Common.{◌≡◌, ℕ, ◌+◌, ◌-◌, ◌≤◌, Bool, true, false, ◌&&◌, List, ◌++◌, length, take, drop, fold, Ok, Result, sym, refl, ap, ◌∙◌, subst, append_assoc, arith, length-append}
use Rattle.files.specs.Bytes.{journal_bytes}
use Rattle.files.specs.Laws as files
use Rattle.files.specs.Reading.{is_cut, records_of, rest_of}
use Rattle.giving.specs.Calls.{unless}
use Rattle.giving.specs.declared.refusal.Refusal.{Refusal}
use Rattle.giving.specs.declared.refusal.Refusal.TheVariants.{Malformed}
use Rattle.recovery.proofs.Journals.{did_stands, fit_front, fit_join}
use Rattle.recovery.specs.Laws.{ComesUp, InParts, onward}
use Rattle.recovery.specs.Rising.{risen}
use Rattle.state.specs.Changes.{all_fit, apply}
use Rattle.state.specs.States.{State, begun}
use Rattle.state.specs.declared.record.Record.{Record}
use Rattle.std.proofs.Math.Seq.{take-append-add}
use Rattle.std.proofs.lemmas.Bool.{and_from}
use Rattle.std.proofs.lemmas.List.{length-take, take-append-drop, take_at}
use Rattle.std.proofs.lemmas.List.Sums.{fold-append}
use Rattle.timetable.specs.Rows.{Table}

-- a file whose records fit, with a record behind them that was cut
pub risen_is : (tb : Table) (s : State) (bs : List ℕ) (es : List Record) → records_of bs ≡ es → is_cut (rest_of bs) ≡ true → all_fit tb s es ≡ true → risen tb s bs ≡ Ok (fold (apply tb) s es)
risen_is tb s bs es r c f =
    ap (λ b. unless b Malformed (Ok (fold (apply tb) s (records_of bs)))) (and_from _ _ c (ap (all_fit tb s) r ∙ f))
    ∙ ap (λ xs. Ok (fold (apply tb) s xs)) r

pub comes_up : files.CutAnywhere → ComesUp
comes_up cut n i tb es fs d k l =
    let (sound, fit) = did_stands n i d in
    let (m, c) = cut (es ++ fs) k sound in
    let at_es : take (length es) (es ++ fs) ≡ es = take_at es fs (length es) refl in
    let all = length-append es fs in
    let low : length es ≤ m = c.whole (length es) (omega arith) (subst (λ xs. length (journal_bytes xs) ≤ k) (sym at_es) l) in
    let j : m ≡ length es + (m - length es) = omega arith in
    let gs = take (m - length es) fs in
    let hs = drop (m - length es) fs in
    let left : take m (es ++ fs) ≡ es ++ gs = ap (λ (a : ℕ). take a (es ++ fs)) j ∙ take-append-add es fs (m - length es) in
    let split : fs ≡ gs ++ hs = sym (take-append-drop (m - length es) fs) in
    let fits : all_fit tb (begun n i) (es ++ gs) ≡ true = fit_front tb (begun n i) (es ++ gs) hs (ap (all_fit tb (begun n i)) (append_assoc es gs hs ∙ ap (λ xs. es ++ xs) (sym split)) ∙ fit) in (
      gs,
      hs,
      split,
      risen_is tb (begun n i) (take k (journal_bytes (es ++ fs))) (es ++ gs) (c.read ∙ left) c.behind fits,
      λ xs ys is h.
          let here : take (length es + length xs) (es ++ fs) ≡ es ++ xs = take-append-add es fs (length xs) ∙ ap (λ zs. es ++ zs) (ap (take (length xs)) is ∙ take_at xs ys (length xs) refl) in
          let long : length fs ≡ length xs + length ys = ap length is ∙ length-append xs ys in
          let whole = c.whole (length es + length xs) (omega arith) (subst (λ zs. length (journal_bytes zs) ≤ k) (sym here) h) in
          omega (arith, length-take (m - length es) fs),
    )

-- what does not fit is refused, and what does goes on with what is behind it
onward_by : (x b y : Bool) (t : State) (u : Result State Refusal) (f : State → Result State Refusal) → f t ≡ unless (x && y) Malformed u → unless (x && (b && y)) Malformed u ≡ onward (unless b Malformed (Ok t)) f
onward_by x true y t u f h = sym h
onward_by true false y t u f h = refl
onward_by false false y t u f h = refl

pub in_parts : files.InParts → InParts
in_parts parts tb s xs ys c =
    let (r, q) = parts xs ys in
    let zs = rest_of xs ++ ys in
    let t = fold (apply tb) s (records_of xs) in
    let x = is_cut (rest_of zs) in
    let y = all_fit tb t (records_of zs) in
    let u = Ok (fold (apply tb) t (records_of zs)) in
    let whole : risen tb s (xs ++ ys) ≡ unless (x && (all_fit tb s (records_of xs) && y)) Malformed u = rw (r, q, fit_join tb s (records_of xs) (records_of zs), fold-append (apply tb) s (records_of xs) (records_of zs)) refl in
    let front : unless (all_fit tb s (records_of xs)) Malformed (Ok t) ≡ risen tb s xs = ap (λ z. unless (z && all_fit tb s (records_of xs)) Malformed (Ok t)) (sym c) in
    whole ∙ onward_by x (all_fit tb s (records_of xs)) y t u (λ v. risen tb v zs) refl ∙ ap (λ z. onward z (λ v. risen tb v zs)) front
