-- A place in a file that was reached record by record.
use Rattle.std.proofs.Common.{◌≡◌, ℕ, ◌-◌, ◌<◌, ◌≤◌, List, [], ◌∷◌, ◌++◌, length, take, Ok, Err, sym, ap, subst, ◌∙◌, append_assoc, arith}
use Rattle.files.specs.Bytes.{journal_bytes}
use Rattle.lines.specs.Bytes.{AreBytes}
use Rattle.files.specs.Laws.{IsFirstPart}
use Rattle.files.specs.Reading.{first, records_of}
use Rattle.lines.specs.declared.fault.Fault.{Fault}
use Rattle.files.proofs.Laws.{longest}
use Rattle.files.proofs.Parts.{Parts, no_more, one_more, only_parts}
use Rattle.state.specs.declared.record.Record.{Record}
use Rattle.std.proofs.lemmas.List.{length-append, take_at}

-- with the parts of what is left, the file has those records, and the ones before
pub record Reached (file rest : List ℕ) : Type 0 where
  pub before : List Record
  pub parts : (es : List Record) (end : List ℕ) → Parts rest es end → Parts file (before ++ es) end
  pub within : length rest ≤ length file

pub reached_start : (file : List ℕ) → Reached file file
reached_start file = record { before = []; parts = λ es end p. p; within = omega arith }

pub reached_next : (file rest : List ℕ) (e : Record) (behind : List ℕ) → Reached file rest → first rest ≡ Ok (e, behind) → length behind < length rest → Reached file behind
reached_next file rest e behind r is less = record {
  before = r.before ++ e ∷ [];
  parts = λ es end p. subst (λ (xs : List Record). Parts file xs end) (sym (append_assoc r.before (e ∷ []) es)) (r.parts (e ∷ es) end (one_more rest e behind es end is less p));
  within = omega (arith, r.within);
}

front_of : (file part rest : List ℕ) → file ≡ part ++ rest → take (length file - length rest) file ≡ part
front_of file part rest is = ap (λ (t : List ℕ). take (length t - length rest) t) is ∙ take_at part rest (length (part ++ rest) - length rest) (omega (arith, length-append part rest))

pub reached_end : (file rest : List ℕ) (f : Fault) → AreBytes file → Reached file rest → first rest ≡ Err f → IsFirstPart file (take (length file - length rest) file)
reached_end file rest f h r is =
    let o = only_parts (r.parts [] rest (no_more rest f is)) in
    let l = longest file h in
    subst (IsFirstPart file) (sym (front_of file (journal_bytes (records_of file)) rest (rw o.1 at l.behind))) l
