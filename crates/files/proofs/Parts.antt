-- A file read record by record, up to the first fault.
use Rattle.std.proofs.Common.{◌≡◌, ℕ, zero, suc, ◌<◌, ◌≤◌, Bor, List, [], ◌∷◌, ◌++◌, length, Result, Ok, Err, refl, ap, arith}
use Rattle.std.specs.Prelude.{IfOk, MatchResult}
use Rattle.files.specs.Bytes.{Sound, record_bytes}
use Rattle.files.specs.Reading.{first, records_in, records_of, rest_in, rest_of}
use Rattle.lines.specs.declared.fault.Fault.{Fault}
use Rattle.lines.specs.declared.fault.Fault.TheVariants.{Cut}
use Rattle.files.proofs.Firm.{less_left}
use Rattle.files.proofs.Records.{again}
use Rattle.state.specs.declared.record.Record.{Record}
use Rattle.state.specs.declared.record.Record.TheVariants.{Sold}
use Rattle.std.proofs.lemmas.List.{length-append}

pub data Parts : List ℕ → List Record → List ℕ → Type 0 where
  no_more : (bs : List ℕ) (f : Fault) → first bs ≡ Err f → Parts bs [] bs
  one_more : (bs : List ℕ) (e : Record) (behind : List ℕ) (es : List Record) (rest : List ℕ) → first bs ≡ Ok (e, behind) → length behind < length bs → Parts behind es rest → Parts bs (e ∷ es) rest

parts_in : {bs : List ℕ} {es : List Record} {rest : List ℕ} → Parts bs es rest → (n : ℕ) → length bs ≤ n → (records_in n bs ≡ es) × (rest_in n bs ≡ rest)
parts_in (no_more bs f e) zero h = (refl, refl)
parts_in (no_more bs f e) (suc n) h = (rw e refl, rw e refl)
parts_in (one_more bs x behind xs rest e less p) zero h = absurd (omega arith)
parts_in (one_more bs x behind xs rest e less p) (suc n) h =
    let more = parts_in p n (omega arith) in
    (rw e (ap (λ (ys : List Record). x ∷ ys) more.0), rw e more.1)

-- there is one way to read it
pub only_parts : {bs : List ℕ} {es : List Record} {rest : List ℕ} → Parts bs es rest → (records_of bs ≡ es) × (rest_of bs ≡ rest)
only_parts {bs = bs} p = parts_in p (length bs) (omega arith)

pub has_bytes : (e : Record) → 1 ≤ length (record_bytes e)
has_bytes (Sold k p) = omega arith
has_bytes e = omega arith

pub record_parts : (e : Record) (behind : List ℕ) (es : List Record) (rest : List ℕ) → Sound e → Parts behind es rest → Parts (record_bytes e ++ behind) (e ∷ es) rest
record_parts e behind es rest h p = one_more (record_bytes e ++ behind) e behind es rest (again e behind h) (omega (arith, has_bytes e, length-append (record_bytes e) behind)) p

abbrev pub SomeParts : List ℕ → Type 0
SomeParts bs = (es : List Record) × (rest : List ℕ) × Parts bs es rest

next_part : (bs : List ℕ) → ((ys : List ℕ) → length ys < length bs → SomeParts ys) → (r : Result (Record × List ℕ) Fault) → first bs ≡ r → SomeParts bs
next_part bs more (Err f) e = ([], bs, no_more bs f e)
next_part bs more (Ok x) e =
    let less = less_left bs x.0 x.1 e in
    let rest = more x.1 less in
    (x.0 ∷ rest.0, rest.1, one_more bs x.0 x.1 rest.0 rest.1 e less rest.2)

parts_below : (n : ℕ) (bs : List ℕ) → length bs ≤ n → SomeParts bs
parts_below zero [] le = ([], [], no_more [] Cut refl)
parts_below zero (b ∷ bs) le = absurd (omega arith)
parts_below (suc n) bs le = next_part bs (λ ys less. parts_below n ys (omega arith)) (first bs) refl

-- and always one
pub parts : (bs : List ℕ) → SomeParts bs
parts bs = parts_below (length bs) bs (omega arith)

pub shorter : (bs : List ℕ) (r : Result (Record × Bor (List ℕ)) Fault) → MatchResult r (λ x. first bs ≡ Ok (x.0, x.1.now)) (λ f. first bs ≡ Err f) → IfOk r (λ x. length x.1.now < length bs)
shorter bs (Ok x) e = less_left bs x.0 x.1.now e
shorter bs (Err f) e = tt
