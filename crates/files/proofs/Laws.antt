-- What holds of all files.
use Rattle.std.proofs.Common.{◌≡◌, ℕ, zero, suc, ◌+◌, ◌-◌, ◌<◌, ◌≤◌, List, [], ◌∷◌, ◌++◌, length, take, Result, Ok, Err, refl, sym, ap, subst, ◌∙◌, append_assoc, arith, inl, inr}
use Rattle.files.specs.Bytes.{AllSound, journal_bytes, record_bytes}
use Rattle.lines.specs.Bytes.{AreBytes}
use Rattle.files.specs.Laws.{Apart, CutAnywhere, InParts, Longest, OneReading}
use Rattle.files.specs.Reading.{first, records_of}
use Rattle.lines.specs.declared.fault.Fault.{Fault}
use Rattle.lines.specs.declared.fault.Fault.TheVariants.{Cut}
use Rattle.files.proofs.Firm.{still_read}
use Rattle.lines.proofs.Layouts.{bytes_behind, ok_is, take_both}
use Rattle.files.proofs.Parts.{Parts, no_more, one_more, only_parts, parts, record_parts}
use Rattle.files.proofs.Records.{again, back, short}
use Rattle.state.specs.declared.record.Record.{Record}
use Rattle.std.proofs.lemmas.Bool.{cases_lt}
use Rattle.std.proofs.lemmas.List.{length-append, take-append-le}
use Rattle.std.proofs.Math.Seq.{take-nil}

abbrev Read : Type 0
Read = Record × List ℕ

abbrev read : Record → List ℕ → Result Read Fault
read e ys = Ok (e, ys)

one_read : (e f : Record) (ys zs : List ℕ) → read e ys ≡ read f zs → (e ≡ f) × (ys ≡ zs)
one_read e f ys zs is = let same = ok_is (e, ys) (f, zs) is in (ap (λ (x : Read). x.0) same, ap (λ (x : Read). x.1) same)

pub apart : Apart
apart e f h g is = (one_read e f [] [] (sym (again e [] h) ∙ ap (λ (bs : List ℕ). first (bs ++ [])) is ∙ again f [] g)).0

-- ---- a journal's bytes

journal_parts : (es : List Record) → AllSound es → Parts (journal_bytes es) es []
journal_parts [] h = no_more [] Cut refl
journal_parts (e ∷ es) h = record_parts e (journal_bytes es) es [] h.0 (journal_parts es h.1)

journal_read : (es : List Record) → AllSound es → records_of (journal_bytes es) ≡ es
journal_read es h = (only_parts (journal_parts es h)).0

pub one_reading : OneReading
one_reading = (journal_read, λ es fs h g is. sym (journal_read es h) ∙ ap records_of is ∙ journal_read fs g)

-- ---- the first part of a file

record Front (bs : List ℕ) (es : List Record) (rest : List ℕ) : Type 0 where
  pub sound : AllSound es
  pub behind : bs ≡ journal_bytes es ++ rest
  pub longest : (fs : List Record) (ys : List ℕ) → AllSound fs → bs ≡ journal_bytes fs ++ ys → length (journal_bytes fs) ≤ length (journal_bytes es)

no_longer : (bs : List ℕ) (f : Fault) (fs : List Record) (ys : List ℕ) → first bs ≡ Err f → AllSound fs → bs ≡ journal_bytes fs ++ ys → length (journal_bytes fs) ≤ 0
no_longer bs f [] ys e h is = omega arith
no_longer bs f (x ∷ fs) ys e h is =
    let r : first bs ≡ Ok (x, journal_bytes fs ++ ys) = ap first (is ∙ append_assoc (record_bytes x) (journal_bytes fs) ys) ∙ again x (journal_bytes fs ++ ys) h.0 in
    absurd cc

longer : (bs : List ℕ) (e : Record) (behind : List ℕ) (n : ℕ) → first bs ≡ Ok (e, behind) → ((fs : List Record) (ys : List ℕ) → AllSound fs → behind ≡ journal_bytes fs ++ ys → length (journal_bytes fs) ≤ n)
    → (fs : List Record) (ys : List ℕ) → AllSound fs → bs ≡ journal_bytes fs ++ ys → length (journal_bytes fs) ≤ length (record_bytes e) + n
longer bs e behind n r most [] ys h is = omega arith
longer bs e behind n r most (x ∷ fs) ys h is =
    let s : first bs ≡ read x (journal_bytes fs ++ ys) = ap first (is ∙ append_assoc (record_bytes x) (journal_bytes fs) ys) ∙ again x (journal_bytes fs ++ ys) h.0 in
    let same = one_read e x behind (journal_bytes fs ++ ys) (sym r ∙ s) in
    omega (arith, most fs ys h.1 same.1, length-append (record_bytes x) (journal_bytes fs), ap (λ (f : Record). length (record_bytes f)) same.0)

front : {bs : List ℕ} {es : List Record} {rest : List ℕ} → Parts bs es rest → AreBytes bs → Front bs es rest
front (no_more bs f e) h = record { sound = tt; behind = refl; longest = λ fs ys g is. no_longer bs f fs ys e g is }
front (one_more bs e behind es rest r less p) h =
    let g = back bs e behind h r in
    let more = front p (bytes_behind (record_bytes e) behind (subst AreBytes g.1 h)) in
    record {
      sound = (g.0, more.sound);
      behind = g.1 ∙ ap (λ (t : List ℕ). record_bytes e ++ t) more.behind ∙ sym (append_assoc (record_bytes e) (journal_bytes es) rest);
      longest = λ fs ys k is. omega (arith, longer bs e behind (length (journal_bytes es)) r more.longest fs ys k is, length-append (record_bytes e) (journal_bytes es));
    }

pub longest : Longest
longest bs h =
    let p = parts bs in
    let f = front p.2 h in
    let o = only_parts p.2 in
    record {
      records = refl;
      sound = subst AllSound (sym o.0) f.sound;
      behind = rw (o.0, o.1) f.behind;
      longest = λ es ys g is. rw o.0 (f.longest es ys g is);
    }

-- ---- a journal that was cut

pub record CutParts (es : List Record) (k n : ℕ) : Type 0 where
  pub rest : List ℕ
  pub parts : Parts (take k (journal_bytes es)) (take n es) rest
  pub is_cut : first rest ≡ Err Cut
  pub whole : (j : ℕ) → j ≤ length es → length (journal_bytes (take j es)) ≤ k → j ≤ n

none_whole : (e : Record) (es : List Record) (k : ℕ) → k < length (record_bytes e) → (j : ℕ) → length (journal_bytes (take j (e ∷ es))) ≤ k → j ≤ 0
none_whole e es k near zero fit = omega arith
none_whole e es k near (suc j) fit = absurd (omega (arith, near, fit, length-append (record_bytes e) (journal_bytes (take j es))))

more_whole : (e : Record) (es : List Record) (k n : ℕ) → ((j : ℕ) → j ≤ length es → length (journal_bytes (take j es)) ≤ k - length (record_bytes e) → j ≤ n)
    → (j : ℕ) → j ≤ suc (length es) → length (journal_bytes (take j (e ∷ es))) ≤ k → j ≤ suc n
more_whole e es k n more zero le fit = omega arith
more_whole e es k n more (suc j) le fit =
    let within : length (journal_bytes (take j es)) ≤ k - length (record_bytes e) = omega (arith, fit, length-append (record_bytes e) (journal_bytes (take j es))) in
    omega (arith, more j (omega arith) within)

pub cut_parts : (es : List Record) (k : ℕ) → AllSound es → (n : ℕ) × CutParts es k n
cut_parts [] k h = (0, record { rest = []; parts = rw (take-nil k) (no_more [] Cut refl); is_cut = refl; whole = λ j le _. le })
cut_parts (e ∷ es) k h =
    elim (cases_lt k (length (record_bytes e))) [
      | inl near ↦
          let le : k ≤ length (record_bytes e) = omega arith in (
            0,
            record {
              rest = take k (record_bytes e);
              parts = rw (take-append-le k (record_bytes e) (journal_bytes es) le) (no_more (take k (record_bytes e)) Cut (short e k h.0 near));
              is_cut = short e k h.0 near;
              whole = λ j _ fit. none_whole e es k near j fit;
            },
          )
      | inr far ↦
          let c = cut_parts es (k - length (record_bytes e)) h.1 in (
            suc c.0,
            record {
              rest = c.1.rest;
              parts = rw (take_both k (record_bytes e) (journal_bytes es) far) (record_parts e (take (k - length (record_bytes e)) (journal_bytes es)) (take c.0 es) c.1.rest h.0 c.1.parts);
              is_cut = c.1.is_cut;
              whole = more_whole e es k c.0 c.1.whole;
            },
          )
    ]

pub cut_anywhere : CutAnywhere
cut_anywhere es k h =
    let c = cut_parts es k h in
    let o = only_parts c.1.parts in
    (c.0, record { read = o.0; whole = c.1.whole; behind = rw (o.1, c.1.is_cut) refl })

-- ---- a file in parts

glued : {xs : List ℕ} {es : List Record} {rest : List ℕ} (ys : List ℕ) (fs : List Record) (end : List ℕ) → Parts xs es rest → Parts (rest ++ ys) fs end → Parts (xs ++ ys) (es ++ fs) end
glued ys fs end (no_more xs f e) q = q
glued ys fs end (one_more xs e behind es rest r less p) q =
    one_more (xs ++ ys) e (behind ++ ys) (es ++ fs) end (still_read xs ys e behind r) (omega (arith, length-append xs ys, length-append behind ys)) (glued ys fs end p q)

pub in_parts : InParts
in_parts xs ys =
    let p = parts xs in
    let q = parts (p.1 ++ ys) in
    let o = only_parts p.2 in
    let o′ = only_parts q.2 in
    let all = only_parts (glued ys q.0 q.1 p.2 q.2) in
    (rw (o.0, o.1, o′.0) all.0, rw (o.1, o′.1) all.1)
