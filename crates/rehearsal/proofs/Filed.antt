-- Files that are the bytes of records, after a step and after a cut.
-- Assumes nothing.
use Rattle.std.proofs.Common.{◌≡◌, ℕ, ◌+◌, List, [], ◌∷◌, ◌++◌, length, take, drop, vec_items, sym, subst, ap, ◌∙◌, append_assoc, take-append-drop}
use Rattle.std.proofs.Math.Seq.{take-append-add}
use Rattle.std.proofs.lemmas.Grind.{flat_map-append}
use Rattle.files.specs.Bytes.{AllSound, journal_bytes, record_bytes}
use Rattle.files.specs.Reading.{records_of}
use Rattle.files.proofs.Laws.{one_reading, cut_anywhere, cut_parts}
use Rattle.files.proofs.Parts.{Parts, only_parts, record_parts}
use Rattle.rehearsal.specs.Lives.{Filed, journal_of}
use Rattle.rehearsal.specs.declared.post.Post.{Post}
use Rattle.state.specs.declared.record.Record.{Record}

-- ---- sound records

sound_append : (es fs : List Record) → AllSound es → AllSound fs → AllSound (es ++ fs)
sound_append [] fs h g = g
sound_append (e ∷ es) fs h g = (h.0, sound_append es fs h.1 g)

-- ---- what is left of records that were cut

-- the records that are whole in the first b bytes of some
abbrev pub left : ℕ → List Record → List Record
left b es = records_of (take b (journal_bytes es))

-- they are the first of them
pub left_first : (b : ℕ) (es : List Record) → AllSound es → (hs : List Record) × (es ≡ left b es ++ hs)
left_first b es sound =
    let (n, c) = cut_anywhere es b sound in
    (drop n es, sym (take-append-drop n es) ∙ ap (λ l. l ++ drop n es) (sym c.read))

-- whatever is read behind records that are whole
behind : {bs : List ℕ} {fs : List Record} {rest : List ℕ} (js : List Record) → AllSound js → Parts bs fs rest → Parts (journal_bytes js ++ bs) (js ++ fs) rest
behind [] h p = p
behind {bs} {fs} {rest} (e ∷ js) h p =
    subst (λ (l : List ℕ). Parts l (e ∷ (js ++ fs)) rest) (sym (append_assoc (record_bytes e) (journal_bytes js) bs))
    (record_parts e (journal_bytes js ++ bs) (js ++ fs) rest h.0 (behind js h.1 p))

pub left_behind : (b : ℕ) (js es : List Record) → AllSound js → AllSound es → records_of (take (length (journal_bytes js) + b) (journal_bytes js ++ journal_bytes es)) ≡ js ++ left b es
left_behind b js es h sound =
    let (n, c) = cut_parts es b sound in
    ap records_of (take-append-add (journal_bytes js) (journal_bytes es) b) ∙ (only_parts (behind js h c.parts)).0 ∙ ap (λ l. js ++ l) (sym (only_parts c.parts).0)

-- ---- files

-- a file with just these records
pub filed_with : (q : Post) (es : List Record) → AllSound es → vec_items q.file ≡ journal_bytes es → (journal_of q ≡ es) × Filed q
filed_with q es sound e =
    let is : journal_of q ≡ es = ap records_of e ∙ one_reading.0 es sound in
    (is, record { whole = e ∙ ap journal_bytes (sym is); sound = rw is sound })

-- a file with these records behind those that were there
pub filed_then : (p q : Post) (es : List Record) → AllSound es → Filed p → vec_items q.file ≡ vec_items p.file ++ journal_bytes es → (journal_of q ≡ journal_of p ++ es) × Filed q
filed_then p q es sound f e =
    filed_with q (journal_of p ++ es) (sound_append (journal_of p) es f.sound sound)
    (e ∙ ap (λ l. l ++ journal_bytes es) f.whole ∙ sym (flat_map-append record_bytes (journal_of p) es))
