-- What holds of all messages.
use Rattle.std.proofs.Common.{◌≡◌, ℕ, ◌≤◌, List, [], ◌∷◌, Ok, refl, sym, ap, subst, ◌∙◌, arith, inl, inr}
use Rattle.giving.specs.declared.message.Body.{Body}
use Rattle.lines.specs.Bytes.{SoundBody, body_bytes}
use Rattle.lines.specs.Laws.{Apart, CutShort, NoneOther, OtherKind, ReadIsWritten, ReadsBack, Refuses, TooLong, WrittenIsRead}
use Rattle.lines.specs.Reading.{alone, first, message}
use Rattle.lines.proofs.Bodies.{again, back, short}
use Rattle.lines.proofs.Layouts.{bound, ok_is}
use Rattle.std.proofs.lemmas.Bool.{ne_eqb}
use Rattle.std.proofs.lemmas.List.{append-nil}

pub written_is_read : WrittenIsRead
written_is_read b h =
    let is : first (body_bytes b) ≡ Ok (b, []) = ap first (sym (append-nil (body_bytes b))) ∙ again b [] h in
    rw is refl

alone_is : (b c : Body) (cs : List ℕ) → alone b cs ≡ Ok c → (b ≡ c) × (cs ≡ [])
alone_is b c [] e = (ok_is b c e, refl)
alone_is b c (x ∷ xs) e = absurd cc

read_is_written : ReadIsWritten
read_is_written bs b h is =
    let x = bound (first bs) _ b is in
    let m = x.0 in
    let end = alone_is m.0 b m.1 x.2 in
    let w = back bs m.0 m.1 h x.1 in
    (subst SoundBody end.0 w.0, w.1 ∙ rw (end.0, end.1) (append-nil (body_bytes b)))

pub reads_back : ReadsBack
reads_back = (written_is_read, read_is_written)

pub apart : Apart
apart b c h g is = ok_is b c (sym (written_is_read b h) ∙ ap message is ∙ written_is_read c g)

cut_short : CutShort
cut_short b k h lt = rw (short b k h lt) refl

too_long : TooLong
too_long b c cs h = rw (again b (c ∷ cs) h) refl

other_kind : OtherKind
other_kind k bs h = rw (ne_eqb k 1 (no 1 (omega arith) (omega arith)), ne_eqb k 2 (no 2 (omega arith) (omega arith)), ne_eqb k 3 (no 3 (omega arith) (omega arith)), ne_eqb k 4 (no 4 (omega arith) (omega arith)), ne_eqb k 5 (no 5 (omega arith) (omega arith))) refl
  where
    no : (n : ℕ) → 1 ≤ n → n ≤ 5 → k ≡ n → ⊥
    no n low high e = elim h [
      | inl l ↦ omega arith
      | inr g ↦ omega arith
    ]

none_other : NoneOther
none_other bs f is b h same =
    let read = sym (written_is_read b h) ∙ ap message (sym same) ∙ is in
    absurd cc

pub refuses : Refuses
refuses = (cut_short, too_long, other_kind, none_other)
