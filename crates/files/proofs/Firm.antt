-- Readers that more bytes behind do not sway.
use Rattle.std.proofs.Common.{◌≡◌, ℕ, ◌*◌, ◌<◌, ◌≤◌, Bool, true, false, cond, eqb, ltb, List, [], ◌∷◌, ◌++◌, length, take, drop, Result, Ok, Err, refl, ap, subst, arith}
use Rattle.files.specs.Reading.{as_asked, as_closed, as_declined, as_given, as_heard, as_opened, as_sold, as_taken, as_undone, first, of_kind, party, people, pieces}
use Rattle.lines.specs.Fields.{◌>>=◌, Reader, byte, checked, front, made, number, piece, piece_from, then}
use Rattle.lines.specs.declared.fault.Fault.{Fault}
use Rattle.lines.specs.declared.fault.Fault.TheVariants.{Cut, Bad}
use Rattle.lines.proofs.Layouts.{bound, ok_is}
use Rattle.state.specs.declared.record.Record.{Record}
use Rattle.std.proofs.lemmas.Bool.{le-ltb, ltb-false}
use Rattle.std.proofs.lemmas.List.{drop-append-le, length-append, length-drop, take-append-le}
use Rattle.std.specs.Int.{Width, w16, w32, byte_len, from_be_bytes}

-- what is read is read still, what is bad is bad still; and no byte is made
pub record Firm {A : Type 0} (r : Reader A) : Type 0 where
  pub ok : (bs ys : List ℕ) (x : A) (rest : List ℕ) → r bs ≡ Ok (x, rest) → r (bs ++ ys) ≡ Ok (x, rest ++ ys)
  pub bad : (bs ys : List ℕ) → r bs ≡ Err Bad → r (bs ++ ys) ≡ Err Bad
  pub less : (bs : List ℕ) (x : A) (rest : List ℕ) → r bs ≡ Ok (x, rest) → length rest ≤ length bs

byte_firm : Firm byte
byte_firm = record { ok = ok; bad = bad; less = less }
  where
    ok : (bs ys : List ℕ) (x : ℕ) (rest : List ℕ) → byte bs ≡ Ok (x, rest) → byte (bs ++ ys) ≡ Ok (x, rest ++ ys)
    ok [] ys x rest e = absurd cc
    ok (b ∷ bs) ys x rest e = subst (λ (w : ℕ × List ℕ). byte (b ∷ (bs ++ ys)) ≡ Ok (w.0, w.1 ++ ys)) (ok_is (b, bs) (x, rest) e) refl

    bad : (bs ys : List ℕ) → byte bs ≡ Err Bad → byte (bs ++ ys) ≡ Err Bad
    bad [] ys e = absurd cc
    bad (b ∷ bs) ys e = absurd cc

    less : (bs : List ℕ) (x : ℕ) (rest : List ℕ) → byte bs ≡ Ok (x, rest) → length rest ≤ length bs
    less [] x rest e = absurd cc
    less (b ∷ bs) x rest e = subst (λ (w : ℕ × List ℕ). length w.1 ≤ length (b ∷ bs)) (ok_is (b, bs) (x, rest) e) (omega arith)

front_firm : (n : ℕ) → Firm (front n)
front_firm n = record { ok = λ bs ys x rest. ok bs ys x rest (ltb (length bs) n) refl; bad = λ bs ys. bad bs ys (ltb (length bs) n); less = λ bs x rest. less bs x rest (ltb (length bs) n) }
  where
    ok : (bs ys x rest : List ℕ) (b : Bool) → ltb (length bs) n ≡ b → cond {A = Result (List ℕ × List ℕ) Fault} b (Err Cut) (Ok (take n bs, drop n bs)) ≡ Ok (x, rest) → front n (bs ++ ys) ≡ Ok (x, rest ++ ys)
    ok bs ys x rest true h e = absurd cc
    ok bs ys x rest false h e =
        let enough = ltb-false _ _ h in
        let still : ltb (length (bs ++ ys)) n ≡ false = le-ltb _ _ (omega (arith, enough, length-append bs ys)) in
        subst (λ (w : List ℕ × List ℕ). front n (bs ++ ys) ≡ Ok (w.0, w.1 ++ ys)) (ok_is (take n bs, drop n bs) (x, rest) e)
        (rw (still, take-append-le n bs ys enough, drop-append-le n bs ys enough) refl)

    bad : (bs ys : List ℕ) (b : Bool) → cond {A = Result (List ℕ × List ℕ) Fault} b (Err Cut) (Ok (take n bs, drop n bs)) ≡ Err Bad → front n (bs ++ ys) ≡ Err Bad
    bad bs ys true e = absurd cc
    bad bs ys false e = absurd cc

    less : (bs x rest : List ℕ) (b : Bool) → cond {A = Result (List ℕ × List ℕ) Fault} b (Err Cut) (Ok (take n bs, drop n bs)) ≡ Ok (x, rest) → length rest ≤ length bs
    less bs x rest true e = absurd cc
    less bs x rest false e = subst (λ (w : List ℕ × List ℕ). length w.1 ≤ length bs) (ok_is (take n bs, drop n bs) (x, rest) e) (omega (arith, length-drop n bs))

then_firm : {A B : Type 0} {r : Reader A} {s : A → Reader B} → Firm r → ((x : A) → Firm (s x)) → Firm (then r s)
then_firm {A = A} {B = B} {r = r} {s = s} f g = record { ok = ok; bad = λ bs ys. bad bs ys (r bs) refl; less = less }
  where
    ok : (bs ys : List ℕ) (p : A × B) (rest : List ℕ) → then r s bs ≡ Ok (p, rest) → then r s (bs ++ ys) ≡ Ok (p, rest ++ ys)
    ok bs ys p rest e =
        let x = bound (r bs) _ (p, rest) e in
        let y = bound (s x.0.0 x.0.1) _ (p, rest) x.2 in
        subst (λ (w : (A × B) × List ℕ). then r s (bs ++ ys) ≡ Ok (w.0, w.1 ++ ys)) (ok_is ((x.0.0, y.0.0), y.0.1) (p, rest) y.2)
        (rw (f.ok bs ys x.0.0 x.0.1 x.1, (g x.0.0).ok x.0.1 ys y.0.0 y.0.1 y.1) refl)

    behind : (bs ys : List ℕ) (x : A) (m : List ℕ) (o : Result (B × List ℕ) Fault) → r bs ≡ Ok (x, m) → s x m ≡ o → ◌>>=◌ {B = (A × B) × List ℕ} o (λ y. Ok ((x, y.0), y.1)) ≡ Err Bad → then r s (bs ++ ys) ≡ Err Bad
    behind bs ys x m (Ok y) h k e = absurd cc
    behind bs ys x m (Err Cut) h k e = absurd cc
    behind bs ys x m (Err Bad) h k e = rw (f.ok bs ys x m h, (g x).bad m ys k) refl

    bad : (bs ys : List ℕ) (o : Result (A × List ℕ) Fault) → r bs ≡ o → ◌>>=◌ {B = (A × B) × List ℕ} o (λ x. ◌>>=◌ {B = (A × B) × List ℕ} (s x.0 x.1) (λ y. Ok ((x.0, y.0), y.1))) ≡ Err Bad → then r s (bs ++ ys) ≡ Err Bad
    bad bs ys (Ok x) h e = behind bs ys x.0 x.1 (s x.0 x.1) h refl e
    bad bs ys (Err Cut) h e = absurd cc
    bad bs ys (Err Bad) h e = rw (f.bad bs ys h) refl

    less : (bs : List ℕ) (p : A × B) (rest : List ℕ) → then r s bs ≡ Ok (p, rest) → length rest ≤ length bs
    less bs p rest e =
        let x = bound (r bs) _ (p, rest) e in
        let y = bound (s x.0.0 x.0.1) _ (p, rest) x.2 in
        let is = ap (λ (w : (A × B) × List ℕ). length w.1) (ok_is ((x.0.0, y.0.0), y.0.1) (p, rest) y.2) in
        omega (arith, is, f.less bs x.0.0 x.0.1 x.1, (g x.0.0).less x.0.1 y.0.0 y.0.1 y.1)

checked_firm : {A B : Type 0} (f : A → Result B Fault) {r : Reader A} → Firm r → Firm (checked f r)
checked_firm {A = A} {B = B} f {r = r} g = record { ok = ok; bad = λ bs ys. bad bs ys (r bs) refl; less = less }
  where
    still : (bs ys : List ℕ) (x : A) (m : List ℕ) (y : B) → r bs ≡ Ok (x, m) → f x ≡ Ok y → checked f r (bs ++ ys) ≡ Ok (y, m ++ ys)
    still bs ys x m y h k = rw (g.ok bs ys x m h, k) refl

    ok : (bs ys : List ℕ) (y : B) (rest : List ℕ) → checked f r bs ≡ Ok (y, rest) → checked f r (bs ++ ys) ≡ Ok (y, rest ++ ys)
    ok bs ys y rest e =
        let x = bound (r bs) _ (y, rest) e in
        let z = bound (f x.0.0) _ (y, rest) x.2 in
        subst (λ (w : B × List ℕ). checked f r (bs ++ ys) ≡ Ok (w.0, w.1 ++ ys)) (ok_is (z.0, x.0.1) (y, rest) z.2)
        (still bs ys x.0.0 x.0.1 z.0 x.1 z.1)

    tested : (bs ys : List ℕ) (x : A) (m : List ℕ) (o : Result B Fault) → r bs ≡ Ok (x, m) → f x ≡ o → ◌>>=◌ {B = B × List ℕ} o (λ y. Ok (y, m)) ≡ Err Bad → checked f r (bs ++ ys) ≡ Err Bad
    tested bs ys x m (Ok y) h k e = absurd cc
    tested bs ys x m (Err Cut) h k e = absurd cc
    tested bs ys x m (Err Bad) h k e = rw (g.ok bs ys x m h, k) refl

    bad : (bs ys : List ℕ) (o : Result (A × List ℕ) Fault) → r bs ≡ o → ◌>>=◌ {B = B × List ℕ} o (λ x. ◌>>=◌ {B = B × List ℕ} (f x.0) (λ y. Ok (y, x.1))) ≡ Err Bad → checked f r (bs ++ ys) ≡ Err Bad
    bad bs ys (Ok x) h e = tested bs ys x.0 x.1 (f x.0) h refl e
    bad bs ys (Err Cut) h e = absurd cc
    bad bs ys (Err Bad) h e = rw (g.bad bs ys h) refl

    less : (bs : List ℕ) (y : B) (rest : List ℕ) → checked f r bs ≡ Ok (y, rest) → length rest ≤ length bs
    less bs y rest e =
        let x = bound (r bs) _ (y, rest) e in
        let z = bound (f x.0.0) _ (y, rest) x.2 in
        let is = ap (λ (w : B × List ℕ). length w.1) (ok_is (z.0, x.0.1) (y, rest) z.2) in
        omega (arith, is, g.less bs x.0.0 x.0.1 x.1)

either_firm : {A : Type 0} (b : Bool) {r s : Reader A} → Firm r → Firm s → Firm (λ bs. cond b (r bs) (s bs))
either_firm true f g = f
either_firm false f g = g

none_firm : {A : Type 0} → Firm {A = A} (λ bs. Err Bad)
none_firm = record { ok = λ bs ys x rest e. absurd cc; bad = λ bs ys e. e; less = λ bs x rest e. absurd cc }

made_firm : {A B : Type 0} (f : A → B) {r : Reader A} → Firm r → Firm (made f r)
made_firm f g = checked_firm (λ x. Ok (f x)) g

-- ---- the readers of records

number_firm : (w : Width) → Firm (number w)
number_firm w = made_firm (from_be_bytes w) (front_firm (byte_len w))

piece_firm : Firm piece
piece_firm = checked_firm piece_from (then_firm (number_firm w32) (λ _. then_firm (number_firm w16) (λ _. then_firm byte_firm (λ _. byte_firm))))

pieces_firm : Firm pieces
pieces_firm = made_firm (λ x. x.1) (then_firm (checked_firm people byte_firm) (λ n. front_firm (8 * n)))

kind_firm : (k : ℕ) → Firm (of_kind k)
kind_firm k =
    let one = number_firm w32 in
    either_firm (eqb k 6) (made_firm as_sold (then_firm one (λ _. checked_firm party pieces_firm)))
    (either_firm (eqb k 7) (made_firm as_undone one)
    (either_firm (eqb k 8) (made_firm as_given (then_firm byte_firm (λ _. then_firm one (λ _. then_firm one (λ _. piece_firm)))))
    (either_firm (eqb k 9) (made_firm as_taken (then_firm byte_firm (λ _. then_firm one (λ _. piece_firm))))
    (either_firm (eqb k 10) (made_firm as_opened one)
    (either_firm (eqb k 11) (made_firm as_closed one)
    (either_firm (eqb k 12) (made_firm as_heard (then_firm byte_firm (λ _. one)))
    (either_firm (eqb k 20) (made_firm as_asked one)
    (either_firm (eqb k 21) (made_firm as_declined (then_firm byte_firm (λ _. one)))
    none_firm))))))))

pub still_read : (bs ys : List ℕ) (e : Record) (rest : List ℕ) → first bs ≡ Ok (e, rest) → first (bs ++ ys) ≡ Ok (e, rest ++ ys)
still_read [] ys e rest h = absurd cc
still_read (k ∷ bs) ys e rest h = (kind_firm k).ok bs ys e rest h

pub still_bad : (bs ys : List ℕ) → first bs ≡ Err Bad → first (bs ++ ys) ≡ Err Bad
still_bad [] ys h = absurd cc
still_bad (k ∷ bs) ys h = (kind_firm k).bad bs ys h

pub less_left : (bs : List ℕ) (e : Record) (rest : List ℕ) → first bs ≡ Ok (e, rest) → length rest < length bs
less_left [] e rest h = absurd cc
less_left (k ∷ bs) e rest h = omega (arith, (kind_firm k).less bs e rest h)
