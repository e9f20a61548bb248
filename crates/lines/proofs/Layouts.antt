-- A reader of what has one layout as bytes, and readers made of such.
use Rattle.std.proofs.Common.{◌≡◌, ℕ, zero, suc, ◌-◌, ◌<◌, ◌≤◌, List, [], ◌∷◌, ◌++◌, length, take, Result, Ok, Err, refl, sym, ap, subst, ◌∙◌, append_assoc, arith, inl, inr}
use Rattle.lines.specs.Bytes.{AreBytes}
use Rattle.lines.specs.Fields.{◌>>=◌, Reader, checked, then}
use Rattle.lines.specs.declared.fault.Fault.{Fault}
use Rattle.lines.specs.declared.fault.Fault.TheVariants.{Cut}
use Rattle.std.proofs.lemmas.Bool.{cases_lt}
use Rattle.std.proofs.lemmas.List.{length-append, take-append-le}
use Rattle.std.proofs.Math.Seq.{take-append-add}

-- ---- bytes

pub bytes_in_front : (xs ys : List ℕ) → AreBytes (xs ++ ys) → AreBytes xs
bytes_in_front [] ys h i = omega arith
bytes_in_front (x ∷ xs) ys h zero = h 0
bytes_in_front (x ∷ xs) ys h (suc i) = bytes_in_front xs ys (λ j. h (suc j)) i

pub bytes_behind : (xs ys : List ℕ) → AreBytes (xs ++ ys) → AreBytes ys
bytes_behind [] ys h = h
bytes_behind (x ∷ xs) ys h = bytes_behind xs ys (λ j. h (suc j))

-- ---- results

pub bound : {A B : Type 0} (r : Result A Fault) (f : A → Result B Fault) (y : B) → (r >>= f) ≡ Ok y → (x : A) × (r ≡ Ok x) × (f x ≡ Ok y)
bound (Ok x) f y e = (x, refl, e)
bound (Err d) f y e = absurd cc

abbrev pub done : {A : Type 0} → A → Result A Fault
done x = Ok x

pub ok_is : {A : Type 0} (x y : A) → done x ≡ done y → x ≡ y
ok_is x y e = cc

-- ---- layouts: what fits is written so; that is read, whatever is behind it; nothing else is; and any part in front of it is cut

pub record Layout {A : Type 0} (r : Reader A) (bytes : A → List ℕ) (Fits : A → Type 0) : Type 0 where
  pub again : (x : A) (ys : List ℕ) → Fits x → r (bytes x ++ ys) ≡ Ok (x, ys)
  pub back : (bs : List ℕ) (x : A) (ys : List ℕ) → AreBytes bs → r bs ≡ Ok (x, ys) → Fits x × (bs ≡ bytes x ++ ys)
  pub short : (x : A) (k : ℕ) → Fits x → k < length (bytes x) → r (take k (bytes x)) ≡ Err Cut

pub take_both : (k : ℕ) (xs ys : List ℕ) → length xs ≤ k → take k (xs ++ ys) ≡ xs ++ take (k - length xs) ys
take_both k xs ys h = ap (λ (j : ℕ). take j (xs ++ ys)) (omega arith) ∙ take-append-add xs ys (k - length xs)

pub then_layout : {A B : Type 0} (r : Reader A) (b : A → List ℕ) (F : A → Type 0) (s : A → Reader B) (c : A → B → List ℕ) (G : A → B → Type 0)
    → Layout r b F → ((x : A) → Layout (s x) (c x) (G x)) → Layout (then r s) (λ p. b p.0 ++ c p.0 p.1) (λ p. F p.0 × G p.0 p.1)
then_layout {A = A} {B = B} r b F s c G front behind = record { again = again; back = back; short = short }
  where
    again : (p : A × B) (ys : List ℕ) → (F p.0 × G p.0 p.1) → then r s ((b p.0 ++ c p.0 p.1) ++ ys) ≡ Ok (p, ys)
    again p ys h = rw (append_assoc (b p.0) (c p.0 p.1) ys, front.again p.0 (c p.0 p.1 ++ ys) h.0, (behind p.0).again p.1 ys h.1) refl

    back : (bs : List ℕ) (p : A × B) (ys : List ℕ) → AreBytes bs → then r s bs ≡ Ok (p, ys) → (F p.0 × G p.0 p.1) × (bs ≡ (b p.0 ++ c p.0 p.1) ++ ys)
    back bs p ys h e =
        let x = bound (r bs) _ (p, ys) e in
        let m = x.0 in
        let y = bound (s m.0 m.1) _ (p, ys) x.2 in
        let n = y.0 in
        let f = front.back bs m.0 m.1 h x.1 in
        let g = (behind m.0).back m.1 n.0 n.1 (bytes_behind (b m.0) m.1 (subst AreBytes f.1 h)) y.1 in
        let is : bs ≡ (b m.0 ++ c m.0 n.0) ++ n.1 = f.1 ∙ ap (λ (t : List ℕ). b m.0 ++ t) g.1 ∙ sym (append_assoc (b m.0) (c m.0 n.0) n.1) in
        subst (λ (z : (A × B) × List ℕ). (F z.0.0 × G z.0.0 z.0.1) × (bs ≡ (b z.0.0 ++ c z.0.0 z.0.1) ++ z.1)) (ok_is ((m.0, n.0), n.1) (p, ys) y.2) ((f.0, g.0), is)

    short : (p : A × B) (k : ℕ) → (F p.0 × G p.0 p.1) → k < length (b p.0 ++ c p.0 p.1) → then r s (take k (b p.0 ++ c p.0 p.1)) ≡ Err Cut
    short p k h lt =
        elim (cases_lt k (length (b p.0))) [
          | inl near ↦
              let le : k ≤ length (b p.0) = omega arith in
              rw (take-append-le k (b p.0) (c p.0 p.1) le, front.short p.0 k h.0 near) refl
          | inr far ↦
              let rest : k - length (b p.0) < length (c p.0 p.1) = omega (arith, length-append (b p.0) (c p.0 p.1)) in
              rw (take_both k (b p.0) (c p.0 p.1) far, front.again p.0 (take (k - length (b p.0)) (c p.0 p.1)) h.0, (behind p.0).short p.1 (k - length (b p.0)) h.1 rest) refl
        ]

-- what passes a test: what has the same bytes
pub checked_layout : {A B : Type 0} (f : A → Result B Fault) (r : Reader A) (b : A → List ℕ) (F : A → Type 0) (c : B → List ℕ) (G : B → Type 0) → Layout r b F
    → ((y : B) → G y → (x : A) × (f x ≡ Ok y) × F x × (b x ≡ c y))
    → ((x : A) (y : B) → F x → AreBytes (b x) → f x ≡ Ok y → G y × (b x ≡ c y))
    → Layout (checked f r) c G
checked_layout {A = A} {B = B} f r b F c G front to from = record { again = again; back = back; short = short }
  where
    again : (y : B) (ys : List ℕ) → G y → checked f r (c y ++ ys) ≡ Ok (y, ys)
    again y ys g =
        let x = to y g in
        rw (← x.3, front.again x.0 ys x.2, x.1) refl

    back : (bs : List ℕ) (y : B) (ys : List ℕ) → AreBytes bs → checked f r bs ≡ Ok (y, ys) → G y × (bs ≡ c y ++ ys)
    back bs y ys h e =
        let x = bound (r bs) _ (y, ys) e in
        let m = x.0 in
        let z = bound (f m.0) _ (y, ys) x.2 in
        let front' = front.back bs m.0 m.1 h x.1 in
        let g = from m.0 z.0 front'.0 (bytes_in_front (b m.0) m.1 (subst AreBytes front'.1 h)) z.1 in
        subst (λ (w : B × List ℕ). G w.0 × (bs ≡ c w.0 ++ w.1)) (ok_is (z.0, m.1) (y, ys) z.2) (g.0, front'.1 ∙ ap (λ (t : List ℕ). t ++ m.1) g.1)

    short : (y : B) (k : ℕ) → G y → k < length (c y) → checked f r (take k (c y)) ≡ Err Cut
    short y k g lt =
        let x = to y g in
        let is = x.3 in
        let near : k < length (b x.0) = subst (λ (t : List ℕ). k < length t) (sym is) lt in
        rw (← is, front.short x.0 k x.2 near) refl
