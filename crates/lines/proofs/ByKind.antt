-- What stands behind a kind: readers of what has one layout, by the kind in front of it.
use Rattle.std.proofs.Common.{◌≡◌, ℕ, suc, ◌<◌, Bool, true, false, cond, eqb, List, ◌∷◌, ◌++◌, length, take, Ok, Err, refl, sym, ap, subst, ◌∙◌, arith}
use Rattle.lines.specs.Bytes.{AreBytes}
use Rattle.lines.specs.Fields.{Reader, made}
use Rattle.lines.specs.declared.fault.Fault.TheVariants.{Cut}
use Rattle.lines.proofs.Layouts.{Layout, bound, ok_is}
use Rattle.std.proofs.lemmas.Bool.{eqb-true}

-- what is written is read
pub made_again : {A B : Type 0} (f : A → B) (r : Reader A) (b : A → List ℕ) (F : A → Type 0) → Layout r b F → (x : A) (ys : List ℕ) → F x → made f r (b x ++ ys) ≡ Ok (f x, ys)
made_again f r b F l x ys h = rw (l.again x ys h) refl

-- any part in front of it is cut
pub made_short : {A B : Type 0} (f : A → B) (r : Reader A) (b : A → List ℕ) (F : A → Type 0) → Layout r b F → (x : A) (k : ℕ) → F x → suc k < suc (length (b x)) → made f r (take k (b x)) ≡ Err Cut
made_short f r b F l x k h lt =
    let near : k < length (b x) = omega arith in
    rw (l.short x k h near) refl

-- what is read was written
abbrev pub Written : {B : Type 0} → (B → List ℕ) → (B → Type 0) → List ℕ → B → List ℕ → ℕ → Type 0
Written bytes Sound bs e ys k = Sound e × (k ∷ bs ≡ bytes e ++ ys)

pub made_back : {A B : Type 0} (bytes : B → List ℕ) (Sound : B → Type 0) (k : ℕ) (f : A → B) (r : Reader A) (b : A → List ℕ) (F : A → Type 0) → Layout r b F → ((x : A) → F x → Sound (f x)) → ((x : A) → bytes (f x) ≡ k ∷ b x)
    → (bs : List ℕ) (e : B) (ys : List ℕ) → AreBytes bs → made f r bs ≡ Ok (e, ys) → Written bytes Sound bs e ys k
made_back {A = A} {B = B} bytes Sound k f r b F l sound same bs e ys h is =
    let x = bound (r bs) _ (e, ys) is in
    let m = x.0 in
    let g = l.back bs m.0 m.1 h x.1 in
    subst (λ (w : B × List ℕ). Written bytes Sound bs w.0 w.1 k) (ok_is (f m.0, m.1) (e, ys) x.2) (sound m.0 g.0, ap (λ (t : List ℕ). k ∷ t) g.1 ∙ sym (ap (λ (t : List ℕ). t ++ m.1) (same m.0)))

-- a kind, or another
pub either : {A : Type 0} (P : ℕ → Type 0) (k n : ℕ) (x y z : A) → (x ≡ z → P n) → (y ≡ z → P k) → cond (eqb k n) x y ≡ z → P k
either P k n x y z p q e = go (eqb k n) refl e
  where
    go : (b : Bool) → eqb k n ≡ b → cond b x y ≡ z → P k
    go true h e = subst P (sym (eqb-true k n h)) (p e)
    go false h e = q e
