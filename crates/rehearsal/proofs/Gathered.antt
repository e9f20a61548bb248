-- Lists one behind the other.
-- Assumes nothing.
use Rattle.std.proofs.Common.{◌≡◌, ℕ, zero, suc, ◌+◌, ◌-◌, ◌<◌, ◌≤◌, List, [], ◌∷◌, ◌++◌, sym, refl, ap, ap₂, ◌∙◌, append_assoc, append-nil, add-one, arith}
use Rattle.network.specs.Places.{gather}

pub gather_more : {A : Type 0} (k : ℕ) (f : ℕ → List A) → gather (k + 1) f ≡ gather k f ++ f k
unfolding gather
gather_more k f = ap (λ (n : ℕ). gather n f) (add-one k)

pub gather_cong : {A : Type 0} (n : ℕ) (f g : ℕ → List A) → ((k : ℕ) → k < n → f k ≡ g k) → gather n f ≡ gather n g
unfolding gather
gather_cong zero f g h = refl
gather_cong (suc n) f g h = ap₂ (λ xs ys. xs ++ ys) (gather_cong n f g (λ k l. h k (omega arith))) (h n (omega arith))

pub gather_none : {A : Type 0} (n : ℕ) (f : ℕ → List A) → ((k : ℕ) → k < n → f k ≡ []) → gather n f ≡ []
unfolding gather
gather_none zero f h = refl
gather_none (suc n) f h = ap₂ (λ xs ys. xs ++ ys) (gather_none n f (λ k l. h k (omega arith))) (h n (omega arith))

pub found_none : {A : Type 0} (xs : List A) (f : ℕ → List A) → xs ≡ xs ++ gather 0 f
unfolding gather
found_none xs f = sym (append-nil xs)

-- a part more is found
pub found_more : {A : Type 0} (xs ys zs : List A) (k : ℕ) (f : ℕ → List A) → ys ≡ xs ++ gather k f → zs ≡ ys ++ f k → zs ≡ xs ++ gather (k + 1) f
found_more xs ys zs k f e g = g ∙ ap (λ l. l ++ f k) e ∙ append_assoc xs (gather k f) (f k) ∙ ap (λ l. xs ++ l) (sym (gather_more k f))

-- places one after the other
pub counted_none : {A : Type 0} (xs : List A) (a : ℕ) (f : ℕ → List A) → xs ≡ xs ++ gather (a - a) f
counted_none xs a f = found_none xs f ∙ ap (λ (m : ℕ). xs ++ gather m f) (omega arith)

pub counted_more : (xs ys zs : List ℕ) (a k : ℕ) → a ≤ k → ys ≡ xs ++ gather (k - a) (λ i. (a + i) ∷ []) → zs ≡ ys ++ k ∷ [] → zs ≡ xs ++ gather (k + 1 - a) (λ i. (a + i) ∷ [])
counted_more xs ys zs a k l e f =
    found_more xs ys zs (k - a) (λ i. (a + i) ∷ []) e (f ∙ ap (λ (m : ℕ). ys ++ m ∷ []) (omega arith)) ∙ ap (λ (m : ℕ). xs ++ gather m (λ i. (a + i) ∷ [])) (omega arith)
