-- Sums over the stations below a number.
-- Assumes nothing.
use Rattle.std.proofs.Common.{◌≡◌, ℕ, zero, suc, ◌+◌, ◌<◌, ◌≤◌, cond, eqb, sym, refl, ap, ⊎_elim, arith}
use Rattle.std.proofs.lemmas.Bool.{cases_eq, cases_lt, eq-eqb, ne_eqb}

unfoldable pub sum_to : ℕ → (ℕ → ℕ) → ℕ
sum_to zero f = 0
sum_to (suc n) f = f n + sum_to n f

pub sum_cong : (n : ℕ) (f g : ℕ → ℕ) → ((k : ℕ) → k < n → f k ≡ g k) → sum_to n f ≡ sum_to n g
unfolding sum_to
sum_cong zero f g h = refl
sum_cong (suc n) f g h = omega (arith, h n (omega arith), sum_cong n f g (λ k l. h k (omega arith)))

pub sum_le : (n : ℕ) (f g : ℕ → ℕ) → ((k : ℕ) → f k ≤ g k) → sum_to n f ≤ sum_to n g
unfolding sum_to
sum_le zero f g h = omega arith
sum_le (suc n) f g h = omega (arith, h n, sum_le n f g h)

pub sum_add : (n : ℕ) (f g : ℕ → ℕ) → sum_to n (λ k. f k + g k) ≡ sum_to n f + sum_to n g
unfolding sum_to
sum_add zero f g = refl
sum_add (suc n) f g = omega (arith, sum_add n f g)

pub sum_zero : (n : ℕ) (f : ℕ → ℕ) → ((k : ℕ) → k < n → f k ≡ 0) → sum_to n f ≡ 0
unfolding sum_to
sum_zero zero f h = refl
sum_zero (suc n) f h = omega (arith, h n (omega arith), sum_zero n f (λ k l. h k (omega arith)))

-- a sum that is not zero has a part that is not
pub sum_some : (n : ℕ) (f : ℕ → ℕ) → 0 < sum_to n f → (k : ℕ) × (k < n) × (0 < f k)
unfolding sum_to
sum_some zero f h = absurd (omega arith)
sum_some (suc n) f h = ⊎_elim (λ e. let (k, l, d) = sum_some n f (omega (arith, h, e)) in (k, omega (arith, l), d)) (λ d. (n, omega arith, omega (arith, d))) (cases_eq (f n) 0)

-- two functions that differ at one place only
pub sum_at : (n i : ℕ) (f g : ℕ → ℕ) → i < n → ((k : ℕ) → (k ≡ i → ⊥) → f k ≡ g k) → sum_to n f + g i ≡ sum_to n g + f i
unfolding sum_to
sum_at zero i f g l h = omega arith
sum_at (suc n) i f g l h =
    ⊎_elim (λ e. omega (arith, ap f e, ap g e, sum_cong n f g (λ k b. h k (omega arith)))) (λ d. omega (arith, h n d, sum_at n i f g (omega (arith, d)) h)) (cases_eq n i)

-- all but the one at i
abbrev without : ℕ → (ℕ → ℕ) → ℕ → ℕ
without i f k = cond (eqb k i) 0 (f k)

sum_without : (n i : ℕ) (f : ℕ → ℕ) → i < n → sum_to n f ≡ sum_to n (without i f) + f i
sum_without n i f l = let z : without i f i ≡ 0 = rw (eq-eqb i i refl) refl in omega (arith, z, sum_at n i f (without i f) l (λ k d. rw (ne_eqb k i d) refl))

pub sum_has : (n i : ℕ) (f : ℕ → ℕ) → i < n → f i ≤ sum_to n f
sum_has n i f l = omega (arith, sum_without n i f l)

-- two places
pub sum_has_two : (n i j : ℕ) (f : ℕ → ℕ) → i < n → j < n → (i ≡ j → ⊥) → f i + f j ≤ sum_to n f
sum_has_two n i j f li lj d =
    let e : without i f j ≡ f j = rw (ne_eqb j i (λ e. d (sym e))) refl in
    omega (arith, sum_without n i f li, sum_has n j (without i f) lj, e)

-- all but one are zero
pub sum_one : (n i : ℕ) (f : ℕ → ℕ) → i < n → ((k : ℕ) → (k ≡ i → ⊥) → f k ≡ 0) → sum_to n f ≡ f i
sum_one n i f l h = omega (arith, sum_at n i f (λ _. 0) l h, sum_zero n (λ _. 0) (λ _ _. refl))

pub sum_peak : (n i : ℕ) (f : ℕ → ℕ) → ((k : ℕ) → (k ≡ i → ⊥) → f k ≡ 0) → sum_to n f ≤ f i
sum_peak n i f h = ⊎_elim (λ l. omega (arith, sum_one n i f l h)) (λ l. omega (arith, sum_zero n f (λ k b. h k (λ e. omega (arith, e, b, l))))) (cases_lt i n)

-- a table summed by rows and by columns
pub sum_swap : (n m : ℕ) (f : ℕ → ℕ → ℕ) → sum_to n (λ i. sum_to m (λ j. f i j)) ≡ sum_to m (λ j. sum_to n (λ i. f i j))
unfolding sum_to
sum_swap zero m f = sym (sum_zero m (λ _. 0) (λ _ _. refl))
sum_swap (suc n) m f = omega (arith, sum_swap n m f, sum_add m (f n) (λ j. sum_to n (λ i. f i j)))
