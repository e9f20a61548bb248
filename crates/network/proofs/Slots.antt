-- Where a train's slot is, when slots are written.
-- Assumes nothing.
use Rattle.std.proofs.Common.{◌≡◌, ℕ, ◌<◌, ◌≤◌, Bool, true, false, not, cond, List, length, get_or, set, sym, refl, ap, ◌∙◌, arith, Some, None, Option, get_or-set_other, get_or-set_same, length-set}
use Rattle.network.proofs.Lists.{set_ind}
use Rattle.state.specs.States.{same, place_of}
use Rattle.pieces.specs.declared.names.Train.{Train}
use Rattle.std.specs.List.{position_or_len}
use Rattle.std.proofs.lemmas.Bool.{eqb-true, eq-eqb, false_from_ne_true, true≢false, false≢true}
use Rattle.std.proofs.lemmas.List.Folds.{position_or_len-set}
use Rattle.std.proofs.lemmas.List.Recursion.{is_position_or_len}
use Rattle.std.proofs.lemmas.List.Sums.{prefix_len-le-length, position_or_len_is, fails_before_first, passes_at_first}

pub train_is : {t z : Train} → t.0 ≡ z.0 → t ≡ z
train_is e = ap (λ (n : ℕ). record { 0 = n }) e

same_is : (y x : Option Train) → same y x ≡ true → y ≡ x
same_is None None e = refl
same_is (Some a) (Some b) e = ap Some (train_is (eqb-true a.0 b.0 e))
same_is y x e = absurd (false≢true e)

same_refl : (x : Option Train) → same x x ≡ true
same_refl None = refl
same_refl (Some t) = eq-eqb t.0 t.0 refl

-- the slots that are of x
abbrev of : Option Train → Option Train → Bool
of x y = same y x

place_is : (xs : List (Option Train)) (x : Option Train) → place_of xs x ≡ position_or_len (of x) xs
place_is xs x = is_position_or_len (λ ys. place_of ys x) (of x) refl (λ y ys. ap (λ (n : ℕ). cond (same y x) 0 n) (omega arith)) xs

pub place_le : (xs : List (Option Train)) (x : Option Train) → place_of xs x ≤ length xs
place_le xs x = rw (place_is xs x) (prefix_len-le-length (λ y. not (of x y)) xs)

-- what stands at a slot's place
pub place_reads : (xs : List (Option Train)) (x : Option Train) → place_of xs x < length xs → get_or xs (place_of xs x) None ≡ x
place_reads xs x h = same_is _ x (rw (place_is xs x) (passes_at_first (of x) xs None (rw (place_is xs x) at h)))

-- a slot that stands nowhere
pub place_none : (xs : List (Option Train)) (x : Option Train) → ((k : ℕ) → k < length xs → get_or xs k None ≡ x → ⊥) → place_of xs x ≡ length xs
place_none xs x h = place_is xs x ∙ position_or_len_is (of x) xs (length xs) None (omega arith) (λ k l. false_from_ne_true _ (λ e. h k l (same_is _ x e))) (λ l. absurd (omega (arith, l)))

pub place_first : (xs : List (Option Train)) (x : Option Train) (k : ℕ) → k < place_of xs x → get_or xs k None ≡ x → ⊥
place_first xs x k h e = true≢false (sym (same_refl x) ∙ ap (of x) (sym e) ∙ fails_before_first (of x) xs k None (rw (place_is xs x) at h))

-- a slot written that was none of x and is none of x
pub place_other : (xs : List (Option Train)) (k : ℕ) (y x : Option Train) → same (get_or xs k None) x ≡ false → same y x ≡ false → place_of (set xs k y) x ≡ place_of xs x
place_other xs k y x g h = place_is (set xs k y) x ∙ position_or_len-set (of x) xs k y None (h ∙ sym g) ∙ sym (place_is xs x)

-- a slot written with x, where x stood nowhere
pub place_new : (xs : List (Option Train)) (k : ℕ) (x : Option Train) → k < length xs → place_of xs x ≡ length xs → place_of (set xs k x) x ≡ k
place_new xs k x l h =
    place_is (set xs k x) x
    ∙ position_or_len_is (of x) (set xs k x) k None (omega (arith, length-set xs k x))
    (λ j b. rw (get_or-set_other xs k j x None (λ d. omega (arith, d, b))) (false_from_ne_true _ (λ e. place_first xs x j (omega (arith, b, h)) (same_is _ x e)))) (λ _. rw (get_or-set_same xs k x None l) (same_refl x))

-- ---- each train has one slot

abbrev pub Unique : List (Option Train) → Type 0
Unique xs = (t : Train) (k : ℕ) → k < length xs → get_or xs k None ≡ Some t → k ≡ place_of xs (Some t)

-- a slot written, where that leaves the trains of the others where they were
pub unique_set : (xs : List (Option Train)) (i : ℕ) (y : Option Train) → i < length xs → Unique xs → ((t : Train) → y ≡ Some t → i ≡ place_of (set xs i y) (Some t))
    → ((t : Train) (k : ℕ) → (k ≡ i → ⊥) → k < length xs → get_or xs k None ≡ Some t → k ≡ place_of xs (Some t) → place_of xs (Some t) ≡ place_of (set xs i y) (Some t)) → Unique (set xs i y)
unique_set xs i y b u here other t k l =
    set_ind (λ k x. k < length xs → x ≡ Some t → k ≡ place_of (set xs i y) (Some t)) xs i y None b (λ _. here t) (λ k d l e. let f = u t k l e in f ∙ other t k d l e f) k (omega (arith, l, length-set xs i y))
