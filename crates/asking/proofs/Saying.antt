-- Messages said one after the other, and how many they are.
-- Assumes nothing.
use Rattle.std.proofs.Common.{◌≡◌, ℕ, zero, suc, ◌+◌, ◌-◌, ◌*◌, ◌<◌, ◌≤◌, List, [], ◌∷◌, ◌++◌, map, length, get_or, take, sym, refl, ap, ◌∙◌, append_assoc, append-nil, length-append, add-zero, suc-mul, arith}
use Rattle.std.specs.List.{flat_map, range_with_len, sum_by}
use Rattle.std.proofs.lemmas.List.{map_push}
use Rattle.std.proofs.lemmas.List.Concat.{flat_map-append}
use Rattle.std.proofs.lemmas.List.FromFn.{map-range_with_len_more}
use Rattle.std.proofs.Math.Seq.{take-suc}
use Rattle.std.proofs.lemmas.List.Sums.{sum_by-cons}

-- ---- over a range

range_last : (a n j : ℕ) → a + n ≡ j → range_with_len a (suc n) ≡ range_with_len a n ++ j ∷ []
range_last a zero j e = let same : a ≡ j = omega arith in ap (λ k. k ∷ []) same
range_last a (suc n) j e = ap (λ l. a ∷ l) (range_last (a + 1) n j (omega arith))

module _ {X : Type 0} (f : ℕ → List X) where
  -- a step further
  pub flat_more : (k : ℕ) → flat_map f (range_with_len 0 (k + 1)) ≡ flat_map f (range_with_len 0 k) ++ f k
  flat_more k =
      let on : k + 1 ≡ suc k = omega arith in
      ap (λ n. flat_map f (range_with_len 0 n)) on
      ∙ ap (flat_map f) (range_last 0 k k (omega arith))
      ∙ flat_map-append f (range_with_len 0 k) (k ∷ [])
      ∙ ap (λ l. flat_map f (range_with_len 0 k) ++ l) (append-nil (f k))

  flat_length : (k : ℕ) → length (flat_map f (range_with_len 0 (k + 1))) ≡ length (flat_map f (range_with_len 0 k)) + length (f k)
  flat_length k = ap (λ (xs : List X). length xs) (flat_more k) ∙ length-append (flat_map f (range_with_len 0 k)) (f k)

  grows : (k j : ℕ) → length (flat_map f (range_with_len 0 k)) ≤ length (flat_map f (range_with_len 0 (k + j)))
  grows k zero = omega (arith, ap (λ n. length (flat_map f (range_with_len 0 n))) (add-zero k))
  grows k (suc j) =
      let on : k + suc j ≡ k + j + 1 = omega arith in
      omega (arith, grows k j, flat_length (k + j), ap (λ n. length (flat_map f (range_with_len 0 n))) on)

  -- what is said so far and next is no more than all
  pub flat_room : (k n : ℕ) → k < n → length (flat_map f (range_with_len 0 k)) + length (f k) ≤ length (flat_map f (range_with_len 0 n))
  flat_room k n h =
      let on : k + 1 + (n - (k + 1)) ≡ n = omega arith in
      omega (arith, flat_length k, grows (k + 1) (n - (k + 1)), ap (λ m. length (flat_map f (range_with_len 0 m))) on)

  pub flat_said : (k : ℕ) (xs ys zs : List X) → ys ≡ xs ++ flat_map f (range_with_len 0 k) → zs ≡ ys ++ f k → zs ≡ xs ++ flat_map f (range_with_len 0 (k + 1))
  flat_said k xs ys zs a b = b ∙ ap (λ l. l ++ f k) a ∙ append_assoc xs (flat_map f (range_with_len 0 k)) (f k) ∙ ap (λ l. xs ++ l) (sym (flat_more k))

pub map_said : {X : Type 0} (g : ℕ → X) (k : ℕ) (m : X) (xs ys zs : List X) → m ≡ g k → ys ≡ xs ++ map g (range_with_len 0 k) → zs ≡ ys ++ m ∷ [] → zs ≡ xs ++ map g (range_with_len 0 (k + 1))
map_said g k m xs ys zs e a b =
    b ∙ ap (λ l. l ++ m ∷ []) a ∙ append_assoc xs (map g (range_with_len 0 k)) (m ∷ [])
    ∙ ap (λ x. xs ++ (map g (range_with_len 0 k) ++ x ∷ [])) e ∙ ap (λ l. xs ++ l) (sym (map-range_with_len_more g 0 k k (omega arith)))

-- ---- over a list

pub list_said : {X Y : Type 0} (g : Y → X) (ts : List Y) (k : ℕ) (d : Y) (m : X) (xs ys zs : List X) → k < length ts → m ≡ g (get_or ts k d) → ys ≡ xs ++ map g (take k ts) → zs ≡ ys ++ m ∷ [] → zs ≡ xs ++ map g (take (k + 1) ts)
list_said g ts k d m xs ys zs h e a b =
    let on : k + 1 ≡ suc k = omega arith in
    b ∙ ap (λ l. l ++ m ∷ []) a ∙ append_assoc xs (map g (take k ts)) (m ∷ [])
    ∙ ap (λ x. xs ++ (map g (take k ts) ++ x ∷ [])) e ∙ ap (λ l. xs ++ l) (sym (map_push g (take k ts) (get_or ts k d)))
    ∙ ap (λ l. xs ++ map g l) (sym (take-suc ts k d h)) ∙ ap (λ n. xs ++ map g (take n ts)) (sym on)

-- all that is said, where so much is said of each
pub flat_counts : {X Y : Type 0} (f : ℕ → List X) (h : Y → ℕ) (ys : List Y) (d : Y) (a : ℕ) → ((k : ℕ) → k < length ys → length (f (a + k)) ≡ h (get_or ys k d)) → length (flat_map f (range_with_len a (length ys))) ≡ sum_by h ys
flat_counts f h [] d a e = refl
flat_counts f h (y ∷ ys) d a e =
    let here = e 0 (omega arith) in
    let at : a + 0 ≡ a = omega arith in
    let more = flat_counts f h ys d (a + 1) (λ k lt. let on : a + 1 + k ≡ a + suc k = omega arith in ap (λ n. length (f n)) on ∙ e (suc k) (omega arith)) in
    omega (arith, length-append (f a) (flat_map f (range_with_len (a + 1) (length ys))), sum_by-cons h y ys, here, ap (λ n. length (f n)) at, more)

pub flat_times : {X Y : Type 0} (f : Y → List X) (m : ℕ) (ys : List Y) → ((y : Y) → length (f y) ≡ m) → length (flat_map f ys) ≡ length ys * m
flat_times f m [] e = omega arith
flat_times f m (y ∷ ys) e = omega (arith, length-append (f y) (flat_map f ys), e y, flat_times f m ys e, suc-mul (length ys) m)
