-- A train's part of a list of words, read and written. Assumes nothing.
use Rattle.std.proofs.Common.{◌≡◌, ℕ, ◌+◌, ◌-◌, ◌*◌, ◌<◌, ◌≤◌, List, ◌++◌, length, get_or, take, drop, set, ap, ◌∙◌, ap₂, arith, length-set}
use borrow.Rule.Slice.PartMut.{put_mid}
use Rattle.std.proofs.lemmas.Bool.{cases_eq}
use Rattle.std.proofs.lemmas.Grind.{get_or-set_at}
use Rattle.std.proofs.lemmas.List.{places, same_lists, get_or-set_other, take_at}
use Rattle.pieces.specs.Memory.{Changing, at, train_at, altered}

-- ---- the part of n words from i on

pub part_at : (xs : List ℕ) (i n s : ℕ) → s < n → get_or (take n (drop i xs)) s 0 ≡ get_or xs (i + s) 0
part_at xs i n s l = grind (arith, places)

part_set : (xs : List ℕ) (i n s v : ℕ) → i + n ≤ length xs → s < n → put_mid i n xs (set (take n (drop i xs)) s v) ≡ set xs (i + s) v
part_set xs i n s v h l = same_lists _ _ (grind (arith, places, length-set)) (λ k d g. grind (arith, places, length-set, get_or-set_at, get_or-set_other, cases_eq k (i + s)))

-- one word of the part changed
pub part_edit : (f : ℕ → ℕ) (xs ys : List ℕ) (i n m s : ℕ) → m ≡ n → i + n ≤ length xs → s < n → ys ≡ set (take m (drop i xs)) s (f (get_or (take m (drop i xs)) s 0))
    → put_mid i m xs ys ≡ set xs (i + s) (f (get_or xs (i + s) 0))
part_edit f xs ys i n m s e h l g =
    ap (put_mid i m xs) g
    ∙ ap (λ (j : ℕ). put_mid i j xs (set (take j (drop i xs)) s (f (get_or (take j (drop i xs)) s 0)))) e
    ∙ part_set xs i n s (f (get_or (take n (drop i xs)) s 0)) h l
    ∙ ap (λ (y : ℕ). set xs (i + s) (f y)) (part_at xs i n s l)

-- ---- a train's part of a vector of words: it stands from i to e, and xs are the words as they are lent

module _ (ws xs : List ℕ) (k i e : ℕ) (lent : xs ≡ ws) (from : i ≡ k * 400) (to : e ≡ k * 400 + 400) where
  pub part_is : take (e - i) (drop i xs) ≡ train_at ws k
  part_is = let n : e - i ≡ 400 = omega arith in ap₂ (λ (m : ℕ) l. take m (drop i l)) n lent ∙ ap (λ (j : ℕ). take 400 (drop j ws)) from

  -- one of its words written, in a vector of n words
  pub part_changed : (f : Changing) (ys : List ℕ) (n s a b : ℕ) → length ws ≡ n → k * 400 + 400 ≤ n → s < 400
      → ys ≡ set (take (e - i) (drop i xs)) s (f (get_or (take (e - i) (drop i xs)) s 0) a b)
      → take n (put_mid i (e - i) xs ys ++ drop (length (put_mid i (e - i) xs ys)) ws) ≡ altered f ws k s a b
  part_changed f ys n s a b long within near edit =
      let done : put_mid i (e - i) xs ys ≡ altered f ws k s a b =
      part_edit (λ (w : ℕ). f w a b) xs ys i 400 (e - i) s (omega arith) (omega (arith, ap length lent)) near edit
      ∙ ap₂ (λ (j : ℕ) us. set us (j + s) (f (get_or us (j + s) 0) a b)) from lent in
      take_at (put_mid i (e - i) xs ys) (drop (length (put_mid i (e - i) xs ys)) ws) n (ap length done ∙ length-set ws (at k s) _ ∙ long) ∙ done
