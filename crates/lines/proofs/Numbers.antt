-- Numbers, as they are written and read.
use Rattle.std.proofs.Common.{◌≡◌, ℕ, ◌^◌, ◌<◌, Bool, true, false, cond, ltb, List, [], ◌∷◌, ◌++◌, length, take, drop, Ok, Err, refl, sym, ap, subst, ◌∙◌, arith}
use Rattle.std.specs.Int.{Width, w16, w32, byte_len, from_be_bytes, to_be_bytes}
use Rattle.lines.specs.Bytes.{AreBytes, long, short as short_bytes}
use Rattle.lines.specs.Fields.{byte, front, half, number, word}
use Rattle.lines.specs.declared.fault.Fault.TheVariants.{Cut}
use Rattle.lines.proofs.Layouts.{Layout, checked_layout, ok_is}
use Rattle.std.proofs.lemmas.Bool.{ltb-false, le-ltb, lt-ltb}
use Rattle.std.proofs.lemmas.List.{drop_at, length-append, length-take, length-take-le, take-append-drop, take_at}
use Rattle.std.proofs.lemmas.Nat.{be_bytes_2, be_bytes_4, from_be_bytes-to_be_bytes_2, from_be_bytes-to_be_bytes_4}

pub byte_layout : Layout byte (λ b. b ∷ []) (λ b. b < 256)
byte_layout = record { again = λ x ys h. refl; back = back; short = short }
  where
    back : (bs : List ℕ) (x : ℕ) (ys : List ℕ) → AreBytes bs → byte bs ≡ Ok (x, ys) → (x < 256) × (bs ≡ (x ∷ []) ++ ys)
    back [] x ys h e = absurd cc
    back (b ∷ bs) x ys h e = subst (λ (w : ℕ × List ℕ). (w.0 < 256) × (b ∷ bs ≡ w.0 ∷ w.1)) (ok_is (b, bs) (x, ys) e) (h 0, refl)

    short : (x k : ℕ) → x < 256 → k < 1 → byte (take k (x ∷ [])) ≡ Err Cut
    short x k h lt = let is : k ≡ 0 = omega arith in rw is refl

pub front_layout : (n : ℕ) → Layout (front n) (λ bs. bs) (λ bs. length bs ≡ n)
front_layout n = record { again = again; back = back; short = short }
  where
    again : (xs ys : List ℕ) → length xs ≡ n → front n (xs ++ ys) ≡ Ok (xs, ys)
    again xs ys h =
        let enough : ltb (length (xs ++ ys)) n ≡ false = le-ltb _ _ (omega (arith, length-append xs ys)) in
        rw (enough, take_at xs ys n h, drop_at xs ys n h) refl

    guard : (b : Bool) (x y : List ℕ × List ℕ) → cond b (Err Cut) (Ok x) ≡ Ok y → (b ≡ false) × (x ≡ y)
    guard true x y e = absurd cc
    guard false x y e = (refl, ok_is x y e)

    back : (bs xs ys : List ℕ) → AreBytes bs → front n bs ≡ Ok (xs, ys) → (length xs ≡ n) × (bs ≡ xs ++ ys)
    back bs xs ys h e =
        let g = guard (ltb (length bs) n) (take n bs, drop n bs) (xs, ys) e in
        let enough = ltb-false _ _ g.0 in
        subst (λ (w : List ℕ × List ℕ). (length w.0 ≡ n) × (bs ≡ w.0 ++ w.1)) g.1 (length-take-le n bs enough, sym (take-append-drop n bs))

    short : (xs : List ℕ) (k : ℕ) → length xs ≡ n → k < length xs → front n (take k xs) ≡ Err Cut
    short xs k h lt =
        let few : ltb (length (take k xs)) n ≡ true = lt-ltb _ _ (omega (arith, length-take k xs)) in
        rw few refl

number_layout : (w : Width) (limit : ℕ)
    → ((n : ℕ) → length (to_be_bytes w n) ≡ byte_len w)
    → ((bs : List ℕ) → length bs ≡ byte_len w → AreBytes bs → to_be_bytes w (from_be_bytes w bs) ≡ bs)
    → ((n : ℕ) → n < limit → from_be_bytes w (to_be_bytes w n) ≡ n)
    → ((bs : List ℕ) → AreBytes bs → from_be_bytes w bs < limit)
    → Layout (number w) (to_be_bytes w) (λ n. n < limit)
number_layout w limit len back again below =
    checked_layout _ (front (byte_len w)) (λ bs. bs) (λ bs. length bs ≡ byte_len w) (to_be_bytes w) (λ n. n < limit) (front_layout (byte_len w))
    (λ n lt. (to_be_bytes w n, ap (λ (m : ℕ). Ok m) (again n lt), len n, refl))
    (λ bs n l h e. let is = ok_is (from_be_bytes w bs) n e in (subst (λ (m : ℕ). m < limit) is (below bs h), sym (back bs l h) ∙ ap (to_be_bytes w) is))

pub word_layout : Layout word long (λ n. n < 2 ^ 32)
word_layout = number_layout w32 (2 ^ 32) (λ n. refl) (λ bs l h. be_bytes_4 bs _ l h refl) from_be_bytes-to_be_bytes_4 (λ bs h. omega (arith, h 0, h 1, h 2, h 3))

pub half_layout : Layout half short_bytes (λ n. n < 2 ^ 16)
half_layout = number_layout w16 (2 ^ 16) (λ n. refl) (λ bs l h. be_bytes_2 bs _ l h refl) from_be_bytes-to_be_bytes_2 (λ bs h. omega (arith, h 0, h 1))
