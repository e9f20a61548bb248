-- The laws of `holds`. Assumes nothing.
use Rattle.std.proofs.Common.{◌≡◌, ℕ, ◌+◌, ◌-◌, ◌%◌, ◌^◌, ◌<◌, ◌≤◌, min, max, Bool, true, false, not, ◌&&◌, ◌||◌, eqb, ltb, Decides, sym, refl, ap, ◌∙◌, lt_of_le_of_lt, arith, pow_pos, pow_mono}
use lib.Bits.{bit_and, bit_or, bit_xor, and_self, xor_add_and, and_le_l, or_lt, xor_lt}
use Rattle.std.specs.Int.{bit_at}
use Rattle.std.proofs.lemmas.Bool.{eq-eqb, eqb-true}
use Rattle.std.proofs.lemmas.Bool.Decides.{nat_tests, Decides-like, Decides-below_and}
use Rattle.std.proofs.lemmas.Nat.{and_comm, and_assoc, and-not, pow_below}
use Rattle.std.proofs.lemmas.Nat.Bits.{bit_at-lt, bit_at-zero, bit_at_and, bit_at_or, bit_at_xor, bit_at_above, bit_at_mask_inside, bit_at_mask_below, bit_at_mask_above, same_from_bits}
use Rattle.pieces.specs.Stretches.{holds, within, Clear, Covers, span, less, plus, covered}

-- ---- a bit of each word

one_and : (x y : ℕ) → x < 2 → y < 2 → eqb (min x y) 1 ≡ (eqb x 1 && eqb y 1)
one_and x y h i = grind (arith, nat_tests)

one_or : (x y : ℕ) → x < 2 → y < 2 → eqb (max x y) 1 ≡ (eqb x 1 || eqb y 1)
one_or x y h i = grind (arith, nat_tests)

one_less : (x y : ℕ) → x < 2 → y < 2 → eqb ((x + min x y) % 2) 1 ≡ (eqb x 1 && not (eqb y 1))
one_less x y h i = grind (arith, nat_tests)

one_same : (x y : ℕ) → x < 2 → y < 2 → eqb x 1 ≡ eqb y 1 → x ≡ y
one_same x y h i e = grind (arith, nat_tests)

pub holds_and : (a b k : ℕ) → holds (bit_and a b) k ≡ (holds a k && holds b k)
unfolding holds
holds_and a b k = ap (λ (x : ℕ). eqb x 1) (bit_at_and a b k) ∙ one_and _ _ (bit_at-lt a k) (bit_at-lt b k)

holds_or : (a b k : ℕ) → holds (bit_or a b) k ≡ (holds a k || holds b k)
unfolding holds
holds_or a b k = ap (λ (x : ℕ). eqb x 1) (bit_at_or a b k) ∙ one_or _ _ (bit_at-lt a k) (bit_at-lt b k)

-- what a word has that another has not
holds_drop : (w m k : ℕ) → holds (bit_xor w (bit_and w m)) k ≡ (holds w k && not (holds m k))
unfolding holds
holds_drop w m k =
    ap (λ (x : ℕ). eqb x 1) (bit_at_xor w (bit_and w m) k ∙ ap (λ (x : ℕ). (bit_at w k + x) % 2) (bit_at_and w m k))
    ∙ one_less _ _ (bit_at-lt w k) (bit_at-lt m k)

pub held : (w k : ℕ) → bit_at w k ≡ 1 → holds w k ≡ true
unfolding holds
held w k e = ap (λ (x : ℕ). eqb x 1) e

pub free : (w k : ℕ) → bit_at w k ≡ 0 → holds w k ≡ false
unfolding holds
free w k e = ap (λ (x : ℕ). eqb x 1) e

pub holds_past : (w j k : ℕ) → w < 2 ^ j → j ≤ k → holds w k ≡ false
holds_past w j k h l = free w k (bit_at_above w j k h l)

pub holds_zero : (k : ℕ) → holds 0 k ≡ false
holds_zero k = free 0 k (bit_at-zero k)

-- two words with the same stretches are one
pub same_holds : (v w : ℕ) → ((k : ℕ) → holds v k ≡ holds w k) → v ≡ w
unfolding holds
same_holds v w h = same_from_bits v w (λ k. one_same _ _ (bit_at-lt v k) (bit_at-lt w k) (h k))

-- ---- the word of a span, and a word less or with it

pub holds_span : (a b k : ℕ) → a ≤ b → holds (span a b) k ≡ within a b k
unfolding holds span
holds_span a b k h = grind (arith, nat_tests, bit_at_mask_inside, bit_at_mask_below, bit_at_mask_above)

pub holds_less : (w a b k : ℕ) → a ≤ b → holds (less w a b) k ≡ (holds w k && not (within a b k))
unfolding less
holds_less w a b k h = holds_drop w (span a b) k ∙ ap (λ x. holds w k && not x) (holds_span a b k h)

pub holds_plus : (w a b k : ℕ) → a ≤ b → holds (plus w a b) k ≡ (holds w k || within a b k)
unfolding plus
holds_plus w a b k h = holds_or w (span a b) k ∙ ap (λ x. holds w k || x) (holds_span a b k h)

-- `word & !mask`
pub but_is_less : (w m a b : ℕ) → w < 2 ^ 64 → b < 64 → m ≡ span a b → bit_and w ((2 ^ 64 - 1) - m) ≡ less w a b
unfolding less span
but_is_less w m a b f i e =
    let same : bit_and w (bit_and w m) ≡ bit_and w m = sym (and_assoc m w w) ∙ ap (λ (x : ℕ). bit_and x m) (and_self w) in
    let apart : bit_and w ((2 ^ 64 - 1) - m) ≡ bit_xor w (bit_and w m) =
    omega (arith, same, xor_add_and w (bit_and w m), and-not 64 m w (omega (arith, pow_below b 64 i)) f, and_comm w m, and_comm w ((2 ^ 64 - 1) - m)) in
    apart ∙ ap (λ (x : ℕ). bit_xor w (bit_and w x)) e

-- what holds of a word holds of one that is the same
pub same_each : (v w : ℕ) (x : ℕ → Bool) → ((k : ℕ) → holds w k ≡ x k) → v ≡ w → (k : ℕ) → holds v k ≡ x k
same_each v w x h e k = ap (λ y. holds y k) e ∙ h k

-- ---- what was taken and is put back

inside : (a b k : ℕ) → within a b k ≡ true → (a ≤ k) × (k < b)
inside a b k e = grind (arith, nat_tests)

back : (x y : Bool) → (y ≡ true → x ≡ true) → ((x && not y) || y) ≡ x
back x y h = grind arith

pub plus_less : (w a b : ℕ) → a ≤ b → Covers w a b → plus (less w a b) a b ≡ w
plus_less w a b h all =
    same_holds _ _ (λ k. holds_plus (less w a b) a b k h ∙ ap (λ x. x || within a b k) (holds_less w a b k h)
    ∙ back (holds w k) (within a b k) (λ e. let i = inside a b k e in all k i.0 i.1))

-- what is put back and taken again
front : (x y : Bool) → (y ≡ true → x ≡ false) → ((x || y) && not y) ≡ x
front x y h = grind arith

pub less_plus : (w a b : ℕ) → a ≤ b → Clear w a b → less (plus w a b) a b ≡ w
less_plus w a b h none =
    same_holds _ _ (λ k. holds_less (plus w a b) a b k h ∙ ap (λ x. x && not (within a b k)) (holds_plus w a b k h)
    ∙ front (holds w k) (within a b k) (λ e. let i = inside a b k e in none k i.0 i.1))

-- what was taken is not held any more
pub less_uncovered : (w a b : ℕ) → a < b → Covers (less w a b) a b → ⊥
less_uncovered w a b h c =
    let e = holds_less w a b a (omega arith) in
    let f = c a (omega arith) h in
    absurd (grind (arith, nat_tests))

-- ---- the tests that a word covers a span, and that no stretch of a span is held

pub covers_decides : (w m a b : ℕ) → ((k : ℕ) → holds m k ≡ within a b k) → Decides (eqb (bit_and w m) m) (Covers w a b)
covers_decides w m a b each = (
  λ t k g h. let e = ap (λ (x : ℕ). holds x k) (eqb-true (bit_and w m) m t) in grind (arith, nat_tests, e, holds_and w m k, each k),
  λ all. eq-eqb _ _ (same_holds (bit_and w m) m (λ k. grind (arith, nat_tests, holds_and w m k, each k, all k))),
)

pub clear_decides : (w m a b : ℕ) → ((k : ℕ) → holds m k ≡ within a b k) → Decides (eqb (bit_and w m) 0) (Clear w a b)
clear_decides w m a b each = (
  λ t k g h. let e = ap (λ (x : ℕ). holds x k) (eqb-true (bit_and w m) 0 t) in grind (arith, nat_tests, e, holds_and w m k, each k, holds_zero k),
  λ none. eq-eqb _ _ (same_holds (bit_and w m) 0 (λ k. grind (arith, nat_tests, holds_and w m k, each k, none k, holds_zero k))),
)

pub covered_decides : (w a b : ℕ) → Decides (covered w a b) (Covers w a b)
unfolding covered
covered_decides w a b =
    Decides-like (covered w a b) (λ h k l i. h k i l) (λ h k i l. h k l i)
    (Decides-below_and (λ k. ltb k a || holds w k) (λ k. a ≤ k → holds w k ≡ true) (covered w a) each refl (λ _. refl) b)
  where
    each : (k : ℕ) → Decides (ltb k a || holds w k) (a ≤ k → holds w k ≡ true)
    each k = (λ e l. grind (arith, nat_tests), λ f. grind (arith, nat_tests))

-- ---- no bit past the last stop

pub less_lt : (w a b j : ℕ) → w < 2 ^ j → less w a b < 2 ^ j
unfolding less
less_lt w a b j h = xor_lt j w (bit_and w (span a b)) h (lt_of_le_of_lt (and_le_l w (span a b)) h)

pub plus_lt : (w a b j : ℕ) → w < 2 ^ j → b ≤ j → plus w a b < 2 ^ j
unfolding plus span
plus_lt w a b j h i = let p : 2 ^ b ≤ 2 ^ j = pow_mono i in or_lt j w (span a b) h (omega (arith, pow_pos a, pow_pos b))
