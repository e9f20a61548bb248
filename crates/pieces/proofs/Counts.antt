-- Where a run begins and ends, by counts of ones and zeros. Assumes nothing.
use Rattle.std.proofs.Common.{◌≡◌, ℕ, suc, ◌+◌, ◌-◌, ◌*◌, ◌/◌, ◌%◌, ◌^◌, ◌<◌, ◌≤◌, ◌≢◌, bit_or, sym, ap, ◌∙◌, ⊎_elim, arith, pow-suc, shr-shr}
use Rattle.std.specs.Int.{bit_at, trailing_zeros, leading_ones, w64}
use Rattle.std.proofs.lemmas.Bool.{cases_lt}
use Rattle.std.proofs.lemmas.Nat.{shl-shr, shr_le, pow_pos, and_mask, mod_below, or_lt, leading_length, le-div, div_below}
use Rattle.std.proofs.lemmas.Nat.Bits.{bit_at-zero, bit_at-lt, bit_at_and, bit_at_not, bit_at_ones, bit_at_above, bit_at_cat_low, bit_at-trailing_zeros, bit_at_set_same, bit_at_set_other}
use Rattle.pieces.specs.Stretches.{FirstOf, EndOf}
use Rattle.pieces.proofs.Bitwise.{held, free}

-- ---- the ones right before stop a: the word is moved up until the stretch before stop a is the highest bit

bit_cut : (y i : ℕ) → i < 64 → bit_at (y % 2 ^ 64) i ≡ bit_at y i
bit_cut y i h =
    ap (λ (x : ℕ). bit_at x i) (sym (and_mask y 64)) ∙ omega (arith, bit_at_and y (2 ^ 64 - 1) i, bit_at_ones 64 i h, bit_at-lt y i)

bit_up : (w d k : ℕ) → d + k < 64 → bit_at (w * 2 ^ d % 2 ^ 64) (d + k) ≡ bit_at w k
bit_up w d k h = bit_cut (w * 2 ^ d) (d + k) h ∙ ap (λ (x : ℕ). x % 2) (sym (shr-shr (w * 2 ^ d) d k) ∙ ap (λ (x : ℕ). x / 2 ^ k) (shl-shr w d))

bit_below : (w d i : ℕ) → d ≤ 64 → i < d → bit_at (w * 2 ^ d % 2 ^ 64) i ≡ 0
bit_below w d i h l =
    let e : w * 2 ^ d ≡ w * 2 ^ d + 0 = omega arith in
    bit_cut (w * 2 ^ d) i (omega arith) ∙ ap (λ (x : ℕ). bit_at x i) e ∙ bit_at_cat_low w d 0 i l ∙ bit_at-zero i

-- the highest bit of a number
bit_top : (n j : ℕ) → 2 ^ j ≤ n → n < 2 * 2 ^ j → bit_at n j ≡ 1
bit_top n j h i =
    let e : n / 2 ^ j ≡ 1 = omega (arith, le-div 1 n (2 ^ j) (pow_pos j) (omega arith), div_below n (2 ^ j) 2 (pow_pos j) i) in
    ap (λ (x : ℕ). x % 2) e

-- the first t bits from the top are set, and the next is not
leading_run : (x t : ℕ) → x < 2 ^ 64 → t ≡ leading_ones w64 x → (t ≤ 64) × ((j : ℕ) → 64 - t ≤ j → j < 64 → bit_at x j ≡ 1) × ((j : ℕ) → suc j ≡ 64 - t → bit_at x j ≡ 0)
leading_run x t h e =
    let n = 2 ^ 64 - 1 - x in
    let len = leading_length 64 n (omega arith) in
    let m : len.0 ≡ 64 - t = omega (arith, len.1) in (
      omega (arith, len.1),
      λ j l i. omega (arith, bit_at_not w64 x j h i, bit_at_above n len.0 j len.2 (omega arith), bit_at-lt x j),
      λ j q.
          let d : 2 ^ len.0 ≡ 2 ^ j * 2 = ap (λ (i : ℕ). 2 ^ i) (m ∙ sym q) ∙ pow-suc 2 j in
          omega (arith, bit_at_not w64 x j h (omega arith), bit_top n j (omega (arith, len.3)) (omega (arith, len.2))),
    )

-- a word moved up by a step less, and then by one
pub two_steps : (w a : ℕ) → a < 64 → w * 2 ^ (63 - a) % 2 ^ 64 * 2 ^ 1 % 2 ^ 64 ≡ w * 2 ^ (64 - a) % 2 ^ 64
two_steps w a h =
    let e : 64 - a ≡ suc (63 - a) = omega arith in
    let p : 2 ^ (64 - a) ≡ 2 ^ (63 - a) * 2 = ap (λ (i : ℕ). 2 ^ i) e ∙ pow-suc 2 (63 - a) in
    let q : w * 2 ^ (64 - a) ≡ w * 2 ^ (63 - a) * 2 = ap (λ (y : ℕ). w * y) p ∙ grind arith in
    omega (arith, q)

pub start_run : (w a d x t : ℕ) → a + d ≡ 64 → x ≡ w * 2 ^ d % 2 ^ 64 → t ≡ leading_ones w64 x → (t ≤ a) × FirstOf w a (a - t)
start_run w a d x t h up i =
    let r = leading_run x t (omega (arith, mod_below (w * 2 ^ d) (2 ^ 64) (pow_pos 64))) i in
    let at : (k : ℕ) → k < a → bit_at x (d + k) ≡ bit_at w k = λ k l. ap (λ (y : ℕ). bit_at y (d + k)) up ∙ bit_up w d k (omega arith) in
    let low : t ≤ a =
    ⊎_elim
    (λ l. let z : bit_at x (64 - t) ≡ 0 = ap (λ (y : ℕ). bit_at y (64 - t)) up ∙ bit_below w d (64 - t) (omega arith) (omega (arith, r.0)) in
    absurd (omega (arith, r.1 (64 - t) (omega arith) (omega arith))))
    (λ l. l)
    (cases_lt a t) in (
      low,
      record {
        below = omega arith;
        all = λ k g l. held w k (sym (at k l) ∙ r.1 (d + k) (omega arith) (omega arith));
        stops = λ k q. free w k (sym (at k (omega arith)) ∙ r.2 (d + k) (omega arith));
      },
    )

-- ---- the first gap from stop b on, or stop 29

bit_shr : (w b j : ℕ) → bit_at (w / 2 ^ b) j ≡ bit_at w (b + j)
bit_shr w b j = ap (λ (x : ℕ). x % 2) (shr-shr w b j)

pub end_run : (w b t : ℕ) → w < 2 ^ 64 → b ≤ 29 → t ≡ trailing_zeros w64 (bit_or (2 ^ 64 - 1 - w / 2 ^ b) (1 * 2 ^ (29 - b) % 2 ^ 64)) → EndOf w b (b + t)
end_run w b t h g i =
    let v = w / 2 ^ b in
    let m = 29 - b in
    let y = 2 ^ 64 - 1 - v in
    let one = 1 * 2 ^ m % 2 ^ 64 in
    let x = bit_or y one in
    let small : v < 2 ^ 64 = omega (arith, shr_le w b) in
    let top : bit_at x m ≡ 1 = bit_at_set_same w64 y m (omega arith) in
    let other : (j : ℕ) → j ≢ m → j < 64 → bit_at x j ≡ 1 - bit_at w (b + j) =
    λ j d l. bit_at_set_other w64 y m (omega arith) j d ∙ bit_at_not w64 v j small l ∙ ap (λ (z : ℕ). 1 - z) (bit_shr w b j) in
    let some : 0 < x = ⊎_elim (λ z. let q : x ≡ 0 = omega arith in absurd (omega (arith, sym top ∙ ap (λ (z : ℕ). bit_at z m) q ∙ bit_at-zero m))) (λ l. l) (cases_lt x 1) in
    let r = bit_at-trailing_zeros w64 x some (or_lt 64 y one (omega arith) (mod_below (1 * 2 ^ m) (2 ^ 64) (pow_pos 64))) in
    let near : t ≤ m = ⊎_elim (λ l. absurd (omega (arith, top, r.2 m (omega arith)))) (λ l. l) (cases_lt m t) in record {
      above = omega arith;
      near = omega arith;
      all = λ k p l.
          let e : b + (k - b) ≡ k = omega arith in
          held w k (ap (bit_at w) (sym e) ∙ omega (arith, other (k - b) (λ q. omega arith) (omega arith), r.2 (k - b) (omega arith), bit_at-lt w (b + (k - b))));
      stops = λ l.
          let at : bit_at x t ≡ 1 = ap (bit_at x) i ∙ r.1 in
          free w (b + t) (omega (arith, other t (λ q. omega arith) (omega arith), at, bit_at-lt w (b + t)));
    }
