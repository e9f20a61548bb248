-- The runs of a word. Assumes nothing.
use Rattle.std.proofs.Common.{◌≡◌, ℕ, zero, suc, ◌+◌, ◌-◌, ◌^◌, ◌<◌, ◌≤◌, true, false, ap, ◌∙◌, pow-suc, ⊎_elim, arith}
use Rattle.std.proofs.lemmas.Bool.{cases_Bool, both_ways}
use Rattle.pieces.specs.Laws.{IsRun, InARun, Apart, Around, Runs, PutsBack}
use Rattle.pieces.specs.Stretches.{holds, Covers, FirstOf}
use Rattle.pieces.proofs.Bitwise.{holds_past, plus_less, less_plus}

-- two spans that meet
covers_both : (w a b c : ℕ) → Covers w a b → Covers w b c → Covers w a c
covers_both w a b c f g k i j = grind arith

covers_one : (w k : ℕ) → holds w k ≡ true → Covers w k (suc k)
covers_one w k h j i l = let e : j ≡ k = omega arith in ap (holds w) e ∙ h

covers_none : (w a : ℕ) → Covers w a a
covers_none w a k i j = absurd (omega arith)

pub first_of : (w a : ℕ) → (s : ℕ) × FirstOf w a s
first_of w zero = (0, record { below = omega arith; all = covers_none w 0; stops = λ k e. absurd (omega arith) })
first_of w (suc p) =
    ⊎_elim
    (λ h. let r = first_of w p in let f = r.1 in
    (r.0, record { below = omega (arith, f.below); all = covers_both w r.0 p (suc p) f.all (covers_one w p h); stops = f.stops }))
    (λ h. (suc p, record { below = omega arith; all = covers_none w (suc p); stops = λ k e. let q : k ≡ p = omega arith in ap (holds w) q ∙ h }))
    (cases_Bool (holds w p))

end_of : (w b n : ℕ) → holds w (b + n) ≡ false → (e : ℕ) × (b ≤ e) × Covers w b e × (holds w e ≡ false)
end_of w b zero h = let q : b ≡ b + 0 = omega arith in (b, omega arith, covers_none w b, ap (holds w) q ∙ h)
end_of w b (suc n) h =
    let q : suc b + n ≡ b + suc n = omega arith in
    ⊎_elim
    (λ t. let r = end_of w (suc b) n (ap (holds w) q ∙ h) in
    (r.0, omega (arith, r.1), covers_both w b (suc b) r.0 (covers_one w b t) r.2, r.3))
    (λ f. (b, omega arith, covers_none w b, f))
    (cases_Bool (holds w b))

pub below_pow : (n : ℕ) → n < 2 ^ n
below_pow zero = omega arith
below_pow (suc n) = omega (arith, below_pow n, pow-suc 2 n)

pub in_a_run : InARun
in_a_run w k h =
    let l = first_of w k in
    let r = end_of w (suc k) w (holds_past w w (suc k + w) (below_pow w) (omega arith)) in
    let f = l.1 in (
      l.0,
      r.0,
      f.below,
      omega (arith, r.1),
      record {
        ordered = omega (arith, f.below, r.1);
        all = covers_both w l.0 k r.0 f.all (covers_both w k (suc k) r.0 (covers_one w k h) r.2);
        first = f.stops;
        last = r.3;
      },
    )

-- a run does not begin inside another
begins : (w a b c d : ℕ) → IsRun w a b → IsRun w c d → a < c → c ≤ b → ⊥
begins w a b c d r s l m =
    let e : suc (c - 1) ≡ c = omega arith in
    both_ways (holds w (c - 1)) (s.first (c - 1) e) (r.all (c - 1) (omega arith) (omega arith))

-- nor does it end there
ends : (w a b c d : ℕ) → IsRun w a b → IsRun w c d → c ≤ b → b < d → ⊥
ends w a b c d r s l m = both_ways (holds w b) r.last (s.all b l m)

pub apart : Apart
apart w a b c d r s = grind (arith, begins w a b c d r s, begins w c d a b s r, ends w a b c d r s, ends w c d a b s r)

pub around : Around
around w a b s e h l c f g = record {
  ordered = omega (arith, f.below, g.above);
  all = covers_both w s a e f.all (covers_both w a b e c g.all);
  first = f.stops;
  last = grind (arith, holds_past w 29 e h);
}

pub runs_stand : Runs
runs_stand = (in_a_run, apart, around)

pub puts_back : PutsBack
puts_back = (λ w a b h c. plus_less w a b (omega arith) c, λ w a b h c. less_plus w a b (omega arith) c)
