-- The runs of held stretches around a span. Assumes nothing.
use Rattle.std.proofs.Common.{◌≡◌, ℕ, zero, suc, ◌+◌, ◌-◌, ◌<◌, ◌≤◌, false, true, sym, ap, ◌∙◌, ⊎_elim, arith}
use Rattle.std.proofs.lemmas.Bool.{cases_lt, cond-true}
use Rattle.std.proofs.lemmas.Bool.Decides.{nat_tests}
use Rattle.pieces.specs.Stretches.{holds, before, behind, spare, Covers, FirstOf, EndOf}

-- ---- back from stop a

pub first_count : (w a s : ℕ) → FirstOf w a s → s + before w a ≡ a
unfolding before
first_count w zero s f = omega (arith, f.below)
first_count w (suc p) s f =
    ⊎_elim
    (λ l. let held = f.all p (omega arith) (omega arith) in
    let i = first_count w p s (record { below = omega arith; all = λ k g h. f.all k g (omega arith); stops = f.stops }) in
    grind (arith, nat_tests))
    (λ l. let q : suc p ≡ s = omega (arith, f.below) in let free = f.stops p q in grind (arith, nat_tests))
    (cases_lt s (suc p))

-- ---- on from stop b

end_count_of : (w b e n : ℕ) → b + n ≡ 29 → EndOf w b e → e ≡ b + behind w b n
unfolding behind
end_count_of w b e zero q f = omega (arith, f.above, f.near)
end_count_of w b e (suc n) q f =
    ⊎_elim
    (λ l. let held = f.all b (omega arith) l in
    let i = end_count_of w (suc b) e n (omega arith) (record { above = l; near = f.near; all = λ k g h. f.all k (omega arith) h; stops = f.stops }) in
    grind (arith, nat_tests))
    (λ l. let p : e ≡ b = omega (arith, f.above) in let free = ap (holds w) (sym p) ∙ f.stops (omega arith) in grind (arith, nat_tests))
    (cases_lt b e)

pub end_count : (w b e : ℕ) → EndOf w b e → e ≡ b + behind w b (29 - b)
end_count w b e f = end_count_of w b e (29 - b) (omega (arith, f.above, f.near)) f

pub end_is : (w b e : ℕ) → b ≤ e → e ≤ 29 → Covers w b e → (e < 29 → holds w e ≡ false) → (e ≡ b + behind w b (29 - b)) × EndOf w b e
end_is w b e h l c i = let f : EndOf w b e = record { above = h; near = l; all = c; stops = i } in (end_count w b e f, f)

behind_held : (w k n : ℕ) → holds w k ≡ true → behind w k (suc n) ≡ suc (behind w (suc k) n)
unfolding behind
behind_held w k n h = cond-true (holds w k) (suc (behind w (suc k) n)) 0 h

pub behind_run : (w b m n : ℕ) → Covers w b (b + m) → behind w b (m + n) ≡ m + behind w (b + m) n
behind_run w b zero n c =
    let p : b + 0 ≡ b = omega arith in
    let q : 0 + n ≡ n = omega arith in
    omega (arith, ap (behind w b) q, ap (λ (x : ℕ). behind w x n) p)
behind_run w b (suc m) n c =
    let p : suc b + m ≡ b + suc m = omega arith in
    let q : suc m + n ≡ suc (m + n) = omega arith in
    omega (arith, ap (behind w b) q, ap (λ (x : ℕ). behind w x n) p, behind_held w b (m + n) (c b (omega arith) (omega arith)), behind_run w (suc b) m n (λ k g h. c k (omega arith) (omega arith)))

pub spare_is : (w a b s e : ℕ) → FirstOf w a s → EndOf w b e → (a - s) + (e - b) ≡ spare w a b
unfolding spare
spare_is w a b s e f g = omega (arith, first_count w a s f, end_count w b e g)
