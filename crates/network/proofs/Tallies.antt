-- What a station tells of a train is what it holds.
-- Assumes nothing.
use Rattle.std.proofs.Common.{◌≡◌, ℕ, zero, suc, ◌+◌, ◌-◌, ◌*◌, ◌<◌, ◌≤◌, Bool, true, false, not, eqb, List, length, get_or, take, drop, Some, sym, refl, ap, ◌∙◌, subst, arith, length-drop}
use Rattle.network.proofs.Held.{open_lt}
use Rattle.network.proofs.Linked.{ok_reach}
use Rattle.network.proofs.Once.{only}
use Rattle.network.specs.Answers.{HowMany, words_of}
use Rattle.network.specs.Places.{holding}
use Rattle.network.specs.Promises.{TellsTrue}
use Rattle.network.specs.Falls.{Reach}
use Rattle.network.specs.Worlds.{World, state}
use Rattle.pieces.proofs.Anything.{something}
use Rattle.pieces.proofs.Bitwise.{covered_decides}
use Rattle.pieces.proofs.Blocks.{part_at}
use Rattle.pieces.specs.Memory.{train_at}
use Rattle.pieces.specs.Stretches.{covered}
use Rattle.pieces.specs.declared.names.Train.{Train}
use Rattle.state.specs.States.{State, place}
use Rattle.std.proofs.lemmas.Bool.{eq-eqb, false_from_ne_true, ne_eqb}
use Rattle.std.proofs.lemmas.List.{take_all, length-take-le}
use Rattle.std.proofs.lemmas.List.Sums.{count_by_more_no, count_by_more_yes}
use Rattle.std.specs.List.{count_by}
use Rattle.timetable.specs.Rows.{Table, stretches}
use Rattle.timetable.specs.declared.row.Row.{Row}

-- a test that decides P counts how many have it
module _ (P : ℕ → Type 0) (p : ℕ → Bool) (has : (s : ℕ) → p s ≡ true → P s) (tests : (s : ℕ) → P s → p s ≡ true) (xs : List ℕ) (q : ℕ → Bool) (is : (s : ℕ) → s < length xs → q (get_or xs s 0) ≡ p s) where
  -- in the first n of a list
  counts : (n : ℕ) → n ≤ length xs → HowMany P n (count_by q (take n xs))
  counts zero l = HowMany.none
  counts (suc n) l = go (p n) refl (counts n (omega arith))
    where
      i : suc n ≡ n + 1
      i = omega arith

      go : (b : Bool) → p n ≡ b → HowMany P n (count_by q (take n xs)) → HowMany P (suc n) (count_by q (take (suc n) xs))
      go true e h =
          let k : suc (count_by q (take n xs)) ≡ count_by q (take (suc n) xs) = omega (arith, count_by_more_yes q xs n 0 (omega arith) (is n (omega arith) ∙ e), ap (λ (m : ℕ). count_by q (take m xs)) i) in
          subst (HowMany P (suc n)) k (HowMany.one n (count_by q (take n xs)) (has n e) h)
      go false e h =
          let k : count_by q (take n xs) ≡ count_by q (take (suc n) xs) = omega (arith, count_by_more_no q xs n 0 (omega arith) (is n (omega arith) ∙ e), ap (λ (m : ℕ). count_by q (take m xs)) i) in
          subst (HowMany P (suc n)) k (HowMany.past n (count_by q (take n xs)) (λ h. let z = tests n h in cc) h)

-- what has it not does not count
uncounted : (q : ℕ → Bool) (xs : List ℕ) (n d : ℕ) → n + d ≤ length xs → ((s : ℕ) → n ≤ s → s < n + d → q (get_or xs s 0) ≡ false) → count_by q (take (n + d) xs) ≡ count_by q (take n xs)
uncounted q xs n zero l h = ap (λ (m : ℕ). count_by q (take m xs)) (omega arith)
uncounted q xs n (suc d) l h =
    let e : n + suc d ≡ n + d + 1 = omega arith in
    ap (λ (m : ℕ). count_by q (take m xs)) e
    ∙ count_by_more_no q xs (n + d) 0 (omega arith) (h (n + d) (omega arith) (omega arith))
    ∙ uncounted q xs n d (omega arith) (λ s a b. h s a (omega arith))

module _ (n : ℕ) (tb : Table) (w : World) (reach : Reach n tb w) (i : ℕ) (t : Train) (r : Row) (l : i < n) (e : tb t.0 ≡ Some r) where
  abbrev x : State
  x = state n tb w i

  abbrev xs : List ℕ
  xs = train_at x.words (place x t)

  abbrev word : ℕ → ℕ
  word = words_of x t

  -- nothing is held of a seat that the train has not
  within : (s u : ℕ) → s < 400 → holding t s u x ≡ true → s < r.seats
  within s u k h = let (q, f, b, _) = (only n tb w reach i).0 t s u l k h in omega (arith, b, ap (λ v. v.seats) (same q (sym e ∙ f)))
    where
      same : (q : Row) → Some r ≡ Some q → r ≡ q
      same q g = cc

  module _ (open_here : place x t < 64) where
    words : length x.words ≡ 25600
    words = ((ok_reach n tb reach).fine i).sound.words

    long : length xs ≡ 400
    long = length-take-le 400 (drop (place x t * 400) x.words) (omega (arith, length-drop (place x t * 400) x.words, words))

    at_seat : (s : ℕ) → s < 400 → get_or xs s 0 ≡ word s
    at_seat s k = part_at x.words (place x t * 400) 400 s k

    -- of the seats that the train has, those with P are counted by a test of their words, which none past them meets
    tallied : (P : ℕ → Type 0) (q : ℕ → Bool) → ((s : ℕ) → q (word s) ≡ true → P s) → ((s : ℕ) → P s → q (word s) ≡ true) → ((s : ℕ) → s < 400 → q (word s) ≡ true → s < r.seats) → HowMany P r.seats (count_by q xs)
    tallied P q has tests near = subst (HowMany P r.seats) same (counts P (λ s. q (word s)) has tests xs q (λ s k. ap q (at_seat s (omega (arith, long)))) r.seats (omega (arith, long, r.few)))
      where
        off : (s : ℕ) → r.seats ≤ s → s < r.seats + (400 - r.seats) → q (get_or xs s 0) ≡ false
        off s a b = false_from_ne_true (q (get_or xs s 0)) (λ h. absurd (omega (arith, a, near s (omega arith) (ap q (sym (at_seat s (omega arith))) ∙ h))))

        same : count_by q (take r.seats xs) ≡ count_by q xs
        same =
            let f : r.seats + (400 - r.seats) ≡ 400 = omega (arith, r.few) in
            sym (uncounted q xs r.seats (400 - r.seats) (omega (arith, long, f)) off) ∙ ap (λ (m : ℕ). count_by q (take m xs)) f ∙ ap (count_by q) (take_all 400 xs (omega (arith, long)))

pub tells_true : TellsTrue
tells_true n tb w reach i t r l e o =
    rw e (
      tallied n tb w reach i t r l e here _ (λ v. covered v 0 (stretches r)) (λ s c u b. (covered_decides (f s) 0 (stretches r)).0 c u (omega arith) b) (λ s h. (covered_decides (f s) 0 (stretches r)).1 (λ u _ b. h u b))
          (λ s k c. within n tb w reach i t r l e s 0 k ((covered_decides (f s) 0 (stretches r)).0 c 0 (omega arith) (omega (arith, r.long)))),
      tallied n tb w reach i t r l e here _ (λ v. not (eqb v 0)) (λ s c. (something (f s)).0 (some (f s) c)) (λ s (u, h). ap not (ne_eqb (f s) 0 ((something (f s)).1 u h)))
          (λ s k c. let (u, h) = (something (f s)).0 (some (f s) c) in within n tb w reach i t r l e s u k h),
    )
  where
    f : ℕ → ℕ
    f = words_of (state n tb w i) t

    some : (v : ℕ) → not (eqb v 0) ≡ true → v ≡ 0 → ⊥
    some v h g = let z = eq-eqb v 0 g in cc

    here : place (state n tb w i) t < 64
    here = omega (arith, open_lt (state n tb w i) t o, ((ok_reach n tb reach).fine i).sound.slots)
