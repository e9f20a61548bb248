-- Rows that say the same are the same.
use Rattle.std.proofs.Common.{◌≡◌, ℕ, ◌≤◌, true, false, cond, Some, Ok, Err, Result, OnOk, ◌==◌, arith}
use Rattle.std.proofs.lemmas.Bool.{true≢false}
use Rattle.std.specs.Ordering.{is_eq, nat_cmp}
use Rattle.std.specs.Result.{is_err}
use mathlib.Core.Path.{fun_ext}
use mathlib.Core.HLevel.{is_prop→PathP}
use native.Mathlib.Bridge.{le_prop}
use Rattle.std.proofs.lemmas.Bool.Decides.{nat_tests}
use Rattle.timetable.specs.Additions.{is_same_row, put}
use Rattle.timetable.specs.Rows.{Table}
use Rattle.timetable.specs.declared.row.Row.{Row}

pub same_fields : (a b : Row) → a.train ≡ b.train → a.seats ≡ b.seats → a.stops ≡ b.stops → a.first ≡ b.first → a ≡ b
same_fields a b p q r s j =
    record {
      train = p j;
      seats = q j;
      stops = r j;
      first = s j;
      seated = is_prop→PathP (λ k. 1 ≤ q k) (λ k. le_prop) a.seated b.seated j;
      few = is_prop→PathP (λ k. q k ≤ 400) (λ k. le_prop) a.few b.few j;
      long = is_prop→PathP (λ k. 2 ≤ r k) (λ k. le_prop) a.long b.long j;
      short = is_prop→PathP (λ k. r k ≤ 30) (λ k. le_prop) a.short b.short j;
    }

pub same_row : (a b : Row) → is_same_row a b ≡ true → a ≡ b
same_row a b h =
    let t : a.train.0 ≡ b.train.0 = grind (arith, nat_tests) in
    let n : a.seats ≡ b.seats = grind (arith, nat_tests) in
    let m : a.stops ≡ b.stops = grind (arith, nat_tests) in
    let f : a.first.0 ≡ b.first.0 = grind (arith, nat_tests) in
    same_fields a b (λ j. record { 0 = t j }) n m (λ j. record { 0 = f j })

-- to put a row in that is there changes nothing
pub put_there : (s : Table) (r : Row) → s r.train.0 ≡ Some r → s ≡ put s r
put_there s r h = fun_ext (λ k. grind (arith, nat_tests))

-- what is promised of a value, where there is one
pub on_ok : {T E P : Type 0} (r : Result T E) → is_err r ≡ false → OnOk r P → P
on_ok (Ok x) h p = p
on_ok (Err e) h p = absurd (true≢false h)

-- the order of trains finds the train of a number
pub found_by_number : {X : Type 0} (k n : ℕ) (a b : X) → cond (is_eq (nat_cmp k n)) a b ≡ cond (n == k) a b
found_by_number k n a b = grind (arith, nat_tests)
