-- Trains in order. Assumes nothing.
use Rattle.std.proofs.Common.{◌≡◌, ◌==◌, ◌<◌, List, [], ◌∷◌, ap, sym, ◌∙◌, arith}
use mathlib.Core.Path.{fun_ext}
use Rattle.std.specs.Cmp.{unsigned_tied}
use Rattle.std.specs.List.{AllPairs, list_any}
use Rattle.std.specs.List.Sorted.{IsStrictlySortedBy}
use Rattle.std.specs.Ordering.{eq_by_cmp}
use Rattle.std.specs.declared.cmp.Ordering.TheVariants.{Less}
use Rattle.std.proofs.lemmas.Bool.Decides.{nat_tests}
use Rattle.std.proofs.lemmas.Cmp.{ranked}
use Rattle.std.proofs.lemmas.List.Elements.{All-from_recursion, All-weaker}
use Rattle.std.proofs.lemmas.List.Kept.{AllPairs-cons}
use Rattle.pieces.specs.declared.names.Train.{Train}
use Rattle.timetable.specs.Keys.{by_number}

less_number : (x y : Train) → by_number x y ≡ Less → x.0 < y.0
less_number x y h = ranked x.0 y.0 Less (sym h)

-- a list in the order of the trains' numbers
pub by_number_pairs : (ts : List Train) → IsStrictlySortedBy by_number ts → AllPairs (λ (x y : Train). x.0 < y.0) ts
unfolding IsStrictlySortedBy
by_number_pairs [] h = λ i j d lt within. absurd (omega arith)
by_number_pairs (t ∷ ts) h =
    AllPairs-cons (λ (x y : Train). x.0 < y.0) t ts
    (All-weaker (λ (y : Train). by_number t y ≡ Less) (λ (y : Train). t.0 < y.0) (less_number t) ts (All-from_recursion (λ (y : Train). by_number t y ≡ Less) ts h.0))
    (by_number_pairs ts h.1)

same_number : (t x : Train) → eq_by_cmp by_number t x ≡ (x.0 == t.0)
same_number t x = unsigned_tied t.0 x.0 ∙ grind (arith, nat_tests)

-- a train is looked for in a list by its number
pub any_number : (t : Train) (ts : List Train) → list_any (eq_by_cmp by_number t) ts ≡ list_any (λ (x : Train). x.0 == t.0) ts
any_number t ts = ap (λ p. list_any p ts) (fun_ext (same_number t))
