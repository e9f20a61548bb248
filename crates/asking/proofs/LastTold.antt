-- What was told last is known.
-- Assumes nothing.
use Rattle.std.proofs.Common.{◌≡◌, Bool, true, false, cond, not, eqb, List, [], ◌∷◌, refl, ◌∙◌, arith}
use Rattle.asking.specs.Laws.{LastTold}
use Rattle.asking.specs.Told.{is_of, kept, nothing, told_by, without}
use Rattle.asking.specs.declared.told.Note.{Note}
use Rattle.giving.specs.declared.ids.StationId.{StationId}
use Rattle.pieces.specs.declared.names.Train.{Train}
use Rattle.pieces.specs.declared.tally.Tally.{Tally}
use Rattle.std.proofs.lemmas.Bool.Decides.{nat_tests}

-- a note of the same train and station as another is of those that the other is of
same_of : (x y : Note) (t : Train) (k : StationId) → is_of y.train y.from x ≡ true → is_of t k x ≡ is_of t k y
same_of x y t k e = grind (arith, nat_tests)

told_kept : (xs : List Note) (y : Note) (t : Train) (k : StationId) → told_by (kept xs y) t k ≡ cond (is_of t k y) y.tally (told_by xs t k)
told_kept [] y t k = refl
told_kept (x ∷ xs) y t k = go (is_of y.train y.from x) refl (told_kept xs y t k)
  where
    over : (b : Bool) (p q r : Tally) → cond b p r ≡ cond b p (cond b q r)
    over true p q r = refl
    over false p q r = refl

    swap : (a b : Bool) (p q r : Tally) → (a ≡ true → b ≡ true → ⊥) → cond a p (cond b q r) ≡ cond b q (cond a p r)
    swap true true p q r h = absurd (h refl refl)
    swap true false p q r h = refl
    swap false b p q r h = refl

    apart : is_of y.train y.from x ≡ false → is_of t k x ≡ true → is_of t k y ≡ true → ⊥
    apart e f g = grind (arith, nat_tests)

    go : (b : Bool) → is_of y.train y.from x ≡ b → told_by (kept xs y) t k ≡ cond (is_of t k y) y.tally (told_by xs t k) →
        told_by (cond b (y ∷ xs) (x ∷ kept xs y)) t k ≡ cond (is_of t k y) y.tally (told_by (x ∷ xs) t k)
    go true e h = rw (same_of x y t k e) (over (is_of t k y) y.tally x.tally (told_by xs t k))
    go false e h = rw h (swap (is_of t k x) (is_of t k y) x.tally y.tally (told_by xs t k) (apart e))

told_without : (xs : List Note) (z t : Train) (k : StationId) → told_by (without z xs) t k ≡ cond (eqb t.0 z.0) nothing (told_by xs t k)
told_without [] z t k = same (eqb t.0 z.0)
  where
    same : (b : Bool) → nothing ≡ cond b nothing nothing
    same true = refl
    same false = refl
told_without (x ∷ xs) z t k = go (eqb x.train.0 z.0) refl (told_without xs z t k)
  where
    gone : (a b : Bool) (p r : Tally) → (a ≡ true → b ≡ true) → cond b nothing r ≡ cond b nothing (cond a p r)
    gone true true p r h = refl
    gone true false p r h = absurd (cc (h refl))
    gone false b p r h = refl

    stays : (a b : Bool) (p r : Tally) → (a ≡ true → b ≡ true → ⊥) → cond a p (cond b nothing r) ≡ cond b nothing (cond a p r)
    stays true true p r h = absurd (h refl refl)
    stays true false p r h = refl
    stays false b p r h = refl

    of : eqb x.train.0 z.0 ≡ true → is_of t k x ≡ true → eqb t.0 z.0 ≡ true
    of e f = grind (arith, nat_tests)

    off : eqb x.train.0 z.0 ≡ false → is_of t k x ≡ true → eqb t.0 z.0 ≡ true → ⊥
    off e f g = grind (arith, nat_tests)

    go : (b : Bool) → eqb x.train.0 z.0 ≡ b → told_by (without z xs) t k ≡ cond (eqb t.0 z.0) nothing (told_by xs t k) →
        told_by (cond (not b) (x ∷ without z xs) (without z xs)) t k ≡ cond (eqb t.0 z.0) nothing (told_by (x ∷ xs) t k)
    go true e h = h ∙ gone (is_of t k x) (eqb t.0 z.0) x.tally (told_by xs t k) (of e)
    go false e h = rw h (stays (is_of t k x) (eqb t.0 z.0) x.tally (told_by xs t k) (off e))

pub last_told : LastTold
last_told xs t k = (λ y. told_kept xs y t k, λ z. told_without xs z t k)
