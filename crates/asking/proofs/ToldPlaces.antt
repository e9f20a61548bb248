-- Where a note stands.
use Rattle.std.proofs.Common.{◌≡◌, ltb, cond, List, [], ◌∷◌, ◌++◌, length, get_or, refl, arith}
use Rattle.std.proofs.Math.ListN.{set}
use Rattle.std.proofs.lemmas.Grind.{common_steps}
use Rattle.std.specs.List.{position_or_len}
use Rattle.giving.specs.declared.ids.StationId.{StationId}
use Rattle.pieces.specs.declared.names.Train.{Train}
use Rattle.asking.specs.Told.{is_of, kept, nothing, told_by}
use Rattle.asking.specs.declared.told.Note.{Note}

pub told_at : (xs : List Note) (t : Train) (k : StationId) (d : Note) → told_by xs t k ≡ cond (ltb (position_or_len (is_of t k) xs) (length xs)) (get_or xs (position_or_len (is_of t k) xs) d).tally nothing
told_at [] t k d = refl
told_at (x ∷ xs) t k d = grind (arith, common_steps, told_at xs t k d)

pub kept_at : (xs : List Note) (y : Note) → kept xs y ≡ cond (ltb (position_or_len (is_of y.train y.from) xs) (length xs)) (set xs (position_or_len (is_of y.train y.from) xs) y) (xs ++ y ∷ [])
kept_at [] y = refl
kept_at (x ∷ xs) y = grind (arith, common_steps, kept_at xs y)
