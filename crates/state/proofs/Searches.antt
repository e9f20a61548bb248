-- Trains that are looked for in a list.
use Rattle.std.proofs.Common.{◌≡◌, eqb, List, [], ◌∷◌, refl, arith}
use Rattle.std.specs.List.{list_any}
use Rattle.std.proofs.lemmas.Grind.{common_steps}
use Rattle.pieces.specs.declared.names.Train.{Train}
use Rattle.state.specs.States.{among}

pub among_is : (ys : List Train) (t : Train) → list_any (λ (y : Train). eqb y.0 t.0) ys ≡ among t ys
among_is [] t = refl
among_is (y ∷ ys) t = grind (arith, common_steps, among_is ys t)
