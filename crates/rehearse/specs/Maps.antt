-- What is printed of a map.
use Rattle.std.specs.Prelude.{ℕ, List, [], ◌∷◌, ◌++◌, codes, vec_items}
use Rattle.std.specs.Fmt.{decimal}
use Rattle.std.specs.List.{flat_map}
use Rattle.network.specs.Places.{printed}
use Rattle.network.specs.declared.place.Place.{Place}
use Rattle.rehearse.specs.declared.map.Run.{Run}

-- a further place
abbrev pub further : Place → List ℕ
further p = codes "+" ++ printed p

-- all places, joined by '+'
abbrev pub places_text : List Place → List ℕ
places_text [] = codes "none"
places_text (p ∷ ps) = printed p ++ flat_map further ps

-- from where to where, and in which places
abbrev pub run_text : Run → List ℕ
run_text r = decimal r.from ++ (codes "-" ++ (decimal r.to ++ (codes " " ++ places_text (vec_items r.places))))
