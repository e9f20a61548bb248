-- What is listed of all trains. Assumes nothing.
use Rattle.std.proofs.Common.{◌≡◌, ◌==◌, ◌<◌, ◌&&◌, List, is_some, Some, None, Option, filter, refl, ap, ◌∙◌}
use Rattle.std.specs.List.{AllPairs, list_any}
use Rattle.giving.specs.declared.ids.StationId.{StationId}
use Rattle.ledger.specs.Lost.{Listed, missing}
use Rattle.pieces.specs.declared.names.Train.{Train}
use Rattle.state.specs.States.{State}
use Rattle.std.proofs.Math.Bool.{and-true}
use Rattle.std.proofs.lemmas.Bool.{eqb-true}
use Rattle.std.proofs.lemmas.List.Kept.{AllPairs-filter}
use Rattle.std.proofs.lemmas.Map.Views.{any-filter_same}
use Rattle.timetable.specs.Rows.{Table}
use Rattle.timetable.specs.declared.row.Row.{Row}

-- of some trains those that are listed
abbrev pub listed_of : Table → State → StationId → List Train → List Train
listed_of tb s j ts = filter (λ (t : Train). missing (tb t.0) s j t) ts

rowed : (o : Option Row) (s : State) (j : StationId) (t : Train) → (missing o s j t && is_some o) ≡ missing o s j t
rowed None s j t = refl
rowed (Some r) s j t = and-true (missing (Some r) s j t)

pub listed_all_trains : (tb : Table) (s : State) (j : StationId) (ts : List Train) → AllPairs (λ (x y : Train). x.0 < y.0) ts
    → ((t : Train) → list_any (λ (x : Train). x.0 == t.0) ts ≡ is_some (tb t.0)) → Listed tb s j (listed_of tb s j ts)
listed_all_trains tb s j ts ordered each = (
  AllPairs-filter (λ (x y : Train). x.0 < y.0) (λ (t : Train). missing (tb t.0) s j t) ts ordered,
  λ t.
      any-filter_same (λ (x : Train). x.0 == t.0) (λ (x : Train). missing (tb x.0) s j x) (missing (tb t.0) s j t)
      (λ x e. let n = eqb-true x.0 t.0 e in ap (λ (y : Train). missing (tb y.0) s j y) (λ i. record { 0 = n i })) ts
      ∙ ap (λ b. missing (tb t.0) s j t && b) (each t) ∙ rowed (tb t.0) s j t,
)
