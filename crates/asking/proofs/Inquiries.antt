-- An ask under way: who is asked next.
-- Assumes nothing.
use Rattle.std.proofs.Common.{◌≡◌, ℕ, ◌+◌, ◌-◌, Bool, true, false, cond, ◌||◌, leb, List, length, drop, Some, None, Option, option_map, refl, sym, ap, ◌∙◌}
use Rattle.asking.specs.Minds.{Inquiry, advanced}
use Rattle.giving.specs.declared.ids.StationId.{StationId}
use Rattle.pieces.specs.declared.demand.Demand.{Demand}
use Rattle.std.proofs.lemmas.List.{drop-drop}

-- an ask by its parts
abbrev pub inquiry_of : (at : ℕ) → List StationId → Option Demand → Option Inquiry
inquiry_of at xs d = option_map (λ x. record { demand = x; order = drop at xs }) d

-- the next one is asked from a place further on
pub advanced_by : (at : ℕ) (xs : List StationId) (d : Option Demand) (m : ℕ) (r : Option Demand) → r ≡ option_map (λ (q : Inquiry). q.demand) (advanced (inquiry_of at xs d) m)
    → inquiry_of (at + 1) xs r ≡ advanced (inquiry_of at xs d) m
advanced_by at xs None m r e = ap (inquiry_of (at + 1) xs) e
advanced_by at xs (Some x) m r e = ap (inquiry_of (at + 1) xs) e ∙ go (leb x.people m || leb (length (drop at xs)) 1)
  where
    go : (b : Bool) → inquiry_of (at + 1) xs (option_map (λ (q : Inquiry). q.demand) (cond b None (Some (record { demand = record x { people = x.people - m }; order = drop 1 (drop at xs) }))))
        ≡ cond b None (Some (record { demand = record x { people = x.people - m }; order = drop 1 (drop at xs) }))
    go true = refl
    go false = ap (λ ys. Some (record { demand = record x { people = x.people - m }; order = ys })) (sym (drop-drop 1 at xs))
