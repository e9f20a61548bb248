-- What a station keeps in mind, as plain lists, and what may become of it.
use Rattle.std.specs.Prelude.{ℕ, ◌-◌, ◌<◌, Bool, false, cond, ◌||◌, List, [], ◌∷◌, drop, length, Some, None, Option, option_map, vec_items, ◌==◌, nat_le, slice_index_or}
use Rattle.giving.specs.declared.ids.StationId.{StationId}
use Rattle.pieces.specs.declared.demand.Demand.{Demand}
use Rattle.pieces.specs.declared.names.Train.{Train}
use Rattle.asking.specs.declared.desk.Desk.{Desk}
use Rattle.asking.specs.declared.told.Note.{Note}

-- an ask under way: what is still wanted, and who is still to answer, the first of these being asked now
pub record Inquiry : Type 0 where
  pub demand : Demand
  pub order : List StationId

-- `ticks` counts since stations last told each other
pub record Mind : Type 0 where
  pub told : List Note
  pub inquiry : Option Inquiry
  pub ticks : ℕ

abbrev pub empty : Mind
empty = record { told = []; inquiry = None; ticks = 0 }

abbrev pub mind : Desk → Mind
mind d = record { told = vec_items d.told.notes; inquiry = option_map (λ x. record { demand = x; order = drop d.at (vec_items d.order) }) d.demand; ticks = d.ticks }

-- a station to read where a list has none
abbrev pub none : StationId
none = record { 0 = 0 }

-- who is asked now
abbrev pub first : List StationId → StationId
first ks = slice_index_or ks 0 none

-- there is one that is asked now
abbrev pub Led : Option Inquiry → Type 0
Led None = Unit
Led (Some q) = 0 < length q.order

-- so many are still wanted
abbrev pub wanted : Option Inquiry → ℕ
wanted None = 0
wanted (Some q) = q.demand.people

-- the station is the first of these
abbrev pub leads : List StationId → StationId → Bool
leads [] k = false
leads (j ∷ js) k = k.0 == j.0

-- the station is asked now
abbrev pub is_asked : Option Inquiry → StationId → Bool
is_asked None k = false
is_asked (Some q) k = leads q.order k

-- so many were given: the next is asked for what is still wanted, or the ask is over
abbrev pub advanced : Option Inquiry → ℕ → Option Inquiry
advanced None m = None
advanced (Some q) m = cond (nat_le q.demand.people m || nat_le (length q.order) 1) None (Some (record { demand = record q.demand { people = q.demand.people - m }; order = drop 1 q.order }))

-- an ask for pieces of a train that is closed is over
abbrev pub dropped : Train → Option Inquiry → Option Inquiry
dropped t None = None
dropped t (Some q) = cond (q.demand.train.0 == t.0) None (Some q)
