-- Another station by its number.
use Rattle.std.specs.Prelude.{ℕ, cond, nat_lt}
use Rattle.giving.specs.declared.ids.StationId.{StationId}

-- a number that no station can have is the one's own that is asked, which is refused alike
abbrev pub other_of : (me : StationId) → ℕ → StationId
other_of me n = cond (nat_lt n 256) (record { 0 = n }) me
