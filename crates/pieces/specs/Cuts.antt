-- A piece cut: what is left of it on either side of a trip.
use Rattle.std.specs.Prelude.{◌≡◌, ◌≤◌, Option, MatchOption}
use Rattle.pieces.specs.declared.names.Stop.{Stop}
use Rattle.pieces.specs.declared.piece.Piece.{Piece}
use Rattle.pieces.specs.declared.trip.Trip.{Trip}

-- the trip lies within the piece
abbrev pub Inside : Piece → Trip → Type 0
Inside p t = (p.trip.from.0 ≤ t.from.0) × (t.to.0 ≤ p.trip.to.0)

-- q is the part of p from stop a to stop b
abbrev pub IsPart : Piece → Piece → Stop → Stop → Type 0
IsPart p q a b = (q.train ≡ p.train) × (q.seat ≡ p.seat) × (q.trip.from ≡ a) × (q.trip.to ≡ b)

-- what is left of the piece before the trip: nothing exactly where both begin at one stop
abbrev pub Before : Piece → Trip → Option Piece → Type 0
Before p t r = MatchOption r (p.trip.from.0 ≡ t.from.0) (λ q. IsPart p q p.trip.from t.from)

-- and behind it: nothing exactly where both end at one stop
abbrev pub Behind : Piece → Trip → Option Piece → Type 0
Behind p t r = MatchOption r (t.to.0 ≡ p.trip.to.0) (λ q. IsPart p q t.to p.trip.to)
