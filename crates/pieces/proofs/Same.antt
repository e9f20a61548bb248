-- Trips with the same stops are the same.
use Rattle.std.proofs.Common.{◌≡◌, ◌<◌, Bool, true, false, ltb, Some, None, sym, refl, ap, ◌∙◌}
use mathlib.Core.HLevel.{is_prop→PathP}
use native.Mathlib.Bridge.{le_prop}
use Rattle.pieces.specs.Parts.{trip_if, trip_from}
use Rattle.pieces.specs.declared.names.Stop.{Stop}
use Rattle.pieces.specs.declared.trip.Trip.{Trip}
use Rattle.std.proofs.lemmas.Bool.{lt-ltb, ltb-true, true≢false}

pub same_trip : (p q : Trip) → p.from ≡ q.from → p.to ≡ q.to → p ≡ q
same_trip p q c d j =
    record {
      from = c j;
      to = d j;
      ordered = is_prop→PathP (λ k. (c k).0 < (d k).0) (λ k. le_prop) p.ordered q.ordered j;
      near = is_prop→PathP (λ k. (d k).0 < 30) (λ k. le_prop) p.near q.near j;
    }

-- the trip between two stops that make one
pub trip_is : (t : Trip) → trip_from t.from t.to ≡ Some t
trip_is t = go (ltb t.from.0 t.to.0) refl (ltb t.to.0 30) refl
  where
    go : (x : Bool) (e : ltb t.from.0 t.to.0 ≡ x) (y : Bool) (f : ltb t.to.0 30 ≡ y) → trip_if t.from t.to x e y f ≡ Some t
    go true e true f = ap Some (same_trip _ t refl refl)
    go true e false f = absurd (true≢false (sym (lt-ltb t.to.0 30 t.near) ∙ f))
    go false e y f = absurd (true≢false (sym (lt-ltb t.from.0 t.to.0 t.ordered) ∙ e))

-- two stops that make none
pub trip_none : (a b : Stop) → ((a.0 < b.0) × (b.0 < 30) → ⊥) → trip_from a b ≡ None
trip_none a b n = go (ltb a.0 b.0) refl (ltb b.0 30) refl
  where
    go : (x : Bool) (e : ltb a.0 b.0 ≡ x) (y : Bool) (f : ltb b.0 30 ≡ y) → trip_if a b x e y f ≡ None
    go true e true f = absurd (n (ltb-true a.0 b.0 e, ltb-true b.0 30 f))
    go true e false f = refl
    go false e y f = refl
