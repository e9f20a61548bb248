-- Pieces, as they are written and read.
use Rattle.std.proofs.Common.{◌≡◌, ℕ, ◌^◌, ◌<◌, Bool, true, false, ltb, [], ◌∷◌, ◌++◌, Option, Some, None, Ok, refl, ap, subst, arith}
use Rattle.lines.specs.Bytes.{AreBytes, SoundPiece, long, piece_bytes, short}
use Rattle.lines.specs.Fields.{byte, half, piece, piece_from, piece_on, then, word}
use Rattle.lines.proofs.Layouts.{Layout, checked_layout, ok_is, then_layout}
use Rattle.lines.proofs.Numbers.{byte_layout, half_layout, word_layout}
use Rattle.pieces.proofs.Same.{trip_is}
use Rattle.pieces.specs.Parts.{piece_of, trip_from, trip_if}
use Rattle.pieces.specs.declared.names.Stop.{Stop}
use Rattle.pieces.specs.declared.piece.Piece.{Piece}
use Rattle.pieces.specs.declared.trip.Trip.{Trip}

-- the stops of a trip that two stops make
trip_ends : (a b : Stop) (t : Trip) → trip_from a b ≡ Some t → (t.from ≡ a) × (t.to ≡ b)
trip_ends a b t h = go (ltb a.0 b.0) refl (ltb b.0 30) refl h
  where
    go : (x : Bool) (e : ltb a.0 b.0 ≡ x) (y : Bool) (f : ltb b.0 30 ≡ y) → trip_if a b x e y f ≡ Some t → (t.from ≡ a) × (t.to ≡ b)
    go true e true f h = (cc, cc)
    go true e false f h = absurd cc
    go false e y f h = absurd cc

piece_fields : (x : ℕ × (ℕ × (ℕ × ℕ))) (p : Piece) → piece_from x ≡ Ok p → (p.train.0 ≡ x.0) × (p.seat.0 ≡ x.1.0) × (p.trip.from.0 ≡ x.1.1.0) × (p.trip.to.0 ≡ x.1.1.1)
piece_fields x p h = go (trip_from (record { 0 = x.1.1.0 }) (record { 0 = x.1.1.1 })) refl h
  where
    go : (o : Option Trip) → trip_from (record { 0 = x.1.1.0 }) (record { 0 = x.1.1.1 }) ≡ o → piece_on x.0 x.1.0 o ≡ Ok p
        → (p.train.0 ≡ x.0) × (p.seat.0 ≡ x.1.0) × (p.trip.from.0 ≡ x.1.1.0) × (p.trip.to.0 ≡ x.1.1.1)
    go None e h = absurd cc
    go (Some t) e h =
        let ends = trip_ends _ _ t e in
        let is = ok_is (piece_of (record { 0 = x.0 }) (record { 0 = x.1.0 }) t) p h in
        subst (λ (q : Piece). (q.train.0 ≡ x.0) × (q.seat.0 ≡ x.1.0) × (q.trip.from.0 ≡ x.1.1.0) × (q.trip.to.0 ≡ x.1.1.1)) is (refl, refl, ap (λ (s : Stop). s.0) ends.0, ap (λ (s : Stop). s.0) ends.1)

pub piece_layout : Layout piece piece_bytes SoundPiece
piece_layout =
    checked_layout piece_from _ (λ x. long x.0 ++ (short x.1.0 ++ (x.1.1.0 ∷ x.1.1.1 ∷ []))) (λ x. (x.0 < 2 ^ 32) × ((x.1.0 < 2 ^ 16) × ((x.1.1.0 < 256) × (x.1.1.1 < 256)))) piece_bytes SoundPiece
    (then_layout word long _ (λ _. then half (λ _. then byte (λ _. byte))) (λ _ x. short x.0 ++ (x.1.0 ∷ x.1.1 ∷ [])) (λ _ x. (x.0 < 2 ^ 16) × ((x.1.0 < 256) × (x.1.1 < 256))) word_layout
    (λ _. then_layout half short _ (λ _. then byte (λ _. byte)) (λ _ x. x.0 ∷ x.1 ∷ []) (λ _ x. (x.0 < 256) × (x.1 < 256)) half_layout
    (λ _. then_layout byte (λ b. b ∷ []) (λ b. b < 256) (λ _. byte) (λ _ b. b ∷ []) (λ _ b. b < 256) byte_layout (λ _. byte_layout))))
    to from
  where
    to : (p : Piece) → SoundPiece p → (x : ℕ × (ℕ × (ℕ × ℕ))) × (piece_from x ≡ Ok p) × ((x.0 < 2 ^ 32) × ((x.1.0 < 2 ^ 16) × ((x.1.1.0 < 256) × (x.1.1.1 < 256)))) × (long x.0 ++ (short x.1.0 ++ (x.1.1.0 ∷ x.1.1.1 ∷ [])) ≡ piece_bytes p)
    to p h =
        let t = p.trip in
        let low : t.from.0 < t.to.0 = t.ordered in
        let high : t.to.0 < 30 = t.near in
        ((p.train.0, (p.seat.0, (t.from.0, t.to.0))), ap (piece_on p.train.0 p.seat.0) (trip_is t), (h.0, (h.1, (omega arith, omega arith))), refl)

    from : (x : ℕ × (ℕ × (ℕ × ℕ))) (p : Piece) → ((x.0 < 2 ^ 32) × ((x.1.0 < 2 ^ 16) × ((x.1.1.0 < 256) × (x.1.1.1 < 256)))) → AreBytes (long x.0 ++ (short x.1.0 ++ (x.1.1.0 ∷ x.1.1.1 ∷ []))) → piece_from x ≡ Ok p → SoundPiece p × (long x.0 ++ (short x.1.0 ++ (x.1.1.0 ∷ x.1.1.1 ∷ [])) ≡ piece_bytes p)
    from x p h bytes e =
        let f = piece_fields x p e in
        ((rw f.0 h.0, rw f.1 h.1.0), rw (f.0, f.1, f.2, f.3) refl)

-- a piece behind its number
pub piece_numbered : Layout (then word (λ _. piece)) (λ x. long x.0 ++ piece_bytes x.1) (λ x. (x.0 < 2 ^ 32) × SoundPiece x.1)
piece_numbered = then_layout word long (λ n. n < 2 ^ 32) (λ _. piece) (λ _. piece_bytes) (λ _. SoundPiece) word_layout (λ _. piece_layout)
