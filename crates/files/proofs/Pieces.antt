-- Seats of one train and one trip, as they are written and read.
use Rattle.std.proofs.Common.{◌≡◌, ℕ, zero, suc, ◌^◌, ◌<◌, Bool, true, false, cond, eqb, ◌&&◌, List, [], ◌∷◌, ◌++◌, length, take, Ok, Err, refl, subst, arith}
use Rattle.std.specs.List.{AllByRecursion, flat_map}
use Rattle.files.specs.Bytes.{seat_bytes}
use Rattle.files.specs.Reading.{seat_on, seats}
use Rattle.lines.proofs.Layouts.{Layout, checked_layout, done, ok_is, then_layout}
use Rattle.lines.proofs.Pieces.{piece_layout}
use Rattle.lines.specs.Bytes.{AreBytes, SoundPiece, piece_bytes}
use Rattle.lines.specs.Fields.{checked, piece}
use Rattle.lines.specs.declared.fault.Fault.TheVariants.{Cut, Bad}
use Rattle.pieces.specs.Parts.{piece_of}
use Rattle.pieces.specs.declared.names.Seat.{Seat}
use Rattle.pieces.specs.declared.names.Train.{Train}
use Rattle.pieces.specs.declared.piece.Piece.{Piece}
use Rattle.pieces.specs.declared.trip.Trip.{Trip}
use Rattle.std.proofs.lemmas.Bool.{eq-eqb, eqb-true}

abbrev pub SoundSeats : ℕ → List Seat → Type 0
SoundSeats n ss = (length ss ≡ n) × AllByRecursion (λ (s : Seat). s.0 < 2 ^ 16) ss

seat_to : (z : Train) (t : Trip) (s : Seat) → seat_on z t (piece_of z s t) ≡ Ok s
seat_to z t s = rw (eq-eqb z.0 z.0 refl, eq-eqb t.from.0 t.from.0 refl, eq-eqb t.to.0 t.to.0 refl) refl

-- a piece of this train and this trip is that of its seat
seat_from : (z : Train) (t : Trip) (p : Piece) (s : Seat) → seat_on z t p ≡ Ok s → (p.train.0 ≡ z.0) × (p.trip.from.0 ≡ t.from.0) × (p.trip.to.0 ≡ t.to.0) × (p.seat ≡ s)
seat_from z t p s e =
    let all = go (eqb p.train.0 z.0) (eqb p.trip.from.0 t.from.0) (eqb p.trip.to.0 t.to.0) e in
    (eqb-true _ _ all.0, eqb-true _ _ all.1, eqb-true _ _ all.2, all.3)
  where
    go : (x y w : Bool) → cond (x && (y && w)) (Ok p.seat) (Err Bad) ≡ Ok s → (x ≡ true) × (y ≡ true) × (w ≡ true) × (p.seat ≡ s)
    go true true true e = (refl, refl, refl, ok_is p.seat s e)
    go true true false e = absurd cc
    go true false w e = absurd cc
    go false y w e = absurd cc

seat_layout : (z : Train) (t : Trip) → z.0 < 2 ^ 32 → Layout (checked (seat_on z t) piece) (seat_bytes z t) (λ (s : Seat). s.0 < 2 ^ 16)
seat_layout z t h =
    checked_layout (seat_on z t) piece piece_bytes SoundPiece (seat_bytes z t) (λ (s : Seat). s.0 < 2 ^ 16) piece_layout
    (λ s g. (piece_of z s t, seat_to z t s, (h, g), refl))
    (λ p s f b e. let is = seat_from z t p s e in (subst (λ (x : Seat). x.0 < 2 ^ 16) is.3 f.1, rw (is.0, is.1, is.2, is.3) refl))

pub seats_layout : (z : Train) (t : Trip) → z.0 < 2 ^ 32 → (n : ℕ) → Layout (seats z t n) (flat_map (seat_bytes z t)) (SoundSeats n)
seats_layout z t h zero = record { again = again; back = back; short = short }
  where
    again : (ss : List Seat) (ys : List ℕ) → SoundSeats 0 ss → seats z t 0 (flat_map (seat_bytes z t) ss ++ ys) ≡ Ok (ss, ys)
    again [] ys g = refl
    again (s ∷ ss) ys g = absurd (omega (arith, g.0))

    back : (bs : List ℕ) (ss : List Seat) (ys : List ℕ) → AreBytes bs → seats z t 0 bs ≡ Ok (ss, ys) → SoundSeats 0 ss × (bs ≡ flat_map (seat_bytes z t) ss ++ ys)
    back bs ss ys b e = subst (λ (x : List Seat × List ℕ). SoundSeats 0 x.0 × (bs ≡ flat_map (seat_bytes z t) x.0 ++ x.1)) (ok_is ([], bs) (ss, ys) e) ((refl, tt), refl)

    short : (ss : List Seat) (k : ℕ) → SoundSeats 0 ss → k < length (flat_map (seat_bytes z t) ss) → seats z t 0 (take k (flat_map (seat_bytes z t) ss)) ≡ Err Cut
    short [] k g lt = absurd (omega arith)
    short (s ∷ ss) k g lt = absurd (omega (arith, g.0))
seats_layout z t h (suc n) =
    checked_layout (λ x. done (x.0 ∷ x.1)) _ (λ x. seat_bytes z t x.0 ++ flat_map (seat_bytes z t) x.1) (λ x. (x.0.0 < 2 ^ 16) × SoundSeats n x.1) (flat_map (seat_bytes z t)) (SoundSeats (suc n))
    (then_layout (checked (seat_on z t) piece) (seat_bytes z t) (λ (s : Seat). s.0 < 2 ^ 16) (λ _. seats z t n) (λ _. flat_map (seat_bytes z t)) (λ _. SoundSeats n) (seat_layout z t h) (λ _. seats_layout z t h n))
    to from
  where
    to : (ss : List Seat) → SoundSeats (suc n) ss → (x : Seat × List Seat) × (done (x.0 ∷ x.1) ≡ done ss) × ((x.0.0 < 2 ^ 16) × SoundSeats n x.1) × (seat_bytes z t x.0 ++ flat_map (seat_bytes z t) x.1 ≡ flat_map (seat_bytes z t) ss)
    to [] g = absurd (omega (arith, g.0))
    to (s ∷ ss) g = ((s, ss), refl, (g.1.0, (omega (arith, g.0), g.1.1)), refl)

    from : (x : Seat × List Seat) (ss : List Seat) → ((x.0.0 < 2 ^ 16) × SoundSeats n x.1) → AreBytes (seat_bytes z t x.0 ++ flat_map (seat_bytes z t) x.1) → done (x.0 ∷ x.1) ≡ done ss → SoundSeats (suc n) ss × (seat_bytes z t x.0 ++ flat_map (seat_bytes z t) x.1 ≡ flat_map (seat_bytes z t) ss)
    from x ss g b e = subst (λ (ys : List Seat). SoundSeats (suc n) ys × (seat_bytes z t x.0 ++ flat_map (seat_bytes z t) x.1 ≡ flat_map (seat_bytes z t) ys)) (ok_is (x.0 ∷ x.1) ss e) ((omega (arith, g.1.0), (g.0, g.1.1)), refl)
