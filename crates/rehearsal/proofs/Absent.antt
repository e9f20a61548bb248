-- A seat that no train has is in no place.
-- Assumes nothing.
use Rattle.std.proofs.Common.{◌≡◌, ℕ, suc, ◌<◌, ◌≤◌, Bool, true, ltb, List, [], ◌∷◌, map, length, get_or, replicate, Some, None, Option, ap, arith}
use mathlib.Core.Logic.{∥∥₁_elim}
use native.Mathlib.Nat.{ℕ_set}
use Rattle.choosing.specs.Parties.{seats_of, below}
use Rattle.choosing.specs.declared.party.Party.{Party}
use Rattle.giving.specs.declared.message.Message.{Message}
use Rattle.network.proofs.Count.{one, count_nil, count_cons, count_append}
use Rattle.network.proofs.Fine.{Lists, Real}
use Rattle.network.proofs.Local.{listed_row, listed_party}
use Rattle.network.specs.Places.{count_in, sold_by, standing, under_way, gather}
use Rattle.network.specs.declared.place.Place.TheVariants.{Way}
use Rattle.pieces.specs.Parts.{piece_of}
use Rattle.pieces.specs.declared.names.Seat.{Seat}
use Rattle.pieces.specs.declared.names.Train.{Train}
use Rattle.pieces.specs.declared.piece.Piece.{Piece}
use Rattle.pieces.specs.declared.trip.Trip.{Trip}
use Rattle.rehearsal.proofs.Alone.{listed_way}
use Rattle.rehearsal.proofs.Gathered.{gather_none}
use Rattle.rehearsal.proofs.Living.{stands_at}
use Rattle.rehearsal.specs.Lives.{Lives, shown, journal_of, nowhere}
use Rattle.rehearsal.specs.declared.post.Post.{Post}
use Rattle.std.proofs.lemmas.Bool.{and_parts, ltb-true}
use Rattle.std.proofs.lemmas.Bool.Decides.{nat_tests}
use Rattle.std.specs.List.{All}
use Rattle.timetable.specs.Rows.{Table}

module _ (t : Train) (s u : ℕ) (far : 400 ≤ s) where
  -- a piece of a seat that a train may have
  piece_none : (p : Piece) → p.seat.0 < 400 → one t s u p ≡ 0
  piece_none p l = grind (arith, nat_tests)

  pieces_none : (tb : Table) (ps : List Piece) → All (Lists tb) ps → count_in t s u ps ≡ 0
  pieces_none tb [] h = count_nil t s u
  pieces_none tb (p ∷ ps) h =
      let r = listed_row (tb p.train.0) p (h 0 p (omega arith)) in
      omega (arith, count_cons t s u p ps, piece_none p (omega (arith, r.seat, r.row.few)), pieces_none tb ps (λ k d l. h (suc k) d (omega arith)))

  -- people on seats that a train has
  seats_none : (z : Train) (r : Trip) (n : ℕ) → n ≤ 400 → (ss : List Seat) → below n ss ≡ true → count_in t s u (map (λ x. piece_of z x r) ss) ≡ 0
  seats_none z r n l [] h = count_nil t s u
  seats_none z r n l (x ∷ ss) h =
      let (a, b) = and_parts (ltb x.0 n) (below n ss) h in
      omega (arith, count_cons t s u (piece_of z x r) (map (λ y. piece_of z y r) ss), piece_none (piece_of z x r) (omega (arith, ltb-true x.0 n a)), seats_none z r n l ss b)

  ticket_none : (tb : Table) (x : Option Party) → Real tb x → count_in t s u (sold_by x) ≡ 0
  ticket_none tb None h = count_nil t s u
  ticket_none tb (Some p) h = let r = listed_party (tb p.train.0) p h.1 in seats_none p.train p.trip r.row.seats r.row.few (seats_of p) r.seats

  tickets_none : (tb : Table) (xs : List (Option Party)) → All (Real tb) xs → count_in t s u (standing xs) ≡ 0
  unfolding standing
  tickets_none tb [] h = count_nil t s u
  tickets_none tb (x ∷ xs) h = omega (arith, count_append t s u (sold_by x) (standing xs), ticket_none tb x (h 0 x (omega arith)), tickets_none tb xs (λ k d l. h (suc k) d (omega arith)))

  module _ (tb : Table) (ps : List Post) (ms : List Message) (x : Bool) (lives : ∥ Lives tb ps ms x ∥₁) where
    pub sold_none : (i : ℕ) → i < length ps → count_in t s u (standing (get_or (map shown ps) i nowhere).tickets) ≡ 0
    sold_none i l = ∥∥₁_elim lives (ℕ_set _ _) (λ v. tickets_none tb (get_or (map shown ps) i nowhere).tickets (stands_at tb ps ms x v i l).real)

    way_none : (i j : ℕ) → i < length ps → count_in t s u (under_way i j (get_or (map shown ps) i nowhere) (get_or (map shown ps) j nowhere)) ≡ 0
    way_none i j l =
        ∥∥₁_elim lives (ℕ_set _ _)
        (λ v. pieces_none tb _ (listed_way tb (get_or (map shown ps) i nowhere) (get_or (map shown ps) j nowhere) (get_or (map journal_of ps) i []) (stands_at tb ps ms x v i l) i j))

    pub ways_none : (i : ℕ) → i < length ps → gather (length ps) (λ j. replicate (count_in t s u (under_way i j (get_or (map shown ps) i nowhere) (get_or (map shown ps) j nowhere))) (Way (record { 0 = i }) (record { 0 = j }))) ≡ []
    ways_none i l = gather_none (length ps) _ (λ j _. ap (λ (n : ℕ). replicate n (Way (record { 0 = i }) (record { 0 = j }))) (way_none i j l))
