-- Of a station that lost its file, each train is on a list.
-- Assumes nothing.
use Rattle.std.proofs.Common.{◌≡◌, ℕ, ◌+◌, ◌-◌, ◌<◌, ◌≤◌, Bool, true, false, cond, not, ◌||◌, eqb, ltb, ◌⊎◌, List, [], ◌∷◌, map, length, is_some, Some, None, Option, sym, refl, ap, ◌∙◌, subst, ⊎_elim, arith}
use mathlib.Core.List.{Memᴰ}
use Rattle.choosing.specs.Parties.{below, pieces_of, seats_of, some}
use Rattle.choosing.specs.declared.party.Party.{Party}
use Rattle.giving.specs.Channels.{Chan}
use Rattle.giving.specs.declared.ids.StationId.{StationId}
use Rattle.ledger.specs.Lost.{missing}
use Rattle.network.proofs.Count.{given_to, taken_from, one, count_nil, count_cons, count_append, one_other, given_by, taken_by}
use Rattle.network.proofs.Fine.{Lists, real_at}
use Rattle.network.proofs.Gave.{Noted, noted_all}
use Rattle.network.proofs.Known.{known_all}
use Rattle.network.proofs.Linked.{Intact, ok_reach, given_rest}
use Rattle.network.proofs.Lists.{all_mem}
use Rattle.network.proofs.Local.{listed_party}
use Rattle.network.proofs.Once.{count_one}
use Rattle.network.proofs.Slots.{train_is}
use Rattle.network.proofs.Stock.{stock, due}
use Rattle.network.proofs.Sum.{sum_some, sum_has}
use Rattle.network.proofs.Trains.{share}
use Rattle.network.specs.Falls.{Reach}
use Rattle.network.specs.Lost.{Had, held, ticket, coming, going, LostListed}
use Rattle.network.specs.Places.{count_in, under_way}
use Rattle.network.specs.Worlds.{World, journal, state, channel}
use Rattle.pieces.specs.Parts.{has, piece_of}
use Rattle.pieces.specs.declared.names.Seat.{Seat}
use Rattle.pieces.specs.declared.names.Train.{Train}
use Rattle.pieces.specs.declared.piece.Piece.{Piece}
use Rattle.state.proofs.Opens.{listed_seat}
use Rattle.state.specs.States.{is_open, has_given, was_closed, known}
use Rattle.std.specs.List.{All}
use Rattle.std.proofs.lemmas.Bool.{and_from, and_parts, cases_eq, eq-eqb, ltb-true, or_left, or_right, false≢true}
use Rattle.std.proofs.lemmas.Bool.Decides.{nat_tests}
use Rattle.std.proofs.lemmas.List.Elements.{All-head, All-tail, All-drop}
use Rattle.timetable.specs.Rows.{Table}
use Rattle.timetable.specs.declared.row.Row.{Row}

-- ---- pieces, and stretches of them

-- a piece has its first stretch
has_first : (p : Piece) → has p.train.0 p.seat.0 p.trip.from.0 p ≡ true
has_first p = let o = p.trip.ordered in grind (arith, nat_tests)

count_first : (p : Piece) (ps : List Piece) → 1 ≤ count_in p.train p.seat.0 p.trip.from.0 (p ∷ ps)
count_first p ps = omega (arith, count_cons p.train p.seat.0 p.trip.from.0 p ps, ap (λ b. cond {A = ℕ} b 1 0) (has_first p))

-- so of the pieces that it is among one has that stretch
count_mem : (t : Train) {p : Piece} {ps : List Piece} → p.train ≡ t → Memᴰ p ps → 1 ≤ count_in t p.seat.0 p.trip.from.0 ps
count_mem t {p} c (Memᴰ.head {x = q} {xs = qs} e) = subst (λ z. 1 ≤ count_in z p.seat.0 p.trip.from.0 (q ∷ qs)) c (rw e (count_first q qs))
count_mem t {p} c (Memᴰ.tail {x = q} {xs = qs} m) = omega (arith, count_cons t p.seat.0 p.trip.from.0 q qs, count_mem t c m)

-- a party of somebody has a piece
sold_first : (p : Party) (ss : List Seat) (m : ℕ) → some (length ss) ≡ true → below m ss ≡ true → (s : ℕ) × (s < m) × (1 ≤ count_in p.train s p.trip.from.0 (map (λ y. piece_of p.train y p.trip) ss))
sold_first p [] m e b = absurd (false≢true e)
sold_first p (y ∷ ss) m e b = (y.0, ltb-true y.0 m (and_parts (ltb y.0 m) (below m ss) b).0, count_first (piece_of p.train y p.trip) (map (λ y. piece_of p.train y p.trip) ss))

-- what holds of all pieces of a list holds of one of the train, where a stretch of it is there
one_counted : (t : Train) (s u : ℕ) (P : Piece → Type 0) (ps : List Piece) → All P ps → 1 ≤ count_in t s u ps → (p : Piece) × (p.train ≡ t) × P p
one_counted t s u P [] h l = absurd (omega (arith, l, count_nil t s u))
one_counted t s u P (p ∷ ps) h l =
    ⊎_elim (λ e. (p, train_is (sym e), All-head P p ps h)) (λ d. one_counted t s u P ps (All-tail P p ps h) (omega (arith, l, count_cons t s u p ps, one_other t s u p d))) (cases_eq t.0 p.train.0)

-- ---- who lists it

another : (n j : ℕ) → 1 < n → (i : ℕ) × (i < n) × (i ≡ j → ⊥)
another n j l = ⊎_elim (λ e. (1, l, λ f. omega (arith, e, f))) (λ d. (0, omega (arith, l), λ f. d (sym f))) (cases_eq j 0)

-- what a station was due at first it was as the first one
due_first : (o : Option Row) (b : Bool) (i s u : ℕ) → 1 ≤ cond b (share o i s u) 0 → (r : Row) × (o ≡ Some r) × (r.first.0 ≡ i)
due_first None b i s u h = absurd (grind arith)
due_first (Some r) b i s u h = (r, refl, grind (arith, nat_tests))

module _ (n : ℕ) (tb : Table) (w : World) (reach : Reach n tb w) (j : StationId) (b : j.0 < n) (byte : j.0 < 256) (others : 1 < n) (t : Train) (none : (k : ℕ) → k < n → (k ≡ j.0 → ⊥) → was_closed (state n tb w k) t ≡ false) where
  ok : Intact n tb w
  ok = ok_reach n tb reach

  -- what is looked for
  abbrev Listing : Type 0
  Listing = (i : ℕ) × (i < n) × (i ≡ j.0 → ⊥) × (missing (tb t.0) (state n tb w i) j t ≡ true)

  lists : (i : ℕ) → i < n → (i ≡ j.0 → ⊥) → (r : Row) → tb t.0 ≡ Some r → (eqb r.first.0 j.0 || has_given (state n tb w i) t j) ≡ true → Listing
  lists i l d r e h = (i, l, d, rw e (and_from (eqb r.first.0 j.0 || has_given (state n tb w i) t j) _ h (ap not (none i l d))))

  -- one that gave it any
  giver : (i : ℕ) → i < n → (i ≡ j.0 → ⊥) → (p : Piece) → p.train ≡ t → Noted (state n tb w i) j p → Listing
  giver i l d p e h = let (o, g) = (rw e at h) (none i l d) in go (tb t.0) refl o g (known_all n tb reach i t o)
    where
      go : (m : Option Row) → tb t.0 ≡ m → is_open (state n tb w i) t ≡ true → has_given (state n tb w i) t j ≡ true → is_some m ≡ true → Listing
      go None f o g s = absurd (false≢true s)
      go (Some r) f o g s = lists i l d r f (or_right (eqb r.first.0 j.0) (has_given (state n tb w i) t j) g)

  -- nothing is given to the station itself
  away : (i : ℕ) (s u : ℕ) → 1 ≤ count_in t s u (given_to j.0 (journal w i)) → i ≡ j.0 → ⊥
  away i s u h e = omega (arith, h, ap (λ (k : ℕ). count_in t s u (given_to j.0 (journal w k))) e, ap (count_in t s u) (ok.fine j.0).away, count_nil t s u)

  given : (i : ℕ) → i < n → (s u : ℕ) → 1 ≤ count_in t s u (given_to j.0 (journal w i)) → Listing
  given i l s u h =
      let (p, e, g) = one_counted t s u (Noted (state n tb w i) j) (given_to j.0 (journal w i)) (noted_all n tb reach i j byte) h in
      giver i l (away i s u h) p e g

  -- what i gave to k has what is under way, and what k took
  count_given : (i k s u : ℕ) → count_in t s u (given_to k (journal w i)) ≡ count_in t s u (taken_from i (journal w k)) + count_in t s u (under_way i k (state n tb w i) (state n tb w k))
  count_given i k s u = ap (count_in t s u) (given_rest n tb w ok i k) ∙ count_append t s u (taken_from i (journal w k)) _

  -- it has or gave a stretch: then it is the first, or took it from another one
  anything : (s u : ℕ) (l : s < 400) → 1 ≤ stock n tb t s u l (state n tb w j.0) + given_by t s u n (journal w j.0) → Listing
  anything s u l h = ⊎_elim first (λ d. took (omega (arith, d))) (cases_eq (taken_by t s u n (journal w j.0)) 0)
    where
      first : taken_by t s u n (journal w j.0) ≡ 0 → Listing
      first e =
          let (r, f, g) = due_first (tb t.0) (known (state n tb w j.0) t) (state n tb w j.0).me s u (omega (arith, h, e, (ok.fine j.0).most t s u l)) in
          let (i, m, d) = another n j.0 others in
          lists i m d r f (or_left (eqb r.first.0 j.0) (has_given (state n tb w i) t j) (eq-eqb r.first.0 j.0 (g ∙ (ok.fine j.0).me)))

      took : 1 ≤ taken_by t s u n (journal w j.0) → Listing
      took m = let (i, k, c) = sum_some n (λ k. count_in t s u (taken_from k (journal w j.0))) m in given i k s u (omega (arith, c, count_given i j.0 s u))

  find : Had n tb w j.0 t → Listing
  find (held s u l h) = anything s u l (omega (arith, ap (λ c. cond {A = ℕ} c 1 0) h))
  find (ticket a p e c) =
      let (g, h) = real_at tb (state n tb w j.0).tickets a p (ok.fine j.0).real e in
      let row = listed_party (tb p.train.0) p h in
      let (s, l, m) = sold_first p (seats_of p) row.row.seats g row.seats in
      anything s p.trip.from.0 (omega (arith, l, row.row.few)) (omega (arith, count_one t s p.trip.from.0 (state n tb w j.0).tickets a p e (subst (λ z. 1 ≤ count_in z s p.trip.from.0 (pieces_of p)) c m)))
  find (coming i p l m c) = given i l p.seat.0 p.trip.from.0 (omega (arith, count_given i j.0 p.seat.0 p.trip.from.0, count_mem t c m))
  find (going k p l m c) = anything p.seat.0 p.trip.from.0 seat (omega (arith, count_given j.0 k p.seat.0 p.trip.from.0, count_mem t c m, sum_has n k (λ k. count_in t p.seat.0 p.trip.from.0 (given_to k (journal w j.0))) l))
    where
      line : Chan
      line = channel (state n tb w j.0) k

      waits : All (Lists tb) line.waiting
      waits = rw ((ok.fine j.0).line k).waiting (All-drop (Lists tb) line.heard (given_to k (journal w j.0)) ((ok.fine j.0).sent k))

      seat : p.seat.0 < 400
      seat = listed_seat (tb p.train.0) p (all_mem (Lists tb) m (All-drop (Lists tb) ((channel (state n tb w k) j.0).taken - line.heard) line.waiting waits))

pub lost_listed : LostListed
lost_listed = find
