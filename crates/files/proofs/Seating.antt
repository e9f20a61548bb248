-- The seats of a ticket's pieces, read one after the other.
use Rattle.std.proofs.Common.{◌≡◌, ℕ, suc, ◌+◌, ◌-◌, ◌/◌, ◌<◌, List, [], ◌∷◌, ◌++◌, length, Result, Ok, Err, refl, sym, ap, ◌∙◌, append_assoc, arith}
use Rattle.choosing.specs.Parties.{party_of}
use Rattle.choosing.specs.declared.party.Party.{Party}
use Rattle.files.specs.Reading.{party, seat_on, seats}
use Rattle.lines.specs.Fields.{◌>>=◌, piece}
use Rattle.lines.specs.declared.fault.Fault.{Fault}
use Rattle.pieces.specs.declared.names.Seat.{Seat}
use Rattle.pieces.specs.declared.names.Train.{Train}
use Rattle.pieces.specs.declared.piece.Piece.{Piece}
use Rattle.pieces.specs.declared.trip.Trip.{Trip}
use Rattle.std.proofs.lemmas.List.{append-nil, length_push}

-- what is read, with the seats that were read before
abbrev pub behind : List Seat → Result (List Seat × List ℕ) Fault → Result (List Seat × List ℕ) Fault
behind ss r = r >>= (λ x. Ok (ss ++ x.0, x.1))

-- of n seats i are read: the party has them, and with those that are left it will have all
pub record Seated (z : Train) (t : Trip) (n : ℕ) (bs : List ℕ) (i : ℕ) (rest : List ℕ) (p : Party) : Type 0 where
  pub so_far : List Seat
  pub party : p ≡ party_of z t so_far
  pub count : length so_far ≡ i
  pub left : behind so_far (seats z t (n - i) rest) ≡ seats z t n bs

pub none_seated : (z : Train) (t : Trip) (n : ℕ) (bs : List ℕ) (p : Party) → p ≡ party_of z t [] → Seated z t n bs 0 bs p
none_seated z t n bs p e =
    let all : n - 0 ≡ n = omega arith in
    record { so_far = []; party = e; count = refl; left = rw all (go (seats z t n bs)) }
  where
    go : (r : Result (List Seat × List ℕ) Fault) → (r >>= (λ x. Ok ([] ++ x.0, x.1))) ≡ r
    go (Ok x) = refl
    go (Err f) = refl

pub one_seated : (z : Train) (t : Trip) (n : ℕ) (bs : List ℕ) (i : ℕ) (rest : List ℕ) (p q : Party) (next : Piece) (after : List ℕ) (s : Seat)
    → Seated z t n bs i rest p → i < n → piece rest ≡ Ok (next, after) → seat_on z t next ≡ Ok s
    → ((y : Train) (u : Trip) (ss : List Seat) → p ≡ party_of y u ss → q ≡ party_of y u (ss ++ s ∷ [])) → Seated z t n bs (i + 1) after q
one_seated z t n bs i rest p q next after s h lt e f g =
    let more : n - i ≡ suc (n - (i + 1)) = omega arith in
    let ss = h.so_far in
    record {
      so_far = ss ++ s ∷ [];
      party = g z t ss h.party;
      count = omega (arith, length_push ss s, h.count);
      left = sym (go ss (seats z t (n - (i + 1)) after)) ∙ rw (more, e, f) at h.left;
    }
  where
    go : (ss : List Seat) (r : Result (List Seat × List ℕ) Fault)
        → behind ss (◌>>=◌ {A = (Seat × List Seat) × List ℕ} {B = List Seat × List ℕ} (◌>>=◌ {A = List Seat × List ℕ} {B = (Seat × List Seat) × List ℕ} r (λ y. Ok ((s, y.0), y.1))) (λ x. Ok (x.0.0 ∷ x.0.1, x.1))) ≡ behind (ss ++ s ∷ []) r
    go ss (Ok x) = ap (λ (xs : List Seat). Ok (xs, x.1)) (sym (append_assoc ss (s ∷ []) x.0))
    go ss (Err g) = refl

-- ---- the party, and the fault that is met

pub all_seated : (bs : List ℕ) (p : Piece) (behind rest : List ℕ) (i : ℕ) (q : Party)
    → piece bs ≡ Ok (p, behind) → Seated p.train p.trip (length bs / 8) bs i rest q → length bs / 8 ≡ i → party bs ≡ Ok q
all_seated bs p behind rest i q e h d =
    let done : length bs / 8 - i ≡ 0 = omega arith in
    let left = rw done at h.left in
    rw (e, ← left) (ap (λ (ss : List Seat). Ok (party_of p.train p.trip ss)) (append-nil h.so_far) ∙ ap (λ (x : Party). Ok x) (sym h.party))

pub no_piece : (bs : List ℕ) (p : Piece) (behind rest : List ℕ) (i : ℕ) (q : Party) (g : Fault)
    → piece bs ≡ Ok (p, behind) → Seated p.train p.trip (length bs / 8) bs i rest q → i < length bs / 8 → piece rest ≡ Err g → party bs ≡ Err g
no_piece bs p behind rest i q g e h lt f =
    let more : length bs / 8 - i ≡ suc (length bs / 8 - (i + 1)) = omega arith in
    let left = rw (more, f) at h.left in
    rw (e, ← left) refl

pub no_seat : (bs : List ℕ) (p : Piece) (behind rest : List ℕ) (i : ℕ) (q : Party) (next : Piece) (after : List ℕ) (g : Fault)
    → piece bs ≡ Ok (p, behind) → Seated p.train p.trip (length bs / 8) bs i rest q → i < length bs / 8 → piece rest ≡ Ok (next, after) → seat_on p.train p.trip next ≡ Err g → party bs ≡ Err g
no_seat bs p behind rest i q next after g e h lt f d =
    let more : length bs / 8 - i ≡ suc (length bs / 8 - (i + 1)) = omega arith in
    let left = rw (more, f, d) at h.left in
    rw (e, ← left) refl
