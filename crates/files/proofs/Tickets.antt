-- The pieces of a ticket, as they are written and read.
use Rattle.std.proofs.Common.{◌≡◌, ℕ, ◌*◌, ◌/◌, ◌^◌, ◌<◌, ◌≤◌, Bool, true, false, cond, ◌&&◌, leb, List, [], ◌∷◌, ◌++◌, length, Ok, Err, refl, sym, ap, subst, ◌∙◌, arith}
use Rattle.std.specs.List.{AllByRecursion, flat_map}
use Rattle.choosing.proofs.Parties.{party_seats}
use Rattle.choosing.specs.Parties.{party_of, seats_of, some}
use Rattle.choosing.specs.declared.party.Party.{Party}
use Rattle.files.specs.Bytes.{SoundParty, seat_bytes}
use Rattle.lines.specs.Bytes.{AreBytes}
use Rattle.files.specs.Reading.{party, people, pieces, seats}
use Rattle.lines.specs.Fields.{byte, checked, front, piece}
use Rattle.lines.specs.declared.fault.Fault.TheVariants.{Bad}
use Rattle.lines.proofs.Layouts.{Layout, bound, bytes_behind, checked_layout, done, ok_is, then_layout}
use Rattle.files.proofs.Lengths.{length-seats}
use Rattle.lines.proofs.Numbers.{byte_layout, front_layout}
use Rattle.files.proofs.Pieces.{seats_layout}
use Rattle.lines.proofs.Pieces.{piece_layout}
use Rattle.pieces.specs.Parts.{piece_of}
use Rattle.pieces.specs.declared.names.Seat.{Seat}
use Rattle.pieces.specs.declared.piece.Piece.{Piece}
use Rattle.std.proofs.lemmas.Bool.{le-leb, leb-true}
use Rattle.std.proofs.lemmas.List.{append-nil, length-append, length-take, nil_from_length}

people_to : (n : ℕ) → 1 ≤ n → n ≤ 8 → people n ≡ Ok n
people_to n low high = rw (le-leb 1 n low, le-leb n 8 high) refl

people_from : (m n : ℕ) → people m ≡ Ok n → (1 ≤ n) × (n ≤ 8) × (m ≡ n)
people_from m n e = go (leb 1 m) refl (leb m 8) refl e
  where
    go : (x : Bool) → leb 1 m ≡ x → (y : Bool) → leb m 8 ≡ y → cond (x && y) (Ok m) (Err Bad) ≡ Ok n → (1 ≤ n) × (n ≤ 8) × (m ≡ n)
    go true h true k e =
        let is = ok_is m n e in
        let low = leb-true 1 m h in
        let high = leb-true m 8 k in
        (omega arith, omega arith, is)
    go true h false k e = absurd cc
    go false h y k e = absurd cc

people_layout : Layout (checked people byte) (λ n. n ∷ []) (λ n. (1 ≤ n) × (n ≤ 8))
people_layout =
    checked_layout people byte (λ b. b ∷ []) (λ b. b < 256) (λ n. n ∷ []) (λ n. (1 ≤ n) × (n ≤ 8)) byte_layout
    (λ n h. (n, people_to n h.0 h.1, omega arith, refl))
    (λ m n f b e. let is = people_from m n e in ((is.0, is.1), ap (λ (x : ℕ). x ∷ []) is.2))

-- eight bytes for each of one to eight people
abbrev pub SoundPieces : List ℕ → Type 0
SoundPieces ps = (n : ℕ) × (length ps ≡ 8 * n) × (1 ≤ n) × (n ≤ 8)

pub pieces_layout : Layout pieces (λ ps. length ps / 8 ∷ ps) SoundPieces
pieces_layout =
    checked_layout (λ x. done x.1) _ (λ x. x.0 ∷ x.1) (λ x. ((1 ≤ x.0) × (x.0 ≤ 8)) × (length x.1 ≡ 8 * x.0)) (λ ps. length ps / 8 ∷ ps) SoundPieces
    (then_layout (checked people byte) (λ n. n ∷ []) (λ n. (1 ≤ n) × (n ≤ 8)) (λ n. front (8 * n)) (λ n bs. bs) (λ n bs. length bs ≡ 8 * n) people_layout (λ n. front_layout (8 * n)))
    to from
  where
    to : (ps : List ℕ) → SoundPieces ps → (x : ℕ × List ℕ) × (done x.1 ≡ done ps) × (((1 ≤ x.0) × (x.0 ≤ 8)) × (length x.1 ≡ 8 * x.0)) × (x.0 ∷ x.1 ≡ length ps / 8 ∷ ps)
    to ps h = ((h.0, ps), refl, ((h.2, h.3), h.1), ap (λ (n : ℕ). n ∷ ps) (omega (arith, h.1)))

    from : (x : ℕ × List ℕ) (ps : List ℕ) → (((1 ≤ x.0) × (x.0 ≤ 8)) × (length x.1 ≡ 8 * x.0)) → AreBytes (x.0 ∷ x.1) → done x.1 ≡ done ps → SoundPieces ps × (x.0 ∷ x.1 ≡ length ps / 8 ∷ ps)
    from x ps h b e = subst (λ (t : List ℕ). SoundPieces t × (x.0 ∷ x.1 ≡ length t / 8 ∷ t)) (ok_is x.1 ps e) ((x.0, h.1, h.0.0, h.0.1), ap (λ (n : ℕ). n ∷ x.1) (omega (arith, h.1)))

-- ---- the party of these pieces

party_is : (bs : List ℕ) (p : Piece) (behind : List ℕ) (n : ℕ) (ss : List Seat) (rest : List ℕ)
    → piece bs ≡ Ok (p, behind) → length bs / 8 ≡ n → seats p.train p.trip n bs ≡ Ok (ss, rest) → party bs ≡ Ok (party_of p.train p.trip ss)
party_is bs p behind n ss rest e f g = rw (e, f, g) refl

pub party_to : (p : Party) → SoundParty p → party (flat_map (seat_bytes p.train p.trip) (seats_of p)) ≡ Ok p
party_to p h = go (seats_of p) h.1 h.2 (sym h.3)
  where
    go : (ss : List Seat) → AllByRecursion (λ (s : Seat). s.0 < 2 ^ 16) ss → 1 ≤ length ss → party_of p.train p.trip ss ≡ p → party (flat_map (seat_bytes p.train p.trip) ss) ≡ Ok p
    go [] small some is = absurd (omega arith)
    go (s ∷ ss) small some is =
        let z = p.train in
        let t = p.trip in
        let bs = flat_map (seat_bytes z t) (s ∷ ss) in
        let first : piece bs ≡ Ok (piece_of z s t, flat_map (seat_bytes z t) ss) = piece_layout.again (piece_of z s t) (flat_map (seat_bytes z t) ss) (h.0, small.0) in
        let all : seats z t (length (s ∷ ss)) bs ≡ Ok (s ∷ ss, []) = ap (seats z t (length (s ∷ ss))) (sym (append-nil bs)) ∙ (seats_layout z t h.0 (length (s ∷ ss))).again (s ∷ ss) [] (refl, small) in
        let count : length bs / 8 ≡ length (s ∷ ss) = omega (arith, length-seats z t (s ∷ ss)) in
        party_is bs (piece_of z s t) _ _ _ _ first count all ∙ ap (λ (q : Party). Ok q) is

pub party_from : (bs : List ℕ) (p : Party) → SoundPieces bs → AreBytes bs → party bs ≡ Ok p → SoundParty p × (bs ≡ flat_map (seat_bytes p.train p.trip) (seats_of p))
party_from bs p h b e =
    let q = bound (piece bs) _ p e in
    let z = q.0.0.train in
    let t = q.0.0.trip in
    let r = bound (seats z t (length bs / 8) bs) _ p q.2 in
    let ss = r.0.0 in
    let f = piece_layout.back bs q.0.0 q.0.1 b q.1 in
    let g = (seats_layout z t f.0.0 (length bs / 8)).back bs ss r.0.1 b r.1 in
    let same = party_seats z t ss (omega (arith, g.0.0, h.1, h.3)) in
    let none : length r.0.1 ≡ 0 = omega (arith, g.0.0, h.1, length-seats z t ss, length-append (flat_map (seat_bytes z t) ss) r.0.1, ap (λ (x : List ℕ). length x) g.1) in
    let all : bs ≡ flat_map (seat_bytes z t) ss = g.1 ∙ ap (λ (x : List ℕ). flat_map (seat_bytes z t) ss ++ x) (nil_from_length r.0.1 none) ∙ append-nil (flat_map (seat_bytes z t) ss) in
    let some : 1 ≤ length ss = omega (arith, g.0.0, h.1, h.2) in
    subst (λ (x : Party). SoundParty x × (bs ≡ flat_map (seat_bytes x.train x.trip) (seats_of x))) (ok_is (party_of z t ss) p r.2)
    (subst (λ (ts : List Seat). ((z.0 < 2 ^ 32) × AllByRecursion (λ (s : Seat). s.0 < 2 ^ 16) ts × (1 ≤ length ts) × (party_of z t ss ≡ party_of z t ts)) × (bs ≡ flat_map (seat_bytes z t) ts)) (sym same)
    ((f.0.0, g.0.1, some, refl), all))

pub ticket_layout : Layout (checked party pieces) (λ p. length (seats_of p) ∷ flat_map (seat_bytes p.train p.trip) (seats_of p)) SoundParty
ticket_layout =
    checked_layout party pieces (λ ps. length ps / 8 ∷ ps) SoundPieces (λ p. length (seats_of p) ∷ flat_map (seat_bytes p.train p.trip) (seats_of p)) SoundParty pieces_layout to from
  where
    head : (p : Party) → length (flat_map (seat_bytes p.train p.trip) (seats_of p)) / 8 ≡ length (seats_of p)
    head p = omega (arith, length-seats p.train p.trip (seats_of p))

    to : (p : Party) → SoundParty p → (ps : List ℕ) × (party ps ≡ Ok p) × SoundPieces ps × (length ps / 8 ∷ ps ≡ length (seats_of p) ∷ flat_map (seat_bytes p.train p.trip) (seats_of p))
    to p h =
        let few : length (seats_of p) ≤ 8 = omega (arith, length-take p.count p.seats, p.few) in
        (flat_map (seat_bytes p.train p.trip) (seats_of p), party_to p h, (length (seats_of p), length-seats p.train p.trip (seats_of p), h.2, few), ap (λ (n : ℕ). n ∷ flat_map (seat_bytes p.train p.trip) (seats_of p)) (head p))

    from : (ps : List ℕ) (p : Party) → SoundPieces ps → AreBytes (length ps / 8 ∷ ps) → party ps ≡ Ok p → SoundParty p × (length ps / 8 ∷ ps ≡ length (seats_of p) ∷ flat_map (seat_bytes p.train p.trip) (seats_of p))
    from ps p h b e =
        let f = party_from ps p h (bytes_behind (length ps / 8 ∷ []) ps b) e in
        (f.0, ap (λ (x : List ℕ). length x / 8 ∷ x) f.1 ∙ ap (λ (n : ℕ). n ∷ flat_map (seat_bytes p.train p.trip) (seats_of p)) (head p))
