-- Parties, read and made. Assumes nothing.
use Rattle.std.proofs.Common.{◌≡◌, ℕ, suc, ◌+◌, ◌-◌, ◌<◌, ◌≤◌, min, List, [], ◌∷◌, ◌++◌, length, set, replicate, sym, refl, ap, ◌∙◌, ap₂, arith}
use mathlib.Core.HLevel.{is_prop→PathP}
use native.Mathlib.Bridge.{le_prop}
use Rattle.choosing.specs.Parties.{party_of, seats_of, unused}
use Rattle.choosing.specs.declared.party.Party.{Party}
use Rattle.pieces.specs.declared.names.Seat.{Seat}
use Rattle.pieces.specs.declared.names.Train.{Train}
use Rattle.pieces.specs.declared.trip.Trip.{Trip}
use Rattle.std.proofs.lemmas.List.{append_assoc, length-append, length-replicate, length-take, length_push, set-append_right, take_at}

pub party_seats : (z : Train) (t : Trip) (ss : List Seat) → length ss ≤ 8 → seats_of (party_of z t ss) ≡ ss
party_seats z t ss h = take_at ss (replicate (8 - length ss) unused) (min (length ss) 8) (omega arith)

pub room_for_one : (p : Party) (z : Train) (t : Trip) (ss : List Seat) → p ≡ party_of z t ss → length (seats_of p) < 8 → p.count < 8
room_for_one p z t ss e h =
    let count = ap (λ (x : Party). x.count) e in
    let all = ap (λ (x : Party). length x.seats) e in
    omega (arith, h, count, all, length-take p.count p.seats, length-append ss (replicate (8 - length ss) unused), length-replicate (8 - length ss) unused)

-- one more
pub one_more : (p q : Party) (z : Train) (t : Trip) (ss : List Seat) (s : Seat) → p.count < 8 → p ≡ party_of z t ss
    → q.train ≡ p.train → q.trip ≡ p.trip → q.seats ≡ set p.seats p.count s → q.count ≡ p.count + 1 → q ≡ party_of z t (ss ++ s ∷ [])
one_more p q z t ss s h e a b c d =
    let n : p.count ≡ min (length ss) 8 = ap (λ (x : Party). x.count) e in
    let l = length_push ss s in
    let more : 8 - length ss ≡ suc (8 - length (ss ++ s ∷ [])) = omega arith in
    let here : p.count - length ss ≡ 0 = omega arith in
    let grown : set p.seats p.count s ≡ (ss ++ s ∷ []) ++ replicate (8 - length (ss ++ s ∷ [])) unused =
    ap (λ (x : Party). set x.seats p.count s) e
    ∙ set-append_right ss (replicate (8 - length ss) unused) (length ss) p.count s refl (omega arith)
    ∙ ap₂ (λ (k j : ℕ). ss ++ set (replicate k unused) j s) more here
    ∙ sym (append_assoc ss (s ∷ []) (replicate (8 - length (ss ++ s ∷ [])) unused)) in
    same q (party_of z t (ss ++ s ∷ [])) (a ∙ ap (λ (x : Party). x.train) e) (b ∙ ap (λ (x : Party). x.trip) e) (c ∙ grown) (omega arith)
  where
    same : (p q : Party) → p.train ≡ q.train → p.trip ≡ q.trip → p.seats ≡ q.seats → p.count ≡ q.count → p ≡ q
    same p q a b c d j = record { train = a j; trip = b j; seats = c j; count = d j; few = is_prop→PathP (λ k. d k ≤ 8) (λ k. le_prop) p.few q.few j }
