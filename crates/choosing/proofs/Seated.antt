-- A party that is given its seats, one person after the other. Assumes nothing.
use Rattle.std.proofs.Common.{◌≡◌, ℕ, ◌+◌, ◌*◌, ◌<◌, ◌≤◌, eqb, List, [], ◌∷◌, ◌++◌, length, get_or, set, take, drop, Some, None, Option, sym, ap, ◌∙◌, ⊎_elim, arith}
use Rattle.choosing.specs.Choice.{beside, chosen, drawn_all, group}
use Rattle.choosing.specs.Parties.{party_of, seats_of}
use Rattle.choosing.specs.declared.party.Party.{Party}
use Rattle.choosing.proofs.Groups.{group_cong, group_ends, group_more}
use Rattle.choosing.proofs.Parties.{party_seats}
use Rattle.pieces.specs.Memory.{word_at}
use Rattle.pieces.specs.declared.names.Seat.{Seat}
use Rattle.pieces.specs.declared.names.Train.{Train}
use Rattle.pieces.specs.declared.trip.Trip.{Trip}
use Rattle.std.proofs.lemmas.Bool.{cases_eq, cond-true, cond-false, eq-eqb, ne_eqb}
use Rattle.std.proofs.lemmas.List.{length_push, length-take-le, length-drop, get_or-set_same, get_or-set_other, get_or-take, get_or-drop}

-- k people have a seat each, by the rule
abbrev pub Seated : (z : Train) (t : Trip) (f : ℕ → ℕ) (n k : ℕ) → Party → Type 0
Seated z t f n k p = (p ≡ party_of z t (group k f n t.from.0 t.to.0)) × (length (group k f n t.from.0 t.to.0) ≡ k)

module _ (z : Train) (t : Trip) (f : ℕ → ℕ) (n : ℕ) where
  abbrev of : ℕ → List Seat
  of k = group k f n t.from.0 t.to.0

  abbrev one : List Seat → Option Seat
  one ss = chosen (drawn_all f t.from.0 t.to.0 ss) n t.from.0 t.to.0

  seats_are : (k : ℕ) (p : Party) (ss : List Seat) → k ≤ 8 → Seated z t f n k p → ss ≡ seats_of p → ss ≡ of k
  seats_are k p ss l h e = e ∙ ap seats_of h.0 ∙ party_seats z t (of k) (omega (arith, h.1))

  pub one_more_seated : (k : ℕ) (p q : Party) (ss : List Seat) (s : Seat) → k < 8 → Seated z t f n k p → ss ≡ seats_of p → Some s ≡ one ss
      → ((y : Train) (r : Trip) (xs : List Seat) → p ≡ party_of y r xs → q ≡ party_of y r (xs ++ s ∷ [])) → Seated z t f n (k + 1) q
  one_more_seated k p q ss s l h e c push =
      let same = seats_are k p ss (omega arith) h e in
      let more : of (k + 1) ≡ ss ++ s ∷ [] = group_more k f n t.from.0 t.to.0 ss s same c in
      (push z t (of k) h.0 ∙ ap (party_of z t) (ap (λ xs. xs ++ s ∷ []) (sym same) ∙ sym more), omega (arith, ap length more, length_push ss s, ap length same, h.1))

  pub nobody_more : (k m : ℕ) (p : Party) (ss : List Seat) → k ≤ m → m ≤ 8 → Seated z t f n k p → ss ≡ seats_of p → None ≡ one ss → p ≡ party_of z t (of m)
  nobody_more k m p ss l u h g c =
      let same = seats_are k p ss (omega arith) h g in
      h.0 ∙ ap (party_of z t) (sym same ∙ group_ends k m f n t.from.0 t.to.0 ss l same c)

-- the first of a train's words
pub group_first : (xs : List ℕ) (f : ℕ → ℕ) (m n a b : ℕ) → n ≤ length xs → ((s : ℕ) → s < n → get_or xs s 0 ≡ f s)
    → group m (λ (i : ℕ). get_or (take n xs) i 0) (length (take n xs)) a b ≡ group m f n a b
group_first xs f m n a b h e =
    rw (length-take-le n xs h) (group_cong m (λ (i : ℕ). get_or (take n xs) i 0) f n a b (λ s l. get_or-take n xs s 0 l ∙ e s l))

-- the same of a train's part of the words of all
pub group_part : (ws : List ℕ) (k m n j a b : ℕ) → j ≡ n → k * 400 + n ≤ length ws
    → group m (λ (i : ℕ). get_or (take j (drop (k * 400) ws)) i 0) (length (take j (drop (k * 400) ws))) a b ≡ group m (word_at ws k) n a b
group_part ws k m n j a b e h =
    ap (λ (x : ℕ). group m (λ (i : ℕ). get_or (take x (drop (k * 400) ws)) i 0) (length (take x (drop (k * 400) ws))) a b) e
    ∙ group_first (drop (k * 400) ws) (word_at ws k) m n a b (omega (arith, length-drop (k * 400) ws)) (λ s _. get_or-drop (k * 400) ws s 0)

-- a train's words with nothing held of a seat that is kept back
abbrev pub put_aside : Option Seat → List ℕ → List ℕ
put_aside None xs = xs
put_aside (Some s) xs = set xs s.0 0

pub aside_each : (kept : Option Seat) (xs : List ℕ) (f : ℕ → ℕ) (n : ℕ) → n ≤ length xs → ((k : ℕ) → k < n → get_or xs k 0 ≡ f k)
    → (k : ℕ) → k < n → get_or (put_aside kept xs) k 0 ≡ beside kept f k
aside_each None xs f n h e k l = e k l
aside_each (Some s) xs f n h e k l =
    ⊎_elim
    (λ q. rw q (get_or-set_same xs s.0 0 0 (omega arith)) ∙ sym (cond-true (eqb k s.0) 0 (f k) (eq-eqb k s.0 q)))
    (λ q. get_or-set_other xs s.0 k 0 0 q ∙ e k l ∙ sym (cond-false (eqb k s.0) 0 (f k) (ne_eqb k s.0 q)))
    (cases_eq k s.0)
