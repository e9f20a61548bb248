-- A stretch of a seat counted in what a station has sold and in what waits, one place at a time.
-- Assumes nothing.
use Rattle.std.proofs.Common.{ap₂, drop, ◌-◌, ◌≡◌, count_by, ℕ, ◌<◌, Bool, true, false, cond, ◌&&◌, ltb, ◌⊎◌, List, [], ◌∷◌, ◌++◌, map, length, get_or, sym, refl, ap, ◌∙◌, inl, inr, append_assoc, append-nil, arith, Option}
use mathlib.Core.Bool.{Bool-set}
use mathlib.Core.Logic.{∥∥₁_elim}
use Rattle.choosing.specs.declared.party.Party.{Party}
use Rattle.giving.specs.Channels.{line}
use Rattle.giving.specs.Posts.{chans}
use Rattle.giving.specs.declared.channels.Channels.{Channels}
use Rattle.giving.specs.declared.ids.Number.{Number}
use Rattle.giving.specs.declared.message.Message.{Message}
use Rattle.network.proofs.Count.{count_nil, count_append}
use Rattle.network.proofs.Held.{Sound, in_shut}
use Rattle.network.specs.Places.{under_way, holding, count_in, sold_by, standing}
use Rattle.pieces.specs.Memory.{word_at}
use Rattle.pieces.specs.Parts.{has, piece_of}
use Rattle.pieces.specs.Stretches.{holds}
use Rattle.pieces.specs.declared.names.Seat.{Seat}
use Rattle.pieces.specs.declared.names.Train.{Train}
use Rattle.pieces.specs.declared.piece.Piece.{Piece}
use Rattle.pieces.specs.declared.trip.Trip.{Trip}
use Rattle.rehearsal.proofs.Living.{stands_at}
use Rattle.rehearsal.proofs.Posts.{here_is}
use Rattle.rehearsal.specs.Lives.{Lives, shown, nowhere}
use Rattle.rehearsal.specs.declared.post.Post.{Post}
use Rattle.state.specs.States.{State, place, is_open}
use Rattle.std.proofs.lemmas.Bool.{cases_Bool, lt-ltb}
use Rattle.std.proofs.lemmas.Grind.{common_steps}
use Rattle.std.proofs.lemmas.List.Sums.{sum_by-cons}
use Rattle.std.specs.List.{sum_by}
use Rattle.timetable.specs.Rows.{Table}

-- ---- a stretch counted by the library's words

pub waiting_counted : (t : Train) (s u : ℕ) (ps : List Piece) → count_by (has t.0 s u) ps ≡ count_in t s u ps
unfolding count_in
waiting_counted t s u [] = grind (arith, common_steps)
waiting_counted t s u (p ∷ ps) = let h = waiting_counted t s u ps in grind (arith, common_steps)

-- of the people of a party, each on a seat
pub party_counted : (t : Train) (s u : ℕ) (z : Train) (r : Trip) (ss : List Seat) → count_by (λ x. has t.0 s u (piece_of z x r)) ss ≡ count_in t s u (map (λ x. piece_of z x r) ss)
unfolding count_in
party_counted t s u z r [] = grind (arith, common_steps)
party_counted t s u z r (x ∷ ss) = let h = party_counted t s u z r ss in grind (arith, common_steps)

-- of the tickets of a station
pub sold_counted : (t : Train) (s u : ℕ) (xs : List (Option Party)) → sum_by (λ x. count_in t s u (sold_by x)) xs ≡ count_in t s u (standing xs)
unfolding standing
sold_counted t s u [] = omega (arith, count_nil t s u)
sold_counted t s u (x ∷ xs) = omega (arith, sum_by-cons (λ x. count_in t s u (sold_by x)) x xs, count_append t s u (sold_by x) (standing xs), sold_counted t s u xs)

-- ---- stations as they were read

-- what is on its way, from the channels of both ends
pub way_is : (ps : List Post) (i j : ℕ) (p q : Post) → i < length ps → p ≡ get_or ps i p → j < length ps → q ≡ get_or ps j q → (giver taker : Channels) → giver ≡ p.machine.station.channels → taker ≡ q.machine.station.channels →
    (m h : Number) (skip : ℕ) → m ≡ record { 0 = (line (chans taker) i).taken } → h ≡ record { 0 = (line (chans giver) j).heard } → skip ≡ m.0 - h.0 →
    drop skip (line (chans giver) j).waiting ≡ under_way i j (get_or (map shown ps) i nowhere) (get_or (map shown ps) j nowhere)
way_is ps i j p q li ei lj ej giver taker eg et m h skip em eh es =
    ap₂ (λ (n : ℕ) (g : Channels). drop n (line (chans g) j).waiting) number eg ∙ ap₂ (under_way i j) (sym (here_is ps i p li ei)) (sym (here_is ps j q lj ej))
  where
    number : skip ≡ (line (chans q.machine.station.channels) i).taken - (line (chans p.machine.station.channels) j).heard
    number = es ∙ ap₂ (λ (a b : ℕ). a - b) (ap (λ z. z.0) em ∙ ap (λ z. (line (chans z) i).taken) et) (ap (λ z. z.0) eh ∙ ap (λ z. (line (chans z) j).heard) eg)

module _ (t : Train) (s u : ℕ) (l : s < 400) where
  none_held : (b : Bool) → cond {A = ℕ} b 1 0 ≡ 0 → b ≡ false
  none_held true e = absurd (omega arith)
  none_held false e = refl

  -- a train that is not open is not held
  held_is : (x : State) → Sound x → (ltb s 400 && (is_open x t && holds (word_at x.words (place x t) s) u)) ≡ holding t s u x
  held_is x sound = rw (lt-ltb s 400 l) (go (cases_Bool (is_open x t)))
    where
      go : (is_open x t ≡ true) ⊎ (is_open x t ≡ false) → (is_open x t && holding t s u x) ≡ holding t s u x
      go (inl o) = ap (λ b. b && holding t s u x) o
      go (inr o) = ap (λ b. b && holding t s u x) o ∙ sym (none_held (holding t s u x) (in_shut t s u l x sound o))

-- what a station that was read tells of it, by the world that it is in
pub held_at : (tb : Table) (ps : List Post) (ms : List Message) (x : Bool) → ∥ Lives tb ps ms x ∥₁ → (t : Train) (s u : ℕ) → s < 400 → (i : ℕ) (p : Post) → i < length ps → p ≡ get_or ps i p →
    (ltb s 400 && (is_open (shown p) t && holds (word_at (shown p).words (place (shown p) t) s) u)) ≡ holding t s u (get_or (map shown ps) i nowhere)
held_at tb ps ms x lives t s u l i p b e =
    ap (λ x. ltb s 400 && (is_open x t && holds (word_at x.words (place x t) s) u)) (sym (here_is ps i p b e))
    ∙ ∥∥₁_elim lives (Bool-set _ _) (λ v. held_is t s u l (get_or (map shown ps) i nowhere) (stands_at tb ps ms x v i b).sound)

-- ---- one list behind another

pub found_three : {A : Type 0} (xs ys zs vs a b c : List A) → ys ≡ xs ++ a → zs ≡ ys ++ b → vs ≡ zs ++ c → vs ≡ xs ++ (a ++ (b ++ c))
found_three xs ys zs vs a b c e f g = g ∙ ap (λ l. l ++ c) (f ∙ ap (λ l. l ++ b) e) ∙ append_assoc (xs ++ a) b c ∙ append_assoc xs a (b ++ c)

-- nothing behind it
pub found_nothing : {A : Type 0} (xs ys zs vs b c : List A) → ys ≡ xs → zs ≡ ys ++ b → vs ≡ zs ++ c → b ≡ [] → c ≡ [] → vs ≡ xs
found_nothing xs ys zs vs b c e f g h k = g ∙ ap₂ (λ l m. l ++ m) (f ∙ ap₂ (λ l m. l ++ m) e h ∙ append-nil xs) k ∙ append-nil xs

-- a part that is there only by a test
pub found_then : {A : Type 0} (b : Bool) (xs ys a : List A) → b ≡ true → ys ≡ xs ++ a → ys ≡ xs ++ cond b a []
found_then b xs ys a h e = rw h e

pub found_else : {A : Type 0} (b : Bool) (xs ys a : List A) → b ≡ false → ys ≡ xs → ys ≡ xs ++ cond b a []
found_else b xs ys a h e = rw h (e ∙ sym (append-nil xs))
