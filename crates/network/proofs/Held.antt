-- What a station holds of a stretch, when its words and its slots are written.
-- Assumes nothing.
use Rattle.std.proofs.Common.{◌≡◌, ℕ, ◌+◌, ◌<◌, ◌≤◌, Bool, true, false, cond, not, ◌&&◌, ◌||◌, ltb, ◌⊎◌, List, [], ◌∷◌, map, length, get_or, set, sym, refl, ap, ◌∙◌, ap₂, inl, inr, ⊎_elim, arith, Some, None, Option, length-set}
use Rattle.choosing.specs.Parties.{pieces_of, seats_of}
use Rattle.choosing.specs.declared.party.Party.{Party}
use Rattle.state.specs.Changes.{with_words, taken_out, put_back, taken_all, put_all, holds_all}
use Rattle.state.specs.States.{State, place, is_open, holds_piece}
use Rattle.network.proofs.Count.{one, count_nil, count_cons}
use Rattle.network.proofs.Lists.{cases_two}
use Rattle.network.proofs.Slots.{place_le, place_reads, train_is, Unique}
use Rattle.network.specs.Places.{count_in, holding}
use Rattle.pieces.proofs.Bitwise.{holds_less, holds_plus, holds_past, covered_decides}
use Rattle.pieces.proofs.Places.{word_set, word_set_other, seated_in, seated_out}
use Rattle.pieces.specs.Memory.{Changing, at, word_at, altered, altered_all, without_all, together_all, covered_all, seated}
use Rattle.pieces.specs.Parts.{piece_of}
use Rattle.pieces.specs.Stretches.{holds, within, covered, less, plus}
use Rattle.pieces.specs.declared.names.Seat.{Seat}
use Rattle.pieces.specs.declared.names.Train.{Train}
use Rattle.pieces.specs.declared.piece.Piece.{Piece}
use Rattle.pieces.specs.declared.trip.Trip.{Trip}
use Rattle.std.proofs.lemmas.Bool.Decides.{nat_tests}
use Rattle.std.proofs.lemmas.List.{get_or_past}
use Rattle.std.specs.List.{AllByRecursion}
use Rattle.std.proofs.lemmas.Bool.{and_parts, cond_both, ltb-false, cases_eq, cases_lt, ltb-true, lt-ltb, true≢false}

-- ---- bits

abbrev pub bit : ℕ → ℕ → ℕ
bit w k = cond (holds w k) 1 0

apart : (x y : Bool) → (y ≡ true → x ≡ true) → cond {A = ℕ} x 1 0 ≡ cond (x && not y) 1 0 + cond y 1 0
apart x y h = grind arith

meet : (x y : Bool) → cond {A = ℕ} x 1 0 + cond y 1 0 ≤ 1 → cond {A = ℕ} (x || y) 1 0 ≡ cond x 1 0 + cond y 1 0
meet x y h = grind arith

pub bit_less : (w a b k : ℕ) → a ≤ b → covered w a b ≡ true → bit w k ≡ bit (less w a b) k + cond (within a b k) 1 0
bit_less w a b k h c =
    rw (holds_less w a b k h)
    (apart (holds w k) (within a b k) (λ e. (covered_decides w a b).0 c k (grind (arith, nat_tests)) (grind (arith, nat_tests))))

pub bit_plus : (w a b k : ℕ) → a ≤ b → bit w k + cond (within a b k) 1 0 ≤ 1 → bit (plus w a b) k ≡ bit w k + cond (within a b k) 1 0
bit_plus w a b k h l = rw (holds_plus w a b k h) (meet (holds w k) (within a b k) l)

pub bit_zero : (k : ℕ) → bit 0 k ≡ 0
bit_zero k = rw (holds_past 0 0 k (omega arith) (omega arith)) refl

-- ---- words at places

-- a place that is not there
word_past : (ws : List ℕ) (k s : ℕ) → length ws ≡ 25600 → 64 ≤ k → word_at ws k s ≡ 0
word_past ws k s e l = get_or_past ws (at k s) 0 (omega arith)

pub seated_bit : (n w s u : ℕ) → n ≤ 400 → s < 400 → bit (get_or (seated n w) s 0) u ≡ cond (ltb s n) (bit w u) 0
seated_bit n w s u l ls = cond_both (ltb s n) (bit w u) 0 (λ v. bit (get_or (seated n w) s 0) u ≡ v) (λ e. rw (seated_in n w s (ltb-true s n e)) refl) (λ e. rw (seated_out n w s (ltb-false s n e)) (bit_zero u))

-- ---- a station's state

pub record Seats (ss : List (Option Train)) (ws : List ℕ) : Type 0 where
  pub slots : length ss ≡ 64
  pub words : length ws ≡ 25600
  pub unique : Unique ss

abbrev pub Sound : State → Type 0
Sound x = Seats x.slots x.words

-- the words of some seats changed, one after the other
altered_length : (f : Changing) (ws : List ℕ) (k : ℕ) (ss : List Seat) (a b : ℕ) → length (altered_all f ws k ss a b) ≡ length ws
altered_length f ws k [] a b = refl
altered_length f ws k (s ∷ ss) a b = altered_length f (altered f ws k s.0 a b) k ss a b ∙ length-set ws _ _

pub altered_sound : (f : Changing) (x : State) (k : ℕ) (ss : List Seat) (a b : ℕ) → Sound x → Sound (with_words x (altered_all f x.words k ss a b))
altered_sound f x k ss a b h = record { slots = h.slots; words = altered_length f x.words k ss a b ∙ h.words; unique = h.unique }

pub open_lt : (x : State) (t : Train) → is_open x t ≡ true → place x t < length x.slots
open_lt x t o = ltb-true (place x t) (length x.slots) o

pub shut_is : (x : State) (t : Train) → is_open x t ≡ false → place x t ≡ length x.slots
shut_is x t o = ⊎_elim (λ l. absurd (true≢false (sym (lt-ltb _ _ l) ∙ o))) (λ l. omega (arith, place_le x.slots (Some t))) (cases_lt (place x t) (length x.slots))

-- two trains, one of them open, have two places
pub place_apart : (x : State) (t z : Train) → is_open x z ≡ true → (t.0 ≡ z.0 → ⊥) → place x t ≡ place x z → ⊥
place_apart x t z o d e =
    let l = open_lt x z o in
    let f : Some t ≡ Some z = sym (place_reads x.slots (Some t) (omega arith)) ∙ ap (λ (k : ℕ). get_or x.slots k None) e ∙ place_reads x.slots (Some z) l in
    let g : t ≡ z = cc in
    d (ap (λ (y : Train). y.0) g)

module _ (x : State) (sound : Sound x) (p : Piece) (o : is_open x p.train ≡ true) (seat : p.seat.0 < 400) where
  pub wrote_here : (t : Train) (s u v : ℕ) → t.0 ≡ p.train.0 → s ≡ p.seat.0 → holding t s u (with_words x (set x.words (at (place x p.train) p.seat.0) v)) ≡ holds v u
  wrote_here t s u v e f =
      ap₂ (λ (z : Train) (r : ℕ). holds (word_at (set x.words (at (place x p.train) p.seat.0) v) (place x z) r) u) (train_is e) f
      ∙ ap (λ (w : ℕ). holds w u) (word_set x.words (place x p.train) p.seat.0 v (omega (arith, open_lt x p.train o, sound.slots, sound.words)))

  pub wrote_there : (t : Train) (s u v : ℕ) → s < 400 → ((t.0 ≡ p.train.0) × (s ≡ p.seat.0) → ⊥) → holding t s u (with_words x (set x.words (at (place x p.train) p.seat.0) v)) ≡ holding t s u x
  wrote_there t s u v l d =
      ap (λ (w : ℕ). holds w u)
      (word_set_other x.words (place x p.train) p.seat.0 v (place x t) s seat l
      (λ (e, f). ⊎_elim (λ g. d (g, f)) (λ g. place_apart x t p.train o g e) (cases_eq t.0 p.train.0)))

-- ---- a piece taken out, and put back

module _ (t : Train) (s u : ℕ) (l : s < 400) where
  abbrev pub in_word : State → ℕ
  in_word x = cond (holding t s u x) 1 0

  one_here : (p : Piece) → t.0 ≡ p.train.0 → s ≡ p.seat.0 → one t s u p ≡ cond (within p.trip.from.0 p.trip.to.0 u) 1 0
  one_here p e f = grind (arith, nat_tests)

  pub one_there : (p : Piece) → ((t.0 ≡ p.train.0) × (s ≡ p.seat.0) → ⊥) → one t s u p ≡ 0
  one_there p d = grind (arith, nat_tests)

  pub same_word : (x : State) (p : Piece) → t.0 ≡ p.train.0 → s ≡ p.seat.0 → holding t s u x ≡ holds (word_at x.words (place x p.train) p.seat.0) u
  same_word x p e f = ap₂ (λ (z : Train) (r : ℕ). holds (word_at x.words (place x z) r) u) (train_is e) f

  -- what holds where the word of p is written, and where nothing is, holds
  word_ind : (x : State) (p : Piece) → Sound x → is_open x p.train ≡ true → p.seat.0 < 400 → (v : ℕ) (P : (was is here : ℕ) → Type 0) → P (bit (word_at x.words (place x p.train) p.seat.0) u) (bit v u) (cond (within p.trip.from.0 p.trip.to.0 u) 1 0) → ((m : ℕ) → P m m 0) →
      P (in_word x) (in_word (with_words x (set x.words (at (place x p.train) p.seat.0) v))) (one t s u p)
  word_ind x p sound o b v P here there = go (cases_two t.0 p.train.0 s p.seat.0)
    where
      go : ((t.0 ≡ p.train.0) × (s ≡ p.seat.0)) ⊎ ((t.0 ≡ p.train.0) × (s ≡ p.seat.0) → ⊥) → P (in_word x) (in_word (with_words x (set x.words (at (place x p.train) p.seat.0) v))) (one t s u p)
      go (inl (e, f)) = rw (same_word x p e f, wrote_here x sound p o b t s u v e f, one_here p e f) here
      go (inr d) = rw (wrote_there x sound p o b t s u v l d, one_there p d) (there (in_word x))

  pub in_out : (x : State) (p : Piece) → Sound x → is_open x p.train ≡ true → p.seat.0 < 400 → holds_piece x p ≡ true → in_word x ≡ in_word (taken_out x p) + one t s u p
  in_out x p sound o b h =
      let w = word_at x.words (place x p.train) p.seat.0 in
      word_ind x p sound o b (less w p.trip.from.0 p.trip.to.0) (λ m k c. m ≡ k + c) (bit_less w p.trip.from.0 p.trip.to.0 u (omega (arith, p.trip.ordered)) (grind (arith, nat_tests))) (λ m. omega arith)

  pub in_back : (x : State) (p : Piece) → Sound x → is_open x p.train ≡ true → p.seat.0 < 400 → in_word x + one t s u p ≤ 1 → in_word (put_back x p) ≡ in_word x + one t s u p
  in_back x p sound o b =
      let w = word_at x.words (place x p.train) p.seat.0 in
      word_ind x p sound o b (plus w p.trip.from.0 p.trip.to.0) (λ m k c. m + c ≤ 1 → k ≡ m + c) (bit_plus w p.trip.from.0 p.trip.to.0 u (omega (arith, p.trip.ordered))) (λ m _. omega arith)

  -- the same of several seats of a train, one after the other
  out_seats : (x : State) (z : Train) (r : Trip) (ss : List Seat) → Sound x → is_open x z ≡ true → covered_all x.words (place x z) ss r.from.0 r.to.0 ≡ true →
      in_word x ≡ in_word (with_words x (without_all x.words (place x z) ss r.from.0 r.to.0)) + count_in t s u (map (λ y. piece_of z y r) ss)
  out_seats x z r [] sound o c = omega (arith, count_nil t s u)
  out_seats x z r (y ∷ ss) sound o c =
      let p = piece_of z y r in
      let (h, d) = and_parts (holds_piece x p) (covered_all (taken_out x p).words (place x z) ss r.from.0 r.to.0) c in
      let b = ltb-true y.0 400 (and_parts (ltb y.0 400) (covered (word_at x.words (place x z) y.0) r.from.0 r.to.0) h).0 in
      omega (arith, in_out x p sound o b h, out_seats (taken_out x p) z r ss (altered_sound less x (place x z) (y ∷ []) r.from.0 r.to.0 sound) o d, count_cons t s u p (map (λ v. piece_of z v r) ss))

  pub in_out_all : (x : State) (p : Party) → Sound x → is_open x p.train ≡ true → holds_all x p ≡ true → in_word x ≡ in_word (taken_all x p) + count_in t s u (pieces_of p)
  in_out_all x p = out_seats x p.train p.trip (seats_of p)

  back_seats : (x : State) (z : Train) (r : Trip) (ss : List Seat) → Sound x → is_open x z ≡ true → AllByRecursion (λ (v : Seat). v.0 < 400) ss → in_word x + count_in t s u (map (λ y. piece_of z y r) ss) ≤ 1 →
      in_word (with_words x (together_all x.words (place x z) ss r.from.0 r.to.0)) ≡ in_word x + count_in t s u (map (λ y. piece_of z y r) ss)
  back_seats x z r [] sound o b h = omega (arith, count_nil t s u)
  back_seats x z r (y ∷ ss) sound o b h =
      let p = piece_of z y r in
      let n = count_cons t s u p (map (λ v. piece_of z v r) ss) in
      let e = in_back x p sound o b.0 (omega (arith, n, h)) in
      omega (arith, e, n, back_seats (put_back x p) z r ss (altered_sound plus x (place x z) (y ∷ []) r.from.0 r.to.0 sound) o b.1 (omega (arith, e, n, h)))

  pub in_back_all : (x : State) (p : Party) → Sound x → is_open x p.train ≡ true → AllByRecursion (λ (v : Seat). v.0 < 400) (seats_of p) → in_word x + count_in t s u (pieces_of p) ≤ 1 → in_word (put_all x p) ≡ in_word x + count_in t s u (pieces_of p)
  in_back_all x p = back_seats x p.train p.trip (seats_of p)

  -- a train that is not open has no words
  pub in_shut : (x : State) → Sound x → is_open x t ≡ false → in_word x ≡ 0
  in_shut x sound o = rw (word_past x.words (place x t) s sound.words (omega (arith, shut_is x t o, sound.slots))) (bit_zero u)
