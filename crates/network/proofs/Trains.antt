-- A train opened, and closed: what that makes of the slots and of what is held.
-- Assumes nothing.
use Rattle.std.proofs.Common.{◌≡◌, ℕ, ◌+◌, ◌<◌, ◌≤◌, Bool, true, false, cond, eqb, ltb, ◌⊎◌, List, length, get_or, set, Some, None, Option, sym, refl, ap, ◌∙◌, inl, inr, arith, length-set}
use Rattle.state.specs.Changes.{opening, opened, closing}
use Rattle.state.specs.States.{State, place_of, place, is_open}
use Rattle.network.proofs.Held.{Sound, bit, bit_zero, in_word, in_shut, open_lt, shut_is, seated_bit}
use Rattle.network.proofs.Lists.{set_ind}
use Rattle.network.proofs.Slots.{train_is, unique_set, place_reads, place_none, place_first, place_other, place_new}
use Rattle.pieces.proofs.Bitwise.{holds_span}
use Rattle.pieces.proofs.Places.{length_seated, length_placed, word_placed, word_placed_other}
use Rattle.pieces.specs.Memory.{word_at, seated, placed}
use Rattle.pieces.specs.Stretches.{span}
use Rattle.pieces.specs.declared.names.Train.{Train}
use Rattle.std.proofs.lemmas.Bool.{cases_eq, eq-eqb, ne_eqb, lt-ltb, le-ltb, le-leb}
use Rattle.timetable.specs.Rows.{stretches}
use Rattle.timetable.specs.declared.row.Row.{Row}

-- ---- what a station has of a stretch at first

abbrev pub share : Option Row → (me s u : ℕ) → ℕ
share None i s u = 0
share (Some r) i s u = cond (eqb i r.first.0) (cond (ltb s r.seats) (cond (ltb u (stretches r)) 1 0) 0) 0

pub share_le : (o : Option Row) (i s u : ℕ) → share o i s u ≤ 1
share_le None i s u = omega arith
share_le (Some r) i s u = grind arith

-- the station that has it at first
abbrev pub home : Option Row → ℕ
home None = 0
home (Some r) = r.first.0

pub share_elsewhere : (o : Option Row) (i s u : ℕ) → (i ≡ home o → ⊥) → share o i s u ≡ 0
share_elsewhere None i s u d = refl
share_elsewhere (Some r) i s u d = rw (ne_eqb i r.first.0 d) refl

opening_bit : (i : ℕ) (r : Row) (s u : ℕ) → s < 400 → bit (get_or (seated r.seats (opening i r)) s 0) u ≡ share (Some r) i s u
opening_bit i r s u l = seated_bit r.seats (opening i r) s u r.few l ∙ go (eqb i r.first.0) (ltb s r.seats)
  where
    full : bit (span 0 (stretches r)) u ≡ cond (ltb u (stretches r)) 1 0
    full = rw (holds_span 0 (stretches r) u (omega arith), le-leb 0 u (omega arith)) refl

    go : (a b : Bool) → cond b (bit (cond a (span 0 (stretches r)) 0) u) 0 ≡ cond a (cond b (cond (ltb u (stretches r)) 1 0) 0) 0
    go true true = full
    go false true = bit_zero u
    go a false = grind arith

-- ---- opened

module _ (x : State) (sound : Sound x) (z : Train) (r : Row) (shut : is_open x z ≡ false) (free : place_of x.slots None < length x.slots) where
  -- the free slot, and the slots when it is taken
  abbrev pub k : ℕ
  k = place_of x.slots None

  abbrev pub ss : List (Option Train)
  ss = set x.slots k (Some z)

  at_free : get_or x.slots k None ≡ None
  at_free = place_reads x.slots None free

  pub place_z : place_of ss (Some z) ≡ k
  place_z = place_new x.slots k (Some z) free (shut_is x z shut)

  pub place_t : (t : Train) → (t.0 ≡ z.0 → ⊥) → place_of ss (Some t) ≡ place_of x.slots (Some t)
  place_t t d = place_other x.slots k (Some z) (Some t) (rw at_free refl) (ne_eqb z.0 t.0 (λ e. d (sym e)))

  pub not_free : (t : Train) → place_of x.slots (Some t) ≡ k → ⊥
  not_free t e = let f : Some t ≡ None = sym (place_reads x.slots (Some t) (omega arith)) ∙ ap (λ (i : ℕ). get_or x.slots i None) e ∙ at_free in cc

  pub opened_open : (t : Train) → t.0 ≡ z.0 → is_open (opened (Some r) z x) t ≡ true
  opened_open t e =
      ap (is_open (opened (Some r) z x)) (train_is e)
      ∙ lt-ltb _ _ (omega (arith, place_z, length-set x.slots k (Some z), free))

  pub opened_same : (t : Train) → (t.0 ≡ z.0 → ⊥) → is_open (opened (Some r) z x) t ≡ is_open x t
  opened_same t d = rw (place_t t d, length-set x.slots k (Some z)) refl

  pub opened_sound : Sound (opened (Some r) z x)
  opened_sound =
      record {
        slots = length-set x.slots k (Some z) ∙ sound.slots;
        words = length_placed x.words _ k (omega (arith, free, sound.slots, sound.words)) (length_seated r.seats (opening x.me r) r.few) ∙ sound.words;
        unique = unique_set x.slots k (Some z) free sound.unique (λ t e. sym place_z ∙ ap (place_of ss) e) other;
      }
    where
      -- no slot was of z
      other : (t : Train) (i : ℕ) → (i ≡ k → ⊥) → i < length x.slots → get_or x.slots i None ≡ Some t → i ≡ place x t → place x t ≡ place_of ss (Some t)
      other t i _ l e f = sym (place_t t (λ g. place_first x.slots (Some z) i (omega (arith, shut_is x z shut)) (e ∙ ap Some (train_is g))))

  pub in_opened : (t : Train) (s u : ℕ) (l : s < 400) → in_word t s u l (opened (Some r) z x) ≡ in_word t s u l x + cond (eqb t.0 z.0) (share (Some r) x.me s u) 0
  in_opened t s u l = go (cases_eq t.0 z.0)
    where
      vs : List ℕ
      vs = seated r.seats (opening x.me r)

      long : length vs ≡ 400
      long = length_seated r.seats (opening x.me r) r.few

      go : (t.0 ≡ z.0) ⊎ (t.0 ≡ z.0 → ⊥) → in_word t s u l (opened (Some r) z x) ≡ in_word t s u l x + cond (eqb t.0 z.0) (share (Some r) x.me s u) 0
      go (inl e) =
          let was : in_word t s u l x ≡ 0 = in_shut t s u l x sound (ap (is_open x) (train_is e) ∙ shut) in
          let is : in_word t s u l (opened (Some r) z x) ≡ share (Some r) x.me s u =
          ap (λ (t : Train). in_word t s u l (opened (Some r) z x)) (train_is e)
          ∙ ap (λ (i : ℕ). bit (word_at (placed x.words k vs) i s) u) place_z
          ∙ ap (λ (v : ℕ). bit v u) (word_placed x.words vs k (omega (arith, free, sound.slots, sound.words)) long s l)
          ∙ opening_bit x.me r s u l in
          rw (eq-eqb t.0 z.0 e) (omega (arith, was, is))
      go (inr d) =
          rw (ne_eqb t.0 z.0 d, place_t t d, word_placed_other x.words vs k (omega (arith, free, sound.slots, sound.words)) long (place x t) s l (not_free t)) (omega arith)

-- ---- closed

module _ (x : State) (sound : Sound x) (z : Train) (o : is_open x z ≡ true) where
  at_z : get_or x.slots (place x z) None ≡ Some z
  at_z = place_reads x.slots (Some z) (open_lt x z o)

  pub closed_place : (t : Train) → (t.0 ≡ z.0 → ⊥) → place_of (set x.slots (place x z) None) (Some t) ≡ place_of x.slots (Some t)
  closed_place t d = place_other x.slots (place x z) None (Some t) (rw at_z (ne_eqb z.0 t.0 (λ e. d (sym e)))) refl

  gone : place_of (set x.slots (place x z) None) (Some z) ≡ length (set x.slots (place x z) None)
  gone =
      place_none (set x.slots (place x z) None) (Some z)
      (λ k l. set_ind (λ k y. k < length x.slots → y ≡ Some z → ⊥) x.slots (place x z) None None (open_lt x z o) (λ _ e. cc) (λ k d l h. d (sound.unique z k l h)) k (rw (length-set x.slots (place x z) None) at l))

  pub closing_same : (t : Train) → (t.0 ≡ z.0 → ⊥) → is_open (closing z x) t ≡ is_open x t
  closing_same t d = rw (closed_place t d, length-set x.slots (place x z) None) refl

  pub closing_shut : (t : Train) → t.0 ≡ z.0 → is_open (closing z x) t ≡ false
  closing_shut t e = ap (is_open (closing z x)) (train_is e) ∙ le-ltb _ _ (omega (arith, gone))

  pub closing_sound : Sound (closing z x)
  closing_sound =
      record {
        slots = length-set x.slots (place x z) None ∙ sound.slots;
        words = sound.words;
        unique = unique_set x.slots (place x z) None (open_lt x z o) sound.unique (λ _ e. cc) (λ t k d _ e f. sym (closed_place t (λ g. d (f ∙ ap (place x) (train_is g)))));
      }

  pub in_closing : (t : Train) (s u : ℕ) (l : s < 400) → (t.0 ≡ z.0 → ⊥) → in_word t s u l (closing z x) ≡ in_word t s u l x
  in_closing t s u l d = rw (closed_place t d) refl
