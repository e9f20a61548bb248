-- What a station holds, it holds on when it takes a piece.
-- Assumes nothing.
use Rattle.std.proofs.Common.{◌≡◌, ℕ, ◌<◌, ◌≤◌, true, ltb, ◌⊎◌, Some, sym, refl, ◌∙◌, inl, inr, ⊎_elim, arith}
use Rattle.giving.specs.declared.ids.Number.{Number}
use Rattle.giving.specs.declared.ids.StationId.{StationId}
use Rattle.network.proofs.Held.{Sound, same_word, wrote_here, wrote_there}
use Rattle.network.proofs.Lists.{cases_two}
use Rattle.network.proofs.Local.{FitsTaken, fits_taken}
use Rattle.network.proofs.Moves.{Received, shut, there, anew, received_by}
use Rattle.network.proofs.Trains.{opened_open, opened_sound, in_opened}
use Rattle.network.specs.Places.{holding}
use Rattle.pieces.proofs.Bitwise.{holds_plus, covered_decides}
use Rattle.pieces.specs.Memory.{word_at}
use Rattle.pieces.specs.Stretches.{within, covered, plus}
use Rattle.pieces.specs.declared.names.Train.{Train}
use Rattle.pieces.specs.declared.piece.Piece.{Piece}
use Rattle.state.proofs.Opens.{listed_seat}
use Rattle.state.specs.Changes.{apply, fits, put_back, opened}
use Rattle.state.specs.States.{State, place, is_open, was_closed, holds_piece}
use Rattle.state.specs.declared.record.Record.TheVariants.{Taken}
use Rattle.std.proofs.lemmas.Bool.{and_from, and_parts, ltb-true, lt-ltb, or_left, or_right}
use Rattle.std.proofs.lemmas.Bool.Decides.{nat_tests}
use Rattle.timetable.specs.Rows.{Table}

-- held, stretch by stretch
pub held_each : (x : State) (p : Piece) → holds_piece x p ≡ true → (p.seat.0 < 400) × ((u : ℕ) → p.trip.from.0 ≤ u → u < p.trip.to.0 → holding p.train p.seat.0 u x ≡ true)
held_each x p h =
    let w = word_at x.words (place x p.train) p.seat.0 in
    let (a, b) = and_parts (ltb p.seat.0 400) (covered w p.trip.from.0 p.trip.to.0) h in
    (ltb-true p.seat.0 400 a, (covered_decides w p.trip.from.0 p.trip.to.0).0 b)

pub held_all : (x : State) (p : Piece) → p.seat.0 < 400 → ((u : ℕ) → p.trip.from.0 ≤ u → u < p.trip.to.0 → holding p.train p.seat.0 u x ≡ true) → holds_piece x p ≡ true
held_all x p s h =
    let w = word_at x.words (place x p.train) p.seat.0 in
    and_from (ltb p.seat.0 400) (covered w p.trip.from.0 p.trip.to.0) (lt-ltb p.seat.0 400 s) ((covered_decides w p.trip.from.0 p.trip.to.0).1 h)

-- a state that holds each stretch that another holds
abbrev pub Holds : State → State → Type 0
Holds x y = (t : Train) (s u : ℕ) → s < 400 → holding t s u x ≡ true → holding t s u y ≡ true

pub held_on : (x y : State) → Holds x y → (p : Piece) → holds_piece x p ≡ true → holds_piece y p ≡ true
held_on x y f p h = let (s, e) = held_each x p h in held_all y p s (λ u a b. f p.train p.seat.0 u s (e u a b))

module _ (x : State) (sound : Sound x) (q : Piece) (o : is_open x q.train ≡ true) (seat : q.seat.0 < 400) where
  -- the word that is written
  abbrev v : ℕ
  v = plus (word_at x.words (place x q.train) q.seat.0) q.trip.from.0 q.trip.to.0

  back_holds : Holds x (put_back x q)
  back_holds t s u l h = ⊎_elim
      (λ (e, f). wrote_here x sound q o seat t s u v e f ∙ holds_plus _ q.trip.from.0 q.trip.to.0 u (omega (arith, q.trip.ordered)) ∙ or_left _ (within q.trip.from.0 q.trip.to.0 u) (sym (same_word t s u l x q e f) ∙ h))
      (λ d. wrote_there x sound q o seat t s u v l d ∙ h)
      (cases_two t.0 q.train.0 s q.seat.0)

  back_has : holds_piece (put_back x q) q ≡ true
  back_has =
      held_all (put_back x q) q seat
      (λ u a b. wrote_here x sound q o seat q.train q.seat.0 u v refl refl ∙ holds_plus _ q.trip.from.0 q.trip.to.0 u (omega (arith, q.trip.ordered)) ∙ or_right _ (within q.trip.from.0 q.trip.to.0 u) (grind (arith, nat_tests)))

  pub back_kept : Holds x (put_back x q) × (holds_piece (put_back x q) q ≡ true)
  back_kept = (back_holds, back_has)

-- a piece is taken: what was held is held on, and the piece is held, unless the train was closed here
pub taken_keeps : (tb : Table) (x : State) (from : StationId) (m : Number) (q : Piece) → Sound x → fits tb x (Taken from m q) ≡ true →
    Holds x (apply tb x (Taken from m q)) × ((was_closed (apply tb x (Taken from m q)) q.train ≡ true) ⊎ (holds_piece (apply tb x (Taken from m q)) q ≡ true))
taken_keeps tb x from m q sound f = go (received_by tb x q g.listed g.room)
  where
    g : FitsTaken tb x from m q
    g = fits_taken tb x from m q f

    seat : q.seat.0 < 400
    seat = listed_seat (tb q.train.0) q g.listed

    go : {y : State} → Received tb x q y → Holds x y × ((was_closed y q.train ≡ true) ⊎ (holds_piece y q ≡ true))
    go (shut c) = ((λ t s u l h. h), inl c)
    go (there c o) = let (a, b) = back_kept x sound q o seat in (a, inr b)
    go (anew r is c o l) =
        let y = opened (Some r) q.train x in
        let (a, b) = back_kept y (opened_sound x sound q.train r o l) q (opened_open x sound q.train r o l q.train refl) seat in
        ((λ t s u k h. a t s u k (wider t s u k h)), inr b)
      where
        wider : Holds x (opened (Some r) q.train x)
        wider t s u k h = let e = in_opened x sound q.train r o l t s u k in grind arith
