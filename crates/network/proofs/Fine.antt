-- A station at a state that its journal led to.
-- Assumes nothing.
use Rattle.std.proofs.Common.{◌≡◌, ℕ, ◌+◌, ◌<◌, ◌≤◌, true, false, eqb, ◌⊎◌, inl, inr, List, [], ◌∷◌, ◌++◌, map, length, get_or, replicate, Some, None, Option, sym, refl, ap, ◌∙◌, arith}
use Rattle.std.proofs.lemmas.List.{length-replicate}
use Rattle.choosing.specs.Parties.{seats_of, some}
use Rattle.choosing.specs.declared.party.Party.{Party}
use Rattle.giving.specs.Channels.{fresh}
use Rattle.state.specs.Changes.{apply, fits, forgotten, listed_all}
use Rattle.state.specs.States.{State, begun, place_of, is_open, among, was_closed, ticket_of}
use Rattle.state.specs.declared.record.Record.{Record}
use Rattle.state.specs.declared.record.Record.TheVariants.{Opened, Closed, Sold, Undone, Given, Taken}
use Rattle.network.proofs.Count.{given_of, taken_of, given_to, taken_from, flat_push, count_nil, given_by, taken_by, count_more}
use Rattle.network.proofs.Held.{Sound, in_word, in_shut}
use Rattle.network.proofs.Lists.{slice_index_same}
use Rattle.network.proofs.Local.{Line, fits_sold, fits_given}
use Rattle.network.proofs.Moves.{opened_beside, returned_beside, received_beside, lines_next, line_next, sound_next}
use Rattle.network.proofs.Slots.{place_none}
use Rattle.network.proofs.Stock.{among_push, stock, due, all_taken, moved}
use Rattle.network.specs.Places.{standing}
use Rattle.network.specs.Worlds.{channel}
use Rattle.pieces.specs.declared.names.Train.{Train}
use Rattle.pieces.specs.declared.piece.Piece.{Piece}
use Rattle.std.proofs.lemmas.List.Elements.{All-nil, All-cons, All-set, All-push, All-append, All-drop, All-map, All-weaker}
use Rattle.std.proofs.lemmas.Bool.{cases_lt, cond_both, false_from_ne_true, ne_eqb, le-ltb, or_left, true≢false}
use Rattle.std.proofs.lemmas.List.{get_or_past}
use Rattle.std.specs.List.{All}
use Rattle.timetable.specs.Rows.{Table, listed}

-- ---- what every record keeps

pub me_next : (tb : Table) (x : State) (e : Record) → (apply tb x e).me ≡ x.me
me_next tb x (Opened t) = (opened_beside (tb t.0) t x).me
me_next tb x (Undone n) = (returned_beside (ticket_of x n.0) x).me
me_next tb x (Taken from n p) = (received_beside tb x p).me
me_next tb x e = refl

closed_next : (tb : Table) (x : State) (e : Record) (t : Train) → was_closed x t ≡ true → was_closed (apply tb x e) t ≡ true
closed_next tb x (Opened z) t h = ap (among t) (opened_beside (tb z.0) z x).closed ∙ h
closed_next tb x (Closed z) t h = among_push t z x.closed ∙ or_left (among t x.closed) (eqb t.0 z.0) h
closed_next tb x (Undone n) t h = ap (among t) (returned_beside (ticket_of x n.0) x).closed ∙ h
closed_next tb x (Taken from n p) t h = ap (among t) (received_beside tb x p).closed ∙ h
closed_next tb x e t h = h

pub closed_before : (tb : Table) (x : State) (e : Record) (t : Train) → was_closed (apply tb x e) t ≡ false → was_closed x t ≡ false
closed_before tb x e t h = false_from_ne_true (was_closed x t) (λ f. true≢false (sym (closed_next tb x e t f) ∙ h))

-- ---- tickets are of parties of somebody, that the train has seats and stops for

abbrev pub Real : Table → Option Party → Type 0
Real tb (Some p) = (some (length (seats_of p)) ≡ true) × (listed_all (tb p.train.0) p ≡ true)
Real tb None = Unit {0}

real_forgotten : (tb : Table) (z : Train) (y : Option Party) → Real tb y → Real tb (forgotten z y)
real_forgotten tb z None h = tt
real_forgotten tb z (Some p) h = cond_both (eqb z.0 p.train.0) None (Some p) (Real tb) (λ _. tt) (λ _. h)

pub real_next : (tb : Table) (x : State) (e : Record) → fits tb x e ≡ true → All (Real tb) x.tickets → All (Real tb) (apply tb x e).tickets
real_next tb x (Opened t) f h = rw (opened_beside (tb t.0) t x).tickets h
real_next tb x (Closed t) f h = All-drop (Real tb) _ (map (forgotten t) x.tickets) (All-map (Real tb) (forgotten t) x.tickets (All-weaker (Real tb) (λ y. Real tb (forgotten t y)) (real_forgotten tb t) x.tickets h))
real_next tb x (Sold n p) f h = let g = fits_sold tb x n p f in All-push (Real tb) x.tickets (Some p) h (g.people, g.listed)
real_next tb x (Undone n) f h = All-set (Real tb) x.tickets _ None tt h
real_next tb x (Taken from n p) f h = rw (received_beside tb x p).tickets h
real_next tb x e f h = h

pub real_at : (tb : Table) (xs : List (Option Party)) (a : ℕ) (p : Party) → All (Real tb) xs → get_or xs a None ≡ Some p → Real tb (Some p)
real_at tb xs a p h e = go (cases_lt a (length xs))
  where
    go : (a < length xs) ⊎ (length xs ≤ a) → Real tb (Some p)
    go (inl l) = rw e at (h a None l)
    go (inr l) = let z : None ≡ Some p = sym (get_or_past xs a None l) ∙ e in cc

-- ---- nothing is given to the station itself, or that the train has not

abbrev pub Lists : Table → Piece → Type 0
Lists tb p = listed (tb p.train.0) p ≡ true

away_next : (tb : Table) (x : State) (e : Record) → fits tb x e ≡ true → given_of x.me e ≡ []
away_next tb x (Given to n a p) f = rw (ne_eqb x.me to.0 (fits_given tb x to n a p f).away) refl
away_next tb x e f = refl

pub sent_next : (tb : Table) (x : State) (e : Record) (k : ℕ) → fits tb x e ≡ true → All (Lists tb) (given_of k e)
sent_next tb x (Given to n a p) k f = cond_both (eqb k to.0) (p ∷ []) [] (All (Lists tb)) (λ _. All-cons (Lists tb) p [] (fits_given tb x to n a p f).listed (All-nil (Lists tb))) (λ _. All-nil (Lists tb))
sent_next tb x e k f = All-nil (Lists tb)

-- ---- a station

pub record Fine (n : ℕ) (tb : Table) (i : ℕ) (x : State) (js : List Record) : Type 0 where
  pub me : x.me ≡ i
  pub lines : length x.channels ≡ n
  pub sound : Sound x
  pub line : (k : ℕ) → Line (channel x k) (given_to k js) (taken_from k js)
  pub most : (t : Train) (s u : ℕ) (l : s < 400) → stock n tb t s u l x + given_by t s u n js ≤ due n tb t s u l x + taken_by t s u n js
  pub even : (t : Train) (s u : ℕ) (l : s < 400) → was_closed x t ≡ false → stock n tb t s u l x + given_by t s u n js ≡ due n tb t s u l x + taken_by t s u n js
  pub real : All (Real tb) x.tickets
  pub away : given_to i js ≡ []
  pub sent : (k : ℕ) → All (Lists tb) (given_to k js)

module _ (n : ℕ) (tb : Table) (i : ℕ) (x : State) (js : List Record) (e : Record) where
  pub fine_next : fits tb x e ≡ true → ((t : Train) (s u : ℕ) (l : s < 400) → stock n tb t s u l x + all_taken n tb t s u l e + due n tb t s u l (apply tb x e) ≤ 1 + due n tb t s u l x) → Fine n tb i x js → Fine n tb i (apply tb x e) (js ++ e ∷ [])
  fine_next f r h =
      record {
        me = me_next tb x e ∙ h.me;
        lines = lines_next tb x e ∙ h.lines;
        sound = sound_next tb x e f h.sound;
        line = λ k. rw (flat_push (given_of k) js e, flat_push (taken_of k) js e) (line_next tb x e k (given_to k js) (taken_from k js) f (h.line k));
        most = λ t s u l. omega (arith, (moved n tb t s u l x e h.sound h.lines f (r t s u l)).most, h.most t s u l, count_more t s u n given_of js e, count_more t s u n taken_of js e);
        even = λ t s u l c. omega (arith, (moved n tb t s u l x e h.sound h.lines f (r t s u l)).even c, h.even t s u l (closed_before tb x e t c), count_more t s u n given_of js e, count_more t s u n taken_of js e);
        real = real_next tb x e f h.real;
        away = flat_push (given_of i) js e ∙ ap (λ l. l ++ given_of i e) h.away ∙ ap (λ (k : ℕ). given_of k e) (sym h.me) ∙ away_next tb x e f;
        sent = λ k. rw (flat_push (given_of k) js e) (All-append (Lists tb) (given_to k js) (given_of k e) (h.sent k) (sent_next tb x e k f));
      }

nowhere : (k : ℕ) (t : Train) → get_or (replicate 64 None) k None ≡ Some t → ⊥
nowhere k t e = let f : None ≡ Some t = sym (slice_index_same None 64 k) ∙ e in cc

pub begun_shut : (n i : ℕ) (t : Train) → is_open (begun n i) t ≡ false
begun_shut n i t = le-ltb (place_of (replicate 64 None) (Some t)) (length {A = Option Train} (replicate 64 None)) (omega (arith, place_none (replicate 64 None) (Some t) (λ k _. nowhere k t)))

begun_sound : (n i : ℕ) → Sound (begun n i)
begun_sound n i =
    record {
      slots = length-replicate {A = Option Train} 64 None;
      words = length-replicate {A = ℕ} 25600 0;
      unique = λ t k l e. absurd (nowhere k t e);
    }

pub fine_first : (n : ℕ) (tb : Table) (i : ℕ) → Fine n tb i (begun n i) []
unfolding standing
fine_first n tb i =
    record {
      me = refl;
      lines = length-replicate n fresh;
      sound = begun_sound n i;
      line = λ k. rw (slice_index_same fresh n k) (record { given = refl; taken = refl; heard = omega arith; waiting = refl });
      most = λ t s u l. omega (arith, none t s u l, count_nil t s u);
      even = λ t s u l c. omega (arith, none t s u l, due_zero t s u l, count_nil t s u);
      real = All-nil (Real tb);
      away = refl;
      sent = λ k. All-nil (Lists tb);
    }
  where
    none : (t : Train) (s u : ℕ) (l : s < 400) → in_word t s u l (begun n i) ≡ 0
    none t s u l = in_shut t s u l (begun n i) (begun_sound n i) (begun_shut n i t)

    due_zero : (t : Train) (s u : ℕ) (l : s < 400) → due n tb t s u l (begun n i) ≡ 0
    due_zero t s u l = refl
