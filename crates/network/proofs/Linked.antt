-- What holds between stations, in every world that is reached.
-- Assumes nothing.
use Rattle.std.proofs.Common.{◌≡◌, ℕ, ◌+◌, ◌-◌, ◌<◌, ◌≤◌, true, false, cond, eqb, ◌⊎◌, List, [], ◌∷◌, ◌++◌, length, get_or, drop, Some, fold, sym, refl, ap, ◌∙◌, inl, inr, append-nil, arith, length-append, length-drop, length-set, get_or-drop, drop-drop}
use Rattle.std.proofs.lemmas.List.{length-replicate}
use Rattle.giving.specs.Channels.{fresh}
use Rattle.giving.specs.declared.message.Body.{Body}
use Rattle.giving.specs.declared.message.Body.TheVariants as body
use Rattle.giving.specs.declared.message.Message.{Message}
use Rattle.state.specs.Changes.{apply, fits}
use Rattle.state.specs.States.{State, begun, known, was_closed}
use Rattle.state.specs.declared.record.Record.{Record}
use Rattle.state.specs.declared.record.Record.TheVariants.{Taken, Heard}
use Rattle.network.proofs.Count.{given_of, taken_of, given_to, taken_from, flat_push, count_append, count_rows, given_by, taken_by}
use Rattle.network.proofs.Fine.{Fine, fine_first, fine_next, me_next}
use Rattle.network.proofs.Held.{Sound}
use Rattle.network.proofs.Lists.{set_ind, all_mem, Begins, begins_refl, begins_trans, begins_push, begins_next, slice_index_begins, slice_index_same}
use Rattle.network.proofs.Local.{fits_taken}
use Rattle.network.proofs.Moves.{hears, heard_next}
use Rattle.network.proofs.Stock.{stock, due, all_taken}
use Rattle.network.proofs.Sum.{sum_to, sum_cong, sum_add, sum_swap, sum_has, sum_one, sum_at, sum_peak, sum_le}
use Rattle.network.proofs.Trains.{share, share_le, share_elsewhere, home}
use Rattle.network.proofs.Unfallen.{Unfallen, untouched, stepped, unfallen}
use Rattle.network.specs.Falls.{Reach}
use Rattle.network.specs.Places.{count_in, under_way}
use Rattle.asking.specs.Replies.{request}
use Rattle.asking.specs.Ticks.{reminder, telling}
use Rattle.network.specs.Worlds.{World, journal, state, channel, Backed, wrote, spoke, account, settlement, Step, writes, reminds, accounts, asks, answers, tells, beginning}
use Rattle.pieces.specs.Parts.{blank}
use Rattle.pieces.specs.declared.names.Train.{Train}
use Rattle.pieces.specs.declared.piece.Piece.{Piece}
use Rattle.std.proofs.lemmas.List.Elements.{All-nil, All-weaker, All-push}
use Rattle.std.proofs.lemmas.List.Prefix.{front_rest}
use Rattle.std.proofs.lemmas.List.Sums.{fold_push}
use Rattle.std.proofs.lemmas.Bool.{cases_eq, cond_both, eq-eqb, eqb-true, ne_eqb}
use Rattle.std.specs.List.{All}
use Rattle.timetable.specs.Rows.{Table}
use Rattle.timetable.specs.declared.row.Row.{Row}

-- a message says what was given under its number
pub record Placed (gs : List Piece) (n : ℕ) (p : Piece) : Type 0 where
  pub place : ℕ
  pub number : n ≡ place + 1
  pub within : place < length gs
  pub piece : get_or gs place blank ≡ p

abbrev pub Right : List (List Record) → ℕ → ℕ → Body → Type 0
Right js from to (body.Given n p) = Placed (given_to to (get_or js from [])) n.0 p
Right js from to (body.Taken n) = n.0 ≤ length (taken_from to (get_or js from []))
Right js from to b = Unit {0}

abbrev pub Said : List (List Record) → Message → Type 0
Said js m = Right js m.from.0 m.to.0 m.body

pub record Intact (n : ℕ) (tb : Table) (w : World) : Type 0 where
  pub count : length w.journals ≡ n
  pub fine : (k : ℕ) → Fine n tb k (state n tb w k) (journal w k)
  pub link : (i j : ℕ) → Begins (taken_from i (journal w j)) (given_to j (journal w i))
  pub heard : (i j : ℕ) → (channel (state n tb w i) j).heard ≤ length (taken_from i (journal w j))
  pub said : All (Said w.journals) w.said

-- ---- what is due at first is due to one station

module _ (n : ℕ) (tb : Table) (t : Train) (s u : ℕ) (l : s < 400) where
  due_elsewhere : (x : State) (k : ℕ) → x.me ≡ k → (k ≡ home (tb t.0) → ⊥) → due n tb t s u l x ≡ 0
  due_elsewhere x k m d = cond_both (known x t) (share (tb t.0) x.me s u) 0 (λ v. v ≡ 0) (λ _. share_elsewhere (tb t.0) x.me s u (λ e. d (sym m ∙ e))) (λ _. refl)

  due_most : (x : State) → due n tb t s u l x ≤ 1
  due_most x = cond_both (known x t) (share (tb t.0) x.me s u) 0 (λ v. v ≤ 1) (λ _. share_le (tb t.0) x.me s u) (λ _. omega arith)

  pub dues_one : (f : ℕ → State) → ((k : ℕ) → (f k).me ≡ k) → (r : Row) → tb t.0 ≡ Some r → r.first.0 < n → sum_to n (λ k. due n tb t s u l (f k)) ≡ due n tb t s u l (f r.first.0)
  dues_one f m r e h = sum_one n r.first.0 (λ k. due n tb t s u l (f k)) h (λ k d. due_elsewhere (f k) k (m k) (λ g. d (g ∙ ap home e)))

  pub dues_most : (f : ℕ → State) → ((k : ℕ) → (f k).me ≡ k) → sum_to n (λ k. due n tb t s u l (f k)) ≤ 1
  dues_most f m = omega (arith, sum_peak n (home (tb t.0)) (λ k. due n tb t s u l (f k)) (λ k d. due_elsewhere (f k) k (m k) d), due_most (f (home (tb t.0))))

-- ---- a record more

-- what holds of the journal that was written, and of all as they were, holds of all
pub wrote_ind : (w : World) (i : ℕ) (e : Record) → i < length w.journals → (P : ℕ → List Record → Type 0) → P i (journal w i ++ e ∷ []) → ((k : ℕ) → P k (journal w k)) → (k : ℕ) → P k (journal (wrote w i e) k)
wrote_ind w i e b P here there = set_ind P w.journals i (journal w i ++ e ∷ []) [] b here (λ k _. there k)

-- the same of states
pub wrote_state : (n : ℕ) (tb : Table) (w : World) (i : ℕ) (e : Record) → i < length w.journals → (P : ℕ → State → Type 0) → P i (apply tb (state n tb w i) e) → ((k : ℕ) → P k (state n tb w k)) → (k : ℕ) → P k (state n tb (wrote w i e) k)
wrote_state n tb w i e b P here there = wrote_ind w i e b (λ k js. P k (fold (apply tb) (begun n k) js)) (rw (fold_push (apply tb) (begun n i) (journal w i) e) here) there

-- ---- what is on its way

-- what was given begins with what was taken, and the rest is on its way
pub given_rest : (n : ℕ) (tb : Table) (w : World) → Intact n tb w → (i j : ℕ) → given_to j (journal w i) ≡ taken_from i (journal w j) ++ under_way i j (state n tb w i) (state n tb w j)
given_rest n tb w ok i j =
    let b = ok.link i j in
    let gs = given_to j (journal w i) in
    let ts = taken_from i (journal w j) in
    let h = (channel (state n tb w i) j).heard in
    let k = (channel (state n tb w j) i).taken - h in
    let e : h + k ≡ length ts = omega (arith, ok.heard i j, ((ok.fine j).line i).taken) in
    b.is ∙ ap (λ r. ts ++ r) (sym (ap (drop k) ((ok.fine i).line j).waiting ∙ drop-drop k h gs ∙ ap (λ m. drop m gs) e ∙ front_rest gs ts b.rest b.is))

module _ (n : ℕ) (tb : Table) (w : World) (ok : Intact n tb w) (t : Train) (s u : ℕ) (l : s < 400) where
  abbrev pub x : ℕ → State
  x k = state n tb w k

  abbrev pub way : ℕ → ℕ → ℕ
  way i j = count_in t s u (under_way i j (x i) (x j))

  given_is : (i j : ℕ) → count_in t s u (given_to j (journal w i)) ≡ count_in t s u (taken_from i (journal w j)) + way i j
  given_is i j = ap (count_in t s u) (given_rest n tb w ok i j) ∙ count_append t s u (taken_from i (journal w j)) (under_way i j (x i) (x j))

  abbrev had : ℕ → ℕ
  had k = stock n tb t s u l (x k)

  abbrev gave : ℕ → ℕ
  gave k = given_by t s u n (journal w k)

  abbrev took : ℕ → ℕ
  took k = taken_by t s u n (journal w k)

  abbrev back : ℕ → ℕ
  back k = sum_to n (λ j. count_in t s u (taken_from k (journal w j)))

  abbrev on : ℕ → ℕ
  on k = sum_to n (λ j. way k j)

  abbrev owed : ℕ → ℕ
  owed k = due n tb t s u l (x k)

  -- what all have, and what is on its way
  abbrev pub total : ℕ
  total = sum_to n had + sum_to n on

  gave_is : sum_to n gave ≡ sum_to n took + sum_to n on
  gave_is =
      sum_cong n gave (λ i. back i + on i) (λ i _. count_rows t s u n (λ j. taken_from i (journal w j)) (λ j. under_way i j (x i) (x j)) (λ j. given_to j (journal w i)) (given_rest n tb w ok i))
      ∙ sum_add n back on
      ∙ ap (λ (m : ℕ). m + sum_to n on) (sum_swap n n (λ i j. count_in t s u (taken_from i (journal w j))))

  pub total_most : total ≤ sum_to n owed
  total_most =
      omega (
        arith,
        sum_le n (λ k. had k + gave k) (λ k. owed k + took k) (λ k. (ok.fine k).most t s u l),
        sum_add n had gave,
        sum_add n owed took,
        gave_is,
      )

  pub total_even : ((k : ℕ) → k < n → was_closed (x k) t ≡ false) → total ≡ sum_to n owed
  total_even c =
      omega (
        arith,
        sum_cong n (λ k. had k + gave k) (λ k. owed k + took k) (λ k b. (ok.fine k).even t s u l (c k b)),
        sum_add n had gave,
        sum_add n owed took,
        gave_is,
      )

  mine : (k : ℕ) → (x k).me ≡ k
  mine k = (ok.fine k).me

  pub total_one : total ≤ 1
  total_one = omega (arith, total_most, dues_most n tb t s u l x mine)

  -- a station has room for what it takes
  pub room : (i : ℕ) (e : Record) → i < n → ((k : ℕ) → Begins (taken_from k (journal w i) ++ taken_of k e) (given_to i (journal w k))) →
      stock n tb t s u l (x i) + all_taken n tb t s u l e + due n tb t s u l (apply tb (x i) e) ≤ 1 + due n tb t s u l (x i)
  room i e b begins =
      omega (
        arith,
        sum_has n i had b,
        sum_le n (λ k. count_in t s u (taken_of k e)) (λ k. way k i) each,
        sum_le n (λ k. way k i) on (λ k. sum_has n i (way k) b),
        total_most,
        sum_at n i (λ k. due n tb t s u l (next k)) owed b (λ k d. ap (due n tb t s u l) (next_there k d)),
        ap (due n tb t s u l) next_here,
        dues_most n tb t s u l next next_me,
      )
    where
      next : ℕ → State
      next k = cond (eqb k i) (apply tb (x i) e) (x k)

      next_here : next i ≡ apply tb (x i) e
      next_here = rw (eq-eqb i i refl) refl

      next_there : (k : ℕ) → (k ≡ i → ⊥) → next k ≡ state n tb w k
      next_there k d = rw (ne_eqb k i d) refl

      next_me : (k : ℕ) → (next k).me ≡ k
      next_me k =
          cond_both (eqb k i) (apply tb (x i) e) (x k) (λ y. y.me ≡ k) (λ d. me_next tb (x i) e ∙ mine i ∙ sym (eqb-true k i d)) (λ _. mine k)

      each : (k : ℕ) → count_in t s u (taken_of k e) ≤ way k i
      each k =
          let z = taken_from k (journal w i) in
          omega (arith, given_is k i, ap (count_in t s u) (begins k).is, count_append t s u (z ++ taken_of k e) (begins k).rest, count_append t s u z (taken_of k e))

-- ---- every step keeps it

module _ (n : ℕ) (tb : Table) where
  -- what a station hears was taken
  heard_told : (w : World) (i : ℕ) (e : Record) → Intact n tb w → Backed w.said i e → (k : ℕ) → hears k e ≤ length (taken_from i (journal w k))
  heard_told w i (Heard from m) ok t k = cond_both (eqb k from.0) m.0 0 (λ v. v ≤ length (taken_from i (journal w k))) (λ d. rw (eqb-true k from.0 d) said) (λ _. omega arith)
    where
      said : m.0 ≤ length (taken_from i (journal w from.0))
      said = all_mem (Said w.journals) t ok.said
  heard_told w i e ok t k = omega arith

  -- what a station takes is the next piece that was given to it
  next : (w : World) (i : ℕ) (e : Record) → Intact n tb w → Backed w.said i e → fits tb (state n tb w i) e ≡ true → (k : ℕ) → Begins (taken_from k (journal w i) ++ taken_of k e) (given_to i (journal w k))
  next w i (Taken from m p) ok t f k = go (cases_eq k from.0)
    where
      said : Placed (given_to i (journal w from.0)) m.0 p
      said = all_mem (Said w.journals) t ok.said

      here : said.place ≡ length (taken_from from.0 (journal w i))
      here = omega (arith, said.number, (fits_taken tb (state n tb w i) from m p f).next, ((ok.fine i).line from.0).taken)

      go : (k ≡ from.0) ⊎ (k ≡ from.0 → ⊥) → Begins (taken_from k (journal w i) ++ taken_of k (Taken from m p)) (given_to i (journal w k))
      go (inl d) = rw (eq-eqb k from.0 d, d) (begins_next blank p _ _ (ok.link from.0 i) (rw here at said.within) (rw here at said.piece))
      go (inr d) = rw (ne_eqb k from.0 d, append-nil (taken_from k (journal w i))) (ok.link k i)
  next w i e ok t f k = rw (append-nil (taken_from k (journal w i))) (ok.link k i)

  -- a message more that is right
  more_said : (w : World) (m : Message) → Intact n tb w → Said w.journals m → Intact n tb (spoke w m)
  more_said w m ok h = record { count = ok.count; fine = ok.fine; link = ok.link; heard = ok.heard; said = All-push (Said w.journals) w.said m ok.said h }

  pub ok_step : {w v : World} → Step n tb w v → Intact n tb w → Intact n tb v
  ok_step (writes w i e l t f) ok =
      record {
        count = length-set w.journals i _ ∙ ok.count;
        fine = wrote_ind w i e b (λ k js. Fine n tb k (fold (apply tb) (begun n k) js) js) (rw (fold_push (apply tb) (begun n i) (journal w i) e) (fine_next n tb i _ (journal w i) e f (λ t s u m. room n tb w ok t s u m i e l taken) (ok.fine i))) ok.fine;
        link = λ k j. begins_trans (wrote_ind w i e b (λ j js. Begins (taken_from k js) (given_to j (journal w k))) (rw (flat_push (taken_of k) (journal w i) e) (taken k)) (ok.link k) j) (later k j);
        heard = λ k j. wrote_state n tb w i e b (λ k x. (channel x j).heard ≤ length (taken_from k (journal (wrote w i e) j))) (omega (arith, heard_next tb (state n tb w i) e j f, heard_told w i e ok t j, ok.heard i j, longer i j)) (λ k. omega (arith, ok.heard k j, longer k j)) k;
        said = All-weaker (Said w.journals) (Said (wrote w i e).journals) still w.said ok.said;
      }
    where
      b : i < length w.journals
      b = omega (arith, ok.count)

      taken : (k : ℕ) → Begins (taken_from k (journal w i) ++ taken_of k e) (given_to i (journal w k))
      taken = next w i e ok t f

      later : (k j : ℕ) → Begins (given_to j (journal w k)) (given_to j (journal (wrote w i e) k))
      later k j = wrote_ind w i e b (λ k js. Begins (given_to j (journal w k)) (given_to j js)) (rw (flat_push (given_of j) (journal w i) e) (begins_push _ _)) (λ k. begins_refl _) k

      longer : (k j : ℕ) → length (taken_from k (journal w j)) ≤ length (taken_from k (journal (wrote w i e) j))
      longer k j = wrote_ind w i e b (λ j js. length (taken_from k (journal w j)) ≤ length (taken_from k js)) (rw (flat_push (taken_of k) (journal w i) e) (omega (arith, length-append (taken_from k (journal w i)) (taken_of k e)))) (λ j. omega arith) j

      still : (m : Message) → Said w.journals m → Said (wrote w i e).journals m
      still m = right m.from.0 m.to.0 m.body
        where
          right : (k j : ℕ) (x : Body) → Right w.journals k j x → Right (wrote w i e).journals k j x
          right k j (body.Given m p) d =
              let (g, f) = slice_index_begins blank d.place (later k j) d.within in
              record { place = d.place; number = d.number; within = g; piece = f ∙ d.piece }
          right k j (body.Taken m) d = omega (arith, longer j k)
          right k j b d = tt
  ok_step (reminds w i j k l) ok = more_said w (reminder (state n tb w i) i j k) ok new
    where
      c : ℕ
      c = (channel (state n tb w i) j).heard

      gs : List Piece
      gs = given_to j (journal w i)

      new : Placed gs (c + 1 + k) (get_or (channel (state n tb w i) j).waiting k blank)
      new =
          record {
            place = c + k;
            number = omega arith;
            within = omega (arith, ap length ((ok.fine i).line j).waiting, length-drop c gs);
            piece = sym (ap (λ l. get_or l k blank) ((ok.fine i).line j).waiting ∙ get_or-drop c gs k blank);
          }
  ok_step (accounts w i j) ok = more_said w (account (state n tb w i) i j) ok (omega (arith, ((ok.fine i).line j).taken))
  ok_step (asks w i j d) ok = more_said w (request (state n tb w i) i j d) ok tt
  ok_step (answers w i j l) ok = more_said w (settlement (state n tb w i) (journal w i) i j) ok tt
  ok_step (tells w i j t o) ok = more_said w (telling tb (state n tb w i) i j t) ok tt

  ok_begin : Intact n tb (beginning n)
  ok_begin =
      record {
        count = length-replicate n [];
        fine = λ k. rw (slice_index_same {A = List Record} [] n k) (fine_first n tb k);
        link = λ i j. rw (slice_index_same {A = List Record} [] n j, slice_index_same {A = List Record} [] n i) (begins_refl []);
        heard = λ i j. rw (slice_index_same {A = List Record} [] n i, slice_index_same fresh n j) (omega arith);
        said = All-nil (Said (beginning n).journals);
      }

  pub ok_unfallen : {w : World} → Unfallen n tb w → Intact n tb w
  ok_unfallen untouched = ok_begin
  ok_unfallen (stepped r s) = ok_step s (ok_unfallen r)

  pub ok_reach : {w : World} → Reach n tb w → Intact n tb w
  ok_reach r = ok_unfallen (unfallen n tb r)

-- what holds of an empty journal, and is kept by each record that fits, holds of each station's journal
module _ (n : ℕ) (tb : Table) (P : ℕ → List Record → Type 0) (first : (i : ℕ) → P i []) (next : (i : ℕ) (js : List Record) (e : Record) → Sound (fold (apply tb) (begun n i) js) → fits tb (fold (apply tb) (begun n i) js) e ≡ true → P i js → P i (js ++ e ∷ [])) where
  kept : {w v : World} → Step n tb w v → Intact n tb w → ((i : ℕ) → P i (journal w i)) → (i : ℕ) → P i (journal v i)
  kept (writes w i e l t f) ok h = wrote_ind w i e (omega (arith, ok.count)) P (next i (journal w i) e (ok.fine i).sound f (h i)) h
  kept (reminds w i j k l) ok h = h
  kept (accounts w i j) ok h = h
  kept (asks w i j d) ok h = h
  kept (answers w i j l) ok h = h
  kept (tells w i j t o) ok h = h

  every_unfallen : {w : World} → Unfallen n tb w → (i : ℕ) → P i (journal w i)
  every_unfallen untouched i = rw (slice_index_same {A = List Record} [] n i) (first i)
  every_unfallen (stepped r s) i = kept s (ok_unfallen n tb r) (every_unfallen r) i

  pub every : {w : World} → Reach n tb w → (i : ℕ) → P i (journal w i)
  every r = every_unfallen (unfallen n tb r)
