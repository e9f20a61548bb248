-- The trains that are told of, and the stations that are told.
-- Assumes nothing.
use Rattle.std.proofs.Common.{◌≡◌, ℕ, zero, suc, ◌+◌, ◌-◌, ◌*◌, ◌<◌, ◌≤◌, Bool, true, false, cond, eqb, ltb, List, [], ◌∷◌, ◌++◌, length, fold, Some, None, Option, is_some, sym, refl, ap, ◌∙◌, append_assoc, append-nil, length-append, zero-add, add-mul, one-mul, mul-le-mul, mul-le-mul_right, arith}
use Rattle.asking.specs.Turns.{placed, in_order, by_number, others, rowed, open_trains}
use Rattle.asking.proofs.OrderRises.{each_by, each_ordered}
use Rattle.asking.proofs.Saying.{flat_counts, flat_times}
use Rattle.asking.specs.Ticks.{reminder, reminders, reminders_to, telling, tellings, tellings_to}
use Rattle.giving.specs.Channels.{Chan, all_waiting, fresh, line}
use Rattle.giving.specs.declared.ids.StationId.{StationId}
use Rattle.pieces.specs.declared.names.Train.{Train}
use Rattle.state.specs.States.{State, place_of, same}
use Rattle.std.proofs.lemmas.Bool.{eq-eqb, lt-ltb, ltb-true}
use Rattle.std.proofs.lemmas.Bool.Decides.{nat_tests}
use Rattle.std.proofs.lemmas.List.Elements.{All-from_recursion}
use Rattle.std.proofs.lemmas.List.{length-map}
use Rattle.std.proofs.lemmas.List.Concat.{flat_map-append}
use Rattle.std.proofs.lemmas.List.FromFn.{length-map-range_with_len}
use Rattle.std.specs.List.{All, AllByRecursion, flat_map}
use Rattle.timetable.specs.Rows.{Table}

-- ---- a list in order

module _ {X : Type 0} (lt : X → X → Bool) where
  placed_length : (x : X) (ys : List X) → length (placed lt x ys) ≡ suc (length ys)
  placed_length x [] = refl
  placed_length x (y ∷ ys) =
      elim (lt x y) as (λ b. length (cond b (x ∷ y ∷ ys) (y ∷ placed lt x ys)) ≡ suc (suc (length ys))) [ true ↦ refl | false ↦ ap suc (placed_length x ys) ]

  folded_length : (zs xs : List X) → length (fold (λ ys x. placed lt x ys) zs xs) ≡ length zs + length xs
  folded_length zs [] = omega arith
  folded_length zs (x ∷ xs) = omega (arith, folded_length (placed lt x zs) xs, placed_length x zs)

  pub in_order_length : (xs : List X) → length (in_order lt xs) ≡ length xs
  in_order_length xs = folded_length [] xs ∙ zero-add (length xs)

-- ---- trains

-- open at a station with these slots, and in the timetable
abbrev pub Listed : Table → List (Option Train) → Train → Type 0
Listed tb xs t = (ltb (place_of xs (Some t)) (length xs) ≡ true) × (is_some (tb t.0) ≡ true)

module _ (tb : Table) where
  -- a slot more before the others
  behind : (y : Option Train) (ys : List (Option Train)) (t : Train) → Listed tb ys t → Listed tb (y ∷ ys) t
  behind y ys t h = (go (same y (Some t)), h.1)
    where
      go : (b : Bool) → ltb (cond b 0 (suc (place_of ys (Some t)))) (suc (length ys)) ≡ true
      go true = lt-ltb 0 (suc (length ys)) (omega arith)
      go false = lt-ltb (suc (place_of ys (Some t))) (suc (length ys)) (omega (arith, ltb-true (place_of ys (Some t)) (length ys) h.0))

  rowed_all : (xs : List (Option Train)) → AllByRecursion (Listed tb xs) (rowed tb xs)
  rowed_all [] = tt
  rowed_all (None ∷ ys) = each_by (Listed tb ys) (Listed tb (None ∷ ys)) (behind None ys) (rowed tb ys) (rowed_all ys)
  rowed_all (Some t ∷ ys) = go (each_by (Listed tb ys) (Listed tb (Some t ∷ ys)) (behind (Some t) ys) (rowed tb ys) (rowed_all ys)) (is_some (tb t.0)) refl
    where
      go : AllByRecursion (Listed tb (Some t ∷ ys)) (rowed tb ys) → (b : Bool) → is_some (tb t.0) ≡ b → AllByRecursion (Listed tb (Some t ∷ ys)) (cond b (t ∷ rowed tb ys) (rowed tb ys))
      go rest true e = ((ap (λ (b : Bool). ltb (cond b 0 (suc (place_of ys (Some t)))) (suc (length ys))) (eq-eqb t.0 t.0 refl) ∙ lt-ltb 0 (suc (length ys)) (omega arith), e), rest)
      go rest false e = rest

  rowed_length : (xs : List (Option Train)) → length (rowed tb xs) ≤ length xs
  rowed_length [] = omega arith
  rowed_length (None ∷ ys) = omega (arith, rowed_length ys)
  rowed_length (Some t ∷ ys) =
      let h = rowed_length ys in
      elim (is_some (tb t.0)) as (λ b. length (cond b (t ∷ rowed tb ys) (rowed tb ys)) ≤ suc (length ys)) [ true ↦ omega arith | false ↦ omega arith ]

  pub trains_each : (s : State) → AllByRecursion (Listed tb s.slots) (open_trains tb s)
  trains_each s = each_ordered by_number (Listed tb s.slots) [] (rowed tb s.slots) tt (rowed_all s.slots)

  pub trains_listed : (s : State) → All (Listed tb s.slots) (open_trains tb s)
  trains_listed s = All-from_recursion (Listed tb s.slots) (open_trains tb s) (trains_each s)

  pub trains_few : (s : State) → length (open_trains tb s) ≤ length s.slots
  trains_few s = omega (arith, in_order_length by_number (rowed tb s.slots), rowed_length s.slots)

-- ---- stations

pub others_length : (me n : ℕ) → length (others me n) ≡ n - cond (ltb me n) 1 0
others_length me zero = omega arith
others_length me (suc n) = go (others_length me n) (eqb n me) refl
  where
    go : length (others me n) ≡ n - cond (ltb me n) 1 0 → (b : Bool) → eqb n me ≡ b → length (others me n ++ cond b [] (record { 0 = n } ∷ [])) ≡ suc n - cond (ltb me (suc n)) 1 0
    go h true e = simp length-append (grind (arith, nat_tests))
    go h false e = simp length-append (grind (arith, nat_tests))

-- a station further
others_said : {X : Type 0} (f : StationId → List X) (me k : ℕ) → flat_map f (others me (k + 1)) ≡ flat_map f (others me k) ++ cond (eqb k me) [] (f (record { 0 = k }))
others_said f me k =
    let on : k + 1 ≡ suc k = omega arith in
    ap (λ n. flat_map f (others me n)) on ∙ flat_map-append f (others me k) (cond (eqb k me) [] (record { 0 = k } ∷ []))
    ∙ ap (λ l. flat_map f (others me k) ++ l) (elim (eqb k me) as (λ b. flat_map f (cond b [] (record { 0 = k } ∷ [])) ≡ cond b [] (f (record { 0 = k }))) [ true ↦ refl | false ↦ append-nil (f (record { 0 = k })) ])

module _ {X : Type 0} (f : StationId → List X) (me k : ℕ) (xs ys : List X) (so_far : ys ≡ xs ++ flat_map f (others me k)) where
  pub told_more : (zs : List X) → eqb k me ≡ false → zs ≡ ys ++ f (record { 0 = k }) → zs ≡ xs ++ flat_map f (others me (k + 1))
  told_more zs e b =
      b ∙ ap (λ l. l ++ f (record { 0 = k })) so_far ∙ append_assoc xs (flat_map f (others me k)) (f (record { 0 = k }))
      ∙ ap (λ (t : Bool). xs ++ (flat_map f (others me k) ++ cond t [] (f (record { 0 = k })))) (sym e) ∙ ap (λ l. xs ++ l) (sym (others_said f me k))

  pub told_none : eqb k me ≡ true → ys ≡ xs ++ flat_map f (others me (k + 1))
  told_none e =
      so_far ∙ ap (λ l. xs ++ l) (sym (append-nil (flat_map f (others me k))))
      ∙ ap (λ (t : Bool). xs ++ (flat_map f (others me k) ++ cond t [] (f (record { 0 = k })))) (sym e) ∙ ap (λ l. xs ++ l) (sym (others_said f me k))

-- there is one more to tell
pub others_more : (me k n : ℕ) → eqb k me ≡ false → k < n → length (others me k) + 1 ≤ length (others me n)
others_more me k n e h = grind (arith, nat_tests, others_length me k, others_length me n)

-- ---- how much is said

pub reminders_length : (s : State) → length (reminders s) ≡ all_waiting s.channels
reminders_length s =
    flat_counts (reminders_to s) (λ (c : Chan). length c.waiting) s.channels fresh 0
    (λ k lt. let on : 0 + k ≡ k = omega arith in ap (λ j. length (reminders_to s j)) on ∙ length-map-range_with_len (reminder s s.me k) 0 (length (line s.channels k).waiting))

pub tellings_length : (tb : Table) (s : State) → length (tellings tb s) ≡ length (others s.me (length s.channels)) * length (open_trains tb s)
tellings_length tb s = flat_times (tellings_to tb s) (length (open_trains tb s)) (others s.me (length s.channels)) (λ j. length-map (open_trains tb s) (telling tb s s.me j))

-- the messages of as many stations as were told, and of the next one, are no more than all
pub tellings_room : (tb : Table) (s : State) (k : ℕ) → eqb k s.me ≡ false → k < length s.channels
    → length (flat_map (tellings_to tb s) (others s.me k)) + length (open_trains tb s) ≤ length (tellings tb s)
tellings_room tb s k e h =
    let l = length (open_trains tb s) in
    let so_far = flat_times (tellings_to tb s) l (others s.me k) (λ j. length-map (open_trains tb s) (telling tb s s.me j)) in
    let more = mul-le-mul_right l (others_more s.me k (length s.channels) e h) in
    omega (arith, so_far, more, tellings_length tb s, add-mul (length (others s.me k)) 1 l, one-mul l)

-- all that a fiftieth tick says: what waits, and n stations times m trains
module _ (tb : Table) (s : State) (n m : ℕ) (stations : n ≡ length (others s.me (length s.channels))) (trains : m ≡ length (open_trains tb s)) where
  pub all_length : length (reminders s ++ tellings tb s) ≡ all_waiting s.channels + n * m
  all_length =
      length-append (reminders s) (tellings tb s) ∙ ap (λ k. k + length (tellings tb s)) (reminders_length s)
      ∙ ap (λ k. all_waiting s.channels + k) (tellings_length tb s ∙ ap (λ k. k * length (open_trains tb s)) (sym stations) ∙ ap (λ k. n * k) (sym trains))

  pub all_few : length s.channels ≤ 256 → length s.slots ≡ 64 → n * m ≤ 16384
  all_few h e =
      let a : n ≤ 256 = grind (arith, nat_tests, others_length s.me (length s.channels)) in
      let b : m ≤ 64 = omega (arith, trains_few tb s) in
      mul-le-mul a b
