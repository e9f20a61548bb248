-- What is on its way arrives.
-- Assumes nothing.
use Rattle.std.proofs.Common.{◌≡◌, ℕ, zero, suc, ◌+◌, ◌-◌, ◌<◌, ◌≤◌, Bool, true, false, ◌||◌, ◌⊎◌, List, [], ◌∷◌, ◌++◌, length, get_or, drop, fold, sym, refl, ap, ◌∙◌, ap₂, inl, inr, ⊎_elim, arith, length-append, length-drop, get_or-set_same}
use mathlib.Core.List.{Memᴰ}
use mathlib.Core.List.Memᴰ
use Rattle.giving.specs.Channels.{Chan, fresh, took}
use Rattle.giving.specs.declared.message.Message.{Message}
use Rattle.network.proofs.Count.{given_to, taken_from}
use Rattle.network.proofs.Fine.{Lists}
use Rattle.network.proofs.Kept.{Holds, held_on, taken_keeps}
use Rattle.network.proofs.Linked.{Intact, ok_reach, given_rest, wrote_state}
use Rattle.network.proofs.Sites.{sited, on_file, silent_covered, told_covered}
use Rattle.network.proofs.Moves.{received_beside}
use Rattle.network.proofs.Sum.{sum_to, sum_cong, sum_at}
use Rattle.network.specs.Places.{under_way}
use Rattle.network.specs.Promises.{Settled, Arrives}
use Rattle.asking.specs.Ticks.{reminder}
use Rattle.network.specs.Falls.{Site, site, sync, steps, syncs, more, Reached, Carries, here, onward, safely}
use Rattle.network.specs.Worlds.{World, journal, state, channel, Backed, wrote, spoke, Step, writes, reminds, Carry, said, taken}
use Rattle.pieces.specs.Parts.{blank}
use Rattle.pieces.specs.declared.names.Train.{Train}
use Rattle.pieces.specs.declared.piece.Piece.{Piece}
use Rattle.state.specs.Changes.{apply, fits}
use Rattle.state.specs.States.{State, begun, among, was_closed, known, openable, holds_piece}
use Rattle.state.specs.declared.record.Record.{Record}
use Rattle.state.specs.declared.record.Record.TheVariants.{Taken}
use Rattle.std.proofs.lemmas.List.Sums.{fold_push}
use Rattle.std.proofs.lemmas.Bool.{cases_Bool, or_parts, false≢true}
use Rattle.std.specs.List.{All}
use Rattle.std.proofs.lemmas.Bool.Decides.{nat_tests}
use Rattle.std.proofs.lemmas.List.{drop_at, drop_more}
use Rattle.std.proofs.lemmas.List.Elements.{All-head, All-same, All-drop}
use borrow.Author.Count.{below_more}
use Rattle.network.proofs.Lists.{set_ind, cases_two}
use Rattle.timetable.specs.Rows.{Table}

-- ---- lists

-- a list that begins with q, from a place on
drop_cons : (l : List Piece) (k : ℕ) (q : Piece) (qs : List Piece) → drop k l ≡ q ∷ qs → (k < length l) × (get_or l k blank ≡ q) × (drop (k + 1) l ≡ qs)
drop_cons l k q qs e =
    let b : k < length l = omega (arith, ap length e, length-drop k l) in
    let d = drop_more l k blank b in
    (b, cc, cc)

all_right : {A : Type 0} (P : A → Type 0) (xs ys : List A) → All P (xs ++ ys) → All P ys
all_right P xs ys h = All-same P ys (drop (length xs) (xs ++ ys)) (sym (drop_at xs ys (length xs) refl)) (All-drop P (length xs) (xs ++ ys) h)

-- one of two holds of each number: the first of some number below n, or the second of all
find : (P Q : ℕ → Type 0) → ((k : ℕ) → P k ⊎ Q k) → (n : ℕ) → ((k : ℕ) × (k < n) × P k) ⊎ ((k : ℕ) → k < n → Q k)
find P Q c zero = inr (λ k l. absurd (omega arith))
find P Q c (suc n) = go (c n) (find P Q c n)
  where
    go : P n ⊎ Q n → ((k : ℕ) × (k < n) × P k) ⊎ ((k : ℕ) → k < n → Q k) → ((k : ℕ) × (k < suc n) × P k) ⊎ ((k : ℕ) → k < suc n → Q k)
    go (inl p) r = inl (n, omega arith, p)
    go (inr q) (inl (k, l, p)) = inl (k, omega arith, p)
    go (inr q) (inr h) = inr (λ k l. below_more Q n h q k (omega (arith, l)))

-- what is held in a state, or of a closed train, is so in one that is the same
kept_same : (x y : State) (q : Piece) → x ≡ y → (was_closed y q.train ≡ true) ⊎ (holds_piece y q ≡ true) → (was_closed x q.train ≡ true) ⊎ (holds_piece x q ≡ true)
kept_same x y q e h = rw e h

-- ---- on from one world to another

module _ (n : ℕ) (tb : Table) where
  abbrev ways : World → ℕ → ℕ → List Piece
  ways w i j = under_way i j (state n tb w i) (state n tb w j)

  -- from w to v: what was on its way still is, or is held by who it was given to, or that one has closed the train
  record Onward (w v : World) : Type 0 where
    held : (b : ℕ) (p : Piece) → holds_piece (state n tb w b) p ≡ true → holds_piece (state n tb v b) p ≡ true
    closed : (b : ℕ) (t : Train) → was_closed (state n tb w b) t ≡ true → was_closed (state n tb v b) t ≡ true
    come : (a b : ℕ) (p : Piece) → Memᴰ p (ways w a b) → Memᴰ p (ways v a b) ⊎ ((was_closed (state n tb v b) p.train ≡ true) ⊎ (holds_piece (state n tb v b) p ≡ true))

  onward_none : (w : World) → Onward w w
  onward_none w = record { held = λ b p h. h; closed = λ b t h. h; come = λ a b p m. inl m }

  onward_then : (w v u : World) → Onward w v → Onward v u → Onward w u
  onward_then w v u f g =
      record {
        held = λ b p h. g.held b p (f.held b p h);
        closed = λ b t h. g.closed b t (f.closed b t h);
        come = λ a b p m. ⊎_elim (λ z. g.come a b p z) (λ z. ⊎_elim (λ c. inr (inl (g.closed b p.train c))) (λ h. inr (inr (g.held b p h))) z) (f.come a b p m);
      }

  abbrev size : World → ℕ
  size w = sum_to n (λ a. sum_to n (λ b. length (ways w a b)))

  -- ---- one piece is said and taken

  module _ (s : Site) (reached : Reached n tb s) (i j : ℕ) (li : i < n) (lj : j < n) (q : Piece) (qs : List Piece) (way : ways s.world i j ≡ q ∷ qs) (room : (known (state n tb s.world j) q.train || openable (state n tb s.world j)) ≡ true) where
    abbrev w : World
    w = s.world

    ok : Intact n tb w
    ok = ok_reach n tb (s.synced, reached)

    abbrev x : State
    x = state n tb w i

    abbrev y : State
    y = state n tb w j

    -- where it waits
    abbrev k : ℕ
    k = (channel y i).taken - (channel x j).heard

    waits : (k < length (channel x j).waiting) × (get_or (channel x j).waiting k blank ≡ q) × (drop (k + 1) (channel x j).waiting ≡ qs)
    waits = drop_cons (channel x j).waiting k q qs way

    abbrev number : ℕ
    number = (channel x j).heard + 1 + k

    is_number : number ≡ (channel y i).taken + 1
    is_number = omega (arith, ok.heard i j, ((ok.fine j).line i).taken)

    -- two stations
    apart : i ≡ j → ⊥
    apart e =
        let g = given_rest n tb w ok i j in
        let z : given_to j (journal w i) ≡ [] = ap (λ (m : ℕ). given_to m (journal w i)) (sym e) ∙ (ok.fine i).away in
        let long = ap length (sym z ∙ g ∙ ap (λ l. taken_from i (journal w j) ++ l) way) in
        absurd (omega (arith, long, length-append (taken_from i (journal w j)) (q ∷ qs)))

    lists : Lists tb q
    lists = All-head (Lists tb) q qs (rw way at (all_right (Lists tb) (taken_from i (journal w j)) (under_way i j x y) (rw (given_rest n tb w ok i j) at ((ok.fine i).sent j))))

    abbrev entry : Record
    entry = Taken (record { 0 = i }) (record { 0 = number }) q

    may : fits tb y entry ≡ true
    may =
        let b : i < length y.channels = omega (arith, (ok.fine j).lines) in
        let d : i ≡ y.me → ⊥ = λ e. apart (e ∙ (ok.fine j).me) in
        grind (arith, nat_tests, lists, is_number)

    abbrev message : Message
    message = reminder x i j k

    abbrev spoken : World
    spoken = spoke w message

    told : Backed spoken.said j entry
    told = Memᴰ.append_right w.said (Memᴰ.head (rw waits.1 refl))

    abbrev after : World
    after = wrote spoken j entry

    -- it is said when all that i wrote is synced
    carried : Carries n tb s (site after (sync s i).synced)
    carried =
        onward (onward (safely here i) (said w i j k waits.0) (told_covered (sync s i) message (on_file n s i (sited reached))))
        (taken spoken j (record { 0 = i }) (record { 0 = number }) q lj told may) (silent_covered (site spoken (sync s i).synced) after refl)

    there : j < length w.journals
    there = omega (arith, ok.count)

    at_j : state n tb after j ≡ apply tb y entry
    at_j = ap (fold (apply tb) (begun n j)) (get_or-set_same w.journals j (journal w j ++ entry ∷ []) [] there) ∙ fold_push (apply tb) (begun n j) (journal w j) entry

    -- what holds of station j after it, and of all as they were, holds of all
    all : (P : ℕ → State → Type 0) → P j (apply tb y entry) → ((a : ℕ) → P a (state n tb w a)) → (a : ℕ) → P a (state n tb after a)
    all = wrote_state n tb spoken j entry there

    -- the line with i counts one more that is taken, and nothing else changes
    at_line : (P : ℕ → Chan → Type 0) → P i (took (channel y i)) → ((a : ℕ) → (a ≡ i → ⊥) → P a (channel y a)) → (a : ℕ) → P a (channel (apply tb y entry) a)
    at_line P h g a = rw (received_beside tb y q).channels (set_ind P y.channels i (took (channel y i)) fresh (omega (arith, (ok.fine j).lines)) h g a)

    -- what every station has given, and has heard of
    out : {A : Type 0} (g : Chan → A) → ((c : Chan) → g (took c) ≡ g c) → (a b : ℕ) → g (channel (state n tb after a) b) ≡ g (channel (state n tb w a) b)
    out g h a b = all (λ a z. g (channel z b) ≡ g (channel (state n tb w a) b)) (at_line (λ b c. g c ≡ g (channel y b)) (h _) (λ _ _. refl) b) (λ _. refl) a

    -- what every station has taken
    into : (a b : ℕ) → ((a ≡ i) × (b ≡ j) → ⊥) → (channel (state n tb after b) a).taken ≡ (channel (state n tb w b) a).taken
    into a b =
        all (λ b z. ((a ≡ i) × (b ≡ j) → ⊥) → (channel z a).taken ≡ (channel (state n tb w b) a).taken)
        (at_line (λ a c. ((a ≡ i) × (j ≡ j) → ⊥) → c.taken ≡ (channel y a).taken) (λ d. absurd (d (refl, refl))) (λ _ _ _. refl) a) (λ _ _. refl) b

    into_here : (channel (state n tb after j) i).taken ≡ (channel y i).taken + 1
    into_here = ap (λ z. (channel z i).taken) at_j ∙ at_line (λ a c. a ≡ i → c.taken ≡ (channel y i).taken + 1) (λ _. refl) (λ a d e. absurd (d e)) i refl

    way_other : (a b : ℕ) → ((a ≡ i) × (b ≡ j) → ⊥) → under_way a b (state n tb after a) (state n tb after b) ≡ under_way a b (state n tb w a) (state n tb w b)
    way_other a b d =
        ap₂ (λ (m : ℕ) l. drop m l) (ap₂ (λ (u v : ℕ). u - v) (into a b d) (out (λ c. c.heard) (λ _. refl) a b)) (out (λ c. c.waiting) (λ _. refl) a b)

    way_here : under_way i j (state n tb after i) (state n tb after j) ≡ qs
    way_here =
        ap₂ (λ (m : ℕ) l. drop m l)
        (ap₂ (λ (u v : ℕ). u - v) into_here (out (λ c. c.heard) (λ _. refl) i j) ∙ more (channel y i).taken (channel x j).heard (omega (arith, ok.heard i j, ((ok.fine j).line i).taken)))
        (out (λ c. c.waiting) (λ _. refl) i j)
        ∙ waits.2
      where
        more : (u v : ℕ) → v ≤ u → u + 1 - v ≡ u - v + 1
        more u v h = omega arith

    kept : Holds y (apply tb y entry) × ((was_closed (apply tb y entry) q.train ≡ true) ⊎ (holds_piece (apply tb y entry) q ≡ true))
    kept = taken_keeps tb y (record { 0 = i }) (record { 0 = number }) q (ok.fine j).sound may

    holds_on : (b : ℕ) (p : Piece) → holds_piece (state n tb w b) p ≡ true → holds_piece (state n tb after b) p ≡ true
    holds_on b p = all (λ b z. holds_piece (state n tb w b) p ≡ true → holds_piece z p ≡ true) (held_on y (apply tb y entry) kept.0 p) (λ _ h. h) b

    closed_on : (b : ℕ) (t : Train) → was_closed (state n tb w b) t ≡ true → was_closed (state n tb after b) t ≡ true
    closed_on b t = all (λ b z. was_closed (state n tb w b) t ≡ true → was_closed z t ≡ true) (λ h. ap (among t) (received_beside tb y q).closed ∙ h) (λ _ h. h) b

    arrived : (was_closed (state n tb after j) q.train ≡ true) ⊎ (holds_piece (state n tb after j) q ≡ true)
    arrived = kept_same (state n tb after j) (apply tb y entry) q at_j kept.1

    come : (a b : ℕ) (p : Piece) → Memᴰ p (ways w a b) → Memᴰ p (ways after a b) ⊎ ((was_closed (state n tb after b) p.train ≡ true) ⊎ (holds_piece (state n tb after b) p ≡ true))
    come a b p m = ⊎_elim (λ (f, g). rw (f, g) (mem (rw way at (rw (f, g) at m)))) (λ d. inl (rw (way_other a b d) m)) (cases_two a i b j)
      where
        mem : Memᴰ p (q ∷ qs) → Memᴰ p (ways after i j) ⊎ ((was_closed (state n tb after j) p.train ≡ true) ⊎ (holds_piece (state n tb after j) p ≡ true))
        mem (Memᴰ.head c) = rw c (inr arrived)
        mem (Memᴰ.tail c) = inl (rw way_here c)

    less : size after < size w
    less =
        omega (
          arith,
          sum_at n i (λ a. sum_to n (λ b. length (ways after a b))) (λ a. sum_to n (λ b. length (ways w a b))) li (λ a d. sum_cong n (λ b. length (ways after a b)) (λ b. length (ways w a b)) (λ b _. ap length (way_other a b (λ (h, _). d h)))),
          sum_at n j (λ b. length (ways after i b)) (λ b. length (ways w i b)) lj (λ b d. ap length (way_other i b (λ (_, h). d h))),
          ap length way_here,
          ap length way,
        )

    delivered : (t : Site) × Carries n tb s t × Onward w t.world × (size t.world < size w)
    delivered = (site after (sync s i).synced, carried, record { held = holds_on; closed = closed_on; come = come }, less)

  -- ---- all pieces

  carries_then : {s t u : Site} → Carries n tb s t → Carries n tb t u → Carries n tb s u
  carries_then c here = c
  carries_then c (onward d s h) = onward (carries_then c d) s h
  carries_then c (safely d i) = safely (carries_then c d) i

  carry_step : {w v : World} → Carry n tb w v → Step n tb w v
  carry_step (said w i j k l) = reminds w i j k l
  carry_step (taken w j from m p l t f) = writes w j (Taken from m p) l t f

  carries_reach : {s t : Site} → Reached n tb s → Carries n tb s t → Reached n tb t
  carries_reach r here = r
  carries_reach r (onward {w} {v} {ks} c s h) = more (carries_reach r c) (steps w v ks (carry_step s) h)
  carries_reach r (safely {t} c i) = more (carries_reach r c) (syncs t i)

  -- a next piece that can be taken
  abbrev ready : List Piece → State → Bool
  ready [] y = false
  ready (q ∷ qs) y = known y q.train || openable y

  settled : (l : List Piece) (y : State) → ready l y ≡ false → Settled l y
  settled [] y e = tt
  settled (q ∷ qs) y e = or_parts (known y q.train) (openable y) e

  deliver : (s : Site) → Reached n tb s → (i j : ℕ) → i < n → j < n → (l : List Piece) → ways s.world i j ≡ l → ready l (state n tb s.world j) ≡ true → (t : Site) × Carries n tb s t × Onward s.world t.world × (size t.world < size s.world)
  deliver s r i j li lj [] e h = absurd (false≢true h)
  deliver s r i j li lj (q ∷ qs) e h = delivered s r i j li lj q qs e h

  -- as long as a next piece can be taken, it is
  abbrev Arrived : Site → Type 0
  Arrived s = (t : Site) × Carries n tb s t × Onward s.world t.world × ((i j : ℕ) → i < n → j < n → Settled (ways t.world i j) (state n tb t.world j))

  step : (s : Site) → Reached n tb s → ((t : Site) → Reached n tb t → size t.world < size s.world → Arrived t) → Arrived s
  step s r next = go (find (λ i. (j : ℕ) × (j < n) × (test i j ≡ true)) (λ i. (j : ℕ) → j < n → test i j ≡ false) (λ i. find (λ j. test i j ≡ true) (λ j. test i j ≡ false) (λ j. cases_Bool (test i j)) n) n)
    where
      w : World
      w = s.world

      test : ℕ → ℕ → Bool
      test i j = ready (ways w i j) (state n tb w j)

      go : ((i : ℕ) × (i < n) × ((j : ℕ) × (j < n) × (test i j ≡ true))) ⊎ ((i : ℕ) → i < n → (j : ℕ) → j < n → test i j ≡ false) → Arrived s
      go (inl (i, li, (j, lj, e))) =
          let (t, c, f, l) = deliver s r i j li lj (ways w i j) refl e in
          let (u, d, g, h) = next t (carries_reach r c) l in
          (u, carries_then c d, onward_then w t.world u.world f g, h)
      go (inr h) = (s, here, onward_none w, λ i j li lj. settled (ways w i j) (state n tb w j) (h i li j lj))

  arrive : (m : ℕ) (s : Site) → Reached n tb s → size s.world ≤ m → Arrived s
  arrive zero s r h = step s r (λ t q l. absurd (omega (arith, l, h)))
  arrive (suc m) s r h = step s r (λ t q l. arrive m t q (omega (arith, l, h)))

pub arrives : Arrives
arrives n tb s r =
    let (t, c, f, h) = arrive n tb (size n tb s.world) s r (omega arith) in
    (t, c, carries_reach n tb r c, λ i j li lj. (h i j li lj, f.come i j))
