-- The seats of several people. Assumes nothing.
use Rattle.std.proofs.Common.{◌≡◌, ℕ, zero, suc, ◌+◌, ◌-◌, ◌<◌, ◌≤◌, min, true, false, cond, eqb, ltb, List, [], ◌∷◌, ◌++◌, length, get_or, take, Some, None, Option, sym, refl, ap, ◌∙◌, subst, ⊎_elim, add-one, arith}
use Rattle.choosing.specs.Choice.{Chosen, Choice, NoneCovers, among, beside, chosen, drawn, drawn_all, follow, free, group}
use Rattle.choosing.specs.Laws.{Choices, IsLeft}
use Rattle.choosing.specs.Parties.{below, unused}
use Rattle.choosing.proofs.Lowest.{lowest_stands}
use Rattle.choosing.proofs.Rule.{choice_is, choice_one, chosen_cong, uncovered}
use Rattle.choosing.proofs.Taken.{drawn_here, drawn_other}
use Rattle.choosing.proofs.Undo.{covers_inside, drawn_without}
use Rattle.pieces.proofs.Bitwise.{covered_decides, holds_zero, less_uncovered}
use Rattle.pieces.proofs.Places.{word_set_other}
use Rattle.pieces.specs.Memory.{covered_all, without, word_at}
use Rattle.pieces.specs.Stretches.{Covers, covered, less}
use Rattle.pieces.specs.declared.names.Seat.{Seat}
use Rattle.std.proofs.lemmas.List.{append-nil}
use Rattle.std.proofs.lemmas.Bool.{and_parts, cases_eq, cond_both, cond-true, eq-eqb, lt-ltb, ltb-true, ne_eqb, or_from, true≢false}
use Rattle.std.specs.List.{AllByRecursion}

-- ---- a group, by its first seat

by_first : (P : List Seat → Type 0) (m : ℕ) (f : ℕ → ℕ) (n a b : ℕ) → (NoneCovers f n a b → P [])
    → ((s : Seat) → Choice f n a b s.0 → P (s ∷ group m (drawn f a b s.0) n a b)) → P (group (suc m) f n a b)
unfolding group
by_first P m f n a b none some = go (chosen f n a b) (choice_is f a b n)
  where
    go : (r : Option Seat) → Chosen f n a b r → P (follow r (λ s. s ∷ group m (drawn f a b s.0) n a b))
    go None h = none h
    go (Some s) h = some s h

follow_cong : (r : Option Seat) (F G : Seat → List Seat) → ((s : Seat) → F s ≡ G s) → follow r F ≡ follow r G
follow_cong None F G h = refl
follow_cong (Some s) F G h = h s

pub group_cong : (m : ℕ) (f g : ℕ → ℕ) (n a b : ℕ) → ((k : ℕ) → k < n → f k ≡ g k) → group m f n a b ≡ group m g n a b
unfolding group
group_cong zero f g n a b h = refl
group_cong (suc m) f g n a b h =
    ap (λ r. follow r (λ s. s ∷ group m (drawn f a b s.0) n a b)) (chosen_cong f g n a b h)
    ∙ follow_cong (chosen g n a b) (λ s. s ∷ group m (drawn f a b s.0) n a b) (λ s. s ∷ group m (drawn g a b s.0) n a b)
    (λ s. ap (λ x. s ∷ x) (group_cong m (drawn f a b s.0) (drawn g a b s.0) n a b (λ k l. ap (λ (x : ℕ). cond (eqb k s.0) (less x a b) x) (h k l))))

pub group_most : (m : ℕ) (f : ℕ → ℕ) (n a b : ℕ) → length (group m f n a b) ≤ m
unfolding group
group_most zero f n a b = omega arith
group_most (suc m) f n a b = by_first (λ ss. length ss ≤ suc m) m f n a b (λ _. omega arith) (λ s _. omega (arith, group_most m (drawn f a b s.0) n a b))

pub group_below : (m : ℕ) (f : ℕ → ℕ) (n a b : ℕ) → below n (group m f n a b) ≡ true
unfolding group
group_below zero f n a b = refl
group_below (suc m) f n a b =
    by_first (λ ss. below n ss ≡ true) m f n a b (λ _. refl) (λ s c. rw (lt-ltb s.0 n c.there) (group_below m (drawn f a b s.0) n a b))

-- ---- how many there are

pub free_cong : (f g : ℕ → ℕ) (n a b : ℕ) → ((k : ℕ) → k < n → f k ≡ g k) → free f n a b ≡ free g n a b
unfolding free
free_cong f g zero a b h = refl
free_cong f g (suc n) a b h = rw (h n (omega arith), free_cong f g n a b (λ k l. h k (omega arith)))

free_none : (f : ℕ → ℕ) (n a b : ℕ) → NoneCovers f n a b → free f n a b ≡ 0
unfolding free
free_none f zero a b h = refl
free_none f (suc n) a b h = rw (uncovered (f n) a b (h n (omega arith))) (omega (arith, free_none f n a b (λ s l. h s (omega arith))))

free_drawn : (f : ℕ → ℕ) (n a b s : ℕ) → a < b → s < n → Covers (f s) a b → free (drawn f a b s) n a b + 1 ≡ free f n a b
unfolding free
free_drawn f zero a b s h l c = absurd (omega arith)
free_drawn f (suc n) a b s h l c =
    ⊎_elim
    (λ e.
    let was : covered (f n) a b ≡ true = (covered_decides (f n) a b).1 (subst (λ (x : ℕ). Covers (f x) a b) (sym e) c) in
    let now : covered (drawn f a b s n) a b ≡ false = ap (λ (w : ℕ). covered w a b) (drawn_here f a b s n e) ∙ uncovered (less (f n) a b) a b (less_uncovered (f n) a b h) in
    rw (was, now) (omega (arith, free_cong (drawn f a b s) f n a b (λ k u. drawn_other f a b s k (λ d. omega arith)))))
    (λ d. rw (drawn_other f a b s n d) (omega (arith, free_drawn f n a b s h (omega arith) c)))
    (cases_eq n s)

pub group_length : (m : ℕ) (f : ℕ → ℕ) (n a b : ℕ) → a < b → length (group m f n a b) ≡ min m (free f n a b)
unfolding group
group_length zero f n a b h = omega arith
group_length (suc m) f n a b h =
    by_first (λ ss. length ss ≡ min (suc m) (free f n a b)) m f n a b
    (λ e. omega (arith, free_none f n a b e))
    (λ s c. omega (arith, group_length m (drawn f a b s.0) n a b h, free_drawn f n a b s.0 h c.there c.covers))

-- each seat is the choice of what those before left
each_chosen : (m : ℕ) (f : ℕ → ℕ) (n a b k : ℕ) → k < length (group m f n a b)
    → Chosen (drawn_all f a b (take k (group m f n a b))) n a b (Some (get_or (group m f n a b) k unused))
unfolding group
each_chosen zero f n a b k = λ l. absurd (omega arith)
each_chosen (suc m) f n a b k =
    by_first (λ ss. k < length ss → Chosen (drawn_all f a b (take k ss)) n a b (Some (get_or ss k unused))) m f n a b
    (λ _ l. absurd (omega arith))
    (λ s c. by_place s (group m (drawn f a b s.0) n a b) c (each_chosen m (drawn f a b s.0) n a b) k)
  where
    by_place : (s : Seat) (ss : List Seat) → Choice f n a b s.0
        → ((j : ℕ) → j < length ss → Chosen (drawn_all (drawn f a b s.0) a b (take j ss)) n a b (Some (get_or ss j unused)))
        → (k : ℕ) → k < length (s ∷ ss) → Chosen (drawn_all f a b (take k (s ∷ ss))) n a b (Some (get_or (s ∷ ss) k unused))
    by_place s ss c h zero l = c
    by_place s ss c h (suc k) l = h k (omega arith)

-- ---- a seat that is kept back

nothing_covers : (a b : ℕ) → a < b → Covers 0 a b → ⊥
nothing_covers a b h c = true≢false (sym (c a (omega arith) h) ∙ holds_zero a)

-- a seat of which nothing is held is none of a group's
group_passes : (m : ℕ) (f : ℕ → ℕ) (n a b s : ℕ) → a < b → f s ≡ 0 → among s (group m f n a b) ≡ false
unfolding group
group_passes zero f n a b s h e = refl
group_passes (suc m) f n a b s h e =
    by_first (λ ss. among s ss ≡ false) m f n a b (λ _. refl)
    (λ t c.
    let apart : s ≡ t.0 → ⊥ = λ q. nothing_covers a b h (subst (λ (w : ℕ). Covers w a b) (sym (ap f q) ∙ e) c.covers) in
    or_from (eqb t.0 s) (among s (group m (drawn f a b t.0) n a b)) (ne_eqb t.0 s (λ q. apart (sym q)))
    (group_passes m (drawn f a b t.0) n a b s h (drawn_other f a b t.0 s apart ∙ e)))

pub kept_out : IsLeft
kept_out m f n a b s h = group_passes m (beside (Some s) f) n a b s.0 h (cond-true (eqb s.0 s.0) 0 (f s.0) (eq-eqb s.0 s.0 refl))

pub beside_cong : (kept : Option Seat) (f g : ℕ → ℕ) (n : ℕ) → ((k : ℕ) → k < n → f k ≡ g k) → (k : ℕ) → k < n → beside kept f k ≡ beside kept g k
beside_cong None f g n h k l = h k l
beside_cong (Some s) f g n h k l = ap (λ (w : ℕ). cond (eqb k s.0) 0 w) (h k l)

pub group_beside_cong : (kept : Option Seat) (m : ℕ) (f g : ℕ → ℕ) (n a b : ℕ) → ((k : ℕ) → k < n → f k ≡ g k) → group m (beside kept f) n a b ≡ group m (beside kept g) n a b
group_beside_cong kept m f g n a b h = group_cong m (beside kept f) (beside kept g) n a b (beside_cong kept f g n h)

pub free_beside_cong : (kept : Option Seat) (f g : ℕ → ℕ) (n a b : ℕ) → ((k : ℕ) → k < n → f k ≡ g k) → free (beside kept f) n a b ≡ free (beside kept g) n a b
free_beside_cong kept f g n a b h = free_cong (beside kept f) (beside kept g) n a b (beside_cong kept f g n h)

pub choices : Choices
choices = (
  λ f n a b. (choice_is f a b n, λ r h. choice_one f a b n r (chosen f n a b) h (choice_is f a b n)),
  λ m f n a b h. (group_length m f n a b h, λ k l. each_chosen m f n a b k l),
  (lowest_stands, kept_out),
)

-- ---- one more

-- what one more takes
abbrev pub next : (ℕ → ℕ) → (n a b : ℕ) → List Seat → List Seat
next f n a b ss = follow (chosen (drawn_all f a b ss) n a b) (λ s. s ∷ [])

group_step : (m : ℕ) (f : ℕ → ℕ) (n a b : ℕ) → group (suc m) f n a b ≡ group m f n a b ++ next f n a b (group m f n a b)
unfolding group
group_step zero f n a b = refl
group_step (suc m) f n a b = go (chosen f n a b) refl (λ s. group_step m (drawn f a b s.0) n a b)
  where
    go : (r : Option Seat) → chosen f n a b ≡ r
        → ((s : Seat) → group (suc m) (drawn f a b s.0) n a b
        ≡ group m (drawn f a b s.0) n a b ++ next (drawn f a b s.0) n a b (group m (drawn f a b s.0) n a b))
        → follow r (λ s. s ∷ group (suc m) (drawn f a b s.0) n a b)
        ≡ follow r (λ s. s ∷ group m (drawn f a b s.0) n a b) ++ next f n a b (follow r (λ s. s ∷ group m (drawn f a b s.0) n a b))
    go None e h = sym (ap (λ r. follow r (λ s. s ∷ [])) e)
    go (Some s) e h = ap (λ x. s ∷ x) (h s)

-- where there is a seat for one more
pub group_more : (m : ℕ) (f : ℕ → ℕ) (n a b : ℕ) (ss : List Seat) (s : Seat) → ss ≡ group m f n a b → Some s ≡ chosen (drawn_all f a b ss) n a b → group (m + 1) f n a b ≡ ss ++ s ∷ []
group_more m f n a b ss s g e = rw (add-one m, group_step m f n a b, ← g, ← e)

-- where there is none, nobody more has one
group_stays : (d m : ℕ) (f : ℕ → ℕ) (n a b : ℕ) → None ≡ chosen (drawn_all f a b (group m f n a b)) n a b → group (d + m) f n a b ≡ group m f n a b
group_stays zero m f n a b e = ap (λ (i : ℕ). group i f n a b) (omega arith)
group_stays (suc d) m f n a b e =
    let i : suc d + m ≡ suc (d + m) = omega arith in
    rw (i, group_step (d + m) f n a b, group_stays d m f n a b e, ← e) (append-nil (group m f n a b))

pub group_ends : (m k : ℕ) (f : ℕ → ℕ) (n a b : ℕ) (ss : List Seat) → m ≤ k → ss ≡ group m f n a b → None ≡ chosen (drawn_all f a b ss) n a b → ss ≡ group k f n a b
group_ends m k f n a b ss l g e =
    let i : (k - m) + m ≡ k = omega arith in
    g ∙ sym (group_stays (k - m) m f n a b (e ∙ ap (λ x. chosen (drawn_all f a b x) n a b) g)) ∙ ap (λ (i : ℕ). group i f n a b) i

-- ---- in the memory

pub group_covered : (ws : List ℕ) (k m n a b : ℕ) → n ≤ 400 → a < b → covered_all ws k (group m (word_at ws k) n a b) a b ≡ true
unfolding group
group_covered ws k zero n a b h l = refl
group_covered ws k (suc m) n a b h l =
    by_first (λ ss. covered_all ws k ss a b ≡ true) m (word_at ws k) n a b (λ _. refl)
    (λ s c.
    let vs = without ws k s.0 a b in
    let same = group_cong m (drawn (word_at ws k) a b s.0) (word_at vs k) n a b (λ t _. drawn_without k a b ws s.0 t (covers_inside ws k s.0 a b l c.covers)) in
    rw (lt-ltb s.0 400 (omega (arith, c.there)), (covered_decides (word_at ws k s.0) a b).1 c.covers, same) (group_covered vs k m n a b h l))

-- the same of words that are those of the memory wherever they cover the span
covered_like : (ws : List ℕ) (k m : ℕ) (f : ℕ → ℕ) (n a b : ℕ) → n ≤ 400 → a < b → ((t : ℕ) → t < n → Covers (f t) a b → f t ≡ word_at ws k t)
    → covered_all ws k (group m f n a b) a b ≡ true
unfolding group
covered_like ws k zero f n a b h l e = refl
covered_like ws k (suc m) f n a b h l e =
    by_first (λ ss. covered_all ws k ss a b ≡ true) m f n a b (λ _. refl)
    (λ s c.
    let same : f s.0 ≡ word_at ws k s.0 = e s.0 c.there c.covers in
    let covers : Covers (word_at ws k s.0) a b = subst (λ (w : ℕ). Covers w a b) same c.covers in
    let near : s.0 < 400 = omega (arith, c.there) in
    let rest = λ (t : ℕ) (u : t < n) (d : Covers (drawn f a b s.0 t) a b).
    ⊎_elim (λ q. absurd (less_uncovered (f t) a b l (subst (λ (w : ℕ). Covers w a b) (drawn_here f a b s.0 t q) d)))
    (λ q.
    let o = drawn_other f a b s.0 t q in
    o ∙ e t u (subst (λ (w : ℕ). Covers w a b) o d) ∙ sym (word_set_other ws k s.0 (less (word_at ws k s.0) a b) k t near (omega arith) (λ p. q p.1)))
    (cases_eq t s.0) in
    rw (lt-ltb s.0 400 near, (covered_decides (word_at ws k s.0) a b).1 covers) (covered_like (without ws k s.0 a b) k m (drawn f a b s.0) n a b h l rest))

-- what is chosen beside a seat that is kept back is covered in the memory as it is
pub group_beside_covered : (ws : List ℕ) (k m n a b : ℕ) (kept : Option Seat) → n ≤ 400 → a < b
    → covered_all ws k (group m (beside kept (word_at ws k)) n a b) a b ≡ true
group_beside_covered ws k m n a b kept h l = covered_like ws k m (beside kept (word_at ws k)) n a b h l (like kept)
  where
    like : (r : Option Seat) (t : ℕ) → t < n → Covers (beside r (word_at ws k) t) a b → beside r (word_at ws k) t ≡ word_at ws k t
    like None t u c = refl
    like (Some s) t u c =
        cond_both (eqb t s.0) 0 (word_at ws k t) (λ (w : ℕ). Covers w a b → w ≡ word_at ws k t) (λ _ d. absurd (nothing_covers a b l d)) (λ _ _. refl) c

-- ---- parties

pub below_all : (n : ℕ) (ss : List Seat) → n ≤ 400 → below n ss ≡ true → AllByRecursion (λ (s : Seat). s.0 < 400) ss
below_all n [] h e = tt
below_all n (s ∷ ss) h e =
    let p = and_parts (ltb s.0 n) (below n ss) e in
    let l : s.0 < n = ltb-true s.0 n p.0 in
    (omega arith, below_all n ss h p.1)
