-- The span put back into the seats that it was taken out of. Assumes nothing.
use Rattle.std.proofs.Common.{◌≡◌, ℕ, ◌<◌, true, ◌&&◌, ltb, List, [], ◌∷◌, length, set, sym, refl, ap, ◌∙◌, ⊎_elim, arith}
use Rattle.choosing.specs.Choice.{drawn}
use Rattle.choosing.proofs.Taken.{drawn_here, drawn_other}
use Rattle.pieces.proofs.Bitwise.{covered_decides, holds_zero, plus_less}
use Rattle.pieces.specs.Memory.{at, covered_all, together, together_all, without, without_all, word_at}
use Rattle.pieces.specs.Stretches.{Covers, covered, holds, less, plus}
use Rattle.pieces.specs.declared.names.Seat.{Seat}
use Rattle.std.proofs.lemmas.List.{get_or_past, get_or-set_same, get_or-set_other, set_comm, set-get_or, set-set}
use Rattle.std.proofs.lemmas.Bool.{and_parts, cases_eq, cases_lt, true≢false}

-- a word that covers a span stands in the list
pub covers_inside : (ws : List ℕ) (k s a b : ℕ) → a < b → Covers (word_at ws k s) a b → at k s < length ws
covers_inside ws k s a b h c = ⊎_elim (λ l. l)
    (λ l. absurd (true≢false (sym (c a (omega arith) h) ∙ ap (λ (w : ℕ). holds w a) (get_or_past ws (at k s) 0 l) ∙ holds_zero a)))
    (cases_lt (at k s) (length ws))

module _ (k a b : ℕ) where
  other : (ws : List ℕ) (s t v : ℕ) → (s ≡ t → ⊥) → word_at (set ws (at k s) v) k t ≡ word_at ws k t
  other ws s t v n = get_or-set_other ws (at k s) (at k t) v 0 (λ e. n (omega arith))

  -- the words once the span is taken out of a seat
  pub drawn_without : (ws : List ℕ) (s t : ℕ) → at k s < length ws → drawn (word_at ws k) a b s t ≡ word_at (without ws k s a b) k t
  drawn_without ws s t h = ⊎_elim
      (λ e. rw e (drawn_here (word_at ws k) a b s s refl ∙ sym (get_or-set_same ws (at k s) (less (word_at ws k s) a b) 0 h)))
      (λ d. drawn_other (word_at ws k) a b s t d ∙ sym (other ws s t (less (word_at ws k s) a b) (λ e. d (sym e))))
      (cases_eq t s)

  -- to put into two seats is the same in either order
  swap : (ws : List ℕ) (s t : ℕ) → together (together ws k s a b) k t a b ≡ together (together ws k t a b) k s a b
  swap ws s t = ⊎_elim
      (λ e. rw e)
      (λ d.
      let x = plus (word_at ws k s) a b in
      let y = plus (word_at ws k t) a b in
      ap (λ (w : ℕ). set (set ws (at k s) x) (at k t) (plus w a b)) (other ws s t x d)
      ∙ set_comm ws (at k s) (at k t) x y (λ e. d (omega arith))
      ∙ ap (λ (w : ℕ). set (set ws (at k t) y) (at k s) (plus w a b)) (sym (other ws t s y (λ e. d (sym e)))))
      (cases_eq s t)

  last : (ss : List Seat) (ws : List ℕ) (s : ℕ) → together_all (together ws k s a b) k ss a b ≡ together (together_all ws k ss a b) k s a b
  last [] ws s = refl
  last (t ∷ ss) ws s = ap (λ x. together_all x k ss a b) (swap ws s t.0) ∙ last ss (together ws k t.0 a b) s

  put_back : (ws : List ℕ) (s : ℕ) → a < b → Covers (word_at ws k s) a b → together (without ws k s a b) k s a b ≡ ws
  put_back ws s h c =
      let x = less (word_at ws k s) a b in
      ap (λ (y : ℕ). set (set ws (at k s) x) (at k s) (plus y a b)) (get_or-set_same ws (at k s) x 0 (covers_inside ws k s a b h c))
      ∙ set-set ws (at k s) x (plus x a b)
      ∙ ap (set ws (at k s)) (plus_less (word_at ws k s) a b (omega arith) c)
      ∙ set-get_or ws (at k s) 0

pub put_back_all : (ws : List ℕ) (k : ℕ) (ss : List Seat) (a b : ℕ) → a < b → covered_all ws k ss a b ≡ true → together_all (without_all ws k ss a b) k ss a b ≡ ws
put_back_all ws k [] a b h c = refl
put_back_all ws k (s ∷ ss) a b h c =
    let vs = without ws k s.0 a b in
    let p = and_parts (ltb s.0 400 && covered (word_at ws k s.0) a b) (covered_all vs k ss a b) c in
    let q = and_parts (ltb s.0 400) (covered (word_at ws k s.0) a b) p.0 in
    last k a b ss (without_all vs k ss a b) s.0
    ∙ ap (λ x. together x k s.0 a b) (put_back_all vs k ss a b h p.1)
    ∙ put_back k a b ws s.0 h ((covered_decides (word_at ws k s.0) a b).0 q.1)
