-- A party whose seats all cover the span, none of them twice. Assumes nothing.
use Rattle.std.proofs.Common.{◌≡◌, ℕ, ◌+◌, ◌<◌, Bool, true, false, not, ◌&&◌, eqb, ltb, List, [], ◌∷◌, ◌++◌, length, get_or, take, drop, sym, refl, ap, ◌∙◌, ⊎_elim}
use Rattle.choosing.specs.Choice.{among, drawn_all}
use Rattle.choosing.proofs.Taken.{any_among, covers_first, kept_word, not_taken}
use Rattle.choosing.proofs.Undo.{covers_inside, drawn_without}
use Rattle.choosing.specs.Parties.{unused}
use Rattle.pieces.proofs.Bitwise.{covered_decides}
use Rattle.pieces.specs.Memory.{covered_all, without, without_all, word_at}
use Rattle.pieces.specs.Stretches.{covered}
use Rattle.pieces.specs.declared.names.Seat.{Seat}
use Rattle.std.proofs.Math.Bool.{and_assoc}
use Rattle.std.proofs.lemmas.List.{take-append-drop, take_more}
use Rattle.std.specs.List.{list_any}
use Rattle.std.proofs.lemmas.Bool.{and_left, and_parts, and_right, cases_Bool}

module _ (k a b : ℕ) (ordered : a < b) where
  -- the words once the span is taken out of seats that cover it
  words_after : (ws : List ℕ) (ss : List Seat) (t : ℕ) → covered_all ws k ss a b ≡ true → word_at (without_all ws k ss a b) k t ≡ drawn_all (word_at ws k) a b ss t
  words_after ws [] t h = refl
  words_after ws (s ∷ ss) t h =
      let vs = without ws k s.0 a b in
      let p = and_parts (ltb s.0 400 && covered (word_at ws k s.0) a b) (covered_all vs k ss a b) h in
      let q = and_parts (ltb s.0 400) (covered (word_at ws k s.0) a b) p.0 in
      let i = covers_inside ws k s.0 a b ordered ((covered_decides (word_at ws k s.0) a b).0 q.1) in
      words_after vs ss t p.1 ∙ ap (λ f. drawn_all f a b ss t) (λ j u. sym (drawn_without k a b ws s.0 u i) j)

  -- seats, one behind the other
  covered_append : (ws : List ℕ) (ss ts : List Seat) → covered_all ws k (ss ++ ts) a b ≡ (covered_all ws k ss a b && covered_all (without_all ws k ss a b) k ts a b)
  covered_append ws [] ts = refl
  covered_append ws (s ∷ ss) ts =
      let vs = without ws k s.0 a b in
      let here = ltb s.0 400 && covered (word_at ws k s.0) a b in
      ap (λ (x : Bool). here && x) (covered_append vs ss ts) ∙ sym (and_assoc here (covered_all vs k ss a b) (covered_all (without_all vs k ss a b) k ts a b))

  -- a seat covers the span, when it was taken out of some, exactly if it did before and is none of those
  still_covered : (f : ℕ → ℕ) (ss : List Seat) (s : ℕ) → covered (drawn_all f a b ss s) a b ≡ (covered (f s) a b && not (among s ss))
  still_covered f ss s = ⊎_elim
      (λ e.
      let c = (covered_decides (drawn_all f a b ss s) a b).0 e in
      rw (e, (covered_decides (f s) a b).1 (covers_first ss f a b s ordered c), not_taken ss f a b s ordered c) refl)
      (λ e. ⊎_elim
      (λ t. e ∙ sym (and_right (covered (f s) a b) (not (among s ss)) (ap not t)))
      (λ t. e ∙ sym (and_left (covered (f s) a b) (not (among s ss)) (rw (← kept_word ss f a b s t) e)))
      (cases_Bool (among s ss)))
      (cases_Bool (covered (drawn_all f a b ss s) a b))

  -- one seat more behind seats that are all covered
  one_more_covered : (ws : List ℕ) (ss : List Seat) (s : Seat) → covered_all ws k ss a b ≡ true
      → covered_all ws k (ss ++ s ∷ []) a b ≡ ((ltb s.0 400 && covered (word_at ws k s.0) a b) && not (among s.0 ss))
  one_more_covered ws ss s h =
      rw (covered_append ws ss (s ∷ []), h, words_after ws ss s.0 h, still_covered (word_at ws k) ss s.0)
      (go (ltb s.0 400) (covered (word_at ws k s.0) a b) (not (among s.0 ss)))
    where
      go : (x y z : Bool) → ((x && (y && z)) && true) ≡ ((x && y) && z)
      go true true true = refl
      go true true false = refl
      go true false z = refl
      go false y z = refl

  -- the seats up to one and with it, by what is asked of that one
  pub next_covered : (ws : List ℕ) (ss : List Seat) (i : ℕ) → i < length ss → covered_all ws k (take i ss) a b ≡ true
      → let s = get_or ss i unused in
      covered_all ws k (take (i + 1) ss) a b ≡ ((ltb s.0 400 && covered (word_at ws k s.0) a b) && not (list_any (λ (x : Seat). eqb x.0 s.0) (take i ss)))
  next_covered ws ss i h c =
      let s = get_or ss i unused in
      rw (take_more ss i unused h, any_among s.0 (take i ss)) (one_more_covered ws (take i ss) s c)

  -- where some at the front are not covered, not all are
  pub front_uncovered : (ws : List ℕ) (ss : List Seat) (i : ℕ) → covered_all ws k (take i ss) a b ≡ false → covered_all ws k ss a b ≡ false
  front_uncovered ws ss i h =
      ap (λ xs. covered_all ws k xs a b) (sym (take-append-drop i ss))
      ∙ covered_append ws (take i ss) (drop i ss)
      ∙ and_left (covered_all ws k (take i ss) a b) (covered_all (without_all ws k (take i ss) a b) k (drop i ss) a b) h
