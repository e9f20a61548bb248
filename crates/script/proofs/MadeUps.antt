-- What the words of a line say that hands a station bytes.
use Rattle.std.proofs.Common.{◌≡◌, List, [], ◌∷◌, refl, codes, bytes_eq, true, false, ℕ, Bor, Some, None, option_map}
use Rattle.std.specs.Str.Iter.{split_ascii_whitespace_steps}
use Rattle.std.specs.declared.str.SplitAsciiWhitespace.{SplitAscii}
use Rattle.lines.specs.Hex.{hex_value}
use Rattle.script.proofs.Cuts.{next-word}
use Rattle.script.specs.Lines.{words_made_up}
use Rattle.script.specs.Words.{number_of, words_left}

-- four words are taken off
pub taken : (p q r s t : SplitAscii) (a b c d : Bor (List ℕ)) → split_ascii_whitespace_steps p (Some a) q → split_ascii_whitespace_steps q (Some b) r
    → split_ascii_whitespace_steps r (Some c) s → split_ascii_whitespace_steps s (Some d) t → words_left p ≡ a.now ∷ b.now ∷ c.now ∷ d.now ∷ words_left t
taken p q r s t a b c d h0 h1 h2 h3 = rw (next-word p q (Some a) h0, next-word q r (Some b) h1, next-word r s (Some c) h2, next-word s t (Some d) h3) refl

-- and no fifth is there
pub just-four : (p q r s t u : SplitAscii) (a b c d : Bor (List ℕ)) → split_ascii_whitespace_steps p (Some a) q → split_ascii_whitespace_steps q (Some b) r
    → split_ascii_whitespace_steps r (Some c) s → split_ascii_whitespace_steps s (Some d) t → split_ascii_whitespace_steps t None u → words_left p ≡ a.now ∷ b.now ∷ c.now ∷ d.now ∷ []
just-four p q r s t u a b c d h0 h1 h2 h3 h4 = rw (taken p q r s t a b c d h0 h1 h2 h3, next-word t u None h4) refl

module _ (all : List (List ℕ)) (i s j h : List ℕ) (e : all ≡ i ∷ s ∷ j ∷ h ∷ []) where
  pub other-sign : bytes_eq s (codes "<") ≡ false → None ≡ words_made_up all
  other-sign sign = rw (e, sign) refl

  pub no-station : bytes_eq s (codes "<") ≡ true → number_of i ≡ None → None ≡ words_made_up all
  no-station sign none = rw (e, sign, none) refl

  pub no-other : (n : ℕ) → bytes_eq s (codes "<") ≡ true → number_of i ≡ Some n → number_of j ≡ None → None ≡ words_made_up all
  no-other n sign some none = rw (e, sign, some, none) refl

  pub two-stations : (n m : ℕ) → bytes_eq s (codes "<") ≡ true → number_of i ≡ Some n → number_of j ≡ Some m → option_map (λ bs. (n, (m, bs))) (hex_value h) ≡ words_made_up all
  two-stations n m sign some other = rw (e, sign, some, other) refl
