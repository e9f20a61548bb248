-- The words of a text, taken off one after the other.
use Rattle.std.proofs.Common.{◌≡◌, ℕ, ◌<◌, ◌≤◌, suc, Bool, true, false, List, [], ◌∷◌, ◌++◌, length, refl, ◌∙◌, append-nil, arith, filter, nat_lt, Bor, Option, Some, None}
use Rattle.std.proofs.lemmas.Grind.{common_steps}
use Rattle.std.proofs.lemmas.List.Splits.{slice_split-cons_yes, slice_split_none, slice_split_at}
use Rattle.std.proofs.lemmas.Str.{NoCharPasses-byte}
use Rattle.std.specs.Char.{is_ascii_whitespace}
use Rattle.std.specs.List.{All, AllPass, slice_split}
use Rattle.std.specs.Option.{MatchOption}
use Rattle.std.specs.Str.{NoCharPasses}
use Rattle.std.specs.Str.Iter.{IsAsciiSeparator, split_ascii_whitespace_steps, split_ascii_whitespace_text}
use Rattle.std.specs.declared.str.SplitAsciiWhitespace.{SplitAscii}
use Rattle.script.specs.Words.{words_of, words_left}

-- a byte that is no character of its own is no blank
high_byte : (b : ℕ) → 128 ≤ b → is_ascii_whitespace b ≡ false
high_byte b h = grind arith

no_blank : (x : List ℕ) → NoCharPasses is_ascii_whitespace x → All (λ b. is_ascii_whitespace b ≡ false) x
no_blank x h k d l = grind (arith, common_steps, high_byte, NoCharPasses-byte is_ascii_whitespace x k h l)

abbrev parts : (p : ℕ → Bool) → List ℕ → List (List ℕ)
parts p text = filter (λ w. nat_lt 0 (length w)) (slice_split p text)

parts-blanks : (p : ℕ → Bool) (gap rest : List ℕ) → AllPass p gap → parts p (gap ++ rest) ≡ parts p rest
parts-blanks p [] rest h = refl
parts-blanks p (b ∷ gap) rest h =
    let first : p b ≡ true = h 0 0 (grind arith) in
    rw (slice_split-cons_yes p b (gap ++ rest) first) (parts-blanks p gap rest (λ k d l. h (suc k) d (grind arith)))

parts-first : (p : ℕ → Bool) (x : List ℕ) (b : ℕ) (rest : List ℕ) → 0 < length x → All (λ c. p c ≡ false) x → p b ≡ true → parts p (x ++ b ∷ rest) ≡ x ∷ parts p rest
parts-first p x b rest some none blank = rw (slice_split_at p x b rest none blank) (grind arith)

parts-last : (p : ℕ → Bool) (x : List ℕ) → 0 < length x → All (λ c. p c ≡ false) x → parts p x ≡ x ∷ []
parts-last p x some none = rw (slice_split_none p x none) (grind arith)

-- a word comes off with what ends it
words-first : (x sep rest : List ℕ) → 0 < length x → NoCharPasses is_ascii_whitespace x → IsAsciiSeparator sep rest → words_of (x ++ (sep ++ rest)) ≡ x ∷ words_of rest
words-first x [] [] some none ends = rw append-nil (parts-last is_ascii_whitespace x some (no_blank x none))
words-first x [] (b ∷ bs) some none ends = grind arith
words-first x (b ∷ []) rest some none ends = parts-first is_ascii_whitespace x b rest some (no_blank x none) (ends.0 0 0 (grind arith))
words-first x (b ∷ c ∷ cs) rest some none ends = grind arith

-- what `next` gives is the first word, and leaves the others
pub next-word : (s t : SplitAscii) (r : Option (Bor (List ℕ))) → split_ascii_whitespace_steps s r t → MatchOption r (words_left s ≡ []) (λ x. words_left s ≡ x.now ∷ words_left t)
next-word s t None (blank, ended) = rw (← append-nil (split_ascii_whitespace_text s)) (parts-blanks is_ascii_whitespace (split_ascii_whitespace_text s) [] blank)
next-word s t (Some x) (some, none, shorter, (gap, sep, e, blank, ends)) =
    let rest = split_ascii_whitespace_text t in
    rw e (parts-blanks is_ascii_whitespace gap (x.now ++ (sep ++ rest)) blank ∙ words-first x.now sep rest some none ends)
