-- The number that a word is, as the library reads it.
use Rattle.std.proofs.Common.{◌≡◌, ◌≢◌, ℕ, ◌<◌, ◌^◌, true, false, List, [], ◌∷◌, ◌++◌, length, get_or, refl, sym, arith, option_map, append-nil, append_assoc, Option, Some, None, Result, Ok, Err}
use Rattle.std.proofs.lemmas.Str.Parse.{IsNumeralModel, numerals_by_value, tells_all_ascii_digits, parse_plain}
use Rattle.std.specs.Result.{OkIff, result_ok}
use Rattle.std.specs.Str.{all_ascii_digits}
use Rattle.std.specs.Str.Parse.{ParsesUnsigned, digits_value}
use Rattle.std.proofs.lemmas.Iterator.Adapters.{option_map_id}
use Rattle.script.specs.Words.{is_number, number_of, numbers_of}

-- the words of the specs are the library's
own : IsNumeralModel (λ ds. all_ascii_digits ds ≡ true) (digits_value 10)
own = numerals_by_value _ tells_all_ascii_digits

is_number-yes : (w : List ℕ) → all_ascii_digits w ≡ true → 0 < length w → digits_value 10 w < 2 ^ 32 → is_number w ≡ true
is_number-yes w digits some small = grind arith

is_number-no : (w : List ℕ) → ¬ ((all_ascii_digits w ≡ true) × (0 < length w) × (digits_value 10 w < 2 ^ 32)) → is_number w ≡ false
is_number-no w none = grind arith

parsed : {E : Type 0} (w : List ℕ) (r : Result ℕ E) → OkIff r ((all_ascii_digits w ≡ true) × (0 < length w) × (digits_value 10 w < 2 ^ 32)) (digits_value 10 w) → result_ok r ≡ number_of w
parsed w (Ok n) h = grind (arith, is_number-yes)
parsed w (Err e) h = grind (arith, is_number-no)

-- a word with no plus in front
pub number-parsed : {E : Type 0} (w : List ℕ) (r : Result ℕ E) → ParsesUnsigned 32 10 w r → get_or w 0 0 ≢ 43 → result_ok r ≡ number_of w
number-parsed w r h plain = parsed w r (parse_plain own 32 w r h plain)

-- all words of a text are read, the found ones already
abbrev pub Reads : Option (List ℕ) → List ℕ → List (List ℕ) → Type 0
Reads all found ws = all ≡ option_map (λ ns. found ++ ns) (numbers_of ws)

pub reads-begun : (ws : List (List ℕ)) → Reads (numbers_of ws) [] ws
reads-begun ws = sym (option_map_id (numbers_of ws))

pub reads-ended : (all : Option (List ℕ)) (found : List ℕ) (ws : List (List ℕ)) → Reads all found ws → ws ≡ [] → Some found ≡ all
reads-ended all found ws h e = rw (h, e, append-nil) refl

more : (found : List ℕ) (n : ℕ) (o : Option (List ℕ)) → option_map (λ ns. found ++ ns) (option_map (λ ns. n ∷ ns) o) ≡ option_map (λ ns. (found ++ (n ∷ [])) ++ ns) o
more found n None = refl
more found n (Some ns) = rw append_assoc refl

pub reads-none : (all : Option (List ℕ)) (found w : List ℕ) (ws vs : List (List ℕ)) → Reads all found ws → ws ≡ w ∷ vs → number_of w ≡ None → None ≡ all
reads-none all found w ws vs h e none = rw (h, e, none) refl

pub reads-more : (all : Option (List ℕ)) (found w : List ℕ) (n : ℕ) (ws vs : List (List ℕ)) → Reads all found ws → ws ≡ w ∷ vs → number_of w ≡ Some n → Reads all (found ++ (n ∷ [])) vs
reads-more all found w n ws vs h e some = rw (h, e, some) (more found n (numbers_of vs))
