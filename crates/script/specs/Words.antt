-- A line as words, and words as numbers.
use Rattle.std.specs.Prelude.{ℕ, ◌^◌, Bool, ◌&&◌, List, [], ◌∷◌, length, if◌then◌else◌, nat_lt, Option, Some, None, option_map}
use Rattle.std.specs.Char.{is_ascii_whitespace}
use Rattle.std.specs.List.{filter, slice_split}
use Rattle.std.specs.Option.{option_and_then}
use Rattle.std.specs.Str.{all_ascii_digits}
use Rattle.std.specs.Str.Iter.{split_ascii_whitespace_text}
use Rattle.std.specs.Str.Parse.{digits_value}
use Rattle.std.specs.declared.str.SplitAsciiWhitespace.{SplitAscii}

-- what stands between the blanks of a text
abbrev pub words_of : List ℕ → List (List ℕ)
words_of text = filter (λ w. nat_lt 0 (length w)) (slice_split is_ascii_whitespace text)

-- the words that are still to come
abbrev pub words_left : SplitAscii → List (List ℕ)
words_left it = words_of (split_ascii_whitespace_text it)

-- the words of a line; none where it is too long
abbrev pub line_words : List ℕ → Option (List (List ℕ))
line_words line = if nat_lt 4096 (length line) then None else Some (words_of line)

-- the word is a number: one digit or more and nothing else, below 2^32
abbrev pub is_number : List ℕ → Bool
is_number w = nat_lt 0 (length w) && (all_ascii_digits w && nat_lt (digits_value 10 w) (2 ^ 32))

-- the number that a word is, in decimal
abbrev pub number_of : List ℕ → Option ℕ
number_of w = if is_number w then Some (digits_value 10 w) else None

-- the numbers that all words are; none where one of them is no number
abbrev pub numbers_of : List (List ℕ) → Option (List ℕ)
numbers_of [] = Some []
numbers_of (w ∷ ws) = option_and_then (λ n. option_map (λ ns. n ∷ ns) (numbers_of ws)) (number_of w)
