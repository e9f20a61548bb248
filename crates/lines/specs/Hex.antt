-- Bytes in hexadecimal: two digits for each, the high one first.
use Rattle.std.specs.Prelude.{ℕ, ◌+◌, ◌-◌, ◌*◌, ◌/◌, ◌%◌, Bool, cond, ◌&&◌, List, [], ◌∷◌, Option, Some, None, option_map, nat_le, nat_lt}
use Rattle.std.specs.Option.{option_and_then}

-- a digit, and the two of a byte
abbrev pub digit : ℕ → ℕ
digit d = cond (nat_lt d 10) (48 + d) (87 + d)

abbrev pub hex_text : List ℕ → List ℕ
hex_text [] = []
hex_text (b ∷ bs) = digit (b / 16) ∷ digit (b % 16) ∷ hex_text bs

abbrev pub between : (low high c : ℕ) → Bool
between a b c = nat_le a c && nat_le c b

-- what a character is as a digit: '0' to '9', 'a' to 'f', 'A' to 'F'
abbrev pub digit_value : ℕ → Option ℕ
digit_value c = cond (between 48 57 c) (Some (c - 48)) (cond (between 97 102 c) (Some (c - 87)) (cond (between 65 70 c) (Some (c - 55)) None))

abbrev pub pair_value : ℕ → ℕ → Option ℕ
pair_value x y = option_and_then (λ a. option_map (λ b. 16 * a + b) (digit_value y)) (digit_value x)

-- the bytes that a text writes; none where a character is no digit, or there is an odd number of them
abbrev pub hex_value : List ℕ → Option (List ℕ)
hex_value [] = Some []
hex_value (x ∷ []) = None
hex_value (x ∷ y ∷ cs) = option_and_then (λ b. option_map (λ bs. b ∷ bs) (hex_value cs)) (pair_value x y)
