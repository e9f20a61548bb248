-- Bytes in hexadecimal: what is printed, and what is read one pair after the other.
use Rattle.std.proofs.Common.{◌≡◌, ℕ, inl, inr, zero, suc, ◌+◌, ◌-◌, ◌*◌, ◌/◌, ◌%◌, ◌<◌, ◌≤◌, ◌^◌, false, List, [], ◌∷◌, ◌++◌, length, map, take, drop, take_all, take-suc, add-one, slice_index, refl, sym, subst, append_assoc, arith, Option, Some, None, option_map}
use Rattle.std.proofs.lemmas.Bool.{cases_lt}
use Rattle.std.proofs.lemmas.Fmt.{hex_byte}
use Rattle.std.specs.Char.{to_ascii_lowercase}
use Rattle.std.specs.Fmt.{digits, format_spec, padded_integral}
use Rattle.lines.specs.Bytes.{AreBytes}
use Rattle.lines.specs.Hex.{digit, digit_value, pair_value, hex_text, hex_value}

-- ---- what is printed

-- a byte as `{:02x}` writes it
abbrev pub byte_text : ℕ → List ℕ
byte_text n = padded_integral (format_spec 32 0 4 2 (2 ^ 64 - 1)) false [] (digits 16 false n)

text-append : (xs ys : List ℕ) → hex_text (xs ++ ys) ≡ hex_text xs ++ hex_text ys
text-append [] ys = refl
text-append (x ∷ xs) ys = rw (text-append xs ys) refl

pub text-more : (bs : List ℕ) (i : ℕ) → i < length bs → slice_index bs i < 256 → hex_text (take i bs) ++ byte_text (slice_index bs i) ≡ hex_text (take (i + 1) bs)
text-more bs i h fits = rw (hex_byte false (slice_index bs i) fits, add-one i, take-suc bs i 0 h) (sym (text-append (take i bs) (slice_index bs i ∷ [])))

-- ---- a digit

digit-back : (d : ℕ) → d < 16 → digit_value (digit d) ≡ Some d
digit-back d h = grind arith

value-fits : (c d : ℕ) → digit_value c ≡ Some d → d < 16
value-fits c d h = grind arith

value-low : (c d : ℕ) → c < 65 → digit_value c ≡ Some d → digit d ≡ c
value-low c d low h = grind arith

value-great : (c d : ℕ) → 65 ≤ c → c < 91 → digit_value c ≡ Some d → digit d ≡ c + 32
value-great c d over under h = grind arith

value-small : (c d : ℕ) → 91 ≤ c → digit_value c ≡ Some d → digit d ≡ c
value-small c d high h = grind arith

value-digit : (c d : ℕ) → digit_value c ≡ Some d → digit d ≡ to_ascii_lowercase c
value-digit c d h =
    elim (cases_lt c 65) [
      | inl low ↦ rw (value-low c d low h) (grind arith)
      | inr over ↦ elim (cases_lt c 91) [ inl under ↦ rw (value-great c d over under h) (grind arith) | inr high ↦ rw (value-small c d high h) (grind arith) ]
    ]

-- ---- what is written is read

pub hex-back : (bs : List ℕ) → AreBytes bs → hex_value (hex_text bs) ≡ Some bs
hex-back [] h = refl
hex-back (b ∷ bs) h =
    let fits : b < 256 = h 0 in
    let whole : 16 * (b / 16) + b % 16 ≡ b = omega arith in
    rw (digit-back (b / 16) (omega arith), digit-back (b % 16) (omega arith), hex-back bs (λ k. h (suc k)), whole) refl

-- ---- what is read was written

are-cons : (b : ℕ) (bs : List ℕ) → b < 256 → AreBytes bs → AreBytes (b ∷ bs)
are-cons b bs h hs zero = h
are-cons b bs h hs (suc k) = hs k

abbrev Written : List ℕ → List ℕ → Type 0
Written cs bs = AreBytes bs × (hex_text bs ≡ map to_ascii_lowercase cs)

pair-written : (x y a b : ℕ) (cs bs : List ℕ) → digit_value x ≡ Some a → digit_value y ≡ Some b → Written cs bs → Written (x ∷ y ∷ cs) ((16 * a + b) ∷ bs)
pair-written x y a b cs bs dx dy h =
    let high = value-fits x a dx in
    let low = value-fits y b dy in
    let top : (16 * a + b) / 16 ≡ a = omega arith in
    let rest : (16 * a + b) % 16 ≡ b = omega arith in
    (are-cons (16 * a + b) bs (omega arith) h.0, rw (top, rest, value-digit x a dx, value-digit y b dy, h.1) refl)

pair-read : (x y : ℕ) (cs bs : List ℕ) (p q : Option ℕ) (o : Option (List ℕ)) → digit_value x ≡ p → digit_value y ≡ q → hex_value cs ≡ o
    → ((rest : List ℕ) → o ≡ Some rest → Written cs rest) → hex_value (x ∷ y ∷ cs) ≡ Some bs → Written (x ∷ y ∷ cs) bs
pair-read x y cs bs (Some a) (Some b) (Some rest) dx dy e ih h =
    let same : (16 * a + b) ∷ rest ≡ bs = grind arith in
    subst (Written (x ∷ y ∷ cs)) same (pair-written x y a b cs rest dx dy (ih rest refl))
pair-read x y cs bs None q o dx dy e ih h = grind arith
pair-read x y cs bs (Some a) None o dx dy e ih h = grind arith
pair-read x y cs bs (Some a) (Some b) None dx dy e ih h = grind arith

pub hex-written : (cs bs : List ℕ) → hex_value cs ≡ Some bs → Written cs bs
hex-written [] bs h = grind arith
hex-written (x ∷ []) bs h = grind arith
hex-written (x ∷ y ∷ cs) bs h = pair-read x y cs bs _ _ _ refl refl refl (λ rest e. hex-written cs rest e) h

-- ---- reading them one after the other, the found ones already

abbrev pub Reads : Option (List ℕ) → List ℕ → List ℕ → Type 0
Reads all found cs = all ≡ option_map (λ bs. found ++ bs) (hex_value cs)

more : (found : List ℕ) (b : ℕ) (o : Option (List ℕ)) → option_map (λ bs. found ++ bs) (option_map (λ bs. b ∷ bs) o) ≡ option_map (λ bs. (found ++ (b ∷ [])) ++ bs) o
more found b None = refl
more found b (Some bs) = rw append_assoc refl

reads-pair : (all : Option (List ℕ)) (found : List ℕ) (x y b : ℕ) (cs : List ℕ) → Reads all found (x ∷ y ∷ cs) → pair_value x y ≡ Some b → Reads all (found ++ (b ∷ [])) cs
reads-pair all found x y b cs h some = rw (h, some) (more found b (hex_value cs))

-- the first two of more are taken off
pub reads-more : (all : Option (List ℕ)) (found cs : List ℕ) (b : ℕ) → Reads all found cs → 2 ≤ length cs → pair_value (slice_index cs 0) (slice_index cs 1) ≡ Some b
    → Reads all (found ++ (b ∷ [])) (take (length cs - 2) (drop 2 cs))
reads-more all found [] b h two some = absurd (omega (arith, two))
reads-more all found (x ∷ []) b h two some = absurd (omega (arith, two))
reads-more all found (x ∷ y ∷ cs) b h two some =
    let e : suc (suc (length cs)) - 2 ≡ length cs = omega arith in
    rw (e, take_all (length cs) cs (omega arith)) (reads-pair all found x y b cs h some)
