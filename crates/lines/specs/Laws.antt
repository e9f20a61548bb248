-- What holds of all messages and all bytes.
use Rattle.std.specs.Prelude.{◌≡◌, ℕ, ◌<◌, List, ◌∷◌, ◌++◌, length, map, take, ◌⊎◌, Ok, Err, Some}
use Rattle.giving.specs.declared.message.Body.{Body}
use Rattle.lines.specs.Bytes.{AreBytes, SoundBody, body_bytes}
use Rattle.lines.specs.Hex.{hex_text, hex_value}
use Rattle.lines.specs.Reading.{message}
use Rattle.lines.specs.declared.fault.Fault.{Fault}
use Rattle.lines.specs.declared.fault.Fault.TheVariants.{Cut, Bad}
use Rattle.std.specs.Char.{to_ascii_lowercase}

-- ---- messages

-- what is written is read
abbrev pub WrittenIsRead : Type 0
WrittenIsRead = (b : Body) → SoundBody b → message (body_bytes b) ≡ Ok b

-- what is read was written
abbrev pub ReadIsWritten : Type 0
ReadIsWritten = (bs : List ℕ) (b : Body) → AreBytes bs → message bs ≡ Ok b → SoundBody b × (bs ≡ body_bytes b)

abbrev pub ReadsBack : Type 0
ReadsBack = WrittenIsRead × ReadIsWritten

-- no two messages have the same bytes
abbrev pub Apart : Type 0
Apart = (b c : Body) → SoundBody b → SoundBody c → body_bytes b ≡ body_bytes c → b ≡ c

-- a message that is cut short is none, nor is one with anything behind it, nor what begins with another kind
abbrev pub CutShort : Type 0
CutShort = (b : Body) (k : ℕ) → SoundBody b → k < length (body_bytes b) → message (take k (body_bytes b)) ≡ Err Cut

abbrev pub TooLong : Type 0
TooLong = (b : Body) (c : ℕ) (cs : List ℕ) → SoundBody b → message (body_bytes b ++ c ∷ cs) ≡ Err Bad

abbrev pub OtherKind : Type 0
OtherKind = (k : ℕ) (bs : List ℕ) → (k < 1) ⊎ (5 < k) → message (k ∷ bs) ≡ Err Bad

-- what is refused is no message's
abbrev pub NoneOther : Type 0
NoneOther = (bs : List ℕ) (f : Fault) → message bs ≡ Err f → (b : Body) → SoundBody b → bs ≡ body_bytes b → ⊥

abbrev pub Refuses : Type 0
Refuses = CutShort × TooLong × OtherKind × NoneOther

-- ---- hexadecimal

-- what is written is read; and what is read was written, in small letters or in great ones
abbrev pub HexBack : Type 0
HexBack = ((bs : List ℕ) → AreBytes bs → hex_value (hex_text bs) ≡ Some bs)
    × ((cs bs : List ℕ) → hex_value cs ≡ Some bs → AreBytes bs × (hex_text bs ≡ map to_ascii_lowercase cs))
