-- What a line says.
use Rattle.std.specs.Prelude.{ℕ, List, [], ◌∷◌, if◌then◌else◌, codes, bytes_eq, Option, Some, None, option_map}
use Rattle.std.specs.Option.{option_and_then}
use Rattle.lines.specs.Hex.{hex_value}
use Rattle.script.specs.declared.command.Command.{Command}
use Rattle.script.specs.declared.command.Command.TheVariants.{Stations, Station, Pass, PassMany, Lose, Twice, Late, Cut, CutNext, Where}
use Rattle.script.specs.declared.command.Deed.{Deed}
use Rattle.script.specs.declared.command.Deed.TheVariants.{Open, Close, Sell, Undo, Give, Ask, Lost, Tick}
use Rattle.script.specs.declared.command.Opening.{Opening}
use Rattle.script.specs.Words.{line_words, number_of, numbers_of}

-- what a station is told, by a word and the numbers behind it
abbrev pub deed_of : List ℕ → List ℕ → Option Deed
deed_of w [] = if bytes_eq w (codes "tick") then Some Tick else None
deed_of w (t ∷ []) = if bytes_eq w (codes "close") then Some (Close t)
    else (if bytes_eq w (codes "undo") then Some (Undo t)
    else (if bytes_eq w (codes "lost") then Some (Lost t) else None))
deed_of w (t ∷ a ∷ []) = None
deed_of w (t ∷ a ∷ b ∷ []) = None
deed_of w (t ∷ a ∷ b ∷ n ∷ []) = if bytes_eq w (codes "sell") then Some (Sell (record { train = t; from = a; to = b; people = n }))
    else (if bytes_eq w (codes "open") then Some (Open (record { train = t; seats = a; stops = b; first = n }))
    else (if bytes_eq w (codes "ask") then Some (Ask (record { train = t; from = a; to = b; people = n })) else None))
deed_of w (j ∷ t ∷ a ∷ b ∷ n ∷ []) = if bytes_eq w (codes "give") then Some (Give j (record { train = t; from = a; to = b; people = n })) else None
deed_of w (j ∷ t ∷ a ∷ b ∷ n ∷ x ∷ xs) = None

-- a command on the lines between the stations, or on their power, by a word and the numbers behind it
abbrev pub line_command_of : List ℕ → List ℕ → Option Command
line_command_of w [] = if bytes_eq w (codes "pass") then Some Pass
    else (if bytes_eq w (codes "lose") then Some Lose
    else (if bytes_eq w (codes "twice") then Some Twice
    else (if bytes_eq w (codes "late") then Some Late
    else (if bytes_eq w (codes "where") then Some Where else None))))
line_command_of w (n ∷ []) = if bytes_eq w (codes "pass") then Some (PassMany n)
    else (if bytes_eq w (codes "stations") then Some (Stations n)
    else (if bytes_eq w (codes "cut") then Some (Cut n) else None))
line_command_of w (n ∷ m ∷ []) = if bytes_eq w (codes "cut") then Some (CutNext n m) else None
line_command_of w (n ∷ m ∷ k ∷ ns) = None

-- what words ask of a station
abbrev pub words_deed : List (List ℕ) → Option Deed
words_deed [] = None
words_deed (w ∷ ws) = option_and_then (λ ns. deed_of w ns) (numbers_of ws)

-- a command to a station, by the words behind its number
abbrev pub station_command_of : ℕ → List (List ℕ) → Option Command
station_command_of who ws = option_map (λ deed. Station who deed) (words_deed ws)

-- what words say whose first is the number of a station, or is none
abbrev pub command_by : Option ℕ → List ℕ → List (List ℕ) → Option Command
command_by None w ws = option_and_then (λ ns. line_command_of w ns) (numbers_of ws)
command_by (Some who) w ws = station_command_of who ws

abbrev pub words_command : List (List ℕ) → Option Command
words_command [] = None
words_command (w ∷ ws) = command_by (number_of w) w ws

-- what a line says; nothing where it is no command, or too long
abbrev pub command_of : List ℕ → Option Command
command_of line = option_and_then words_command (line_words line)

-- what a line asks of the station that reads it
abbrev pub deed_line : List ℕ → Option Deed
deed_line line = option_and_then words_deed (line_words line)

-- the row of a train, by its numbers
abbrev pub opening_of : List ℕ → Option Opening
opening_of [] = None
opening_of (t ∷ []) = None
opening_of (t ∷ n ∷ []) = None
opening_of (t ∷ n ∷ m ∷ []) = None
opening_of (t ∷ n ∷ m ∷ f ∷ []) = Some (record { train = t; seats = n; stops = m; first = f })
opening_of (t ∷ n ∷ m ∷ f ∷ x ∷ xs) = None

-- a line of the timetable
abbrev pub row_line : List ℕ → Option Opening
row_line line = option_and_then (λ ws. option_and_then opening_of (numbers_of ws)) (line_words line)

-- the bytes that a station is handed as if they came from another: it, the other, and the bytes
abbrev pub made_up_of : List ℕ → List ℕ → List ℕ → Option (ℕ × (ℕ × List ℕ))
made_up_of to from hex = option_and_then (λ i. option_and_then (λ j. option_map (λ bs. (i, (j, bs))) (hex_value hex)) (number_of from)) (number_of to)

abbrev pub words_made_up : List (List ℕ) → Option (ℕ × (ℕ × List ℕ))
words_made_up [] = None
words_made_up (to ∷ []) = None
words_made_up (to ∷ sign ∷ []) = None
words_made_up (to ∷ sign ∷ from ∷ []) = None
words_made_up (to ∷ sign ∷ from ∷ hex ∷ []) = if bytes_eq sign (codes "<") then made_up_of to from hex else None
words_made_up (to ∷ sign ∷ from ∷ hex ∷ w ∷ ws) = None

-- a line that hands a station such bytes
abbrev pub made_up_line : List ℕ → Option (ℕ × (ℕ × List ℕ))
made_up_line line = option_and_then words_made_up (line_words line)
