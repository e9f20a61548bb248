-- What is printed of messages, and of the trains of a lost station.
use Rattle.std.specs.Prelude.{ℕ, List, ◌++◌, codes}
use Rattle.std.specs.Fmt.{decimal}
use Rattle.std.specs.List.{flat_map}
use Rattle.giving.specs.declared.ids.StationId.{StationId}
use Rattle.giving.specs.declared.message.Message.{Message}
use Rattle.lines.specs.Bytes.{body_bytes}
use Rattle.lines.specs.Hex.{hex_text}
use Rattle.pieces.specs.declared.names.Train.{Train}

-- a message as the station that says it prints it
abbrev pub said_text : Message → List ℕ
said_text m = decimal m.from.0 ++ (codes " out " ++ (decimal m.to.0 ++ (codes " " ++ hex_text (body_bytes m.body))))

-- bytes as the station that they come to prints them
abbrev pub handed_text : (to from : ℕ) → List ℕ → List ℕ
handed_text i j bytes = decimal i ++ (codes " < " ++ (decimal j ++ (codes " " ++ hex_text bytes)))

-- a message as the station that it comes to prints it
abbrev pub delivery_text : Message → List ℕ
delivery_text m = handed_text m.to.0 m.from.0 (body_bytes m.body)

-- a train of a list
abbrev pub train_text : Train → List ℕ
train_text t = codes " " ++ decimal t.0

-- a station that lost its file, and its trains
abbrev pub lost_text : StationId → List Train → List ℕ
lost_text other trains = codes "lost " ++ (decimal other.0 ++ flat_map train_text trains)
