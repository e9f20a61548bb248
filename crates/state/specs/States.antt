-- A station's lasting state as plain lists, and what can be read off it.
use Rattle.std.specs.Prelude.{ℕ, suc, ◌+◌, ◌-◌, Bool, true, false, cond, ◌&&◌, ◌||◌, List, [], ◌∷◌, length, replicate, ◌==◌, nat_lt, slice_index_or, Some, None, Option}
use Rattle.choosing.specs.Choice.{lowest}
use Rattle.choosing.specs.declared.party.Party.{Party}
use Rattle.giving.specs.Channels.{Chan, fresh}
use Rattle.giving.specs.declared.ids.StationId.{StationId}
use Rattle.pieces.specs.Memory.{word_at}
use Rattle.pieces.specs.Stretches.{covered}
use Rattle.pieces.specs.declared.names.Seat.{Seat}
use Rattle.pieces.specs.declared.names.Train.{Train}
use Rattle.pieces.specs.declared.piece.Piece.{Piece}

-- `me` is the station's own number. Each open train has a slot, and the words of its seats stand at the place of that slot.
-- Beside the slots stands whether a ticket of the train was ever sold here, and to which stations a piece of it was ever given. The ticket with the number n stands at n - 1 - dropped: the
-- first `dropped` tickets are forgotten. `asked` is the number of the last ask that was made.
pub record State : Type 0 where
  pub me : ℕ
  pub slots : List (Option Train)
  pub words : List ℕ
  pub ever_sold : List Bool
  pub ever_gave : List (List Bool)
  pub closed : List Train
  pub dropped : ℕ
  pub tickets : List (Option Party)
  pub asked : ℕ
  pub channels : List Chan

-- a piece was given to none of the stations yet
unfoldable pub nobody : List Bool
nobody = replicate 256 false

-- number `me` of n stations, which has done nothing yet
abbrev pub begun : (n me : ℕ) → State
begun n i = record { me = i; slots = replicate 64 None; words = replicate 25600 0; ever_sold = replicate 64 false; ever_gave = replicate 64 nobody; closed = []; dropped = 0; tickets = []; asked = 0; channels = replicate n fresh }

-- ---- trains

abbrev pub same : Option Train → Option Train → Bool
same None None = true
same None (Some b) = false
same (Some a) None = false
same (Some a) (Some b) = a.0 == b.0

-- the first place of a slot, or the number of slots
abbrev pub place_of : List (Option Train) → Option Train → ℕ
place_of [] x = 0
place_of (y ∷ ys) x = cond (same y x) 0 (suc (place_of ys x))

abbrev pub place : State → Train → ℕ
place s t = place_of s.slots (Some t)

abbrev pub is_open : State → Train → Bool
is_open s t = nat_lt (place s t) (length s.slots)

abbrev pub among : Train → List Train → Bool
among t [] = false
among t (x ∷ xs) = t.0 == x.0 || among t xs

abbrev pub was_closed : State → Train → Bool
was_closed s t = among t s.closed

-- open here, or closed
abbrev pub known : State → Train → Bool
known s t = is_open s t || was_closed s t

-- a train more may be opened
abbrev pub openable : State → Bool
openable s = nat_lt (place_of s.slots None) (length s.slots) && nat_lt (length s.closed) 65536

-- ---- pieces and tickets

-- a station holds a piece: each stretch of it
abbrev pub holds_piece : State → Piece → Bool
holds_piece s p = nat_lt p.seat.0 400 && covered (word_at s.words (place s p.train) p.seat.0) p.trip.from.0 p.trip.to.0

-- a ticket of an open train was ever sold here, whether it stands or not
abbrev pub has_sold : State → Train → Bool
has_sold s t = slice_index_or s.ever_sold (place s t) false

-- a piece of an open train was ever given to a station
abbrev pub has_given : State → Train → StationId → Bool
has_given s t k = slice_index_or (slice_index_or s.ever_gave (place s t) []) k.0 false

-- the seat of a train that is kept when another station asks: where one of the train was ever sold, the lowest of which anything is held
abbrev pub kept : State → Train → Option Seat
kept s t = cond (has_sold s t) (lowest (word_at s.words (place s t)) 400) None

-- how many tickets were ever sold
abbrev pub sold : State → ℕ
sold s = s.dropped + length s.tickets

abbrev pub tickets_left : State → Bool
tickets_left s = nat_lt (sold s) 4294967295

-- a number is left for an ask
abbrev pub asks_left : State → Bool
asks_left s = nat_lt s.asked 4294967295

abbrev pub ticket_of : State → ℕ → Option Party
ticket_of s n = cond (nat_lt s.dropped n) (slice_index_or s.tickets (n - 1 - s.dropped) None) None
