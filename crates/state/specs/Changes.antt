-- The change that each record makes, and where a record may stand.
use Rattle.std.specs.Prelude.{ℕ, suc, ◌+◌, ◌-◌, Bool, true, false, cond, not, ◌&&◌, ◌||◌, List, [], ◌∷◌, ◌++◌, map, length, drop, is_some, Some, None, Option, ◌==◌, nat_le, nat_lt, slice_index_or, slice_set}
use Rattle.choosing.specs.Parties.{below, seats_of, some}
use Rattle.choosing.specs.declared.party.Party.{Party}
use Rattle.giving.specs.Channels.{Chan, gave, declined, took, heard_to, line, news, numbered, roomy, other, unanswered}
use Rattle.giving.specs.declared.ids.StationId.{StationId}
use Rattle.state.specs.States.{State, nobody, place_of, place, is_open, was_closed, known, openable, holds_piece, sold, tickets_left, asks_left, ticket_of}
use Rattle.state.specs.declared.record.Record.{Record}
use Rattle.state.specs.declared.record.Record.TheVariants.{Opened, Closed, Sold, Undone, Given, Taken, Heard, Asked, Declined}
use Rattle.pieces.specs.Memory.{Changing, altered, altered_all, covered_all, seated, placed}
use Rattle.pieces.specs.Stretches.{span, less, plus}
use Rattle.pieces.specs.declared.names.Train.{Train}
use Rattle.pieces.specs.declared.piece.Piece.{Piece}
use Rattle.timetable.specs.Rows.{Table, stretches, listed}
use Rattle.timetable.specs.declared.row.Row.{Row}

-- ---- parts of a state written anew

abbrev pub with_words : State → List ℕ → State
with_words s ws = record s { words = ws }

abbrev pub with_tickets : State → List (Option Party) → State
with_tickets s xs = record s { tickets = xs }

abbrev pub with_line : State → StationId → Chan → State
with_line s k c = record s { channels = slice_set s.channels k.0 c }

-- a ticket of a train was sold
abbrev pub with_sold : State → Train → State
with_sold s t = record s { ever_sold = slice_set s.ever_sold (place s t) true }

-- a piece of a train was given to a station
abbrev pub with_gave : State → Train → StationId → State
with_gave s t k = record s { ever_gave = slice_set s.ever_gave (place s t) (slice_set (slice_index_or s.ever_gave (place s t) []) k.0 true) }

abbrev pub with_asked : State → ℕ → State
with_asked s a = record s { asked = a }

-- ---- pieces

-- what is held of a piece is changed
abbrev pub changed : Changing → State → Piece → State
changed f s p = with_words s (altered f s.words (place s p.train) p.seat.0 p.trip.from.0 p.trip.to.0)

-- a piece taken out of what is held, and put back
abbrev pub taken_out : State → Piece → State
taken_out = changed less

abbrev pub put_back : State → Piece → State
put_back = changed plus

-- what is held of the pieces of a party is changed, one after the other
abbrev pub changed_all : Changing → State → Party → State
changed_all f s p = with_words s (altered_all f s.words (place s p.train) (seats_of p) p.trip.from.0 p.trip.to.0)

abbrev pub taken_all : State → Party → State
taken_all = changed_all less

abbrev pub put_all : State → Party → State
put_all = changed_all plus

-- each piece of a party is held, when those before are taken out
abbrev pub holds_all : State → Party → Bool
holds_all s p = covered_all s.words (place s p.train) (seats_of p) p.trip.from.0 p.trip.to.0

-- ---- trains

-- what a station holds of each seat when it opens a train: all at the first station, nothing elsewhere
abbrev pub opening : (me : ℕ) → Row → ℕ
opening i r = cond (i == r.first.0) (span 0 (stretches r)) 0

abbrev pub opened : Option Row → Train → State → State
opened None t s = s
opened (Some r) t s =
    record s {
      slots = slice_set s.slots (place_of s.slots None) (Some t);
      words = placed s.words (place_of s.slots None) (seated r.seats (opening s.me r));
      ever_sold = slice_set s.ever_sold (place_of s.slots None) false;
      ever_gave = slice_set s.ever_gave (place_of s.slots None) nobody;
    }

-- the tickets of a train are forgotten
abbrev pub forgotten : Train → Option Party → Option Party
forgotten t (Some p) = cond (t.0 == p.train.0) None (Some p)
forgotten t None = None

-- how many tickets at the front do not stand any more
abbrev pub stale : List (Option Party) → ℕ
stale [] = 0
stale (Some p ∷ xs) = 0
stale (None ∷ xs) = suc (stale xs)

abbrev pub trimmed : List (Option Party) → List (Option Party)
trimmed xs = drop (stale xs) xs

abbrev pub closing : Train → State → State
closing t s =
    record s {
      slots = slice_set s.slots (place s t) None;
      closed = s.closed ++ t ∷ [];
      dropped = s.dropped + stale (map (forgotten t) s.tickets);
      tickets = trimmed (map (forgotten t) s.tickets);
    }

-- a piece that comes: of a train that was closed here nothing is held, and one that was never open here is opened
abbrev pub received : Table → State → Piece → State
received tb s p = cond (was_closed s p.train) s (put_back (cond (is_open s p.train) s (opened (tb p.train.0) p.train s)) p)

-- ---- the change that a record makes

abbrev pub returned : Option Party → State → State
returned (Some p) s = put_all s p
returned None s = s

abbrev pub apply : Table → State → Record → State
apply tb s (Opened t) = opened (tb t.0) t s
apply tb s (Closed t) = closing t s
apply tb s (Sold n p) = with_sold (with_tickets (taken_all s p) (s.tickets ++ Some p ∷ [])) p.train
apply tb s (Undone n) = with_tickets (returned (ticket_of s n.0) s) (slice_set s.tickets (n.0 - 1 - s.dropped) None)
apply tb s (Given to n a p) = with_gave (with_line (taken_out s p) to (gave (line s.channels to.0) a.0 p)) p.train to
apply tb s (Taken from n p) = with_line (received tb s p) from (took (line s.channels from.0))
apply tb s (Heard from n) = with_line s from (heard_to (line s.channels from.0) n.0)
apply tb s (Asked a) = with_asked s a.0
apply tb s (Declined to a) = with_line s to (declined (line s.channels to.0) a.0)

-- ---- where a record may stand

-- the train is in the timetable, and has each seat and the stops of a party
abbrev pub listed_all : Option Row → Party → Bool
listed_all None p = false
listed_all (Some r) p = nat_lt p.trip.to.0 r.stops && below r.seats (seats_of p)

abbrev pub returnable : Table → State → Option Party → Bool
returnable tb s (Some p) = listed_all (tb p.train.0) p && is_open s p.train
returnable tb s None = false

-- a piece is given for no ask, or for one that is not older than the last that was answered: an answer of several pieces has a record for each
abbrev pub fresh_ask : Chan → ℕ → Bool
fresh_ask c a = a == 0 || nat_le c.answered a

abbrev pub fits : Table → State → Record → Bool
fits tb s (Opened t) = is_some (tb t.0) && (not (known s t) && openable s)
fits tb s (Closed t) = is_open s t
fits tb s (Sold n p) = some (length (seats_of p)) && (listed_all (tb p.train.0) p && (is_open s p.train && (holds_all s p && (tickets_left s && n.0 == sold s + 1))))
fits tb s (Undone n) = returnable tb s (ticket_of s n.0)
fits tb s (Given to n a p) = listed (tb p.train.0) p && (is_open s p.train && (holds_piece s p && (roomy s.channels && (numbered (line s.channels to.0) && (other s.me s.channels to.0 && (n.0 == (line s.channels to.0).given + 1 && fresh_ask (line s.channels to.0) a.0))))))
fits tb s (Taken from n p) = listed (tb p.train.0) p && (other s.me s.channels from.0 && (n.0 == (line s.channels from.0).taken + 1 && (known s p.train || openable s)))
fits tb s (Heard from n) = other s.me s.channels from.0 && news (line s.channels from.0) n.0
fits tb s (Asked a) = asks_left s && a.0 == s.asked + 1
fits tb s (Declined to a) = other s.me s.channels to.0 && unanswered (line s.channels to.0) a.0

-- each of several records fits, behind those before
abbrev pub all_fit : Table → State → List Record → Bool
all_fit tb s [] = true
all_fit tb s (e ∷ es) = fits tb s e && all_fit tb (apply tb s e) es
