-- How a sale, a gift and an undoing are answered, by what the station holds.
use Rattle.std.specs.Prelude.{◌≡◌, ℕ, suc, ◌+◌, ◌<◌, ◌≤◌, min, true, false, cond, ◌⊎◌, List, length, take, Some, None, Option, Ok, Err, slice_index_or}
use Rattle.asking.specs.Events.{Response}
use Rattle.asking.specs.Minds.{Mind}
use Rattle.asking.specs.Told.{told_by}
use Rattle.asking.specs.declared.event.Reply.TheVariants.{Asks}
use Rattle.choosing.specs.Choice.{Chosen, beside, drawn_all, free}
use Rattle.choosing.specs.Parties.{pieces_of, seats_of, unused}
use Rattle.choosing.specs.declared.party.Party.{Party}
use Rattle.giving.specs.Calls.{next_number, room}
use Rattle.giving.specs.Channels.{line, other}
use Rattle.giving.specs.declared.ids.Ask.{Ask}
use Rattle.giving.specs.declared.ids.StationId.{StationId}
use Rattle.giving.specs.declared.ids.Ticket.{Ticket}
use Rattle.giving.specs.declared.refusal.Refusal.TheVariants.{Malformed, NotOpen, NothingHeld, NoSuchTicket, Full, NoSuchStation}
use Rattle.ledger.specs.Decisions.{Answer, after, decided, unasked}
use Rattle.pieces.specs.declared.demand.Demand.{Demand}
use Rattle.ledger.specs.declared.input.Input.TheVariants.{Undo}
use Rattle.ledger.specs.declared.input.Outcome.TheVariants.{Done, Gave, Nothing}
use Rattle.network.specs.Places.{count_in, holding}
use Rattle.pieces.specs.Memory.{word_at}
use Rattle.pieces.specs.declared.names.Train.{Train}
use Rattle.pieces.specs.declared.piece.Piece.{Piece}
use Rattle.state.specs.Changes.{apply}
use Rattle.state.specs.States.{State, place, is_open, asks_left, holds_piece, kept, sold, ticket_of, tickets_left}
use Rattle.state.specs.declared.record.Record.TheVariants.{Sold, Undone, Declined}
use Rattle.std.specs.List.{AllByRecursion}
use Rattle.timetable.specs.Rows.{Table}
use Rattle.timetable.specs.declared.row.Row.{Row}

-- ---- what is asked for

-- a stop of the train; where the timetable has not the train, one that any can have
abbrev pub HasStop : Option Row → ℕ → Type 0
HasStop None u = u < 30
HasStop (Some r) u = u < r.stops

-- one to eight people want a trip, from a stop up to a later one that the train has
pub record Wanted (w : Option Row) (d : Demand) : Type 0 where
  pub ordered : d.from.0 < d.to.0
  pub stop : HasStop w d.to.0
  pub someone : 1 ≤ d.people
  pub few : d.people ≤ 8

-- ---- what there is for it

-- the words of a train's seats at a station
abbrev pub words_of : State → Train → ℕ → ℕ
words_of x z = word_at x.words (place x z)

-- on how many seats a station holds a piece that covers the trip
abbrev pub covering : State → Demand → ℕ
covering x d = free (words_of x d.train) 400 d.from.0 d.to.0

-- on how many it does beside the seat that is kept when another station asks
abbrev pub beside_kept : State → Demand → ℕ → ℕ
beside_kept x d = beside (kept x d.train) (words_of x d.train)

abbrev pub sparing : State → Demand → ℕ
sparing x d = free (beside_kept x d) 400 d.from.0 d.to.0

-- a party of m people on that trip, each on the seat that is the choice of seats with the words f, when those before have taken theirs
pub record SeatedOf (f : ℕ → ℕ) (d : Demand) (m : ℕ) (p : Party) : Type 0 where
  pub train : p.train ≡ d.train
  pub from : p.trip.from ≡ d.from
  pub to : p.trip.to ≡ d.to
  pub all : length (seats_of p) ≡ m
  pub each : (k : ℕ) → k < m → Chosen (drawn_all f d.from.0 d.to.0 (take k (seats_of p))) 400 d.from.0 d.to.0 (Some (slice_index_or (seats_of p) k unused))

abbrev pub Seated : State → Demand → (m : ℕ) → Party → Type 0
Seated x d m p = SeatedOf (words_of x d.train) d m p

-- of the numbers below n just k have P
pub data HowMany (P : ℕ → Type 0) : (n k : ℕ) → Type 0 where
  none : HowMany P 0 0
  one : (n k : ℕ) → P n → HowMany P n k → HowMany P (suc n) (suc k)
  past : (n k : ℕ) → (P n → ⊥) → HowMany P n k → HowMany P (suc n) k

-- ---- what is left

-- what a state holds is split into what another holds and what some pieces have: of each stretch, and nothing is lost or in both
abbrev pub Splits : State → State → List Piece → Type 0
Splits x y ps = (t : Train) (s u : ℕ) → s < 400 → cond {A = ℕ} (holding t s u x) 1 0 ≡ cond (holding t s u y) 1 0 + count_in t s u ps

-- ---- how it is answered: each ground excludes the others, so each answer is given exactly on its ground

-- all are sold a seat under the next ticket, and what is left of what was taken is held on; or a sale is refused by 1, 3, 4 or 6
pub data SaleAnswer (tb : Table) (x : State) (d : Demand) : Answer → Type 0 where
  malformed : (Wanted (tb d.train.0) d → ⊥) → SaleAnswer tb x d (Err Malformed)
  shut : Wanted (tb d.train.0) d → is_open x d.train ≡ false → SaleAnswer tb x d (Err NotOpen)
  short : Wanted (tb d.train.0) d → is_open x d.train ≡ true → covering x d < d.people → SaleAnswer tb x d (Err NothingHeld)
  used_up : Wanted (tb d.train.0) d → is_open x d.train ≡ true → d.people ≤ covering x d → tickets_left x ≡ false → SaleAnswer tb x d (Err Full)
  sells : Wanted (tb d.train.0) d → is_open x d.train ≡ true → d.people ≤ covering x d → tickets_left x ≡ true →
      (p : Party) → Seated x d d.people p → Splits x (apply tb x (Sold (record { 0 = sold x + 1 }) p)) (pieces_of p) → SaleAnswer tb x d (Ok (Done (Sold (record { 0 = sold x + 1 }) p)))

-- as many are given as were asked for, as cover the trip, and as may wait and have numbers left, under the next numbers; or a gift is refused
-- by 1, 3, 6 or 7: by 6 only where none may wait, or no number is left
pub data GiftAnswer (tb : Table) (x : State) (to : StationId) (d : Demand) : Answer → Type 0 where
  malformed : (Wanted (tb d.train.0) d → ⊥) → GiftAnswer tb x to d (Err Malformed)
  shut : Wanted (tb d.train.0) d → is_open x d.train ≡ false → GiftAnswer tb x to d (Err NotOpen)
  full : Wanted (tb d.train.0) d → is_open x d.train ≡ true → room x.channels to.0 ≡ 0 → GiftAnswer tb x to d (Err Full)
  nobody : Wanted (tb d.train.0) d → is_open x d.train ≡ true → 0 < room x.channels to.0 → other x.me x.channels to.0 ≡ false → GiftAnswer tb x to d (Err NoSuchStation)
  gives : Wanted (tb d.train.0) d → is_open x d.train ≡ true → 0 < room x.channels to.0 → other x.me x.channels to.0 ≡ true →
      (p : Party) → Seated x d (min (min d.people (room x.channels to.0)) (covering x d)) p → Splits x (after tb x (Ok (Gave to (next_number x.channels to.0) unasked p))) (pieces_of p) → GiftAnswer tb x to d (Ok (Gave to (next_number x.channels to.0) unasked p))

-- of the other stations it is the first to be asked for pieces of a train: no other one has told of more seats, or of as many and has a lower number
pub record FirstInTurn (x : State) (m : Mind) (t : Train) (k : StationId) : Type 0 where
  pub there : other x.me x.channels k.0 ≡ true
  pub first : (j : StationId) → other x.me x.channels j.0 ≡ true → (j.0 ≡ k.0 → ⊥) → ((told_by m.told t j).any < (told_by m.told t k).any) ⊎ (((told_by m.told t k).any ≡ (told_by m.told t j).any) × (k.0 < j.0))

-- the others are asked, the first in turn to begin with; or it is refused by 1, 3, 6 or 7: by 6 only where no number of an ask is left, by 7 only where nobody else is there
pub data TurnAnswer (tb : Table) (x : State) (m : Mind) (d : Demand) : Response → Type 0 where
  malformed : (Wanted (tb d.train.0) d → ⊥) → TurnAnswer tb x m d (Err Malformed)
  shut : Wanted (tb d.train.0) d → is_open x d.train ≡ false → TurnAnswer tb x m d (Err NotOpen)
  used_up : Wanted (tb d.train.0) d → is_open x d.train ≡ true → asks_left x ≡ false → TurnAnswer tb x m d (Err Full)
  alone : Wanted (tb d.train.0) d → is_open x d.train ≡ true → asks_left x ≡ true → length x.channels ≤ 1 → TurnAnswer tb x m d (Err NoSuchStation)
  asks : Wanted (tb d.train.0) d → is_open x d.train ≡ true → asks_left x ≡ true → (k : StationId) → FirstInTurn x m d.train k → TurnAnswer tb x m d (Ok (Asks k))

-- an ask of another station is answered with as many as were asked for, as cover the trip beside the kept seat, and as may wait and have numbers left,
-- and with none where there is none, or where the train is not open; it is passed over where it is no later than the last of that station's that was answered,
-- and refused by 1, 6 or 7: by 6 only where none may wait, or no number is left
pub data AskAnswer (tb : Table) (x : State) (from : StationId) (a : Ask) (d : Demand) : Answer → Type 0 where
  malformed : (Wanted (tb d.train.0) d → ⊥) → AskAnswer tb x from a d (Err Malformed)
  nobody : Wanted (tb d.train.0) d → other x.me x.channels from.0 ≡ false → AskAnswer tb x from a d (Err NoSuchStation)
  late : Wanted (tb d.train.0) d → other x.me x.channels from.0 ≡ true → a.0 ≤ (line x.channels from.0).answered → AskAnswer tb x from a d (Ok Nothing)
  shut : Wanted (tb d.train.0) d → other x.me x.channels from.0 ≡ true → (line x.channels from.0).answered < a.0 → is_open x d.train ≡ false → AskAnswer tb x from a d (Ok (Done (Declined from a)))
  full : Wanted (tb d.train.0) d → other x.me x.channels from.0 ≡ true → (line x.channels from.0).answered < a.0 → is_open x d.train ≡ true → room x.channels from.0 ≡ 0 → AskAnswer tb x from a d (Err Full)
  none : Wanted (tb d.train.0) d → other x.me x.channels from.0 ≡ true → (line x.channels from.0).answered < a.0 → is_open x d.train ≡ true → 0 < room x.channels from.0 → sparing x d ≡ 0 → AskAnswer tb x from a d (Ok (Done (Declined from a)))
  gives : Wanted (tb d.train.0) d → other x.me x.channels from.0 ≡ true → (line x.channels from.0).answered < a.0 → is_open x d.train ≡ true → 0 < room x.channels from.0 → 0 < sparing x d →
      (p : Party) → SeatedOf (beside_kept x d) d (min (min d.people (room x.channels from.0)) (sparing x d)) p → Splits x (after tb x (Ok (Gave from (next_number x.channels from.0) a p))) (pieces_of p) → AskAnswer tb x from a d (Ok (Gave from (next_number x.channels from.0) a p))

-- a ticket that stands is of an open train and can be undone: then each of its pieces is held again, besides what was held, and it does not stand any
-- more; where none stands under that number it is refused by 5
pub record UndoAnswer (tb : Table) (x : State) (m : Ticket) : Type 0 where
  pub stands : (p : Party) → ticket_of x m.0 ≡ Some p →
      (is_open x p.train ≡ true)
      × (decided tb x (Undo m) ≡ Ok (Done (Undone m)))
      × AllByRecursion (λ (q : Piece). holds_piece (apply tb x (Undone m)) q ≡ true) (pieces_of p)
      × Splits (apply tb x (Undone m)) x (pieces_of p)
      × (ticket_of (apply tb x (Undone m)) m.0 ≡ None)
  pub none : ticket_of x m.0 ≡ None → decided tb x (Undo m) ≡ Err NoSuchTicket
