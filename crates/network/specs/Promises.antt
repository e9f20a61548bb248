-- What is promised of every world that stations can come to, whatever falls. Each is a type; a proof of the type is the theorem.
-- `OnePlace` says of all these worlds what `OnePlaceIn` says of one, and so on.
use Rattle.std.specs.Prelude.{◌≡◌, ℕ, ◌+◌, ◌<◌, ◌≤◌, true, false, ◌⊎◌, List, [], ◌∷◌, ◌++◌, length, Some, None, Ok, Err, ◌≢◌, slice_index_or, take}
use mathlib.Core.List.{Memᴰ}
use Rattle.choosing.specs.Parties.{pieces_of}
use Rattle.choosing.specs.declared.party.Party.{Party}
use Rattle.asking.specs.Events.{resolved}
use Rattle.asking.specs.Minds.{Mind}
use Rattle.asking.specs.Ticks.{tally_by}
use Rattle.asking.specs.declared.event.Event.TheVariants.{Call}
use Rattle.giving.specs.declared.ids.Ask.{Ask}
use Rattle.giving.specs.declared.ids.StationId.{StationId}
use Rattle.giving.specs.declared.ids.Ticket.{Ticket}
use Rattle.giving.specs.declared.message.Body.TheVariants as body
use Rattle.giving.specs.declared.refusal.Refusal.TheVariants.{NothingHeld}
use Rattle.ledger.specs.Decisions.{decided, messages, after, records}
use Rattle.state.specs.States.{State, is_open, was_closed, kept, known, openable, holds_piece, sold, tickets_left}
use Rattle.pieces.specs.declared.demand.Demand.{Demand}
use Rattle.ledger.specs.declared.input.Input.TheVariants.{Sell, Give, Grant}
use Rattle.ledger.specs.declared.input.Input.TheVariants as input
use Rattle.ledger.specs.declared.input.Outcome.TheVariants.{Done}
use Rattle.state.specs.declared.record.Record.{Record}
use Rattle.state.specs.declared.record.Record.TheVariants.{Sold, Given, Asked, Declined}
use Rattle.network.specs.Answers.{Wanted, Seated, SaleAnswer, GiftAnswer, AskAnswer, TurnAnswer, UndoAnswer, HowMany, covering}
use Rattle.network.specs.Falls.{Site, safe, Moves, Carries, Reached, Reach}
use Rattle.network.specs.Places.{holding, places, under_way}
use Rattle.network.specs.Worlds.{World, journal, state, given_for}
use Rattle.pieces.specs.Parts.{blank, has}
use Rattle.pieces.specs.declared.names.Train.{Train}
use Rattle.pieces.specs.declared.piece.Piece.{Piece}
use Rattle.std.specs.List.{AllByRecursion}
use Rattle.timetable.specs.Rows.{Table, stretches}
use Rattle.timetable.specs.declared.row.Row.{Row}

-- Each seat of each train, from each stop to the next, is in exactly one place, from where its first station has opened the
-- train to where a station first closes it.
abbrev pub OnePlaceIn : ℕ → Table → World → Type 0
OnePlaceIn n tb w = (t : Train) (r : Row) → tb t.0 ≡ Some r →
    is_open (state n tb w r.first.0) t ≡ true → ((k : ℕ) → k < n → was_closed (state n tb w k) t ≡ false) →
    (s u : ℕ) → s < r.seats → u < stretches r → length (places n t s u (state n tb w)) ≡ 1

abbrev pub OnePlace : Type 0
OnePlace = (n : ℕ) (tb : Table) (w : World) → Reach n tb w → OnePlaceIn n tb w

-- No stretch of a seat is sold twice: not under two tickets, of one station or of two, and not to two people of one ticket.
abbrev pub NeverTwiceIn : ℕ → Table → World → Type 0
NeverTwiceIn n tb w = (i j a b k l : ℕ) (p q : Party) → i < n → j < n →
    slice_index_or (state n tb w i).tickets a None ≡ Some p → slice_index_or (state n tb w j).tickets b None ≡ Some q →
    k < length (pieces_of p) → l < length (pieces_of q) → ((i ≡ j) × (a ≡ b) × (k ≡ l) → ⊥) →
    (t s u : ℕ) → has t s u (slice_index_or (pieces_of p) k blank) ≡ true → has t s u (slice_index_or (pieces_of q) l blank) ≢ true

abbrev pub NeverTwice : Type 0
NeverTwice = (n : ℕ) (tb : Table) (w : World) → Reach n tb w → NeverTwiceIn n tb w

-- Nothing is held or sold that the train has not.
abbrev pub OnlyWhatIsIn : ℕ → Table → World → Type 0
OnlyWhatIsIn n tb w = (i : ℕ) →
    ((t : Train) (s u : ℕ) → i < n → s < 400 → holding t s u (state n tb w i) ≡ true → (r : Row) × (tb t.0 ≡ Some r) × (s < r.seats) × (u < stretches r))
    × ((a : ℕ) (p : Party) → slice_index_or (state n tb w i).tickets a None ≡ Some p → (r : Row) × (tb p.train.0 ≡ Some r) × (p.trip.to.0 < r.stops) × AllByRecursion (λ (q : Piece). q.seat.0 < r.seats) (pieces_of p))

abbrev pub OnlyWhatIs : Type 0
OnlyWhatIs = (n : ℕ) (tb : Table) (w : World) → Reach n tb w → OnlyWhatIsIn n tb w

-- A ticket's number is never used again: of two sales in a station's journal the later one has the higher number.
abbrev pub NumbersRiseIn : ℕ → Table → World → Type 0
NumbersRiseIn n tb w = (i : ℕ) (xs ys zs : List Record) (k l : Ticket) (p q : Party) →
    journal w i ≡ xs ++ Sold k p ∷ (ys ++ Sold l q ∷ zs) → k.0 < l.0

abbrev pub NumbersRise : Type 0
NumbersRise = (n : ℕ) (tb : Table) (w : World) → Reach n tb w → NumbersRiseIn n tb w

-- A station that has a seat for each of the people sells them, by the rule of choice, and says nothing to anybody, as long as it has a number for
-- the ticket; one that has fewer refuses by 4, and nothing is sold.
abbrev pub SellsAloneIn : ℕ → Table → World → Type 0
SellsAloneIn n tb w = (i : ℕ) (d : Demand) → i < n → d.from.0 < d.to.0 → 1 ≤ d.people → d.people ≤ 8 →
    (d.people ≤ covering (state n tb w i) d → tickets_left (state n tb w i) ≡ true →
    (p : Party) × (decided tb (state n tb w i) (Sell d) ≡ Ok (Done (Sold (record { 0 = sold (state n tb w i) + 1 }) p)))
    × Seated (state n tb w i) d d.people p
    × (messages (after tb (state n tb w i) (decided tb (state n tb w i) (Sell d))) (Sell d) (decided tb (state n tb w i) (Sell d)) ≡ []))
    × (Wanted (tb d.train.0) d → is_open (state n tb w i) d.train ≡ true → covering (state n tb w i) d < d.people →
    (decided tb (state n tb w i) (Sell d) ≡ Err NothingHeld)
    × (records (decided tb (state n tb w i) (Sell d)) ≡ []) × (after tb (state n tb w i) (decided tb (state n tb w i) (Sell d)) ≡ state n tb w i))

abbrev pub SellsAlone : Type 0
SellsAlone = (n : ℕ) (tb : Table) (w : World) → Reach n tb w → SellsAloneIn n tb w

-- A sale is made, or refused on the first ground that there is.
abbrev pub SellsIn : ℕ → Table → World → Type 0
SellsIn n tb w = (i : ℕ) (d : Demand) → i < n → SaleAnswer tb (state n tb w i) d (decided tb (state n tb w i) (Sell d))

abbrev pub Sells : Type 0
Sells = (n : ℕ) (tb : Table) (w : World) → Reach n tb w → SellsIn n tb w

-- A gift is made, of as many seats as there can be, or refused on the first ground that there is.
abbrev pub GivesIn : ℕ → Table → World → Type 0
GivesIn n tb w = (i : ℕ) (to : StationId) (d : Demand) → i < n → GiftAnswer tb (state n tb w i) to d (decided tb (state n tb w i) (Give to d))

abbrev pub Gives : Type 0
Gives = (n : ℕ) (tb : Table) (w : World) → Reach n tb w → GivesIn n tb w

-- A ticket that stands can be undone, once, and any other cannot.
abbrev pub UndoesIn : ℕ → Table → World → Type 0
UndoesIn n tb w = (i : ℕ) (m : Ticket) → UndoAnswer tb (state n tb w i) m

abbrev pub Undoes : Type 0
Undoes = (n : ℕ) (tb : Table) (w : World) → Reach n tb w → UndoesIn n tb w

-- ---- asks

-- An ask is answered, passed over or refused on the first ground that there is.
abbrev pub GrantsIn : ℕ → Table → World → Type 0
GrantsIn n tb w = (i : ℕ) (from : StationId) (a : Ask) (d : Demand) → i < n → AskAnswer tb (state n tb w i) from a d (decided tb (state n tb w i) (Grant from a d))

abbrev pub Grants : Type 0
Grants = (n : ℕ) (tb : Table) (w : World) → Reach n tb w → GrantsIn n tb w

-- Others are asked, the first in turn to begin with, or it is refused on the first ground that there is.
abbrev pub AsksFirstIn : ℕ → Table → World → Type 0
AsksFirstIn n tb w = (i : ℕ) (m : Mind) (d : Demand) → i < n → TurnAnswer tb (state n tb w i) m d (resolved tb (state n tb w i) m (Call (input.Ask d)))

abbrev pub AsksFirst : Type 0
AsksFirst = (n : ℕ) (tb : Table) (w : World) → Reach n tb w → AsksFirstIn n tb w

-- a journal has sold one of the train
abbrev pub SoldIn : List Record → Train → Type 0
SoldIn js t = (xs : List Record) × (ys : List Record) × (k : Ticket) × (p : Party) × (js ≡ xs ++ Sold k p ∷ ys) × (t.0 ≡ p.train.0)

-- Nobody gives the kept seat away to an ask: of a train of which a station has ever sold one, the ticket undone or not, it still holds of the
-- lowest seat of which it held anything all that it held of it.
abbrev pub KeepsIn : ℕ → Table → World → Type 0
KeepsIn n tb w = (i : ℕ) (from : StationId) (a : Ask) (d : Demand) → i < n → SoldIn (journal w i) d.train →
    (s u : ℕ) → s < 400 → holding d.train s u (state n tb w i) ≡ true → ((k v : ℕ) → k < s → holding d.train k v (state n tb w i) ≡ false) →
    (v : ℕ) → holding d.train s v (after tb (state n tb w i) (decided tb (state n tb w i) (Grant from a d))) ≡ holding d.train s v (state n tb w i)

abbrev pub Keeps : Type 0
Keeps = (n : ℕ) (tb : Table) (w : World) → Reach n tb w → KeepsIn n tb w

-- One that never sold any of the train keeps no seat.
abbrev pub KeepsNoneIn : ℕ → Table → World → Type 0
KeepsNoneIn n tb w = (i : ℕ) (t : Train) → is_open (state n tb w i) t ≡ true → (SoldIn (journal w i) t → ⊥) → kept (state n tb w i) t ≡ None

abbrev pub KeepsNone : Type 0
KeepsNone = (n : ℕ) (tb : Table) (w : World) → Reach n tb w → KeepsNoneIn n tb w

-- a record by which an ask of a station's is answered, with a piece or with none
abbrev pub Settles : Record → StationId → Ask → Type 0
Settles (Given to n b p) j a = (to ≡ j) × (b ≡ a)
Settles (Declined to b) j a = (to ≡ j) × (b ≡ a)
Settles e j a = ⊥

-- An ask is answered at most once: whatever has been done since, it and every earlier one of that station's come to nothing.
abbrev pub AnswersOnceIn : ℕ → Table → World → Type 0
AnswersOnceIn n tb w = (i : ℕ) (from : StationId) (a b : Ask) (d : Demand) (xs ys : List Record) (e : Record) →
    journal w i ≡ xs ++ e ∷ ys → Settles e from a → b.0 ≤ a.0 →
    (records (decided tb (state n tb w i) (Grant from b d)) ≡ []) × (messages (after tb (state n tb w i) (decided tb (state n tb w i) (Grant from b d))) (Grant from b d) (decided tb (state n tb w i) (Grant from b d)) ≡ [])

abbrev pub AnswersOnce : Type 0
AnswersOnce = (n : ℕ) (tb : Table) (w : World) → Reach n tb w → AnswersOnceIn n tb w

-- What was given for an ask is what the answer says: as many pieces, in all that was ever written.
abbrev pub AnswersTrueIn : ℕ → Table → World → Type 0
AnswersTrueIn n tb w = (i : ℕ) (j : StationId) (a : Ask) (m : ℕ) →
    Memᴰ (record { from = record { 0 = i }; to = j; body = body.Answered a m }) w.said → given_for j a (journal w i) ≡ m

abbrev pub AnswersTrue : Type 0
AnswersTrue = (n : ℕ) (tb : Table) (w : World) → Reach n tb w → AnswersTrueIn n tb w

-- The number of an ask is never used again: of two in a station's journal the later one has the higher number.
abbrev pub AsksRiseIn : ℕ → Table → World → Type 0
AsksRiseIn n tb w = (i : ℕ) (xs ys zs : List Record) (a b : Ask) → journal w i ≡ xs ++ Asked a ∷ (ys ++ Asked b ∷ zs) → a.0 < b.0

abbrev pub AsksRise : Type 0
AsksRise = (n : ℕ) (tb : Table) (w : World) → Reach n tb w → AsksRiseIn n tb w

-- What a station tells of an open train is on how many of its seats it holds the whole line, each stretch of it, and on how many any stretch.
abbrev pub TellsTrueIn : ℕ → Table → World → Type 0
TellsTrueIn n tb w = (i : ℕ) (t : Train) (r : Row) → i < n → tb t.0 ≡ Some r → is_open (state n tb w i) t ≡ true →
    HowMany (λ s. (u : ℕ) → u < stretches r → holding t s u (state n tb w i) ≡ true) r.seats (tally_by (tb t.0) (state n tb w i) t).whole
    × HowMany (λ s. (u : ℕ) × (holding t s u (state n tb w i) ≡ true)) r.seats (tally_by (tb t.0) (state n tb w i) t).any

abbrev pub TellsTrue : Type 0
TellsTrue = (n : ℕ) (tb : Table) (w : World) → Reach n tb w → TellsTrueIn n tb w

-- ---- what is on its way

-- what is left on its way is nothing, or begins with a piece that the other station has no room for: it does not know the train, and can open none
abbrev pub Settled : List Piece → State → Type 0
Settled [] y = Unit {0}
Settled (q ∷ qs) y = (known y q.train ≡ false) × (openable y ≡ false)

-- From everywhere, by syncing, saying and taking alone, all that is on its way arrives, but for want of room: it is held by the station
-- that it was given to, if that one has not closed the train.
abbrev pub ArrivesFrom : ℕ → Table → Site → Type 0
ArrivesFrom n tb s = (t : Site) × Carries n tb s t × Reached n tb t × ((i j : ℕ) → i < n → j < n →
    Settled (under_way i j (state n tb t.world i) (state n tb t.world j)) (state n tb t.world j)
    × ((p : Piece) → Memᴰ p (under_way i j (state n tb s.world i) (state n tb s.world j)) →
    Memᴰ p (under_way i j (state n tb t.world i) (state n tb t.world j)) ⊎ ((was_closed (state n tb t.world j) p.train ≡ true) ⊎ (holds_piece (state n tb t.world j) p ≡ true))))

abbrev pub Arrives : Type 0
Arrives = (n : ℕ) (tb : Table) (s : Site) → Reached n tb s → ArrivesFrom n tb s

-- ---- what stays

-- What is synced stands at the front of the journal ever after, whatever falls.
abbrev pub Remembers : Type 0
Remembers = (n : ℕ) (tb : Table) (s t : Site) → Reached n tb s → Moves n tb s t → (i : ℕ) → (es : List Record) × (journal t.world i ≡ take (safe s i) (journal s.world i) ++ es)

-- A timetable with more trains allows all that a smaller one does.
abbrev pub Extends : Table → Table → Type 0
Extends tb ub = (k : ℕ) (r : Row) → tb k ≡ Some r → ub k ≡ Some r

abbrev pub Grows : Type 0
Grows = (n : ℕ) (tb ub : Table) (s : Site) → Extends tb ub → Reached n tb s → Reached n ub s × ((i : ℕ) → state n tb s.world i ≡ state n ub s.world i)
