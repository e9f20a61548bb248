-- What a record that fits makes of a station: its lines, and its stock of a stretch.
-- Assumes nothing.
use Rattle.std.proofs.Common.{◌≡◌, ℕ, ◌<◌, ◌≤◌, max, Bool, true, false, cond, ◌||◌, eqb, List, ◌++◌, length, set, is_some, Some, None, Option, refl, ap, ◌∙◌, append-nil, arith, length-set}
use Rattle.choosing.specs.Parties.{seats_of}
use Rattle.choosing.specs.declared.party.Party.{Party}
use Rattle.giving.specs.Channels.{fresh}
use Rattle.state.specs.Changes.{apply, fits, with_words, put_back, opened, received, returned}
use Rattle.state.specs.States.{State, place_of, place, is_open, was_closed, known, openable, ticket_of}
use Rattle.state.specs.declared.record.Record.{Record}
use Rattle.state.specs.declared.record.Record.TheVariants.{Opened, Closed, Sold, Undone, Given, Taken, Heard, Declined}
use Rattle.network.proofs.Count.{given_of, taken_of}
use Rattle.network.proofs.Held.{Sound, altered_sound}
use Rattle.network.proofs.Lists.{set_ind}
use Rattle.network.proofs.Local.{Line, line_gave, line_took, line_heard, line_declined, Listed, listed_row, free_lt, fits_opened, fits_given, fits_taken, fits_heard, fits_declined}
use Rattle.network.proofs.Trains.{opened_sound, closing_sound}
use Rattle.network.specs.Worlds.{channel}
use Rattle.pieces.specs.Stretches.{less, plus}
use Rattle.pieces.specs.declared.names.Train.{Train}
use Rattle.pieces.specs.declared.piece.Piece.{Piece}
use Rattle.std.proofs.lemmas.Bool.{eq-eqb, ne_eqb, or_parts}
use Rattle.timetable.specs.Rows.{Table, listed}
use Rattle.timetable.specs.declared.row.Row.{Row}

-- ---- a piece that comes

-- what a received piece makes of a station, by what it knows of the train
pub data Received (tb : Table) (x : State) (p : Piece) : State → Type 0 where
  shut : was_closed x p.train ≡ true → Received tb x p x
  there : was_closed x p.train ≡ false → is_open x p.train ≡ true → Received tb x p (put_back x p)
  anew : (r : Row) → tb p.train.0 ≡ Some r → was_closed x p.train ≡ false → is_open x p.train ≡ false → place_of x.slots None < length x.slots → Received tb x p (put_back (opened (Some r) p.train x) p)

pub received_by : (tb : Table) (x : State) (p : Piece) → listed (tb p.train.0) p ≡ true → (known x p.train || openable x) ≡ true → Received tb x p (received tb x p)
received_by tb x p a room = go (was_closed x p.train) refl (is_open x p.train) refl
  where
    row : Listed (tb p.train.0) p
    row = listed_row (tb p.train.0) p a

    go : (b : Bool) → was_closed x p.train ≡ b → (c : Bool) → is_open x p.train ≡ c → Received tb x p (received tb x p)
    go true e c f = rw e (shut e)
    go false e true f = rw (e, f) (there e f)
    go false e false f = rw (e, f, row.is) (anew row.row row.is e f (free_lt x (rw (e, f) at room)))

-- y is x with other slots and words
pub record Beside (x y : State) : Type 0 where
  pub me : y.me ≡ x.me
  pub closed : y.closed ≡ x.closed
  pub dropped : y.dropped ≡ x.dropped
  pub tickets : y.tickets ≡ x.tickets
  pub asked : y.asked ≡ x.asked
  pub channels : y.channels ≡ x.channels

pub opened_beside : (o : Option Row) (t : Train) (x : State) → Beside x (opened o t x)
opened_beside None t x = record { me = refl; closed = refl; dropped = refl; tickets = refl; asked = refl; channels = refl }
opened_beside (Some r) t x = record { me = refl; closed = refl; dropped = refl; tickets = refl; asked = refl; channels = refl }

pub returned_beside : (y : Option Party) (x : State) → Beside x (returned y x)
returned_beside None x = record { me = refl; closed = refl; dropped = refl; tickets = refl; asked = refl; channels = refl }
returned_beside (Some p) x = record { me = refl; closed = refl; dropped = refl; tickets = refl; asked = refl; channels = refl }

pub received_beside : (tb : Table) (x : State) (p : Piece) → Beside x (received tb x p)
received_beside tb x p = go (was_closed x p.train) (is_open x p.train)
  where
    go : (b c : Bool) → Beside x (cond b x (put_back (cond c x (opened (tb p.train.0) p.train x)) p))
    go false false = let b = opened_beside (tb p.train.0) p.train x in record { me = b.me; closed = b.closed; dropped = b.dropped; tickets = b.tickets; asked = b.asked; channels = b.channels }
    go _ _ = record { me = refl; closed = refl; dropped = refl; tickets = refl; asked = refl; channels = refl }

-- ---- the lines

pub lines_next : (tb : Table) (x : State) (e : Record) → length (apply tb x e).channels ≡ length x.channels
lines_next tb x (Opened t) = ap length (opened_beside (tb t.0) t x).channels
lines_next tb x (Undone n) = ap length (returned_beside (ticket_of x n.0) x).channels
lines_next tb x (Given to n a p) = length-set x.channels to.0 _
lines_next tb x (Taken from n p) = length-set (received tb x p).channels from.0 _ ∙ ap length (received_beside tb x p).channels
lines_next tb x (Heard from n) = length-set x.channels from.0 _
lines_next tb x (Declined to a) = length-set x.channels to.0 _
lines_next tb x e = refl

-- a line after a record, by what it was: of Given, Taken, Heard and Declined one line is written
pub line_next : (tb : Table) (x : State) (e : Record) (k : ℕ) (gs ts : List Piece) → fits tb x e ≡ true → Line (channel x k) gs ts → Line (channel (apply tb x e) k) (gs ++ given_of k e) (ts ++ taken_of k e)
line_next tb x (Opened t) k gs ts f l = rw (append-nil gs, append-nil ts, (opened_beside (tb t.0) t x).channels) l
line_next tb x (Undone n) k gs ts f l = rw (append-nil gs, append-nil ts, (returned_beside (ticket_of x n.0) x).channels) l
line_next tb x (Given to n a p) k gs ts f l =
    rw (append-nil ts)
    (set_ind (λ k c. Line (channel x k) gs ts → Line c (gs ++ given_of k (Given to n a p)) ts) x.channels to.0 _ fresh (fits_given tb x to n a p f).there
    (λ l. rw (eq-eqb to.0 to.0 refl) (line_gave _ gs ts a.0 p l)) (λ k d l. rw (ne_eqb k to.0 d, append-nil gs) l) k l)
line_next tb x (Taken from n p) k gs ts f l =
    rw (append-nil gs, (received_beside tb x p).channels)
    (set_ind (λ k c. Line (channel x k) gs ts → Line c gs (ts ++ taken_of k (Taken from n p))) x.channels from.0 _ fresh (fits_taken tb x from n p f).there
    (λ l. rw (eq-eqb from.0 from.0 refl) (line_took _ gs ts p l)) (λ k d l. rw (ne_eqb k from.0 d, append-nil ts) l) k l)
line_next tb x (Heard from n) k gs ts f l =
    let (b, h) = fits_heard tb x from n f in
    rw (append-nil gs, append-nil ts)
    (set_ind (λ k c. Line (channel x k) gs ts → Line c gs ts) x.channels from.0 _ fresh b (line_heard _ gs ts n.0 h) (λ k d l. l) k l)
line_next tb x (Declined to a) k gs ts f l =
    rw (append-nil gs, append-nil ts)
    (set_ind (λ k c. Line (channel x k) gs ts → Line c gs ts) x.channels to.0 _ fresh (fits_declined tb x to a f).0 (line_declined _ gs ts a.0) (λ k d l. l) k l)
line_next tb x e k gs ts f l = rw (append-nil gs, append-nil ts) l

-- the number up to which a record acknowledges what was given to k
abbrev pub hears : ℕ → Record → ℕ
hears k (Heard from n) = cond (eqb k from.0) n.0 0
hears k e = 0

pub heard_next : (tb : Table) (x : State) (e : Record) (k : ℕ) → fits tb x e ≡ true → (channel (apply tb x e) k).heard ≤ max (channel x k).heard (hears k e)
heard_next tb x (Opened t) k f = rw (opened_beside (tb t.0) t x).channels (omega arith)
heard_next tb x (Undone n) k f = rw (returned_beside (ticket_of x n.0) x).channels (omega arith)
heard_next tb x (Given to n a p) k f = set_ind (λ k c. c.heard ≤ max (channel x k).heard 0) x.channels to.0 _ fresh (fits_given tb x to n a p f).there (omega arith) (λ k d. omega arith) k
heard_next tb x (Taken from n p) k f =
    rw (received_beside tb x p).channels (set_ind (λ k c. c.heard ≤ max (channel x k).heard 0) x.channels from.0 _ fresh (fits_taken tb x from n p f).there (omega arith) (λ k d. omega arith) k)
heard_next tb x (Heard from n) k f =
    set_ind (λ k c. c.heard ≤ max (channel x k).heard (hears k (Heard from n))) x.channels from.0 _ fresh (fits_heard tb x from n f).0 (rw (eq-eqb from.0 from.0 refl) (omega arith)) (λ k d. omega arith) k
heard_next tb x (Declined to a) k f = set_ind (λ k c. c.heard ≤ max (channel x k).heard 0) x.channels to.0 _ fresh (fits_declined tb x to a f).0 (omega arith) (λ k d. omega arith) k
heard_next tb x e k f = omega arith

-- ---- the slots and the words

-- a piece put back or taken out writes one word
word_sound : (x : State) (i v : ℕ) → Sound x → Sound (with_words x (set x.words i v))
word_sound x i v h = record { slots = h.slots; words = length-set x.words i v ∙ h.words; unique = h.unique }

pub sound_next : (tb : Table) (x : State) (e : Record) → fits tb x e ≡ true → Sound x → Sound (apply tb x e)
sound_next tb x (Opened t) f h = go (tb t.0) (fits_opened tb x t f)
  where
    go : (o : Option Row) → (is_some o ≡ true) × (known x t ≡ false) × (place_of x.slots None < length x.slots) → Sound (opened o t x)
    go None g = h
    go (Some r) (_, k, l) = opened_sound x h t r (or_parts (is_open x t) (was_closed x t) k).0 l
sound_next tb x (Closed t) f h = closing_sound x h t f
sound_next tb x (Sold n p) f h = altered_sound less x (place x p.train) (seats_of p) p.trip.from.0 p.trip.to.0 h
sound_next tb x (Undone n) f h = go (ticket_of x n.0)
  where
    go : (y : Option Party) → Sound (returned y x)
    go (Some p) = altered_sound plus x (place x p.train) (seats_of p) p.trip.from.0 p.trip.to.0 h
    go None = h
sound_next tb x (Taken from n p) f h = go (received_by tb x p (fits_taken tb x from n p f).listed (fits_taken tb x from n p f).room)
  where
    go : {y : State} → Received tb x p y → Sound y
    go (shut c) = h
    go (there c o) = word_sound x _ _ h
    go (anew r is c o l) = word_sound (opened (Some r) p.train x) _ _ (opened_sound x h p.train r o l)
sound_next tb x (Given to n a p) f h = word_sound x _ _ h
sound_next tb x e f h = h
