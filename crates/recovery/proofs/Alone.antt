-- One station alone: what it sold and gave was held, and whatever comes, it goes on.
use Rattle.std.proofs.Common.{◌≡◌, ℕ, ◌<◌, Bool, true, false, cond, ltb, List, [], ◌∷◌, fold, Ok, Err, Result, refl, sym, ◌∙◌, arith}
use Rattle.asking.specs.Events.{event_of}
use Rattle.asking.specs.Replies.{minded, spoken}
use Rattle.asking.specs.declared.event.Event.{Event}
use Rattle.asking.specs.declared.event.Event.TheVariants.{Call, Answered as WasAnswered, Told as WasTold, Tick, Garbled}
use Rattle.giving.specs.declared.ids.StationId.{StationId}
use Rattle.giving.specs.declared.message.Body.{Body}
use Rattle.giving.specs.declared.message.Body.TheVariants.{Given as WasGiven, Taken as WasTaken, Asked as WasAsked, Answered, Told}
use Rattle.lines.specs.Bytes.{AreBytes, SoundBody}
use Rattle.lines.specs.Laws as lines
use Rattle.lines.specs.Reading.{message}
use Rattle.lines.specs.declared.fault.Fault.{Fault}
use Rattle.network.proofs.Fine.{fine_first}
use Rattle.network.proofs.Held.{Sound, in_out, in_out_all}
use Rattle.network.proofs.Local.{fits_given, fits_sold}
use Rattle.network.proofs.Moves.{sound_next}
use Rattle.network.proofs.Count.{count_cons, count_nil}
use Rattle.receiving.specs.Incoming.{event_read, incoming, sender}
use Rattle.recovery.proofs.Journals.{did_stands, fit_join}
use Rattle.recovery.specs.Alone.{Alone, GoesOn, OnlyHeld, TakesHeld, TurnsAway}
use Rattle.recovery.specs.Runs.{Typed, handled, led}
use Rattle.state.proofs.Opens.{listed_seat}
use Rattle.state.specs.Changes.{all_fit, apply, fits}
use Rattle.state.specs.States.{State, begun}
use Rattle.state.specs.declared.record.Record.{Record}
use Rattle.state.specs.declared.record.Record.TheVariants.{Opened, Closed, Sold, Undone, Given, Taken, Heard, Asked, Declined}
use Rattle.std.proofs.lemmas.Bool.{and_parts, ltb-true}
use Rattle.timetable.specs.Rows.{Table}

-- ---- what was sold and given was held

sound_all : (tb : Table) (s : State) (es : List Record) → all_fit tb s es ≡ true → Sound s → Sound (fold (apply tb) s es)
sound_all tb s [] f h = h
sound_all tb s (e ∷ es) f h =
    let (a, b) = and_parts (fits tb s e) (all_fit tb (apply tb s e) es) f in
    sound_all tb (apply tb s e) es b (sound_next tb s e a h)

takes_held : (tb : Table) (x : State) (e : Record) → Sound x → fits tb x e ≡ true → TakesHeld tb x e
takes_held tb x (Sold k p) h f = let g = fits_sold tb x k p f in λ t s u l. in_out_all t s u l x p h g.«open» g.held
takes_held tb x (Given to k a p) h f =
    let g = fits_given tb x to k a p f in
    λ t s u l. omega (arith, in_out t s u l x p h g.«open» (listed_seat (tb p.train.0) p g.listed) g.held, count_cons t s u p [], count_nil t s u)
takes_held tb x (Opened t) h f = tt
takes_held tb x (Closed t) h f = tt
takes_held tb x (Undone k) h f = tt
takes_held tb x (Taken from k p) h f = tt
takes_held tb x (Heard from k) h f = tt
takes_held tb x (Asked a) h f = tt
takes_held tb x (Declined to a) h f = tt

only_held : OnlyHeld
only_held n i tb xs ys e d =
    let s = begun n i in
    let x = led n i tb xs in
    let (a, b) = and_parts (all_fit tb s xs) (all_fit tb x (e ∷ ys)) (sym (fit_join tb s xs (e ∷ ys)) ∙ (did_stands n i d).1) in
    let (f, g) = and_parts (fits tb x e) (all_fit tb (apply tb x e) ys) b in
    takes_held tb x e (sound_all tb s xs a (fine_first n tb i).sound) f

-- ---- whatever comes

sender_below : (me from : ℕ) → me < 256 → (sender me from).0 < 256
sender_below me from l = go (ltb from 256) refl
  where
    go : (b : Bool) → ltb from 256 ≡ b → (cond {A = StationId} b (record { 0 = from }) (record { 0 = me })).0 < 256
    go true e = ltb-true from 256 e
    go false e = l

-- what was said has numbers that fit their types
pub typed_body : (k : StationId) (b : Body) → k.0 < 256 → SoundBody b → Typed (event_of k b)
typed_body k (WasGiven n p) l h = (l, h.0, h.1)
typed_body k (WasTaken n) l h = (l, h)
typed_body k (WasAsked a d) l h = (l, h.1, h.0)
typed_body k (Answered a m) l h = (l, h.0, h.1)
typed_body k (Told t y) l h = (l, h.0, h.1, h.2)

typed_read : (k : StationId) (x : Result Body Fault) → k.0 < 256 → ((b : Body) → x ≡ Ok b → SoundBody b) → Typed (event_read k x)
typed_read k (Err f) l h = tt
typed_read k (Ok b) l h = typed_body k b l (h b refl)

-- what comes has numbers that fit their types
pub typed_incoming : lines.ReadIsWritten → (me from : ℕ) (bs : List ℕ) → me < 256 → AreBytes bs → Typed (incoming me from bs)
typed_incoming back me from bs l h = typed_read (sender me from) (message bs) (sender_below me from l) (λ b e. (back bs b h e).0)

goes_on : lines.ReadIsWritten → GoesOn
goes_on back n i tb es l d m from bs h = handled d m (incoming i from bs) (typed_incoming back i from bs l h)

-- ---- what is turned away

turns_away : TurnsAway
turns_away tb s m from bs r e = rw e (refl, quiet (incoming s.me from bs), silent (incoming s.me from bs))
  where
    quiet : (e : Event) → minded s m e (Err r) ≡ m
    quiet (Call i) = refl
    quiet (WasAnswered k a n) = refl
    quiet (WasTold k t y) = refl
    quiet Tick = refl
    quiet Garbled = refl

    silent : (e : Event) → spoken tb s m e (Err r) ≡ []
    silent (Call i) = refl
    silent (WasAnswered k a n) = refl
    silent (WasTold k t y) = refl
    silent Tick = refl
    silent Garbled = refl

pub alone : lines.ReadIsWritten → Alone
alone back = (only_held, goes_on back, turns_away)
