-- What a station says has bytes: each of its numbers fits.
-- Assumes nothing.
use Rattle.std.proofs.Common.{◌≡◌, ℕ, suc, ◌*◌, ◌<◌, ◌≤◌, ◌^◌, true, false, not, eqb, leb, ◌||◌, List, [], ◌∷◌, ◌++◌, length, drop, Some, None, Option, Ok, Err, fold, sym, refl, ◌∙◌, subst, arith, length-take}
use Rattle.asking.proofs.Listed.{Listed, trains_each}
use Rattle.asking.proofs.OrderRises.{each_by}
use Rattle.asking.specs.Events.{Response, resolved}
use Rattle.asking.specs.Minds.{Inquiry, Mind, advanced}
use Rattle.asking.specs.Replies.{after_ask, lasting, minded, query, spoken, written}
use Rattle.asking.specs.Ticks.{reminder, reminders, reminders_to, tally_by, telling, tellings, tellings_to, ticked}
use Rattle.asking.specs.Turns.{open_trains, others}
use Rattle.asking.specs.declared.event.Event.{Event}
use Rattle.asking.specs.declared.event.Event.TheVariants.{Call, Answered, Tick}
use Rattle.asking.specs.declared.event.Reply.TheVariants.{Came, Asks, Noted, Ticked}
use Rattle.choosing.specs.Parties.{pieces_of}
use Rattle.files.specs.Bytes.{AllSound}
use Rattle.giving.specs.Channels.{line}
use Rattle.giving.specs.declared.ids.Ask.{Ask}
use Rattle.giving.specs.declared.ids.StationId.{StationId}
use Rattle.giving.specs.declared.message.Message.{Message}
use Rattle.ledger.specs.Decisions.{answered, entries, for_memory, gifts, given_by, notices, offers, reckoning, replies, settled}
use Rattle.ledger.specs.declared.input.Input.{Input}
use Rattle.ledger.specs.declared.input.Input.TheVariants.{Close, Sell, Undo, Give, Take, Hear, Grant}
use Rattle.ledger.specs.declared.input.Input.TheVariants as input
use Rattle.ledger.specs.declared.input.Outcome.{Outcome}
use Rattle.ledger.specs.declared.input.Outcome.TheVariants.{Done, Gave, Nothing, Passed}
use Rattle.lines.specs.Bytes.{SoundBody, SoundPiece}
use Rattle.network.proofs.Bridge.{all_append, all_cond, all_flat, all_mapped, any_all, ranged}
use Rattle.network.proofs.Fine.{me_next}
use Rattle.network.proofs.Slots.{place_reads}
use Rattle.pieces.specs.Memory.{train_at}
use Rattle.pieces.specs.Parts.{blank}
use Rattle.pieces.specs.Stretches.{covered}
use Rattle.pieces.specs.declared.names.Train.{Train}
use Rattle.pieces.specs.declared.piece.Piece.{Piece}
use Rattle.recovery.proofs.Sounding.{written_fits, written_sound_any}
use Rattle.recovery.specs.Runs.{Typed, TypedInput, led}
use Rattle.state.specs.Changes.{all_fit, apply}
use Rattle.state.specs.States.{State, begun, is_open, place}
use Rattle.state.specs.declared.record.Record.{Record}
use Rattle.std.proofs.lemmas.Bool.{cond_both, ltb-true}
use Rattle.std.proofs.lemmas.List.Elements.{All-get_or}
use Rattle.std.proofs.lemmas.List.Sums.{count_by-le-length}
use Rattle.std.specs.List.{AllByRecursion, range_with_len}
use Rattle.timetable.specs.Rows.{Table, stretches}
use Rattle.timetable.specs.declared.row.Row.{Row}
use Rattle.wire.proofs.Narrow.{Narrow, NarrowSlot, did_narrow, line_narrow, narrow_all}
use Rattle.wire.specs.Laws.{SaysSound}
use Rattle.wire.specs.Minds.{TypedInquiry, TypedMind}

me_all : (tb : Table) (x : State) (es : List Record) → (fold (apply tb) x es).me ≡ x.me
me_all tb x [] = refl
me_all tb x (e ∷ es) = me_all tb (apply tb x e) es ∙ me_next tb x e

-- what is said by station me
abbrev pub Fine : ℕ → Message → Type 0
Fine me x = (x.from.0 ≡ me) × SoundBody x.body

abbrev AllFine : ℕ → List Message → Type 0
AllFine me xs = AllByRecursion (Fine me) xs

-- ---- of what is given

notices_fine : (me : ℕ) (to : StationId) (a : Ask) (n : ℕ) (ps : List Piece) → AllSound (gifts to a n ps) → AllFine me (notices me to n ps)
notices_fine me to a n [] s = tt
notices_fine me to a n (p ∷ ps) s = ((refl, (s.0.1, s.0.3)), notices_fine me to a (suc n) ps s.1)

offers_fine : (me : ℕ) (o : Outcome) → AllSound (entries o) → AllFine me (offers me o)
offers_fine me (Gave to n a p) s = notices_fine me to a n.0 (pieces_of p) s
offers_fine me (Done e) s = tt
offers_fine me Nothing s = tt
offers_fine me (Passed r) s = tt

given_few : (o : Outcome) → given_by o ≤ 8
given_few (Gave to n a p) = omega (arith, p.few, length-take p.count p.seats)
given_few (Done e) = omega arith
given_few Nothing = omega arith
given_few (Passed r) = omega arith

-- ---- by the state afterwards

module _ (tb : Table) (x : State) (h : Narrow x) where
  replies_fine : (i : Input) (o : Outcome) → TypedInput i → AllSound (entries o) → AllFine x.me (replies x i o)
  replies_fine (Close z) o t s = tt
  replies_fine (Sell z) o t s = tt
  replies_fine (Undo n) o t s = tt
  replies_fine (Give to d) o t s = offers_fine x.me o s
  replies_fine (Take from n p) o t s = all_cond (Fine x.me) (answered o) _ (refl, (line_narrow x.channels from.0 h.lines).taken)
  replies_fine (Hear from n) o t s = tt
  replies_fine (input.Ask d) o t s = tt
  replies_fine (Grant from a d) o t s =
      cond_both (settled o) (offers x.me o ++ reckoning x.me from a (given_by o) ∷ []) [] (AllFine x.me)
      (λ _. all_append (Fine x.me) (offers x.me o) _ (offers_fine x.me o s) ((refl, (t.1, omega (arith, given_few o))), tt)) (λ _. tt)

  query_fine : (q : Option Inquiry) → TypedInquiry q → AllFine x.me (query x q)
  query_fine None t = tt
  query_fine (Some q) t = ((refl, (t, h.asked)), tt)

  -- ---- at a tick

  reminders_fine : AllFine x.me (reminders x)
  reminders_fine =
      all_flat (Fine x.me) (λ _. Unit {0}) (reminders_to x) (range_with_len 0 (length x.channels))
      (λ j _.
      let c = line x.channels j in
      let l = line_narrow x.channels j h.lines in
      all_mapped (Fine x.me) (λ k. k < length c.waiting) (reminder x x.me j) (range_with_len 0 (length c.waiting))
      (λ k b. (refl, (omega (arith, b, l.counted, l.given), All-get_or SoundPiece c.waiting k blank b l.waiting))) (ranged 0 _ _ (omega arith)))
      (any_all _)

  tally_few : (o : Option Row) (t : Train) → ((tally_by o x t).whole ≤ 400) × ((tally_by o x t).any ≤ 400)
  tally_few None t = (omega arith, omega arith)
  tally_few (Some r) t =
      let ws = train_at x.words (place x t) in
      let l = length-take 400 (drop (place x t * 400) x.words) in
      (omega (arith, l, count_by-le-length (λ w. covered w 0 (stretches r)) ws), omega (arith, l, count_by-le-length (λ w. not (eqb w 0)) ws))

  open_narrow : (t : Train) → is_open x t ≡ true → t.0 < 2 ^ 32
  open_narrow t o =
      let l = ltb-true (place x t) (length x.slots) o in
      subst NarrowSlot (place_reads x.slots (Some t) l) (All-get_or NarrowSlot x.slots (place x t) None l h.slots)

  tellings_fine : AllFine x.me (tellings tb x)
  tellings_fine =
      all_flat (Fine x.me) (λ _. Unit {0}) (tellings_to tb x) (others x.me (length x.channels))
      (λ j _. all_mapped (Fine x.me) (λ t. is_open x t ≡ true) (telling tb x x.me j) (open_trains tb x)
      (λ t o. let (a, b) = tally_few (tb t.0) t in (refl, (open_narrow t o, omega (arith, a), omega (arith, b))))
      (each_by (Listed tb x.slots) (λ t. is_open x t ≡ true) (λ t h. h.0) (open_trains tb x) (trains_each tb x)))
      (any_all _)

  ticked_fine : (k : ℕ) → AllFine x.me (ticked tb x k)
  ticked_fine k = all_append (Fine x.me) (reminders x) _ reminders_fine (cond_both (eqb k 0) (tellings tb x) [] (AllFine x.me) (λ _. tellings_fine) (λ _. tt))

-- ---- of events

-- what is still wanted is no more than was
advanced_typed : (q : Option Inquiry) (n : ℕ) → TypedInquiry q → TypedInquiry (advanced q n)
advanced_typed None n t = tt
advanced_typed (Some q) n t =
    cond_both (leb q.demand.people n || leb (length q.order) 1) None _ TypedInquiry (λ _. tt) (λ _. (t.0, t.1, t.2, omega (arith, t.3)))

module _ (tb : Table) (s : State) (m : Mind) (t : TypedMind m) where
  asked_typed : (i : Input) → TypedInput i → TypedInquiry (after_ask s m i).inquiry
  asked_typed (input.Ask d) y = y
  asked_typed i y = t

  spoken_fine : (e : Event) (r : Response) → Typed e → AllSound (written s r) → Narrow (lasting tb s r) → AllFine (lasting tb s r).me (spoken tb (lasting tb s r) (minded s m e r) e r)
  spoken_fine (Call i) (Ok (Came o)) d w h = replies_fine tb _ h i o d w
  spoken_fine (Call i) (Ok (Asks k)) d w h = query_fine tb _ h (after_ask s m i).inquiry (asked_typed i d)
  spoken_fine (Answered from a n) (Ok Noted) d w h = query_fine tb _ h (advanced m.inquiry n) (advanced_typed m.inquiry n t)
  spoken_fine Tick (Ok Ticked) d w h = ticked_fine tb _ h _
  spoken_fine e r d w h = tt

pub says_sound : SaysSound
says_sound n i tb es d m t e y r g =
    let s = led n i tb es in
    let w = written_sound_any tb s m e r y g in
    let me = me_all tb s (written s r) ∙ me_all tb (begun n i) es in
    each_by (Fine (lasting tb s r).me) (Fine i) (λ x h. (h.0 ∙ me, h.1)) _ (spoken_fine tb s m t e r y w (narrow_all tb s (written s r) w (fits r g) (did_narrow d)))
  where
    fits : (r : Response) → (for_memory r ≡ false → r ≡ resolved tb (led n i tb es) m e) → all_fit tb (led n i tb es) (written (led n i tb es) r) ≡ true
    fits (Ok o) g = subst (λ (x : Response). all_fit tb (led n i tb es) (written (led n i tb es) x) ≡ true) (sym (g refl)) (written_fits tb (led n i tb es) m e)
    fits (Err o) g = refl
