-- Asks of other stations: each is answered once, and the answer says what was given for it.
-- Assumes nothing.
use Rattle.std.proofs.Common.{◌≡◌, ℕ, zero, suc, ◌+◌, ◌<◌, ◌≤◌, true, false, cond, eqb, List, [], ◌∷◌, ◌++◌, length, get_or, fold, Some, None, Option, sym, refl, ap, subst, arith, get_or-set_same}
use mathlib.Core.List.{Memᴰ}
use Rattle.giving.specs.Channels.{Chan, fresh, gave, declined, other}
use Rattle.giving.specs.declared.ids.Ask.{Ask}
use Rattle.giving.specs.declared.ids.StationId.{StationId}
use Rattle.giving.specs.declared.message.Body.{Body}
use Rattle.giving.specs.declared.message.Body.TheVariants as body
use Rattle.giving.specs.declared.message.Message.{Message}
use Rattle.giving.specs.declared.refusal.Refusal.TheVariants.{NoSuchStation}
use Rattle.asking.specs.Replies.{request}
use Rattle.asking.specs.Ticks.{reminder, telling}
use Rattle.network.proofs.Linked.{Intact, ok_unfallen, every, wrote_ind, wrote_state}
use Rattle.network.proofs.Lists.{set_ind, all_mem}
use Rattle.network.proofs.Local.{fits_given, fits_declined, fits_heard, fits_taken}
use Rattle.network.proofs.Moves.{opened_beside, returned_beside, received_beside}
use Rattle.network.proofs.Unfallen.{Unfallen, untouched, stepped, unfallen}
use Rattle.network.specs.Falls.{Reach}
use Rattle.ledger.proofs.Decided.{heeded_by, unless_by}
use Rattle.ledger.specs.Decisions.{Answer, after, answering, messages, records}
use Rattle.ledger.specs.declared.input.Input.TheVariants.{Grant}
use Rattle.network.specs.Promises.{AnswersOnce, AnswersTrue, Settles}
use Rattle.network.specs.Worlds.{World, journal, state, channel, Backed, wrote, spoke, account, settlement, is_gift, given_for, Step, writes, reminds, accounts, asks, answers, tells, beginning}
use Rattle.state.specs.Changes.{apply, fits}
use Rattle.pieces.specs.Parts.{trip_from}
use Rattle.pieces.specs.declared.demand.Demand.{Demand}
use Rattle.pieces.specs.declared.trip.Trip.{Trip}
use Rattle.state.specs.States.{State, begun, is_open, ticket_of}
use Rattle.state.specs.declared.record.Record.{Record}
use Rattle.state.specs.declared.record.Record.TheVariants.{Opened, Closed, Sold, Undone, Given, Taken, Heard, Asked, Declined}
use Rattle.std.proofs.lemmas.Bool.{and_parts, eqb-true, false_from_ne_true, le-ltb}
use Rattle.std.proofs.lemmas.List.Elements.{All-nil, All-head, All-tail, All-weaker, All-push}
use Rattle.std.proofs.lemmas.List.Sums.{fold_push, sum_by-append, sum_by-cons}
use Rattle.std.specs.List.{All}
use Rattle.timetable.specs.Rows.{Table}
use Rattle.timetable.specs.declared.row.Row.{Row}

-- ---- the last ask that was answered is never an earlier one than before

pub answered_next : (tb : Table) (x : State) (e : Record) (k : ℕ) → fits tb x e ≡ true → (channel x k).answered ≤ (channel (apply tb x e) k).answered
answered_next tb x (Opened t) k f = rw (opened_beside (tb t.0) t x).channels (omega arith)
answered_next tb x (Undone n) k f = rw (returned_beside (ticket_of x n.0) x).channels (omega arith)
answered_next tb x (Given to n a p) k f = set_ind (λ k c. (channel x k).answered ≤ c.answered) x.channels to.0 _ fresh (fits_given tb x to n a p f).there (omega arith) (λ k d. omega arith) k
answered_next tb x (Taken from n p) k f =
    rw (received_beside tb x p).channels (set_ind (λ k c. (channel x k).answered ≤ c.answered) x.channels from.0 _ fresh (fits_taken tb x from n p f).there (omega arith) (λ k d. omega arith) k)
answered_next tb x (Heard from n) k f = set_ind (λ k c. (channel x k).answered ≤ c.answered) x.channels from.0 _ fresh (fits_heard tb x from n f).0 (omega arith) (λ k d. omega arith) k
answered_next tb x (Declined to a) k f = let (b, h) = fits_declined tb x to a f in set_ind (λ k c. (channel x k).answered ≤ c.answered) x.channels to.0 _ fresh b (omega (arith, h)) (λ k d. omega arith) k
answered_next tb x e k f = omega arith

-- ---- the asks that a journal has answered

-- the ask of a record is not later than the last that was answered
abbrev pub Settled : State → Record → Type 0
Settled x (Given to n a p) = a.0 ≤ (channel x to.0).answered
Settled x (Declined to a) = a.0 ≤ (channel x to.0).answered
Settled x e = Unit {0}

module _ (tb : Table) (x : State) (e : Record) (f : fits tb x e ≡ true) where
  settled_on : (d : Record) → Settled x d → Settled (apply tb x e) d
  settled_on (Given to n a p) h = omega (arith, h, answered_next tb x e to.0 f)
  settled_on (Declined to a) h = omega (arith, h, answered_next tb x e to.0 f)
  settled_on d h = tt

settled_new : (tb : Table) (x : State) (e : Record) → fits tb x e ≡ true → Settled (apply tb x e) e
settled_new tb x (Given to n a p) f = omega (arith, ap (λ (c : Chan). c.answered) (get_or-set_same x.channels to.0 (gave (channel x to.0) a.0 p) fresh (fits_given tb x to n a p f).there))
settled_new tb x (Declined to a) f = omega (arith, ap (λ (c : Chan). c.answered) (get_or-set_same x.channels to.0 (declined (channel x to.0) a.0) fresh (fits_declined tb x to a f).0))
settled_new tb x e f = tt

pub settled_all : (n : ℕ) (tb : Table) {w : World} → Reach n tb w → (i : ℕ) → All (Settled (state n tb w i)) (journal w i)
settled_all n tb r i =
    every n tb (λ i js. All (Settled (fold (apply tb) (begun n i) js)) js) (λ i. All-nil (Settled (begun n i)))
    (λ i js e sound f h.
    let x = fold (apply tb) (begun n i) js in
    rw (fold_push (apply tb) (begun n i) js e) (All-push (Settled (apply tb x e)) js e (All-weaker (Settled x) (Settled (apply tb x e)) (settled_on tb x e f) js h) (settled_new tb x e f))) r i

-- ---- what a journal gives for an ask

gift_later : (x : State) (j : StationId) (a : Ask) (e : Record) → Settled x e → (channel x j.0).answered < a.0 → is_gift j a e ≡ false
gift_later x j a (Given to n b p) h l =
    false_from_ne_true (is_gift j a (Given to n b p)) (λ g.
    let (u, v) = and_parts (eqb to.0 j.0) (eqb b.0 a.0) g in
    let k : (channel x j.0).answered ≡ (channel x to.0).answered = ap (λ (z : ℕ). (channel x z).answered) (sym (eqb-true to.0 j.0 u)) in
    absurd (omega (arith, h, l, k, eqb-true b.0 a.0 v)))
gift_later x j a e h l = refl

-- nothing was given for an ask that is later than all that were answered
pub none_later : (x : State) (js : List Record) (j : StationId) (a : Ask) → All (Settled x) js → (channel x j.0).answered < a.0 → given_for j a js ≡ 0
none_later x [] j a h l = refl
none_later x (e ∷ js) j a h l =
    omega (arith, sum_by-cons (λ d. cond {A = ℕ} (is_gift j a d) 1 0) e js, ap (λ b. cond {A = ℕ} b 1 0) (gift_later x j a e (All-head (Settled x) e js h) l), none_later x js j a (All-tail (Settled x) e js h) l)

pub given_push : (j : StationId) (a : Ask) (js : List Record) (e : Record) → given_for j a (js ++ e ∷ []) ≡ given_for j a js + cond (is_gift j a e) 1 0
given_push j a js e = let f = λ (d : Record). cond {A = ℕ} (is_gift j a d) 1 0 in omega (arith, sum_by-append f js (e ∷ []), sum_by-cons f e [])

-- ---- what an answer says is what was given

mem_at : {A : Type 0} (xs : List A) (k : ℕ) (d : A) → k < length xs → Memᴰ (get_or xs k d) xs
mem_at [] k d l = absurd (omega arith)
mem_at (x ∷ xs) zero d l = Memᴰ.head refl
mem_at (x ∷ xs) (suc k) d l = Memᴰ.tail (mem_at xs k d (omega arith))

-- an answer is to an ask that was answered, and says how many pieces were given for it
abbrev pub Sums : (n : ℕ) → Table → World → ℕ → StationId → Body → Type 0
Sums n tb w i j (body.Answered a m) = (1 ≤ a.0) × (a.0 ≤ (channel (state n tb w i) j.0).answered) × (given_for j a (journal w i) ≡ m)
Sums n tb w i j b = Unit {0}

abbrev pub Sum : (n : ℕ) → Table → World → Message → Type 0
Sum n tb w m = Sums n tb w m.from.0 m.to m.body

module _ (n : ℕ) (tb : Table) where
  more_summed : (w : World) (m : Message) → All (Sum n tb w) w.said → Sum n tb w m → All (Sum n tb (spoke w m)) (spoke w m).said
  more_summed w m h s = All-push (Sum n tb w) w.said m h s

  -- no piece is given for an ask whose answer was said
  none_more : (w : World) (i : ℕ) (e : Record) (j : StationId) (a : Ask) (m : ℕ) → Backed w.said i e → Memᴰ (record { from = record { 0 = i }; to = j; body = body.Answered a m }) w.said → is_gift j a e ≡ false
  none_more w i (Given to k b p) j a m t h =
      false_from_ne_true (is_gift j a (Given to k b p)) (λ g.
      let (u, v) = and_parts (eqb to.0 j.0) (eqb b.0 a.0) g in
      let c : Memᴰ (record { from = record { 0 = i }; to = to; body = body.Answered b m }) w.said = rw (eqb-true to.0 j.0 u, eqb-true b.0 a.0 v) h in
      t m c)
  none_more w i e j a m t h = refl

  summed_step : {w v : World} → Step n tb w v → Intact n tb w → All (Sum n tb w) w.said → All (Sum n tb v) v.said
  summed_step (writes w i e l t f) ok h = λ k d u. let m = get_or w.said k d in still m.from.0 m.to m.body (h k d u) (mem_at w.said k d u)
    where
      b : i < length w.journals
      b = omega (arith, ok.count)

      still : (k : ℕ) (j : StationId) (x : Body) → Sums n tb w k j x → Memᴰ (record { from = record { 0 = k }; to = j; body = x }) w.said → Sums n tb (wrote w i e) k j x
      still k j (body.Answered a m) (p, q, r) g = (
        p,
        wrote_state n tb w i e b (λ k x. a.0 ≤ (channel (state n tb w k) j.0).answered → a.0 ≤ (channel x j.0).answered) (λ h. omega (arith, h, answered_next tb (state n tb w i) e j.0 f)) (λ k h. h) k q,
        wrote_ind w i e b (λ k js. Memᴰ (record { from = record { 0 = k }; to = j; body = body.Answered a m }) w.said → given_for j a (journal w k) ≡ m → given_for j a js ≡ m)
            (λ g r. omega (arith, r, given_push j a (journal w i) e, ap (λ z. cond {A = ℕ} z 1 0) (none_more w i e j a m t g))) (λ k g r. r) k g r,
      )
      still k j x s g = tt
  summed_step (reminds w i j k l) ok h = more_summed w (reminder (state n tb w i) i j k) h tt
  summed_step (accounts w i j) ok h = more_summed w (account (state n tb w i) i j) h tt
  summed_step (asks w i j d) ok h = more_summed w (request (state n tb w i) i j d) h tt
  summed_step (answers w i j l) ok h = more_summed w (settlement (state n tb w i) (journal w i) i j) h (l, omega arith, refl)
  summed_step (tells w i j t o) ok h = more_summed w (telling tb (state n tb w i) i j t) h tt

  summed_unfallen : {w : World} → Unfallen n tb w → All (Sum n tb w) w.said
  summed_unfallen untouched = All-nil (Sum n tb (beginning n))
  summed_unfallen (stepped r s) = summed_step s (ok_unfallen n tb r) (summed_unfallen r)

  pub summed : {w : World} → Reach n tb w → All (Sum n tb w) w.said
  summed r = summed_unfallen (unfallen n tb r)

pub answers_true : AnswersTrue
answers_true n tb w reach i j a m h = (all_mem (Sum n tb w) h (summed n tb reach)).2

-- ---- an ask is answered once

-- the record at a place of a list
all_at : {A : Type 0} (P : A → Type 0) (xs ys : List A) (y : A) → All P (xs ++ y ∷ ys) → P y
all_at P [] ys y h = All-head P y ys h
all_at P (x ∷ xs) ys y h = all_at P xs ys y (All-tail P x (xs ++ y ∷ ys) h)

settles_is : (x : State) (e : Record) (j : StationId) (a : Ask) → Settled x e → Settles e j a → a.0 ≤ (channel x j.0).answered
settles_is x (Given to n b p) j a h (e, f) = omega (arith, h, ap (λ (c : Ask). c.0) f, ap (λ (c : StationId). (channel x c.0).answered) e)
settles_is x (Declined to b) j a h (e, f) = omega (arith, h, ap (λ (c : Ask). c.0) f, ap (λ (c : StationId). (channel x c.0).answered) e)
settles_is x (Opened t) j a h g = absurd g
settles_is x (Closed t) j a h g = absurd g
settles_is x (Sold k p) j a h g = absurd g
settles_is x (Undone k) j a h g = absurd g
settles_is x (Taken from k p) j a h g = absurd g
settles_is x (Heard from k) j a h g = absurd g
settles_is x (Asked b) j a h g = absurd g

-- nothing is written or said of it
abbrev Idle : Table → State → StationId → Ask → Demand → Answer → Type 0
Idle tb x j a d o = (records o ≡ []) × (messages (after tb x o) (Grant j a d) o ≡ [])

pub answers_once : AnswersOnce
answers_once n tb w reach i j a b d xs ys e is s l =
    heeded_by (Idle tb x j b d) (λ r. (refl, refl)) (tb d.train.0) (trip_from d.from d.to) d.people (is_open x d.train) (answering x j b d) (idle None) (λ r t _ _ _ _. idle (Some (r, t)))
  where
    x : State
    x = state n tb w i

    late : a.0 ≤ (channel x j.0).answered
    late = settles_is x e j a (all_at (Settled x) xs ys e (subst (All (Settled x)) is (settled_all n tb reach i))) s

    idle : (k : Option (Row × Trip)) → Idle tb x j b d (answering x j b d k)
    idle k = unless_by (Idle tb x j b d) (λ r. (refl, refl)) (other x.me x.channels j.0) NoSuchStation _ (λ _. rw (le-ltb (channel x j.0).answered b.0 (omega (arith, late, l))) (refl, refl))
