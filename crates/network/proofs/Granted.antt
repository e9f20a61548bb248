-- How an ask of another station is answered, and that the kept seat is not given away by it.
-- Assumes nothing.
use Rattle.std.proofs.Common.{◌≡◌, ℕ, zero, suc, ◌<◌, ◌≤◌, min, Bool, true, false, cond, eqb, ◌⊎◌, List, [], ◌∷◌, map, length, get_or, take, Some, None, Option, Ok, sym, refl, ap, ◌∙◌, subst, inl, inr, ⊎_elim, arith}
use Rattle.choosing.proofs.Lowest.{lowest_is, lowest_one}
use Rattle.choosing.specs.Choice.{beside, lowest}
use Rattle.choosing.specs.Parties.{party_of, seats_of, unused}
use Rattle.choosing.specs.declared.party.Party.{Party}
use Rattle.giving.specs.Calls.{next_number, room}
use Rattle.giving.specs.Channels.{Chan, all_waiting, line, other}
use Rattle.giving.specs.declared.ids.Ask.{Ask}
use Rattle.giving.specs.declared.ids.StationId.{StationId}
use Rattle.ledger.specs.Decisions.{Answer, after, answering, decided, granting, heeded}
use Rattle.ledger.specs.declared.input.Input.TheVariants.{Grant}
use Rattle.ledger.specs.declared.input.Outcome.TheVariants.{Gave}
use Rattle.network.proofs.Alone.{way, Judged, wrong, closed, right, judges, chosen_of, seated_of, drawn_covers, given_parts}
use Rattle.network.proofs.Count.{count_nil, count_cons}
use Rattle.network.proofs.Held.{in_shut, one_there}
use Rattle.network.proofs.Known.{known_all}
use Rattle.network.proofs.Linked.{Intact, ok_reach}
use Rattle.network.proofs.Sales.{has_sold_all}
use Rattle.network.specs.Answers.{Wanted, words_of, beside_kept, sparing, SeatedOf, AskAnswer}
use Rattle.network.specs.Places.{count_in, holding}
use Rattle.network.specs.Promises.{Grants, Keeps}
use Rattle.network.specs.Falls.{Reach}
use Rattle.network.specs.Worlds.{World, state}
use Rattle.pieces.proofs.Anything.{something}
use Rattle.pieces.proofs.Bitwise.{holds_zero}
use Rattle.pieces.specs.Parts.{piece_of}
use Rattle.pieces.specs.Stretches.{Covers}
use Rattle.pieces.specs.declared.demand.Demand.{Demand}
use Rattle.pieces.specs.declared.names.Seat.{Seat}
use Rattle.pieces.specs.declared.names.Train.{Train}
use Rattle.pieces.specs.declared.trip.Trip.{Trip}
use Rattle.state.specs.States.{State, is_open, has_sold, kept}
use Rattle.std.proofs.lemmas.Bool.{both_ways, cases_Bool, cases_eq, cases_lt, cond_both, cond-true, eq-eqb, le-ltb, lt-ltb}
use Rattle.timetable.specs.Rows.{Table}
use Rattle.timetable.specs.declared.row.Row.{Row}

-- ---- the words beside the kept seat

nothing_covers : (a b : ℕ) → a < b → Covers 0 a b → ⊥
nothing_covers a b h c = both_ways _ (holds_zero a) (c a (omega arith) h)

-- they cover a span only where those of what is held do
beside_covers : (q : Option Seat) (f : ℕ → ℕ) (a b k : ℕ) → a < b → Covers (beside q f k) a b → Covers (f k) a b
beside_covers None f a b k h c = c
beside_covers (Some s) f a b k h c = cond_both (eqb k s.0) 0 (f k) (λ (v : ℕ). Covers v a b → Covers (f k) a b) (λ _ z. absurd (nothing_covers a b h z)) (λ _ z. z) c

-- ---- how an ask is answered

module _ (n : ℕ) (tb : Table) (w : World) (reach : Reach n tb w) (i : ℕ) (l : i < n) (from : StationId) (a : Ask) (d : Demand) where
  abbrev x : State
  x = state n tb w i

  abbrev cs : List Chan
  cs = x.channels

  abbrev Is : Answer → Type 0
  Is o = AskAnswer tb x from a d o

  ok : Intact n tb w
  ok = ok_reach n tb reach

  -- a later ask than all before, of a station that is there, is answered
  turn : (j : Option (Row × Trip)) → Wanted (tb d.train.0) d → (other x.me cs from.0 ≡ true → (line cs from.0).answered < a.0 → answering x from a d j ≡ granting x from a d j → Is (granting x from a d j)) → Is (answering x from a d j)
  turn j h k = by (other x.me cs from.0) refl (cases_lt (line cs from.0).answered a.0)
    where
      by : (b : Bool) → other x.me cs from.0 ≡ b → ((line cs from.0).answered < a.0) ⊎ (a.0 ≤ (line cs from.0).answered) → Is (answering x from a d j)
      by false g c = rw g (AskAnswer.nobody h g)
      by true g (inr c) = rw (g, le-ltb (line cs from.0).answered a.0 c) (AskAnswer.late h g c)
      by true g (inl c) = let e : answering x from a d j ≡ granting x from a d j = rw (g, lt-ltb (line cs from.0).answered a.0 c) refl in subst Is (sym e) (k g c e)

  grant : Is (decided tb x (Grant from a d))
  grant = go (judges tb x (known_all n tb reach i) d)
    where
      go : Judged tb x (known_all n tb reach i) d → Is (decided tb x (Grant from a d))
      go (wrong v e) = rw e (AskAnswer.malformed v)
      go (closed h o e) = subst Is (sym (ap (λ j. heeded j (answering x from a d)) e)) (turn None h (λ g c _. AskAnswer.shut h g c o))
      go (right h o r is low e) = subst Is (sym met_is) (turn (Some (r, t)) h (λ g c u. places g c u (cases_lt (all_waiting cs) 4096) (cases_lt (line cs from.0).given 4294967295) (cases_lt 0 (sparing x d))))
        where
          t : Trip
          t = way d h.ordered low

          met_is : decided tb x (Grant from a d) ≡ answering x from a d (Some (r, t))
          met_is = ap (λ j. heeded j (answering x from a d)) e

          like : (k : ℕ) → k < 400 → Covers (beside_kept x d k) d.from.0 d.to.0 → Covers (words_of x d.train k) d.from.0 d.to.0
          like k u c = beside_covers (kept x d.train) (words_of x d.train) d.from.0 d.to.0 k h.ordered c

          k : ℕ
          k = min d.people (room cs from.0)

          p : Party
          p = party_of d.train t (chosen_of n tb w ok i l d h.ordered r is (beside_kept x d) like k)

          seats : SeatedOf (beside_kept x d) d (min k (sparing x d)) p
          seats = seated_of n tb w ok i l d h.ordered r is (beside_kept x d) like k (omega (arith, h.few)) low

          places : other x.me cs from.0 ≡ true → (line cs from.0).answered < a.0 → answering x from a d (Some (r, t)) ≡ granting x from a d (Some (r, t))
              → (all_waiting cs < 4096) ⊎ (4096 ≤ all_waiting cs) → ((line cs from.0).given < 4294967295) ⊎ (4294967295 ≤ (line cs from.0).given) → (0 < sparing x d) ⊎ (sparing x d ≤ 0)
              → Is (granting x from a d (Some (r, t)))
          places g c u (inr q) m v = rw (le-ltb (all_waiting cs) 4096 q) (AskAnswer.full h g c o (omega (arith, q)))
          places g c u (inl q) (inr m) v = rw (lt-ltb (all_waiting cs) 4096 q, le-ltb (line cs from.0).given 4294967295 m) (AskAnswer.full h g c o (omega (arith, m)))
          places g c u (inl q) (inl m) (inr v) =
              rw (lt-ltb (all_waiting cs) 4096 q, lt-ltb (line cs from.0).given 4294967295 m, le-ltb 0 (length (seats_of p)) (omega (arith, seats.all, v))) (AskAnswer.none h g c o (omega (arith, q, m)) (omega (arith, v)))
          places g c u (inl q) (inl m) (inl v) =
              let b : 0 < room cs from.0 = omega (arith, q, m) in
              let made : granting x from a d (Some (r, t)) ≡ Ok (Gave from (next_number cs from.0) a p) =
              rw (lt-ltb (all_waiting cs) 4096 q, lt-ltb (line cs from.0).given 4294967295 m, lt-ltb 0 (length (seats_of p)) (omega (arith, seats.all, v, b, h.someone))) refl in
              subst Is (sym made) (AskAnswer.gives h g c o b v p seats (given_parts n tb w reach i l d (Grant from a d) from _ a p (met_is ∙ u ∙ made)))

pub grants : Grants
grants n tb w reach i from a d l = grant n tb w reach i l from a d

-- ---- the kept seat

-- it is the lowest of which anything is held, where any of the train was ever sold
kept_is : (x : State) (t : Train) (s u : ℕ) → has_sold x t ≡ true → s < 400 → holding t s u x ≡ true → ((k v : ℕ) → k < s → holding t k v x ≡ false) → kept x t ≡ Some (record { 0 = s })
kept_is x t s u m l h low = cond-true (has_sold x t) (lowest f 400) None m ∙ lowest_one f 400 (lowest f 400) (Some (record { 0 = s })) (lowest_is f 400) (l, (something (f s)).1 u h, below)
  where
    f : ℕ → ℕ
    f = words_of x t

    below : (k : ℕ) → k < s → words_of x t k ≡ 0
    below k b = ⊎_elim (λ e. e) (λ e. let (v, g) = (something (words_of x t k)).0 e in absurd (both_ways _ (low k v b) g)) (cases_eq (words_of x t k) 0)

-- pieces of other seats have nothing of it
seats_apart : (t : Train) (s u : ℕ) → s < 400 → (z : Train) (r : Trip) (ss : List Seat) → ((k : ℕ) → k < length ss → s ≡ (get_or ss k unused).0 → ⊥) → count_in t s u (map (λ y. piece_of z y r) ss) ≡ 0
seats_apart t s u l z r [] h = count_nil t s u
seats_apart t s u l z r (y ∷ ss) h =
    omega (arith, count_cons t s u (piece_of z y r) (map (λ v. piece_of z v r) ss), one_there t s u l (piece_of z y r) (λ (_, e). h zero (omega arith) e), seats_apart t s u l z r ss (λ k b. h (suc k) (omega arith)))

-- none of the seats that are chosen beside it is that one
beside_apart : (q : Option Seat) (f : ℕ → ℕ) (d : Demand) (m : ℕ) (p : Party) (s : ℕ) → d.from.0 < d.to.0 → q ≡ Some (record { 0 = s }) → SeatedOf (beside q f) d m p → (k : ℕ) → k < length (seats_of p) → s ≡ (get_or (seats_of p) k unused).0 → ⊥
beside_apart q f d m p s o e h k l g =
    let y = (get_or (seats_of p) k unused).0 in
    let c : Covers (beside q f y) d.from.0 d.to.0 = drawn_covers (beside q f) d.from.0 d.to.0 (take k (seats_of p)) y o (h.each k (omega (arith, l, h.all))).covers in
    let z : beside q f y ≡ 0 = ap (λ r. beside r f y) e ∙ cond-true (eqb y s) 0 (f y) (eq-eqb y s (sym g)) in
    nothing_covers d.from.0 d.to.0 o (subst (λ (v : ℕ). Covers v d.from.0 d.to.0) z c)

same_bit : (b c : Bool) → cond {A = ℕ} b 1 0 ≡ cond c 1 0 → c ≡ b
same_bit b c h = grind arith

pub keeps : Keeps
keeps n tb w reach i from a d l sold s u ls h low v = go (decided tb x (Grant from a d)) (grant n tb w reach i l from a d)
  where
    x : State
    x = state n tb w i

    «open» : is_open x d.train ≡ true
    «open» = ⊎_elim (λ o. o) (λ o. absurd (omega (arith, in_shut d.train s u ls x ((ok_reach n tb reach).fine i).sound o, ap (λ (b : Bool). cond {A = ℕ} b 1 0) h))) (cases_Bool (is_open x d.train))

    is : kept x d.train ≡ Some (record { 0 = s })
    is = kept_is x d.train s u (has_sold_all n tb reach i d.train «open» sold) ls h low

    go : (o : Answer) → AskAnswer tb x from a d o → holding d.train s v (after tb x o) ≡ holding d.train s v x
    go o (AskAnswer.malformed _) = refl
    go o (AskAnswer.nobody _ _) = refl
    go o (AskAnswer.late _ _ _) = refl
    go o (AskAnswer.shut _ _ _ _) = refl
    go o (AskAnswer.full _ _ _ _ _) = refl
    go o (AskAnswer.none _ _ _ _ _ _) = refl
    go o (AskAnswer.gives g _ _ _ _ _ p m split) =
        same_bit (holding d.train s v x) (holding d.train s v (after tb x o))
        (omega (arith, split d.train s v ls, seats_apart d.train s v ls p.train p.trip (seats_of p) (beside_apart (kept x d.train) (words_of x d.train) d _ p s g.ordered is m)))
