-- How a sale and a gift are answered, and that who has a seat for each of the people sells them.
-- Assumes nothing.
use Rattle.std.proofs.Common.{◌≡◌, ℕ, zero, suc, ◌+◌, ◌-◌, ◌<◌, ◌≤◌, min, Bool, true, false, cond, ◌⊎◌, List, [], ◌∷◌, length, get_or, take, is_some, fold, Some, None, Option, Ok, Err, sym, refl, ap, ◌∙◌, subst, inl, inr, ⊎_elim, arith}
use Rattle.choosing.proofs.Groups.{choices, group_length, group_most}
use Rattle.choosing.proofs.Parties.{party_seats}
use Rattle.choosing.proofs.Taken.{kept_word, not_taken}
use Rattle.choosing.specs.Choice.{Chosen, drawn_all, free, group}
use Rattle.choosing.specs.Parties.{pieces_of, party_of, seats_of, some as some_people, unused}
use Rattle.choosing.specs.declared.party.Party.{Party}
use Rattle.giving.specs.Calls.{next_number, room}
use Rattle.giving.specs.Channels.{all_waiting, line, other}
use Rattle.giving.specs.declared.ids.Ask.{Ask}
use Rattle.giving.specs.declared.ids.Number.{Number}
use Rattle.giving.specs.declared.ids.StationId.{StationId}
use Rattle.giving.specs.declared.ids.Ticket.{Ticket}
use Rattle.giving.specs.declared.refusal.Refusal.TheVariants.{Malformed, NotOpen, NothingHeld}
use Rattle.ledger.specs.Decisions.{Answer, after, decided, judged, judging, messages, offering, records, selling, gifts, met, unasked}
use Rattle.ledger.proofs.Decided.{outcome_fits}
use Rattle.pieces.specs.declared.demand.Demand.{Demand}
use Rattle.ledger.specs.declared.input.Input.{Input}
use Rattle.ledger.specs.declared.input.Input.TheVariants.{Sell, Give}
use Rattle.ledger.specs.declared.input.Outcome.TheVariants.{Done, Gave}
use Rattle.network.proofs.Count.{count_nil, count_cons}
use Rattle.network.proofs.Held.{Sound, in_word, in_out, in_out_all, in_shut}
use Rattle.network.proofs.Known.{known_all}
use Rattle.network.proofs.Linked.{Intact, ok_reach}
use Rattle.network.proofs.Local.{fits_given, fits_sold}
use Rattle.network.proofs.Moves.{sound_next}
use Rattle.network.proofs.Once.{somewhere}
use Rattle.network.proofs.Stock.{stock}
use Rattle.network.proofs.Sum.{sum_has}
use Rattle.network.specs.Answers.{HasStop, Wanted, words_of, covering, Seated, SeatedOf, Splits, SaleAnswer, GiftAnswer}
use Rattle.network.specs.Places.{count_in}
use Rattle.network.specs.Promises.{SellsAlone, Sells, Gives}
use Rattle.network.specs.Falls.{Reach}
use Rattle.network.specs.Worlds.{World, state}
use Rattle.pieces.proofs.Bitwise.{covered_decides}
use Rattle.pieces.proofs.Same.{trip_is, trip_none}
use Rattle.pieces.specs.Stretches.{Covers, covered}
use Rattle.pieces.specs.declared.names.Seat.{Seat}
use Rattle.pieces.specs.declared.names.Train.{Train}
use Rattle.pieces.specs.declared.piece.Piece.{Piece}
use Rattle.state.proofs.Opens.{listed_seat}
use Rattle.state.specs.Changes.{all_fit, apply, fits}
use Rattle.pieces.specs.declared.trip.Trip.{Trip}
use Rattle.state.specs.States.{State, is_open, sold, tickets_left}
use Rattle.state.specs.declared.record.Record.TheVariants.{Sold, Given}
use Rattle.std.proofs.lemmas.Bool.{and_parts, cases_Bool, cases_lt, le-leb, lt-leb, le-ltb, lt-ltb, true≢false, false≢true}
use Rattle.timetable.specs.Rows.{Table}
use Rattle.timetable.specs.declared.row.Row.{Row}

-- ---- how many seats cover a span

module _ (f : ℕ → ℕ) (a b : ℕ) where
  one_covers : (k : ℕ) → 1 ≤ cond {A = ℕ} (covered (f k) a b) 1 0 → Covers (f k) a b
  one_covers k h = (covered_decides (f k) a b).0 (go (covered (f k) a b) h)
    where
      go : (c : Bool) → 1 ≤ cond {A = ℕ} c 1 0 → c ≡ true
      go true l = refl
      go false l = absurd (omega arith)

  -- where there is one it is somewhere
  free_some : (m : ℕ) → 1 ≤ free f m a b → (k : ℕ) × (k < m) × Covers (f k) a b
  unfolding free
  free_some zero h = absurd (omega arith)
  free_some (suc m) h = ⊎_elim
      (λ l. let (k, u, c) = free_some m l in (k, omega (arith, u), c))
      (λ l. (m, omega arith, one_covers m (omega (arith, h, l))))
      (cases_from (free f m a b))
    where
      cases_from : (x : ℕ) → (1 ≤ x) ⊎ (x ≡ 0)
      cases_from zero = inr refl
      cases_from (suc x) = inl (omega arith)

  -- seats that do not cover it do not count
  free_same : (m n : ℕ) → n ≤ m → ((k : ℕ) → n ≤ k → k < m → Covers (f k) a b → ⊥) → free f m a b ≡ free f n a b
  unfolding free
  free_same zero n l h = let e : n ≡ 0 = omega arith in ap (λ (k : ℕ). free f k a b) (sym e)
  free_same (suc m) n l h = ⊎_elim
      (λ g. let e : n ≡ suc m = omega arith in ap (λ (k : ℕ). free f k a b) (sym e))
      (λ g. omega (arith, none (covered (f m) a b) refl g, free_same m n g (λ k u v. h k u (omega arith))))
      (cases_lt m n)
    where
      none : (c : Bool) → covered (f m) a b ≡ c → n ≤ m → cond {A = ℕ} c 1 0 ≡ 0
      none true e g = absurd (h m g (omega arith) ((covered_decides (f m) a b).0 e))
      none false e g = refl

-- what is taken out of some seats makes no other cover the span
pub drawn_covers : (f : ℕ → ℕ) (a b : ℕ) (ss : List Seat) (k : ℕ) → a < b → Covers (drawn_all f a b ss k) a b → Covers (f k) a b
drawn_covers f a b ss k l c = subst (λ (w : ℕ). Covers w a b) (kept_word ss f a b k (not_taken ss f a b k l c)) c

-- the choice among the first n is the choice among more, of which the others do not cover the span
chosen_wider : (g : ℕ → ℕ) (n m a b : ℕ) (s : Seat) → n ≤ m → ((k : ℕ) → n ≤ k → k < m → Covers (g k) a b → ⊥) → Chosen g n a b (Some s) → Chosen g m a b (Some s)
chosen_wider g n m a b s l h c =
    record { there = omega (arith, c.there); covers = c.covers; first = λ k u d v. ⊎_elim (λ q. c.first k q d v) (λ q. absurd (h k q u v)) (cases_lt k n) }

-- ---- a seat that is held is of a train that is open and has it

module _ (n : ℕ) (tb : Table) (w : World) (ok : Intact n tb w) (i : ℕ) (l : i < n) (z : Train) (a b : ℕ) (o : a < b) where
  abbrev pub here : State
  here = state n tb w i

  seat_open : (k : ℕ) → k < 400 → Covers (words_of here z k) a b → is_open here z ≡ true
  seat_open k u c =
      ⊎_elim (λ e. e)
      (λ e. absurd (omega (arith, in_shut z k a u here (ok.fine i).sound e, ap (λ x. cond {A = ℕ} x 1 0) (c a (omega arith) o))))
      (cases_Bool (is_open here z))

  seat_row : (k : ℕ) → k < 400 → Covers (words_of here z k) a b → (r : Row) × (tb z.0 ≡ Some r) × (k < r.seats) × (b < r.stops)
  seat_row k u c =
      let v = b - 1 in
      let (r, e, s, m) = somewhere n tb w ok z k v u (omega (arith, sum_has n i (λ j. stock n tb z k v u (state n tb w j)) l, ap (λ x. cond {A = ℕ} x 1 0) (c v (omega arith) (omega arith)))) in
      (r, e, s, omega (arith, m, o))

  none_past : (r : Row) → tb z.0 ≡ Some r → (k : ℕ) → r.seats ≤ k → k < 400 → Covers (words_of here z k) a b → ⊥
  none_past r e k g u c = let (q, f, s, _) = seat_row k u c in omega (arith, s, g, ap (λ x. x.seats) (same q (sym e ∙ f)))
    where
      same : (q : Row) → Some r ≡ Some q → r ≡ q
      same q h = cc

  -- the same of words that cover it only where those do
  module _ (g : ℕ → ℕ) (like : (k : ℕ) → k < 400 → Covers (g k) a b → Covers (words_of here z k) a b) (r : Row) (e : tb z.0 ≡ Some r) where
    pub counts : free g 400 a b ≡ free g r.seats a b
    counts = free_same g a b 400 r.seats r.few (λ k h u c. none_past r e k h u (like k u c))

    pub wider : (ss : List Seat) (s : Seat) → Chosen (drawn_all g a b ss) r.seats a b (Some s) → Chosen (drawn_all g a b ss) 400 a b (Some s)
    wider ss s c = chosen_wider (drawn_all g a b ss) r.seats 400 a b s r.few (λ k h u v. none_past r e k h u (like k u (drawn_covers g a b ss k o v))) c

-- ---- what is judged of a demand

abbrev pub way : (d : Demand) → d.from.0 < d.to.0 → d.to.0 < 30 → Trip
way d o near = record { from = d.from; to = d.to; ordered = o; near = near }

module _ (tb : Table) (x : State) (known : (t : Train) → is_open x t ≡ true → is_some (tb t.0) ≡ true) (d : Demand) where
  -- it is wrong, or of a train that is not open, or there is a row and a trip to look for seats for
  pub data Judged : Type 0 where
    wrong : (Wanted (tb d.train.0) d → ⊥) → judged tb x d ≡ Err Malformed → Judged
    closed : Wanted (tb d.train.0) d → is_open x d.train ≡ false → judged tb x d ≡ Err NotOpen → Judged
    right : (h : Wanted (tb d.train.0) d) → is_open x d.train ≡ true → (r : Row) → tb d.train.0 ≡ Some r → (low : d.to.0 < 30) → judged tb x d ≡ Ok (r, way d h.ordered low) → Judged

  near : (v : Option Row) → HasStop v d.to.0 → d.to.0 < 30
  near None h = h
  near (Some r) h = omega (arith, h, r.short)

  no_trip : ((d.from.0 < d.to.0) × (d.to.0 < 30) → ⊥) → judged tb x d ≡ Err Malformed
  no_trip h = ap (λ v. judging (tb d.train.0) v d.people (is_open x d.train)) (trip_none d.from d.to h)

  pub judges : Judged
  judges = go (cases_lt d.from.0 d.to.0) (cases_lt d.to.0 30) (cases_lt 0 d.people) (cases_lt 8 d.people)
    where
      go : (d.from.0 < d.to.0) ⊎ (d.to.0 ≤ d.from.0) → (d.to.0 < 30) ⊎ (30 ≤ d.to.0) → (0 < d.people) ⊎ (d.people ≤ 0) → (8 < d.people) ⊎ (d.people ≤ 8) → Judged
      go (inr a) b c e = wrong (λ v. omega (arith, v.ordered, a)) (no_trip (λ (f, _). omega (arith, f, a)))
      go a (inr b) c e = wrong (λ v. omega (arith, near (tb d.train.0) v.stop, b)) (no_trip (λ (_, f). omega (arith, f, b)))
      go (inl a) (inl b) c e = people c e
        where
          is : judged tb x d ≡ judging (tb d.train.0) (Some (way d a b)) d.people (is_open x d.train)
          is = ap (λ v. judging (tb d.train.0) v d.people (is_open x d.train)) (trip_is (way d a b))

          nobody : (v : Option Row) (y : Bool) → some_people d.people ≡ false → judging v (Some (way d a b)) d.people y ≡ Err Malformed
          nobody None y f = rw f refl
          nobody (Some r) y f = rw f refl

          people : (0 < d.people) ⊎ (d.people ≤ 0) → (8 < d.people) ⊎ (d.people ≤ 8) → Judged
          people (inr c) e = wrong (λ v. omega (arith, v.someone, c)) (is ∙ nobody (tb d.train.0) _ (rw (lt-leb 1 d.people (omega (arith, c))) refl))
          people (inl c) (inl e) = wrong (λ v. omega (arith, v.few, e)) (is ∙ nobody (tb d.train.0) _ (rw (le-leb 1 d.people (omega (arith, c)), lt-leb d.people 8 e) refl))
          people (inl c) (inr e) = row (tb d.train.0) refl (is_open x d.train) refl
            where
              one : 1 ≤ d.people
              one = omega (arith, c)

              some : some_people d.people ≡ true
              some = rw (le-leb 1 d.people one, le-leb d.people 8 e) refl

              row : (v : Option Row) → tb d.train.0 ≡ v → (y : Bool) → is_open x d.train ≡ y → Judged
              row None f true g = absurd (false≢true (ap is_some (sym f) ∙ known d.train g))
              row None f false g = closed (record { ordered = a; stop = rw f b; someone = one; few = e }) g (is ∙ rw (f, some) refl)
              row (Some r) f y g = stop (cases_lt d.to.0 r.stops) y g
                where
                  stop : (d.to.0 < r.stops) ⊎ (r.stops ≤ d.to.0) → (y : Bool) → is_open x d.train ≡ y → Judged
                  stop (inr q) y g = wrong (λ v. let z : d.to.0 < r.stops = rw f at v.stop in omega (arith, z, q)) (is ∙ rw (f, some, le-ltb d.to.0 r.stops q) refl)
                  stop (inl q) true g = right (record { ordered = a; stop = rw f q; someone = one; few = e }) g r f b (is ∙ rw (f, some, lt-ltb d.to.0 r.stops q, g) refl)
                  stop (inl q) false g = closed (record { ordered = a; stop = rw f q; someone = one; few = e }) g (is ∙ rw (f, some, lt-ltb d.to.0 r.stops q, g) refl)

-- ---- what is left when pieces are given, one after the other

module _ (t : Train) (s u : ℕ) (l : s < 400) (tb : Table) (to : StationId) (b : Ask) where
  gifts_out : (ps : List Piece) (x : State) (m : ℕ) → Sound x → all_fit tb x (gifts to b m ps) ≡ true → in_word t s u l x ≡ in_word t s u l (fold (apply tb) x (gifts to b m ps)) + count_in t s u ps
  gifts_out [] x m sound f = omega (arith, count_nil t s u)
  gifts_out (p ∷ ps) x m sound f =
      let e = Given to (record { 0 = m }) b p in
      let (a, c) = and_parts (fits tb x e) (all_fit tb (apply tb x e) (gifts to b (suc m) ps)) f in
      let g = fits_given tb x to _ b p a in
      omega (arith, in_out t s u l x p sound g.«open» (listed_seat (tb p.train.0) p g.listed) g.held, gifts_out ps (apply tb x e) (suc m) (sound_next tb x e a sound) c, count_cons t s u p ps)

-- ---- what there is for it

-- the seats that are chosen of words f, which cover the trip only where those of what is held do
module _ (n : ℕ) (tb : Table) (w : World) (ok : Intact n tb w) (i : ℕ) (l : i < n) (d : Demand) (o : d.from.0 < d.to.0) (r : Row) (is : tb d.train.0 ≡ Some r) (f : ℕ → ℕ)
    (like : (k : ℕ) → k < 400 → Covers (f k) d.from.0 d.to.0 → Covers (words_of (state n tb w i) d.train k) d.from.0 d.to.0) where
  abbrev pub chosen_of : ℕ → List Seat
  chosen_of m = group m f r.seats d.from.0 d.to.0

  pub many_of : (m : ℕ) → length (chosen_of m) ≡ min m (free f 400 d.from.0 d.to.0)
  many_of m = group_length m f r.seats d.from.0 d.to.0 o ∙ ap (min m) (sym (counts n tb w ok i l d.train d.from.0 d.to.0 o f like r is))

  pub seated_of : (m : ℕ) → m ≤ 8 → (near : d.to.0 < 30) → SeatedOf f d (min m (free f 400 d.from.0 d.to.0)) (party_of d.train (way d o near) (chosen_of m))
  seated_of m few near =
      record {
        train = refl;
        from = refl;
        to = refl;
        all = ap length all ∙ many_of m;
        each = λ k u. rw all
            (wider n tb w ok i l d.train d.from.0 d.to.0 o f like r is (take k (chosen_of m)) (get_or (chosen_of m) k unused) ((choices.1 m f r.seats d.from.0 d.to.0 o).1 k (omega (arith, many_of m, u))));
      }
    where
      all : seats_of (party_of d.train (way d o near) (chosen_of m)) ≡ chosen_of m
      all = party_seats d.train (way d o near) (chosen_of m) (omega (arith, group_most m f r.seats d.from.0 d.to.0))

-- ---- how it is answered

module _ (n : ℕ) (tb : Table) (w : World) (reach : Reach n tb w) (i : ℕ) (l : i < n) (d : Demand) where
  abbrev x : State
  x = state n tb w i

  abbrev f : ℕ → ℕ
  f = words_of x d.train

  ok : Intact n tb w
  ok = ok_reach n tb reach

  module _ (o : d.from.0 < d.to.0) (r : Row) (is : tb d.train.0 ≡ Some r) where
    abbrev chosen_for : ℕ → List Seat
    chosen_for m = group m f r.seats d.from.0 d.to.0

    many : (m : ℕ) → length (chosen_for m) ≡ min m (covering x d)
    many = many_of n tb w ok i l d o r is f (λ k u c. c)

    seated : (m : ℕ) → m ≤ 8 → (near : d.to.0 < 30) → Seated x d (min m (covering x d)) (party_of d.train (way d o near) (chosen_for m))
    seated = seated_of n tb w ok i l d o r is f (λ k u c. c)

  -- what is left when a party is taken out of what is held
  sold_parts : (k : Ticket) (p : Party) → decided tb x (Sell d) ≡ Ok (Done (Sold k p)) → Splits x (apply tb x (Sold k p)) (pieces_of p)
  sold_parts k p e t s u l = let g = fits_sold tb x k p (and_parts (fits tb x (Sold k p)) true (outcome_fits tb x (Sell d) _ e)).0 in in_out_all t s u l x p (ok.fine i).sound g.«open» g.held

  sale : SaleAnswer tb x d (decided tb x (Sell d))
  sale = go (judges tb x (known_all n tb reach i) d)
    where
      go : Judged tb x (known_all n tb reach i) d → SaleAnswer tb x d (decided tb x (Sell d))
      go (wrong a e) = rw e (SaleAnswer.malformed a)
      go (closed h o e) = rw e (SaleAnswer.shut h o)
      go (right h o r is low e) = subst (SaleAnswer tb x d) (sym met_is) (seats (cases_lt (covering x d) d.people) (tickets_left x) refl)
        where
          ss : List Seat
          ss = chosen_for h.ordered r is d.people

          met_is : decided tb x (Sell d) ≡ selling x d r (way d h.ordered low)
          met_is = ap (λ j. met j (selling x d)) e

          long : length ss ≡ min d.people (covering x d)
          long = many h.ordered r is d.people

          seats : (covering x d < d.people) ⊎ (d.people ≤ covering x d) → (y : Bool) → tickets_left x ≡ y → SaleAnswer tb x d (selling x d r (way d h.ordered low))
          seats (inl c) y g = rw (lt-leb d.people (length ss) (omega (arith, long, c))) (SaleAnswer.short h o c)
          seats (inr c) false g = rw (le-leb d.people (length ss) (omega (arith, long, c)), g) (SaleAnswer.used_up h o c g)
          seats (inr c) true g =
              let p = party_of d.train (way d h.ordered low) ss in
              let m : min d.people (covering x d) ≡ d.people = omega arith in
              let made : selling x d r (way d h.ordered low) ≡ Ok (Done (Sold (record { 0 = sold x + 1 }) p)) = rw (le-leb d.people (length ss) (omega (arith, long, c)), g) refl in
              subst (SaleAnswer tb x d) (sym made) (SaleAnswer.sells h o c g p (rw m at (seated h.ordered r is d.people h.few low)) (sold_parts _ p (met_is ∙ made)))

  pub given_parts : (y : Input) (to : StationId) (k : Number) (b : Ask) (p : Party) → decided tb x y ≡ Ok (Gave to k b p) → Splits x (after tb x (Ok (Gave to k b p))) (pieces_of p)
  given_parts y to k b p e t s u l = gifts_out t s u l tb to b (pieces_of p) x k.0 (ok.fine i).sound (outcome_fits tb x y _ e)

  gift : (to : StationId) → GiftAnswer tb x to d (decided tb x (Give to d))
  gift to = go (judges tb x (known_all n tb reach i) d)
    where
      c : ℕ
      c = (line x.channels to.0).given

      go : Judged tb x (known_all n tb reach i) d → GiftAnswer tb x to d (decided tb x (Give to d))
      go (wrong a e) = rw e (GiftAnswer.malformed a)
      go (closed h o e) = rw e (GiftAnswer.shut h o)
      go (right h o r is low e) = subst (GiftAnswer tb x to d) (sym met_is) (places (cases_lt (all_waiting x.channels) 4096) (cases_lt c 4294967295) (other x.me x.channels to.0) refl)
        where
          met_is : decided tb x (Give to d) ≡ offering x to d r (way d h.ordered low)
          met_is = ap (λ j. met j (offering x to d)) e

          places : (all_waiting x.channels < 4096) ⊎ (4096 ≤ all_waiting x.channels) → (c < 4294967295) ⊎ (4294967295 ≤ c) → (y : Bool) → other x.me x.channels to.0 ≡ y → GiftAnswer tb x to d (offering x to d r (way d h.ordered low))
          places (inr a) b y g = rw (le-ltb (all_waiting x.channels) 4096 a) (GiftAnswer.full h o (omega (arith, a)))
          places (inl a) (inr b) y g = rw (lt-ltb (all_waiting x.channels) 4096 a, le-ltb c 4294967295 b) (GiftAnswer.full h o (omega (arith, b)))
          places (inl a) (inl b) false g = rw (lt-ltb (all_waiting x.channels) 4096 a, lt-ltb c 4294967295 b, g) (GiftAnswer.nobody h o (omega (arith, a, b)) g)
          places (inl a) (inl b) true g =
              let k = min d.people (room x.channels to.0) in
              let p = party_of d.train (way d h.ordered low) (chosen_for h.ordered r is k) in
              let made : offering x to d r (way d h.ordered low) ≡ Ok (Gave to (next_number x.channels to.0) unasked p) = rw (lt-ltb (all_waiting x.channels) 4096 a, lt-ltb c 4294967295 b, g) refl in
              subst (GiftAnswer tb x to d) (sym made) (GiftAnswer.gives h o (omega (arith, a, b)) g p (seated h.ordered r is k (omega (arith, h.few)) low) (given_parts (Give to d) to _ unasked p (met_is ∙ made)))

  -- a station that holds a piece for the trip has the train open, and the train has the trip
  wanted : d.from.0 < d.to.0 → 1 ≤ d.people → d.people ≤ 8 → 1 ≤ covering x d → Wanted (tb d.train.0) d × (is_open x d.train ≡ true)
  wanted o a b g =
      let (k, u, c) = free_some f d.from.0 d.to.0 400 g in
      let (r, e, _, m) = seat_row n tb w ok i l d.train d.from.0 d.to.0 o k u c in
      (record { ordered = o; stop = rw e m; someone = a; few = b }, seat_open n tb w ok i l d.train d.from.0 d.to.0 o k u c)

pub sells : Sells
sells n tb w reach i d l = sale n tb w reach i l d

pub gives : Gives
gives n tb w reach i to d l = gift n tb w reach i l d to

pub alone : SellsAlone
alone n tb w reach i d l o a b = (all, fewer)
  where
    x : State
    x = state n tb w i

    all : d.people ≤ covering x d → tickets_left x ≡ true → (p : Party) × (decided tb x (Sell d) ≡ Ok (Done (Sold (record { 0 = sold x + 1 }) p))) × Seated x d d.people p × (messages (after tb x (decided tb x (Sell d))) (Sell d) (decided tb x (Sell d)) ≡ [])
    all c t = let (h, g) = wanted n tb w reach i l d o a b (omega (arith, a, c)) in go (decided tb x (Sell d)) refl (sale n tb w reach i l d)
      where
        go : (z : Answer) → decided tb x (Sell d) ≡ z → SaleAnswer tb x d z → (p : Party) × (decided tb x (Sell d) ≡ Ok (Done (Sold (record { 0 = sold x + 1 }) p))) × Seated x d d.people p × (messages (after tb x (decided tb x (Sell d))) (Sell d) (decided tb x (Sell d)) ≡ [])
        go z e (SaleAnswer.malformed v) = absurd (v (wanted n tb w reach i l d o a b (omega (arith, a, c))).0)
        go z e (SaleAnswer.shut h v) = absurd (true≢false (sym (wanted n tb w reach i l d o a b (omega (arith, a, c))).1 ∙ v))
        go z e (SaleAnswer.short h v k) = absurd (omega (arith, c, k))
        go z e (SaleAnswer.used_up h v k u) = absurd (true≢false (sym t ∙ u))
        go z e (SaleAnswer.sells h v k u p q y) = (p, e, q, ap (messages (after tb x (decided tb x (Sell d))) (Sell d)) e)

    fewer : Wanted (tb d.train.0) d → is_open x d.train ≡ true → covering x d < d.people → (decided tb x (Sell d) ≡ Err NothingHeld) × (records (decided tb x (Sell d)) ≡ []) × (after tb x (decided tb x (Sell d)) ≡ x)
    fewer h g c = go (decided tb x (Sell d)) refl (sale n tb w reach i l d)
      where
        go : (z : Answer) → decided tb x (Sell d) ≡ z → SaleAnswer tb x d z → (decided tb x (Sell d) ≡ Err NothingHeld) × (records (decided tb x (Sell d)) ≡ []) × (after tb x (decided tb x (Sell d)) ≡ x)
        go z e (SaleAnswer.malformed v) = absurd (v h)
        go z e (SaleAnswer.shut v k) = absurd (true≢false (sym g ∙ k))
        go z e (SaleAnswer.short v k u) = (e, ap records e, ap (after tb x) e)
        go z e (SaleAnswer.used_up v k u q) = absurd (omega (arith, c, u))
        go z e (SaleAnswer.sells v k u q p y r) = absurd (omega (arith, c, u))
