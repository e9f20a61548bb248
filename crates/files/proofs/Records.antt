-- Records, as they are written and read.
use Rattle.std.proofs.Common.{◌≡◌, ℕ, zero, suc, ◌^◌, ◌<◌, List, [], ◌∷◌, ◌++◌, length, take, Ok, Err, refl}
use Rattle.std.specs.List.{flat_map}
use Rattle.choosing.specs.Parties.{seats_of}
use Rattle.files.specs.Bytes.{Sound, SoundParty, record_bytes, seat_bytes}
use Rattle.lines.specs.Bytes.{AreBytes, SoundPiece, long, piece_bytes}
use Rattle.files.specs.Reading.{as_asked, as_closed, as_declined, as_given, as_heard, as_opened, as_sold, as_taken, as_undone, first, of_kind, party, pieces}
use Rattle.lines.specs.Fields.{byte, checked, piece, then, word}
use Rattle.lines.specs.declared.fault.Fault.TheVariants.{Cut}
use Rattle.lines.proofs.ByKind.{Written, either, made_again, made_back, made_short}
use Rattle.lines.proofs.Layouts.{Layout, then_layout}
use Rattle.lines.proofs.Numbers.{byte_layout, word_layout}
use Rattle.lines.proofs.Pieces.{piece_numbered}
use Rattle.files.proofs.Tickets.{ticket_layout}
use Rattle.state.specs.declared.record.Record.{Record}
use Rattle.state.specs.declared.record.Record.TheVariants.{Opened, Closed, Sold, Undone, Given, Taken, Heard, Asked, Declined}

-- ---- what stands behind a record's kind

ticket : Layout (then word (λ _. checked party pieces)) (λ x. long x.0 ++ (length (seats_of x.1) ∷ flat_map (seat_bytes x.1.train x.1.trip) (seats_of x.1))) (λ x. (x.0 < 2 ^ 32) × SoundParty x.1)
ticket = then_layout word long (λ n. n < 2 ^ 32) (λ _. checked party pieces) (λ _ p. length (seats_of p) ∷ flat_map (seat_bytes p.train p.trip) (seats_of p)) (λ _. SoundParty) word_layout (λ _. ticket_layout)

numbered : Layout (then byte (λ _. word)) (λ x. x.0 ∷ long x.1) (λ x. (x.0 < 256) × (x.1 < 2 ^ 32))
numbered = then_layout byte (λ b. b ∷ []) (λ b. b < 256) (λ _. word) (λ _. long) (λ _ n. n < 2 ^ 32) byte_layout (λ _. word_layout)

receipt : Layout (then byte (λ _. then word (λ _. piece))) (λ x. x.0 ∷ (long x.1.0 ++ piece_bytes x.1.1)) (λ x. (x.0 < 256) × ((x.1.0 < 2 ^ 32) × SoundPiece x.1.1))
receipt = then_layout byte (λ b. b ∷ []) (λ b. b < 256) (λ _. then word (λ _. piece)) (λ _ x. long x.0 ++ piece_bytes x.1) (λ _ x. (x.0 < 2 ^ 32) × SoundPiece x.1) byte_layout (λ _. piece_numbered)

gift : Layout (then byte (λ _. then word (λ _. then word (λ _. piece)))) (λ x. x.0 ∷ (long x.1.0 ++ (long x.1.1.0 ++ piece_bytes x.1.1.1))) (λ x. (x.0 < 256) × ((x.1.0 < 2 ^ 32) × ((x.1.1.0 < 2 ^ 32) × SoundPiece x.1.1.1)))
gift =
    then_layout byte (λ b. b ∷ []) (λ b. b < 256) (λ _. then word (λ _. then word (λ _. piece))) (λ _ x. long x.0 ++ (long x.1.0 ++ piece_bytes x.1.1)) (λ _ x. (x.0 < 2 ^ 32) × ((x.1.0 < 2 ^ 32) × SoundPiece x.1.1)) byte_layout
    (λ _. then_layout word long (λ n. n < 2 ^ 32) (λ _. then word (λ _. piece)) (λ _ x. long x.0 ++ piece_bytes x.1) (λ _ x. (x.0 < 2 ^ 32) × SoundPiece x.1) word_layout (λ _. piece_numbered))

-- ---- what is written is read

pub again : (e : Record) (ys : List ℕ) → Sound e → first (record_bytes e ++ ys) ≡ Ok (e, ys)
again (Sold k p) ys h = made_again as_sold _ _ _ ticket (k.0, p) ys h
again (Undone k) ys h = made_again as_undone _ _ _ word_layout k.0 ys h
again (Given to n a p) ys h = made_again as_given _ _ _ gift (to.0, (n.0, (a.0, p))) ys (h.0, (h.1, (h.2, h.3)))
again (Taken from n p) ys h = made_again as_taken _ _ _ receipt (from.0, (n.0, p)) ys (h.0, (h.1, h.2))
again (Opened t) ys h = made_again as_opened _ _ _ word_layout t.0 ys h
again (Closed t) ys h = made_again as_closed _ _ _ word_layout t.0 ys h
again (Heard from n) ys h = made_again as_heard _ _ _ numbered (from.0, n.0) ys h
again (Asked a) ys h = made_again as_asked _ _ _ word_layout a.0 ys h
again (Declined to a) ys h = made_again as_declined _ _ _ numbered (to.0, a.0) ys h

-- ---- any part in front of it is cut

pub short : (e : Record) (k : ℕ) → Sound e → k < length (record_bytes e) → first (take k (record_bytes e)) ≡ Err Cut
short e zero h lt = refl
short (Sold t p) (suc k) h lt = made_short as_sold _ _ _ ticket (t.0, p) k h lt
short (Undone t) (suc k) h lt = made_short as_undone _ _ _ word_layout t.0 k h lt
short (Given to n a p) (suc k) h lt = made_short as_given _ _ _ gift (to.0, (n.0, (a.0, p))) k (h.0, (h.1, (h.2, h.3))) lt
short (Taken from n p) (suc k) h lt = made_short as_taken _ _ _ receipt (from.0, (n.0, p)) k (h.0, (h.1, h.2)) lt
short (Opened t) (suc k) h lt = made_short as_opened _ _ _ word_layout t.0 k h lt
short (Closed t) (suc k) h lt = made_short as_closed _ _ _ word_layout t.0 k h lt
short (Heard from n) (suc k) h lt = made_short as_heard _ _ _ numbered (from.0, n.0) k h lt
short (Asked a) (suc k) h lt = made_short as_asked _ _ _ word_layout a.0 k h lt
short (Declined to a) (suc k) h lt = made_short as_declined _ _ _ numbered (to.0, a.0) k h lt

-- ---- what is read was written

kind_back : (k : ℕ) (bs : List ℕ) (e : Record) (ys : List ℕ) → AreBytes bs → of_kind k bs ≡ Ok (e, ys) → Written record_bytes Sound bs e ys k
kind_back k bs e ys h =
    let P : ℕ → Type 0 = Written record_bytes Sound bs e ys in
    either P k 6 _ _ _ (made_back record_bytes Sound 6 as_sold _ _ _ ticket (λ x g. g) (λ x. refl) bs e ys h)
    (either P k 7 _ _ _ (made_back record_bytes Sound 7 as_undone _ _ _ word_layout (λ x g. g) (λ x. refl) bs e ys h)
    (either P k 8 _ _ _ (made_back record_bytes Sound 8 as_given _ _ _ gift (λ x g. (g.0, g.1.0, g.1.1.0, g.1.1.1)) (λ x. refl) bs e ys h)
    (either P k 9 _ _ _ (made_back record_bytes Sound 9 as_taken _ _ _ receipt (λ x g. (g.0, g.1.0, g.1.1)) (λ x. refl) bs e ys h)
    (either P k 10 _ _ _ (made_back record_bytes Sound 10 as_opened _ _ _ word_layout (λ x g. g) (λ x. refl) bs e ys h)
    (either P k 11 _ _ _ (made_back record_bytes Sound 11 as_closed _ _ _ word_layout (λ x g. g) (λ x. refl) bs e ys h)
    (either P k 12 _ _ _ (made_back record_bytes Sound 12 as_heard _ _ _ numbered (λ x g. g) (λ x. refl) bs e ys h)
    (either P k 20 _ _ _ (made_back record_bytes Sound 20 as_asked _ _ _ word_layout (λ x g. g) (λ x. refl) bs e ys h)
    (either P k 21 _ _ _ (made_back record_bytes Sound 21 as_declined _ _ _ numbered (λ x g. g) (λ x. refl) bs e ys h)
    (λ n. absurd cc)))))))))

pub back : (bs : List ℕ) (e : Record) (ys : List ℕ) → AreBytes bs → first bs ≡ Ok (e, ys) → Sound e × (bs ≡ record_bytes e ++ ys)
back [] e ys h is = absurd cc
back (k ∷ bs) e ys h is = kind_back k bs e ys (λ i. h (suc i)) is
