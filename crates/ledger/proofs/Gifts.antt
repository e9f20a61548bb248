-- Pieces given one after the other: records and messages that are still ahead.
-- Assumes nothing.
use Rattle.std.proofs.Common.{◌≡◌, ℕ, suc, ◌+◌, ◌<◌, ◌≤◌, true, List, [], ◌∷◌, ◌++◌, map, length, get_or, drop, fold, sym, refl, ap, ◌∙◌, subst, append_assoc, append-nil, arith}
use Rattle.choosing.specs.Parties.{pieces_of, seats_of}
use Rattle.choosing.specs.declared.party.Party.{Party}
use Rattle.giving.specs.declared.ids.Ask.{Ask}
use Rattle.giving.specs.declared.ids.StationId.{StationId}
use Rattle.giving.specs.declared.message.Body.TheVariants as body
use Rattle.giving.specs.declared.message.Message.{Message}
use Rattle.ledger.specs.Decisions.{gifts, notices}
use Rattle.pieces.specs.Parts.{piece_of}
use Rattle.pieces.specs.declared.names.Seat.{Seat}
use Rattle.pieces.specs.declared.piece.Piece.{Piece}
use Rattle.state.specs.Changes.{all_fit, apply, fits}
use Rattle.state.specs.States.{State}
use Rattle.state.specs.declared.record.Record.{Record}
use Rattle.state.specs.declared.record.Record.TheVariants.{Given}
use Rattle.std.proofs.lemmas.Bool.{and_parts}
use Rattle.timetable.specs.Rows.{Table}
use Rattle.std.proofs.lemmas.List.{at_drop_more, at_drop_all, length-map}

length_gifts : (to : StationId) (a : Ask) (n : ℕ) (ps : List Piece) → length (gifts to a n ps) ≡ length ps
length_gifts to a n [] = refl
length_gifts to a n (p ∷ ps) = ap suc (length_gifts to a (suc n) ps)

-- a record for each seat of a party
pub gifts_count : (to : StationId) (a : Ask) (n : ℕ) (p : Party) → length (gifts to a n (pieces_of p)) ≡ length (seats_of p)
gifts_count to a n p = length_gifts to a n (pieces_of p) ∙ length-map (seats_of p) (λ (s : Seat). piece_of p.train s p.trip)

-- the pieces of a party from the place k on
abbrev rest : Party → (k : ℕ) → List Piece
rest p k = map (λ (s : Seat). piece_of p.train s p.trip) (drop k (seats_of p))

-- a step moves the first of what is ahead to what is behind
pub moved : {X : Type 0} (xs ys : List X) (x : X) (more after all : List X) → ys ≡ xs ++ x ∷ [] → more ≡ x ∷ after → xs ++ more ≡ all → ys ++ after ≡ all
moved xs ys x more after all a b c = ap (λ zs. zs ++ after) a ∙ append_assoc xs (x ∷ []) after ∙ ap (λ zs. xs ++ zs) (sym b) ∙ c

pub ended : {X : Type 0} (xs more all : List X) → more ≡ [] → xs ++ more ≡ all → xs ≡ all
ended xs more all a b = sym (append-nil xs) ∙ ap (λ zs. xs ++ zs) (sym a) ∙ b

-- `ss` are the seats of the party, and `q` the piece at the place k
module _ (p : Party) (k : ℕ) (ss : List Seat) (is : ss ≡ seats_of p) where
  rest_more : {Y : Type 0} (F : List Piece → Y) (d : Seat) (q : Piece) → q ≡ piece_of p.train (get_or ss k d) p.trip → k < length ss → F (rest p k) ≡ F (q ∷ rest p (k + 1))
  rest_more F d q e h =
      let l = ap (λ (xs : List Seat). length xs) is in
      at_drop_more (λ xs. F (map (λ (s : Seat). piece_of p.train s p.trip) xs)) (seats_of p) k d (omega arith)
      ∙ ap (λ (xs : List Seat). F (piece_of p.train (get_or xs k d) p.trip ∷ rest p (k + 1))) (sym is)
      ∙ ap (λ (x : Piece). F (x ∷ rest p (k + 1))) (sym e)

  rest_none : {Y : Type 0} (F : List Piece → Y) → length ss ≤ k → F (rest p k) ≡ F []
  rest_none F h = let l = ap (λ (xs : List Seat). length xs) is in at_drop_all (λ xs. F (map (λ (s : Seat). piece_of p.train s p.trip) xs)) (seats_of p) k (omega arith)

-- ---- the records

abbrev pub ahead : StationId → Ask → (n : ℕ) → Party → (k : ℕ) → List Record
ahead to a n p k = gifts to a (n + k) (rest p k)

module _ (to : StationId) (a : Ask) (n : ℕ) (p : Party) (k : ℕ) (ss : List Seat) (is : ss ≡ seats_of p) where
  pub ahead_more : (d : Seat) (q : Piece) → q ≡ piece_of p.train (get_or ss k d) p.trip → k < length ss → ahead to a n p k ≡ Given to (record { 0 = n + k }) a q ∷ ahead to a n p (k + 1)
  ahead_more d q e h =
      let f : suc (n + k) ≡ n + (k + 1) = omega arith in
      rest_more p k ss is (gifts to a (n + k)) d q e h ∙ ap (λ (m : ℕ). Given to (record { 0 = n + k }) a q ∷ gifts to a m (rest p (k + 1))) f

  pub ahead_none : length ss ≤ k → ahead to a n p k ≡ []
  ahead_none h = rest_none p k ss is (gifts to a (n + k)) h

-- ---- the messages

abbrev pub unsaid : (me : ℕ) → StationId → (n : ℕ) → Party → (k : ℕ) → List Message
unsaid me to n p k = notices me to (n + k) (rest p k)

module _ (me : ℕ) (to : StationId) (n : ℕ) (p : Party) (k : ℕ) (ss : List Seat) (is : ss ≡ seats_of p) where
  pub unsaid_more : (d : Seat) (q : Piece) → q ≡ piece_of p.train (get_or ss k d) p.trip → k < length ss → unsaid me to n p k ≡ record { from = record { 0 = me }; to = to; body = body.Given (record { 0 = n + k }) q } ∷ unsaid me to n p (k + 1)
  unsaid_more d q e h =
      let f : suc (n + k) ≡ n + (k + 1) = omega arith in
      rest_more p k ss is (notices me to (n + k)) d q e h ∙ ap (λ (m : ℕ). record { from = record { 0 = me }; to = to; body = body.Given (record { 0 = n + k }) q } ∷ notices me to m (rest p (k + 1))) f

  pub unsaid_none : length ss ≤ k → unsaid me to n p k ≡ []
  unsaid_none h = rest_none p k ss is (notices me to (n + k)) h

-- ---- the states

-- the first of what is ahead fits, and the others behind it
pub fit_more : (tb : Table) (s : State) (es : List Record) (e : Record) (fs : List Record) → es ≡ e ∷ fs → all_fit tb s es ≡ true → (fits tb s e ≡ true) × (all_fit tb (apply tb s e) fs ≡ true)
fit_more tb s es e fs h a = and_parts (fits tb s e) (all_fit tb (apply tb s e) fs) (subst (λ xs. all_fit tb s xs ≡ true) h a)

pub folds_more : (tb : Table) (s t : State) (es : List Record) (e : Record) (fs : List Record) (end : State) → es ≡ e ∷ fs → t ≡ apply tb s e → fold (apply tb) s es ≡ end → fold (apply tb) t fs ≡ end
folds_more tb s t es e fs end h a b = ap (λ (x : State). fold (apply tb) x fs) a ∙ ap (λ xs. fold (apply tb) s xs) (sym h) ∙ b

pub folds_none : (tb : Table) (s : State) (es : List Record) (end : State) → es ≡ [] → fold (apply tb) s es ≡ end → s ≡ end
folds_none tb s es end h b = ap (λ xs. fold (apply tb) s xs) (sym h) ∙ b
