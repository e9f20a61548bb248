-- How many bytes a step writes at most.
-- Assumes nothing.
use Rattle.std.proofs.Common.{◌≡◌, ℕ, suc, ◌*◌, ◌≤◌, List, [], ◌∷◌, ◌++◌, length, Ok, Err, sym, refl, subst, arith, length-append, length-take}
use Rattle.asking.specs.Events.{Response}
use Rattle.asking.specs.Replies.{written}
use Rattle.asking.specs.declared.event.Reply.TheVariants.{Came}
use Rattle.choosing.specs.Parties.{pieces_of, seats_of}
use Rattle.choosing.specs.declared.party.Party.{Party}
use Rattle.files.proofs.Lengths.{length-seats}
use Rattle.files.specs.Bytes.{journal_bytes, seat_bytes}
use Rattle.giving.specs.declared.ids.Ask.{Ask}
use Rattle.giving.specs.declared.ids.StationId.{StationId}
use Rattle.ledger.specs.Decisions.{Answer, entries, gifts, records}
use Rattle.ledger.specs.declared.input.Outcome.{Outcome}
use Rattle.ledger.specs.declared.input.Outcome.TheVariants.{Done, Gave}
use Rattle.pieces.specs.Parts.{piece_of}
use Rattle.pieces.specs.declared.names.Seat.{Seat}
use Rattle.pieces.specs.declared.piece.Piece.{Piece}
use Rattle.state.specs.States.{State}
use Rattle.state.specs.declared.record.Record.{Record}
use Rattle.state.specs.declared.record.Record.TheVariants.{Sold}
use Rattle.std.proofs.lemmas.List.{length-map}
use Rattle.std.specs.List.{flat_map}

seats_few : (p : Party) → length (seats_of p) ≤ 8
seats_few p = omega (arith, p.few, length-take p.count p.seats)

gifts_length : (to : StationId) (a : Ask) (n : ℕ) (ps : List Piece) → length (journal_bytes (gifts to a n ps)) ≡ 18 * length ps
gifts_length to a n [] = refl
gifts_length to a n (p ∷ ps) = omega (arith, gifts_length to a (suc n) ps)

-- one record
one_most : (e : Record) → length (journal_bytes (e ∷ [])) ≤ 70
one_most (Sold n p) = omega (arith, length-append (flat_map (seat_bytes p.train p.trip) (seats_of p)) [], length-seats p.train p.trip (seats_of p), seats_few p)
one_most e = omega arith

entries_most : (o : Outcome) → length (journal_bytes (entries o)) ≤ 144
entries_most (Done e) = omega (arith, one_most e)
entries_most (Gave to n a p) = omega (arith, gifts_length to a n.0 (pieces_of p), seats_few p, length-map (seats_of p) (λ (s : Seat). piece_of p.train s p.trip))
entries_most o = omega arith

pub records_most : (o : Answer) → length (journal_bytes (records o)) ≤ 144
records_most (Ok o) = entries_most o
records_most (Err r) = omega arith

pub written_most : (s : State) (r : Response) → length (journal_bytes (written s r)) ≤ 144
written_most s (Ok (Came o)) = entries_most o
written_most s r = omega arith

-- what is written where nothing was
pub step_most : (xs ys all : List Record) → all ≡ xs ++ ys → length xs ≡ 0 → length (journal_bytes ys) ≤ 144 → length (journal_bytes all) ≤ 144
step_most [] ys all e h l = subst (λ es. length (journal_bytes es) ≤ 144) (sym e) l
step_most (x ∷ xs) ys all e h l = absurd (omega arith)
