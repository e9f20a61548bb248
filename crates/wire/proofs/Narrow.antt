-- The numbers of a station's state fit their types.
-- Assumes nothing.
use Rattle.std.proofs.Common.{◌≡◌, ℕ, ◌+◌, ◌-◌, ◌<◌, ◌≤◌, ◌^◌, true, List, [], ◌∷◌, length, set, cond, Some, None, Option, fold, refl, ⊎_elim, arith, length-append, length-drop}
use Rattle.choosing.specs.declared.party.Party.{Party}
use Rattle.files.specs.Bytes.{AllSound, Sound}
use Rattle.giving.specs.Channels.{Chan, declined, fresh, gave, heard_to, line, took}
use Rattle.lines.specs.Bytes.{SoundPiece}
use Rattle.network.proofs.Local.{fits_heard, fits_taken}
use Rattle.pieces.specs.declared.names.Train.{Train}
use Rattle.pieces.specs.declared.piece.Piece.{Piece}
use Rattle.recovery.proofs.Journals.{did_stands}
use Rattle.recovery.specs.Runs.{Did, led}
use Rattle.state.specs.Changes.{all_fit, apply, fits, opened, received, returned}
use Rattle.state.specs.States.{State, begun, is_open, place, place_of, ticket_of, was_closed}
use Rattle.state.specs.declared.record.Record.{Record}
use Rattle.state.specs.declared.record.Record.TheVariants.{Opened, Closed, Sold, Undone, Given, Taken, Heard, Asked, Declined}
use Rattle.std.proofs.lemmas.Bool.{and_parts, cases_lt, cond_both}
use Rattle.std.proofs.lemmas.Bool.Decides.{nat_tests}
use Rattle.std.proofs.lemmas.List.{get_or_past}
use Rattle.std.proofs.lemmas.List.Elements.{All-nil, All-drop, All-push, All-replicate, All-set, All-get_or}
use Rattle.std.specs.List.{All}
use Rattle.timetable.specs.Rows.{Table}
use Rattle.timetable.specs.declared.row.Row.{Row}

abbrev pub NarrowSlot : Option Train → Type 0
NarrowSlot None = Unit {0}
NarrowSlot (Some t) = t.0 < 2 ^ 32

-- what waits has the numbers up to the last that was given
pub record NarrowLine (c : Chan) : Type 0 where
  pub given : c.given < 2 ^ 32
  pub taken : c.taken < 2 ^ 32
  pub counted : c.heard + length c.waiting ≡ c.given
  pub waiting : All SoundPiece c.waiting

pub record Narrow (x : State) : Type 0 where
  pub slots : All NarrowSlot x.slots
  pub asked : x.asked < 2 ^ 32
  pub lines : All NarrowLine x.channels

-- ---- lines

line_fresh : NarrowLine fresh
line_fresh = record { given = omega arith; taken = omega arith; counted = refl; waiting = All-nil SoundPiece }

pub line_narrow : (cs : List Chan) (k : ℕ) → All NarrowLine cs → NarrowLine (line cs k)
line_narrow cs k h = ⊎_elim (λ l. All-get_or NarrowLine cs k fresh l h) (λ l. rw (get_or_past cs k fresh l) line_fresh) (cases_lt k (length cs))

line_gave : (c : Chan) (a : ℕ) (p : Piece) → c.given < 4294967295 → SoundPiece p → NarrowLine c → NarrowLine (gave c a p)
line_gave c a p l s h =
    record { given = omega (arith, l); taken = h.taken; counted = omega (arith, h.counted, length-append c.waiting (p ∷ [])); waiting = All-push SoundPiece c.waiting p h.waiting s }

line_heard : (c : Chan) (n : ℕ) → n ≤ c.given → NarrowLine c → NarrowLine (heard_to c n)
line_heard c n l h =
    record { given = h.given; taken = h.taken; counted = omega (arith, l, h.counted, length-drop (n - c.heard) c.waiting); waiting = All-drop SoundPiece (n - c.heard) c.waiting h.waiting }

line_took : (c : Chan) (n : ℕ) → n ≡ c.taken + 1 → n < 2 ^ 32 → NarrowLine c → NarrowLine (took c)
line_took c n e l h = record { given = h.given; taken = omega (arith, e, l); counted = h.counted; waiting = h.waiting }

line_declined : (c : Chan) (a : ℕ) → NarrowLine c → NarrowLine (declined c a)
line_declined c a h = record { given = h.given; taken = h.taken; counted = h.counted; waiting = h.waiting }

-- ---- states

module _ (x : State) (h : Narrow x) where
  with_lines : (k : ℕ) (c : Chan) → NarrowLine c → All NarrowLine (set x.channels k c)
  with_lines k c l = All-set NarrowLine x.channels k c l h.lines

  at_line : (k : ℕ) → NarrowLine (line x.channels k)
  at_line k = line_narrow x.channels k h.lines

  opened_narrow : (o : Option Row) (t : Train) → t.0 < 2 ^ 32 → Narrow (opened o t x)
  opened_narrow None t l = h
  opened_narrow (Some r) t l = record { slots = All-set NarrowSlot x.slots (place_of x.slots None) (Some t) l h.slots; asked = h.asked; lines = h.lines }

  returned_narrow : (o : Option Party) → Narrow (returned o x)
  returned_narrow None = h
  returned_narrow (Some p) = record { slots = h.slots; asked = h.asked; lines = h.lines }

  received_narrow : (tb : Table) (p : Piece) → p.train.0 < 2 ^ 32 → Narrow (received tb x p)
  received_narrow tb p l =
      cond_both (was_closed x p.train) x _ Narrow (λ _. h) (λ _.
      let y = cond (is_open x p.train) x (opened (tb p.train.0) p.train x) in
      let g : Narrow y = cond_both (is_open x p.train) x _ Narrow (λ _. h) (λ _. opened_narrow (tb p.train.0) p.train l) in
      record { slots = g.slots; asked = g.asked; lines = g.lines })

-- ---- records

module _ (tb : Table) where
  narrow_next : (x : State) (e : Record) → Sound e → fits tb x e ≡ true → Narrow x → Narrow (apply tb x e)
  narrow_next x (Opened t) s f h = opened_narrow x h (tb t.0) t s
  narrow_next x (Closed t) s f h = record { slots = All-set NarrowSlot x.slots (place x t) None tt h.slots; asked = h.asked; lines = h.lines }
  narrow_next x (Sold n p) s f h = record { slots = h.slots; asked = h.asked; lines = h.lines }
  narrow_next x (Undone n) s f h = let g = returned_narrow x h (ticket_of x n.0) in record { slots = g.slots; asked = g.asked; lines = g.lines }
  narrow_next x (Given to n a p) s f h =
      record { slots = h.slots; asked = h.asked; lines = with_lines x h to.0 _ (line_gave (line x.channels to.0) a.0 p (grind (arith, nat_tests)) s.3 (at_line x h to.0)) }
  narrow_next x (Taken from n p) s f h =
      let g = received_narrow x h tb p s.2.0 in
      record { slots = g.slots; asked = g.asked; lines = All-set NarrowLine _ from.0 _ (line_took (line x.channels from.0) n.0 (fits_taken tb x from n p f).next s.1 (at_line x h from.0)) g.lines }
  narrow_next x (Heard from n) s f h =
      record { slots = h.slots; asked = h.asked; lines = with_lines x h from.0 _ (line_heard (line x.channels from.0) n.0 (fits_heard tb x from n f).1 (at_line x h from.0)) }
  narrow_next x (Asked a) s f h = record { slots = h.slots; asked = s; lines = h.lines }
  narrow_next x (Declined to a) s f h =
      record { slots = h.slots; asked = h.asked; lines = with_lines x h to.0 _ (line_declined (line x.channels to.0) a.0 (at_line x h to.0)) }

  pub narrow_all : (x : State) (es : List Record) → AllSound es → all_fit tb x es ≡ true → Narrow x → Narrow (fold (apply tb) x es)
  narrow_all x [] s f h = h
  narrow_all x (e ∷ es) s f h =
      let (a, b) = and_parts (fits tb x e) (all_fit tb (apply tb x e) es) f in
      narrow_all (apply tb x e) es s.1 b (narrow_next x e s.0 a h)

begun_narrow : (n i : ℕ) → Narrow (begun n i)
begun_narrow n i = record { slots = All-replicate NarrowSlot 64 None tt; asked = omega arith; lines = All-replicate NarrowLine n fresh line_fresh }

pub did_narrow : {n i : ℕ} {tb : Table} {es : List Record} → Did n i tb es → Narrow (led n i tb es)
did_narrow {n} {i} {tb} {es} d = let (s, f) = did_stands n i d in narrow_all tb (begun n i) es s f (begun_narrow n i)
