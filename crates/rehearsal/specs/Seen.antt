-- The site that a `World` of the code is, and what is in it.
use Rattle.std.specs.Prelude.{ℕ, List, None, Option, map, length, vec_items, slice_index_or}
use Rattle.asking.specs.Minds.{Mind, empty}
use Rattle.network.specs.Falls.{Site}
use Rattle.rehearsal.specs.Lives.{shown, journal_of, mind_in, site_of, nowhere}
use Rattle.rehearsal.specs.declared.world.World.{World as Code}
use Rattle.state.specs.States.{State}
use Rattle.state.specs.declared.record.Record.{Record}
use Rattle.timetable.specs.Rows.{Table}
use Rattle.timetable.specs.Tables.{table}

abbrev pub seen : Code → Site
seen w = site_of (vec_items w.posts) (vec_items w.said)

abbrev pub rows : Code → Table
rows w = table w.trains

abbrev pub count : Code → ℕ
count w = length (vec_items w.posts)

-- the states of the stations as they are in memory, their journals, what they have in mind, and the cuts of their power that are to come
abbrev pub states : Code → List State
states w = map shown (vec_items w.posts)

abbrev pub journals : Code → List (List Record)
journals w = map journal_of (vec_items w.posts)

abbrev pub minds : Code → List Mind
minds w = map mind_in (vec_items w.posts)

abbrev pub cuts : Code → List (Option ℕ)
cuts w = map (λ p. p.cut) (vec_items w.posts)

abbrev pub state_of : Code → ℕ → State
state_of w k = slice_index_or (states w) k nowhere

abbrev pub mind_of : Code → ℕ → Mind
mind_of w k = slice_index_or (minds w) k empty

abbrev pub cut_of : Code → ℕ → Option ℕ
cut_of w k = slice_index_or (cuts w) k None
