use Rattle.std.proofs.Common.{◌≡◌, ◌+◌, ◌*◌, ◌≤◌, ◌++◌, List, length, vec_items, ap, length-append, arith}
use Rattle.std.proofs.lemmas.List.{length-map}
use Rattle.asking.proofs.Listed.{all_length, all_few}
use Rattle.asking.proofs.desk.Desk.say_all.Goals as goal
use Rattle.asking.proofs.desk.Desk.say_all.Goals.{After-len}
use Rattle.asking.specs.Ticks.{reminders, tellings}
use Rattle.asking.specs.Turns.{open_trains}
use Rattle.giving.specs.Channels.{all_waiting, chan}
use Rattle.giving.specs.Posts.{chans}
use Rattle.giving.specs.declared.message.Message.{Message}
use Rattle.pieces.specs.declared.names.Train.{Train}
use Rattle.state.specs.Views.{view}
use Rattle.timetable.specs.Tables.{table}

-- as many trains as are listed
counted : (c : After-len) → c.len.result ≡ length (open_trains (table c.args.table.now) (view c.args.station.now))
counted c = omega (arith, c.len.ensures, c.list_trains.new.self.trains.ok.0, ap (λ (ts : List Train). length ts) c.list_trains.ensures.trains)

few : (c : After-len) → c.count_others.result * c.len.result ≤ 16384
few c =
    let s = c.args.station.now in
    all_few (table c.args.table.now) (view s) c.count_others.result c.len.result c.count_others.ensures (counted c) (omega (arith, s.channels.near, length-map (vec_items s.channels.lines) chan)) (omega (arith, s.many, s.slots.ok.0))

all : (c : After-len) → length (reminders (view c.args.station.now) ++ tellings (table c.args.table.now) (view c.args.station.now)) ≡ all_waiting (chans c.args.station.now.channels) + c.count_others.result * c.len.result
all c = all_length (table c.args.table.now) (view c.args.station.now) c.count_others.result c.len.result c.count_others.ensures (counted c)

pub overflow_mul-tellings : goal.overflow_mul-tellings
overflow_mul-tellings c = let h = few c in omega arith

pub overflow_add-waiting_in_all : goal.overflow_add-waiting_in_all
overflow_add-waiting_in_all c =
    let h = few (goal.at.overflow_add-waiting_in_all c).After-len in
    let r = c.args.station.now.channels in
    omega (arith, c.waiting_in_all.ensures, ap (λ z. all_waiting (chans z)) c.channels.ensures, r.few, r.counted)

pub returns-in_err-reserve-clause-said : goal.returns-in_err-reserve-clause-said
returns-in_err-reserve-clause-said c =
    let e = all (goal.at.returns-in_err-reserve-clause-said c).After-len in
    grind arith

pub remind_all-requires : goal.remind_all-requires
remind_all-requires c =
    let e = all (goal.at.remind_all-requires c).After-len in
    grind (arith, length-append (reminders (view c.args.station.now)) (tellings (table c.args.table.now) (view c.args.station.now)))

pub tell_all-requires-clause-room : goal.tell_all-requires-clause-room
tell_all-requires-clause-room c =
    let e = all (goal.at.tell_all-requires-clause-room c).After-len in
    let r = reminders (view c.args.station.now) in
    omega (
      arith,
      c.in_ok-reserve.ensures.ok,
      c.remind_all.ensures.room,
      c.remind_all.new.out.ok.0,
      c.reserve.new.self.ok.0,
      ap (λ (xs : List Message). length xs) c.remind_all.ensures.said,
      length-append (vec_items c.reserve.new.self) r,
      length-append r (tellings (table c.args.table.now) (view c.args.station.now)),
      c.waiting_in_all.ensures,
      ap (λ z. all_waiting (chans z)) c.channels.ensures,
    )
