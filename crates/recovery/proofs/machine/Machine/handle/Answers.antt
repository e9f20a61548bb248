use Rattle.std.proofs.Common.{vec_items, rules, arith}
use Rattle.asking.specs.Replies.{written}
use Rattle.recovery.proofs.Sizes.{step_most, written_most}
use Rattle.recovery.proofs.Sounding.{written_sound_any}
use Rattle.recovery.proofs.machine.Machine.handle.Goals as goal
use Rattle.recovery.specs.Machines.{mind_in, shown}
use Rattle.recovery.specs.Runs.{Typed}
use Rattle.timetable.specs.Tables.{table}

pub write_down-requires : goal.write_down-requires
write_down-requires c =
    let s = shown c.args.self.now in
    let m = step_most (vec_items c.args.self.now.records) (written s c.handle-reply.result) (vec_items c.handle-reply.new.journal) c.handle-reply.ensures.written (omega arith) (written_most s c.handle-reply.result) in
    omega (arith, m, c.in_ok-reserve.ensures.ok)

pub returns-clause-sound : goal.returns-clause-sound
returns-clause-sound c =
    let t : Typed c.args.event = search rules in
    written_sound_any (table c.args.trains.now) (shown c.args.self.now) (mind_in c.args.self.now) c.args.event c.handle-reply.result t c.handle-reply.ensures.answer
