use Rattle.std.proofs.Common.{arith, rules}
use Rattle.std.proofs.Math.Seq.{take-append_seam}
use Rattle.rehearsal.proofs.Restarting.{came_back}
use Rattle.timetable.specs.Tables.{table}
use Rattle.rehearsal.proofs.post.Post.fall.Goals as goal

pub returns-clause-fell : goal.returns-clause-fell
returns-clause-fell c =
    let z = c.handle.ensures in
    record {
      response = c.handle.result;
      sound = z.sound;
      answer = z.answer;
      memory = z.memory;
      fell = came_back (table c.args.trains.now) c.args.self.now c.handle.new.self c.restart.new.self _ _ _ c.args.bytes _ (omega (arith, c.len-before.ensures)) z.written z.state z.mind z.cut c.restart.result c.restart.ensures;
    }

pub returns-clause-said : goal.returns-clause-said
returns-clause-said c = search (rules, take-append_seam)
