use Rattle.std.proofs.Common.{arith}
use Rattle.rehearsal.proofs.Restarting.{came_back}
use Rattle.timetable.specs.Tables.{table}
use Rattle.rehearsal.proofs.post.Post.fall_opening.Goals as goal

pub returns : goal.returns
returns c =
    let z = c.open.ensures in
    record {
      outcome = c.open.result;
      listed = z.listed;
      sound = z.sound;
      answer = z.answer;
      memory = z.memory;
      fell = came_back (table c.open.new.trains) c.args.self.now c.open.new.self c.restart.new.self _ _ _ c.args.bytes _ (omega (arith, c.len-before.ensures)) z.written z.state z.mind z.cut c.restart.result c.restart.ensures;
    }
