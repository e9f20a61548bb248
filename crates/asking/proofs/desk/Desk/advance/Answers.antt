use Rattle.std.proofs.Common.{vec_items, ap}
use Rattle.asking.proofs.Inquiries.{advanced_by}
use Rattle.asking.proofs.desk.Desk.advance.Goals as goal
use Rattle.asking.specs.Minds.{Inquiry, mind}
use Rattle.std.proofs.Common.{Option}

pub returns-then-is_some : goal.returns-then-is_some
returns-then-is_some c =
    let d = c.args.self.now in
    ap (λ (q : Option Inquiry). record (mind d) { inquiry = q }) (advanced_by d.at (vec_items d.order) d.demand c.args.count c.next_demand-self.result c.next_demand-self.ensures)
