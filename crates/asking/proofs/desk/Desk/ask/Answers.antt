use Rattle.std.proofs.Common.{◌≡◌, ◌<◌, length, vec_items, length-drop, Ok, sym, refl, ap, ◌∙◌, subst, arith, List}
use Rattle.asking.proofs.Asks.{asked_state, asked_turned, asks_is, first_is, turns_some}
use Rattle.asking.proofs.desk.Desk.ask.Goals as goal
use Rattle.asking.proofs.desk.Desk.ask.Goals.{After-line_up}
use Rattle.asking.specs.Minds.{first, mind}
use Rattle.asking.specs.Turns.{turns}
use Rattle.asking.specs.declared.event.Reply.TheVariants.{Asks}
use Rattle.giving.specs.declared.ids.StationId.{StationId}
use Rattle.ledger.specs.Decisions.{decided}
use Rattle.ledger.specs.declared.input.Input.TheVariants as input
use Rattle.state.specs.States.{State}
use Rattle.state.specs.Views.{view}
use Rattle.timetable.specs.Tables.{table}

module _ (c : After-line_up) where
  is : decided (table c.args.table.now) (view c.args.station.now) (input.Ask c.args.demand) ≡ Ok c.in_ok-call.field-0
  is = sym (c.in_ok-call.ensures.answer refl)

  lined : vec_items c.line_up.new.self.order ≡ turns (mind c.args.self.now).told c.args.demand.train (view c.args.station.now).me (length (view c.args.station.now).channels)
  lined =
      let s = view c.args.station.now in
      let told = (mind c.args.self.now).told in
      let z = c.args.demand.train in
      let e = c.in_ok-call.ensures.state ∙ asked_state (table c.args.table.now) s c.args.demand c.in_ok-call.field-0 is in
      c.line_up.ensures.order
      ∙ ap (λ i. turns told z i c.stations.result) (c.me.ensures ∙ ap (λ (x : State). x.me) e)
      ∙ ap (λ n. turns told z s.me n) (c.stations.ensures.value ∙ ap (λ (x : State). length x.channels) e)

  some : 0 < length (vec_items c.line_up.new.self.order)
  some =
      let s = view c.args.station.now in
      let h = (asks_is (table c.args.table.now) s c.args.demand c.in_ok-call.field-0 is).1 in
      subst (λ (ks : List StationId). 0 < length ks) (sym lined) (turns_some (mind c.args.self.now).told c.args.demand.train s.me (length s.channels) h)

pub say_query-requires-clause-led : goal.say_query-requires-clause-led
say_query-requires-clause-led c =
    let h = some (goal.at.say_query-requires-clause-led c).After-line_up in
    omega (arith, c.line_up.ensures.at, length-drop c.line_up.new.self.at (vec_items c.line_up.new.self.order))

pub index-requires : goal.index-requires
index-requires c = let h = some (goal.at.index-requires c).After-line_up in omega (arith, c.line_up.new.self.order.ok.0)

pub returns-clause-answer : goal.returns-clause-answer
returns-clause-answer c _ =
    let a = (goal.at.returns-clause-answer c).After-line_up in
    let e : c.index.result.now ≡ first (vec_items c.line_up.new.self.order) = first_is (vec_items c.line_up.new.self.order) c.index.result.now (some a) c.index.ensures in
    ap (λ (k : StationId). Ok (Asks k)) (e ∙ ap first (lined a)) ∙ sym (asked_turned (table c.args.table.now) (view c.args.station.now) c.args.demand c.in_ok-call.field-0 (is a) (mind c.args.self.now))
