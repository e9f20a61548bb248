use Rattle.std.proofs.Common.{sym, ap, ◌∙◌, rules, tests}
use Rattle.std.specs.Option.{option_map}
use Rattle.std.proofs.lemmas.Iterator.{YieldsList-from_slice}
use Rattle.std.proofs.lemmas.Iterator.Search.{position_from_yields_List}
use Rattle.choosing.proofs.Lowest.{not_zero, lowest_found}
use Rattle.choosing.proofs.Rule.{seat}
use Rattle.choosing.proofs.choice.lowest_held.Goals as goal

pub returns-in_err-index : goal.returns-in_err-index
returns-in_err-index c =
    let ws = c.args.words.now in
    let e = position_from_yields_List not_zero _ _ c.position.result c.position.ensures.ran (YieldsList-from_slice ws cc) (λ x b q k. search (rules, tests)) in
    c.from_residual.ensures ∙ ap (option_map seat) (sym c.in_err-index.was) ∙ lowest_found ws c.position.result e

pub returns : goal.returns
returns c =
    let ws = c.args.words.now in
    let e = position_from_yields_List not_zero _ _ c.position.result c.position.ensures.ran (YieldsList-from_slice ws cc) (λ x b q k. search (rules, tests)) in
    ap (option_map seat) (sym c.in_ok-index.was) ∙ lowest_found ws c.position.result e
