use Rattle.std.proofs.Common.{◌&&◌, ltb, sym, refl, ap, ◌∙◌, rules, tests}
use Rattle.std.specs.List.{list_all}
use Rattle.std.proofs.lemmas.Iterator.{YieldsList-from_slice}
use Rattle.std.proofs.lemmas.Iterator.Search.{all_from_yields_List}
use Rattle.std.proofs.lemmas.List.Recursion.{same_from_clauses}
use Rattle.std.proofs.lemmas.Bool.{lt-ltb}
use Rattle.choosing.specs.Parties.{below, seats_of}
use Rattle.choosing.proofs.party.Party.is_within.Goals as goal

pub returns-then-self-stops : goal.returns-then-self-stops
returns-then-self-stops c =
    let n = c.args.seats in
    let ss = seats_of c.args.self.now in
    let all = all_from_yields_List (λ s. ltb s.0 n) _ _ c.all.result c.all.ensures.ran (YieldsList-from_slice ss cc) (λ x b q k. search (rules, tests)) in
    let same = same_from_clauses (list_all (λ s. ltb s.0 n)) (below n) (λ s r. ltb s.0 n && r) refl (λ _ _. refl) (λ _ _. refl) ss in
    all ∙ same ∙ sym (ap (λ x. x && below n ss) (lt-ltb _ _ c.if-self-stops.true))
