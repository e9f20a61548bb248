use Rattle.std.proofs.Common.{◌≡◌, ◌<◌, length, get_or, vec_items, refl, subst, arith}
use Rattle.network.specs.Falls.{none}
use Rattle.rehearsal.proofs.Living.{told_from}
use Rattle.rehearsal.proofs.world.World.deliver.Goals as goal

pub returns-in_default-clause-steps : goal.returns-in_default-clause-steps
returns-in_default-clause-steps c = λ _. ∣ none ∣₁

pub returns-in_default-place-clause-steps : goal.returns-in_default-place-clause-steps
returns-in_default-place-clause-steps c = λ _. ∣ none ∣₁

pub bring-requires-clause-told : goal.bring-requires-clause-told
bring-requires-clause-told c =
    let m = c.in-Some.field-0.now in
    let found = c.in-Some.ensures.lookup in
    let there : c.args.at < length (vec_items c.args.self.now.said) = omega (arith, found.3.0, c.deref.ensures.len) in
    told_from _ c.args.at m m _ _ there (subst (λ ms. m ≡ get_or ms c.args.at m) c.deref.ensures.value found.1) c.in-Some-place.ensures.1 refl
