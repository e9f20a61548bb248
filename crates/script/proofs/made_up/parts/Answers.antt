use Rattle.std.proofs.Common.{◌≡◌, Some, None, true, false, bytes_eq, codes, sym, ◌∙◌, arith, refl}
use Rattle.script.proofs.Cuts.{next-word}
use Rattle.script.proofs.MadeUps.{taken, just-four, other-sign, no-station, no-other, two-stations}
use Rattle.script.proofs.made_up.parts.Goals as goal

pub returns-in_err-to : goal.returns-in_err-to
returns-in_err-to c =
    let a = next-word c.args.words c.next.new.self None c.in_err-to.ensures.steps in
    rw (c.from_residual.ensures, a) refl

pub returns-in_err-sign : goal.returns-in_err-sign
returns-in_err-sign c =
    let a = next-word c.args.words c.next.new.self (Some c.in_ok-to.to) c.in_ok-to.ensures.steps in
    let b = next-word c.next.new.self c.next-2.new.self None c.in_err-sign.ensures.steps in
    rw (c.from_residual-in_err-sign.ensures, a, b) refl

pub returns-in_err-from : goal.returns-in_err-from
returns-in_err-from c =
    let a = next-word c.args.words c.next.new.self (Some c.in_ok-to.to) c.in_ok-to.ensures.steps in
    let b = next-word c.next.new.self c.next-2.new.self (Some c.in_ok-sign.sign) c.in_ok-sign.ensures.steps in
    let d = next-word c.next-2.new.self c.next-3.new.self None c.in_err-from.ensures.steps in
    rw (c.from_residual-in_err-from.ensures, a, b, d) refl

pub returns-in_err-hex : goal.returns-in_err-hex
returns-in_err-hex c =
    let a = next-word c.args.words c.next.new.self (Some c.in_ok-to.to) c.in_ok-to.ensures.steps in
    let b = next-word c.next.new.self c.next-2.new.self (Some c.in_ok-sign.sign) c.in_ok-sign.ensures.steps in
    let d = next-word c.next-2.new.self c.next-3.new.self (Some c.in_ok-from.from) c.in_ok-from.ensures.steps in
    let e = next-word c.next-3.new.self c.next-4.new.self None c.in_err-hex.ensures.steps in
    rw (c.from_residual-in_err-hex.ensures, a, b, d, e) refl

pub returns-in_default : goal.returns-in_default
returns-in_default c =
    let four = taken c.args.words c.next.new.self c.next-2.new.self c.next-3.new.self c.next-4.new.self c.in_ok-to.to c.in_ok-sign.sign c.in_ok-from.from c.in_ok-hex.hex c.in_ok-to.ensures.steps c.in_ok-sign.ensures.steps c.in_ok-from.ensures.steps c.in_ok-hex.ensures.steps in
    let more = next-word c.next-4.new.self c.next-5.new.self (Some c.in_default.field-0) c.in_default.ensures.steps in
    rw (four, more) refl

pub returns-then-ne : goal.returns-then-ne
returns-then-ne c =
    let four = just-four c.args.words c.next.new.self c.next-2.new.self c.next-3.new.self c.next-4.new.self c.next-5.new.self c.in_ok-to.to c.in_ok-sign.sign c.in_ok-from.from c.in_ok-hex.hex c.in_ok-to.ensures.steps c.in_ok-sign.ensures.steps c.in_ok-from.ensures.steps c.in_ok-hex.ensures.steps c.in-None.ensures.steps in
    let sign : bytes_eq c.in_ok-sign.sign.now (codes "<") ≡ false = grind (arith, c.ne.ensures, c.if-ne.true) in
    other-sign _ _ _ _ _ four sign

pub returns-in_err-number : goal.returns-in_err-number
returns-in_err-number c =
    let four = just-four c.args.words c.next.new.self c.next-2.new.self c.next-3.new.self c.next-4.new.self c.next-5.new.self c.in_ok-to.to c.in_ok-sign.sign c.in_ok-from.from c.in_ok-hex.hex c.in_ok-to.ensures.steps c.in_ok-sign.ensures.steps c.in_ok-from.ensures.steps c.in_ok-hex.ensures.steps c.in-None.ensures.steps in
    let sign : bytes_eq c.in_ok-sign.sign.now (codes "<") ≡ true = grind (arith, c.ne.ensures, c.if-ne.false) in
    rw c.from_residual-in_err-number.ensures (no-station _ _ _ _ _ four sign (sym c.number.ensures ∙ c.in_err-number.was))

pub returns-in_err-number-2 : goal.returns-in_err-number-2
returns-in_err-number-2 c =
    let four = just-four c.args.words c.next.new.self c.next-2.new.self c.next-3.new.self c.next-4.new.self c.next-5.new.self c.in_ok-to.to c.in_ok-sign.sign c.in_ok-from.from c.in_ok-hex.hex c.in_ok-to.ensures.steps c.in_ok-sign.ensures.steps c.in_ok-from.ensures.steps c.in_ok-hex.ensures.steps c.in-None.ensures.steps in
    let sign : bytes_eq c.in_ok-sign.sign.now (codes "<") ≡ true = grind (arith, c.ne.ensures, c.if-ne.false) in
    rw c.from_residual-in_err-number-2.ensures (no-other _ _ _ _ _ four _ sign (sym c.number.ensures ∙ c.in_ok-number.was) (sym c.number-2.ensures ∙ c.in_err-number-2.was))

pub returns : goal.returns
returns c =
    let four = just-four c.args.words c.next.new.self c.next-2.new.self c.next-3.new.self c.next-4.new.self c.next-5.new.self c.in_ok-to.to c.in_ok-sign.sign c.in_ok-from.from c.in_ok-hex.hex c.in_ok-to.ensures.steps c.in_ok-sign.ensures.steps c.in_ok-from.ensures.steps c.in_ok-hex.ensures.steps c.in-None.ensures.steps in
    let sign : bytes_eq c.in_ok-sign.sign.now (codes "<") ≡ true = grind (arith, c.ne.ensures, c.if-ne.false) in
    two-stations _ _ _ _ _ four _ _ sign (sym c.number.ensures ∙ c.in_ok-number.was) (sym c.number-2.ensures ∙ c.in_ok-number-2.was)
