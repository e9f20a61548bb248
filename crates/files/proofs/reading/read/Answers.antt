use Rattle.std.proofs.Common.{rules, ◌≡◌, Ok, Err}
use Rattle.std.specs.Prelude.{MatchResult}
use Rattle.files.specs.Reading.{first}
use Rattle.files.proofs.Parts.{shorter}
use Rattle.files.proofs.reading.read.Goals as goal

pub returns-clause-shorter : goal.returns-clause-shorter
returns-clause-shorter c =
    let value : MatchResult c.of_kind.result (λ r. first c.args.bytes.now ≡ Ok (r.0, r.1.now)) (λ f. first c.args.bytes.now ≡ Err f) = search rules in
    shorter c.args.bytes.now c.of_kind.result value
