use Rattle.std.proofs.Common.{arith, slice_index}
use Rattle.std.proofs.lemmas.Grind.{common_steps, put_two}
use Rattle.std.specs.Fmt.{HasWritten}
use Rattle.lines.proofs.Digits.{byte_text, text-more}
use Rattle.lines.proofs.hex.HexDisplay.fmt.Goals as goal

pub loop-byte-preserved : goal.loop-byte-preserved
loop-byte-preserved g c = λ plain.
    let bytes = c.args.self.now.0.now in
    let before = c.loop-byte.invariant plain in
    let this : HasWritten g.W.Write.write_str_gives c.loop-byte.f (byte_text (slice_index bytes c.loop-byte.byte-index)) c.write.new.self = grind (arith, common_steps, before.plain) in
    put_two _ _ _ _ _ _ _ before this (text-more bytes c.loop-byte.byte-index c.loop-byte-test.true (omega arith))
