-- A mind whose numbers fit their types.
use Rattle.std.specs.Prelude.{Option, Some, None}
use Rattle.asking.specs.Minds.{Inquiry, Mind}
use Rattle.lines.specs.Bytes.{SoundDemand}

abbrev pub TypedInquiry : Option Inquiry → Type 0
TypedInquiry None = Unit
TypedInquiry (Some q) = SoundDemand q.demand

abbrev pub TypedMind : Mind → Type 0
TypedMind m = TypedInquiry m.inquiry
