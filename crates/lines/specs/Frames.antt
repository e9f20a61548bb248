-- The bytes of a message, as they are kept.
use Rattle.std.specs.Prelude.{ℕ, List, take}
use Rattle.lines.specs.declared.frame.Frame.{Frame}

abbrev pub bytes_in : Frame → List ℕ
bytes_in f = take f.len f.buffer
