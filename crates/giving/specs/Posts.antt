-- The channels of a station as a list.
use Rattle.std.specs.Prelude.{List, map, vec_items}
use Rattle.giving.specs.Channels.{Chan, chan}
use Rattle.giving.specs.declared.channels.Channels.{Channels}

abbrev pub chans : Channels → List Chan
chans c = map chan (vec_items c.lines)
