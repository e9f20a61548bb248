-- A station's lasting state, read off the station.
use Rattle.giving.specs.Posts.{chans}
use Rattle.state.specs.States.{State}
use Rattle.state.specs.declared.station.Station.{Station}
use Rattle.std.specs.Prelude.{vec_items}

abbrev pub view : Station → State
view s = record { me = s.channels.me.0; slots = vec_items s.slots; words = vec_items s.memory.words; ever_sold = s.ever_sold; ever_gave = s.ever_gave; closed = vec_items s.closed; dropped = s.dropped; tickets = vec_items s.tickets; asked = s.asked.0; channels = chans s.channels }
