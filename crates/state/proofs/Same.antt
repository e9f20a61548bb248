-- States with the same parts are the same.
use Rattle.std.proofs.Common.{◌≡◌}
use Rattle.state.specs.States.{State}

pub same_state : (s t : State) → s.me ≡ t.me → s.slots ≡ t.slots → s.words ≡ t.words → s.ever_sold ≡ t.ever_sold → s.ever_gave ≡ t.ever_gave → s.closed ≡ t.closed → s.dropped ≡ t.dropped → s.tickets ≡ t.tickets → s.asked ≡ t.asked → s.channels ≡ t.channels → s ≡ t
same_state s t a b c v w d e f q g j = record { me = a j; slots = b j; words = c j; ever_sold = v j; ever_gave = w j; closed = d j; dropped = e j; tickets = f j; asked = q j; channels = g j }
