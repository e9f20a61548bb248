-- What it came to that a number was received on a channel.
use Rattle.std.specs.Prelude.{◌≡◌, ℕ, ◌+◌, Ok, Err, Result, ◌≢◌}
use Rattle.giving.specs.Channels.{Chan, took}
use Rattle.giving.specs.declared.refusal.Refusal.{Refusal}
use Rattle.giving.specs.declared.refusal.Refusal.TheVariants.{OutOfTurn}

-- the next number is taken; any other is refused, and changes nothing
abbrev pub Received : Chan → ℕ → Chan → Result Unit Refusal → Type 0
Received c n d (Ok _) = (n ≡ c.taken + 1) × (d ≡ took c)
Received c n d (Err e) = (e ≡ OutOfTurn) × (n ≢ c.taken + 1) × (d ≡ c)
