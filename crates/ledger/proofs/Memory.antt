-- Room for what is decided.
-- Assumes nothing.
use Rattle.std.proofs.Common.{◌≡◌, ℕ, ◌+◌, ◌<◌, ◌≤◌, length, vec_len, vec_capacity, Vec, inr, arith}
use Rattle.ledger.proofs.Gifts.{gifts_count}
use Rattle.ledger.specs.Calls.{Unwritten}
use Rattle.ledger.specs.Decisions.{entries}
use Rattle.ledger.specs.declared.input.Outcome.{Outcome}
use Rattle.ledger.specs.declared.input.Outcome.TheVariants.{Done, Gave, Nothing, Passed}
use Rattle.state.specs.declared.record.Record.{Record}
use Rattle.state.specs.declared.station.Station.{Station}
use Rattle.std.specs.declared.alloc.Global.{Global}

-- where the journal had no room for the records, they could not be written
pub unwritten_by : (s : Station) (j : Vec Record Global) (o : Outcome) (k : ℕ) → k ≡ length (entries o) → vec_len j ≤ vec_capacity j → vec_capacity j < vec_len j + k → Unwritten s j o
unwritten_by s j (Done e) k h l f = inr (omega arith)
unwritten_by s j (Gave to n a p) k h l f = let g = gifts_count to a n.0 p in omega arith
unwritten_by s j Nothing k h l f = absurd (omega arith)
unwritten_by s j (Passed r) k h l f = absurd (omega arith)
