use Rattle.std.proofs.Common.{◌≡◌, ◌+◌, ◌≤◌, ◌++◌, drop, length, take, vec_len, vec_capacity}
use Rattle.files.specs.Bytes.{journal_bytes}
use Rattle.files.proofs.writing.write_all.Given as goal

abbrev pub invariant-loop-entry : goal.invariant-loop-entry
invariant-loop-entry l = record {
  written : l.out.items ≡ l.initial.out.items ++ journal_bytes (take l.entry-index l.records);
  len : vec_len l.out + length (journal_bytes (drop l.entry-index l.records)) ≡ vec_len l.initial.out + length (journal_bytes l.records);
  capacity : vec_capacity l.initial.out ≤ vec_capacity l.out;
}
