use Rattle.std.proofs.Common.{◌≡◌, ◌+◌, ◌*◌, ◌≤◌, ◌++◌, take, vec_len, vec_capacity}
use Rattle.std.specs.List.{flat_map}
use Rattle.files.specs.Bytes.{seat_bytes}
use Rattle.files.proofs.writing.write_pieces.Given as goal

abbrev pub invariant-loop-seat : goal.invariant-loop-seat
invariant-loop-seat l = record {
  written : l.out.items ≡ l.initial.out.items ++ flat_map (seat_bytes l.fn.party.train l.fn.party.trip) (take l.seat-index l.seat-items);
  len : vec_len l.out ≡ vec_len l.initial.out + 8 * l.seat-index;
  capacity : vec_capacity l.initial.out ≤ vec_capacity l.out;
}
