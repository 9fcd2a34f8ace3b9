use Rattle.std.proofs.Common.{◌≡◌, ◌≤◌, take, count_by, nat_lt}
use Rattle.pbf_wire.proofs.packed.low_bytes.Given as goal

abbrev pub invariant-loop-byte : goal.invariant-loop-byte
invariant-loop-byte l =
    record {
      few : l.count ≤ l.byte-index;
      same : l.count ≡ count_by (λ byte. nat_lt byte 128) (take l.byte-index l.bytes);
    }
