use Rattle.pbf_wire.proofs.WholeReads.{WholeSoFar}
use Rattle.pbf_wire.proofs.packed.is_whole.Given as goal

-- all numbers before were varints, and the next has begun
abbrev pub invariant-loop-byte : goal.invariant-loop-byte
invariant-loop-byte l = WholeSoFar l.bytes l.byte-index l.run
