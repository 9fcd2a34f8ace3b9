use Rattle.std.proofs.Common.{◌-◌, length}
use Rattle.mf_base.proofs.VarintRead.{ReadSoFar}
use Rattle.mf_base.proofs.varint.long_varint.Given as goal

-- the bytes before have the top bit, and their number is known
abbrev pub invariant-loop-run : goal.invariant-loop-run
invariant-loop-run l = ReadSoFar l.bytes l.run l.scale l.value

abbrev pub decreases-loop-run : goal.decreases-loop-run
decreases-loop-run l = length l.bytes - l.run
