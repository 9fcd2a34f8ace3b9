use Rattle.tile_assign.proofs.Bits.{AreBits}
use Rattle.tile_assign.proofs.bitmap.bitmap.Given as goal

abbrev pub invariant-loop-n : goal.invariant-loop-n
invariant-loop-n l = AreBits l.fn.rect l.fn.z l.fn.x l.fn.y l.n l.bits
