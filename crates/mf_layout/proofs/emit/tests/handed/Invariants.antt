use Rattle.std.proofs.Common.{◌≡◌, take}
use Rattle.arrayvec.specs.ArrayVec.{array_vec_len}
use Rattle.mf_layout.proofs.emit.tests.handed.Given as goal

abbrev pub invariant-loop-size : goal.invariant-loop-size
invariant-loop-size l = record {
  many : array_vec_len l.all ≡ l.size-index;
  same : l.all.items ≡ take l.size-index l.sizes;
}
