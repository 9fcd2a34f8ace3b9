use Rattle.std.proofs.Common.{◌≡◌, take}
use Rattle.arrayvec.specs.ArrayVec.{array_vec_len}
use Rattle.mf_layout.proofs.emit.tests.settings.Given as goal

abbrev pub invariant-loop-interval : goal.invariant-loop-interval
invariant-loop-interval l = record {
  many : array_vec_len l.all ≡ l.interval-index;
  same : l.all.items ≡ take l.interval-index l.intervals;
}
