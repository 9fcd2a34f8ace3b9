use Rattle.std.proofs.Common.{◌*◌, ◌^◌, ◌<◌, ◌≤◌, suc}
use Rattle.mf_base.proofs.isqrt.isqrt.Given as goal

abbrev pub invariant-loop-root : goal.invariant-loop-root
invariant-loop-root l = record {
  some : 0 < l.root;
  bound : l.root ≤ 2 ^ 64;
  above : l.v < suc l.root * suc l.root;
}

abbrev pub decreases-loop-root : goal.decreases-loop-root
decreases-loop-root l = l.root
