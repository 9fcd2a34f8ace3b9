use Rattle.std.proofs.Common.{◌+◌, take}
use Rattle.ring_assembly.specs.PutBack.{Puts}
use Rattle.ring_assembly.proofs.put_back.put_points.Given as goal

abbrev pub invariant-loop-i : goal.invariant-loop-i
invariant-loop-i l = Puts l.fn.records l.records l.at (l.at + l.i) (take l.i l.points)
