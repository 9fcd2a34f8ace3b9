use Rattle.std.proofs.Common.{◌-◌, length}
use Rattle.osm_entity.proofs.RunEnds.{RunSoFar}
use Rattle.osm_entity.proofs.run_end.run_end.Given as goal

-- the pairs before are known
abbrev pub invariant-loop-size : goal.invariant-loop-size
invariant-loop-size l = RunSoFar l.count l.list l.at

abbrev pub decreases-loop-size : goal.decreases-loop-size
decreases-loop-size l = length l.list - l.at
