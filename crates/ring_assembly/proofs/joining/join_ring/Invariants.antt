use Rattle.std.proofs.Common.{List, length}
use Rattle.mf_rows.specs.Units.{Unit16}
use Rattle.ring_assembly.specs.Taken.{free_of, taken_piece}
use Rattle.ring_assembly.specs.Joining.{Growing}
use Rattle.ring_assembly.proofs.joining.join_ring.Given as goal

abbrev pub invariant-loop-last : goal.invariant-loop-last
invariant-loop-last l = (ring : List Unit16) × Growing l.front l.role (taken_piece l.start l.fn.records) ring l.first l.last
    l.fn.records l.fn.out l.records l.out

abbrev pub decreases-loop-last : goal.decreases-loop-last
decreases-loop-last l = length (free_of l.front l.role l.records)
