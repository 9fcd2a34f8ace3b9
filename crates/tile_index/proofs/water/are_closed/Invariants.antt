use Rattle.std.proofs.Common.{◌≡◌, length}
use Rattle.std.specs.List.{list_all}
use Rattle.map_model.specs.Labels.{is_closed}
use Rattle.ring_assembly.specs.Edges.{part_rings}
use Rattle.tile_index.proofs.water.are_closed.Given as goal

abbrev pub invariant-loop-points : goal.invariant-loop-points
invariant-loop-points l = list_all is_closed (part_rings l.rings) ≡ list_all is_closed (part_rings l.fn.rings)

abbrev pub decreases-loop-points : goal.decreases-loop-points
decreases-loop-points l = length l.rings
