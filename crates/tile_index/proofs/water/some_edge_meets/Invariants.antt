use Rattle.std.proofs.Common.{◌≡◌, length}
use Rattle.std.specs.Prelude.{flat_map}
use Rattle.std.specs.List.{list_any}
use Rattle.feature_model.specs.Inside.{edges}
use Rattle.map_model.specs.SubFile.{edge_meets}
use Rattle.ring_assembly.specs.Edges.{part_rings}
use Rattle.tile_index.proofs.water.some_edge_meets.Given as goal

abbrev pub invariant-loop-points : goal.invariant-loop-points
invariant-loop-points l = list_any (edge_meets l.place) (flat_map edges (part_rings l.rings))
    ≡ list_any (edge_meets l.place) (flat_map edges (part_rings l.fn.rings))

abbrev pub decreases-loop-points : goal.decreases-loop-points
decreases-loop-points l = length l.rings
