use Rattle.std.proofs.Common.{◌≡◌, length}
use Rattle.std.specs.List.{list_any}
use Rattle.feature_model.specs.Blocks.{places}
use Rattle.feature_model.specs.Inside.{edges}
use Rattle.map_model.specs.SubFile.{edge_meets}
use Rattle.ring_assembly.specs.Edges.{from_last}
use Rattle.tile_index.proofs.water.ring_meets.Given as goal

abbrev pub invariant-loop-next : goal.invariant-loop-next
invariant-loop-next l = list_any (edge_meets l.place) (edges (from_last l.last (places l.points)))
    ≡ list_any (edge_meets l.place) (edges (places l.fn.points))

abbrev pub decreases-loop-next : goal.decreases-loop-next
decreases-loop-next l = length l.points
