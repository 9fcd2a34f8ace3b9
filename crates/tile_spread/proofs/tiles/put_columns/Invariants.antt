use Rattle.std.proofs.Common.{◌+◌, ◌-◌}
use Rattle.tile_spread.specs.Spread.{column_rows}
use Rattle.tile_spread.proofs.Putting.{IsPutting}
use Rattle.tile_spread.proofs.tiles.put_columns.Given as goal

abbrev pub invariant-loop-x : goal.invariant-loop-x
invariant-loop-x g l =
    IsPutting (column_rows l.like l.units l.y l.tiles.first_x l.tiles.last_x) (column_rows l.like l.units l.y
    l.x l.tiles.last_x)
    l.fn.out l.out (g.P.Spill.state l.fn.spill) (g.P.Spill.state l.spill)

abbrev pub decreases-loop-x : goal.decreases-loop-x
decreases-loop-x g l = l.tiles.last_x + 1 - l.x
