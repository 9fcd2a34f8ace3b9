use Rattle.std.proofs.Common.{◌+◌, ◌-◌}
use Rattle.tile_spread.specs.Spread.{rect_rows}
use Rattle.tile_spread.proofs.Putting.{IsPutting}
use Rattle.tile_spread.proofs.tiles.put_tiles.Given as goal

abbrev pub invariant-loop-y : goal.invariant-loop-y
invariant-loop-y g l =
    IsPutting (rect_rows l.like l.units l.tiles.first_x l.tiles.last_x l.tiles.first_y l.tiles.last_y)
    (rect_rows l.like l.units l.tiles.first_x l.tiles.last_x l.y l.tiles.last_y)
    l.fn.out l.out (g.P.Spill.state l.fn.spill) (g.P.Spill.state l.spill)

abbrev pub decreases-loop-y : goal.decreases-loop-y
decreases-loop-y g l = l.tiles.last_y + 1 - l.y
