use Rattle.tile_spread.specs.Pass.{heads_from}
use Rattle.tile_spread.proofs.Putting.{IsPutting}
use Rattle.tile_spread.proofs.Intervals.{heads_left}
use Rattle.tile_spread.proofs.feature.put_intervals.Given as goal

abbrev pub invariant-loop-i : goal.invariant-loop-i
invariant-loop-i g l =
    IsPutting (heads_from l.grid.bounds.now l.rect l.head l.units 0 l.grid.intervals.now)
    (heads_left l.grid.bounds.now l.rect l.head l.units l.grid.intervals.now l.i)
    l.fn.out l.out (g.P.Spill.state l.fn.spill) (g.P.Spill.state l.spill)
