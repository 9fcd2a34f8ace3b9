use Rattle.std.proofs.Common.{suc, ◌-◌}
use Rattle.tile_body.proofs.Counting.{PutsLevels}
use Rattle.tile_body.proofs.table.put_counts.Given as goal

-- what is still to be put completes the zoom table
abbrev pub invariant-loop-zoom : goal.invariant-loop-zoom
invariant-loop-zoom l = PutsLevels l.out l.fn.out l.pois l.ways l.interval l.zoom

abbrev pub decreases-loop-zoom : goal.decreases-loop-zoom
decreases-loop-zoom l = suc l.interval.max - l.zoom
