use Rattle.std.proofs.Common.{length, ◌-◌}
use Rattle.map_model.specs.Members.{is_poi, is_way}
use Rattle.tile_body.proofs.Counting.{CountsSoFar}
use Rattle.tile_body.proofs.table.count_members.Given as goal

-- what is counted and what is left are the numbers of all
abbrev pub invariant-loop-i : goal.invariant-loop-i
invariant-loop-i l = CountsSoFar is_poi l.interval l.records.records l.i l.pois
    × CountsSoFar is_way l.interval l.records.records l.i l.ways

abbrev pub decreases-loop-i : goal.decreases-loop-i
decreases-loop-i l = length l.records.records - l.i
