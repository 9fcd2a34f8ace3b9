use Rattle.std.proofs.Common.{length, ◌-◌}
use Rattle.map_model.specs.Members.{is_way}
use Rattle.tile_body.specs.Tiles.{way_in}
use Rattle.tile_body.proofs.Classes.{PutsClass}
use Rattle.tile_body.proofs.members.put_ways.Given as goal

-- what is still to be put completes the ways
abbrev pub invariant-loop-i : goal.invariant-loop-i
invariant-loop-i l = PutsClass (way_in l.tile) is_way l.out l.fn.out l.records.records l.i

abbrev pub decreases-loop-i : goal.decreases-loop-i
decreases-loop-i l = length l.records.records - l.i
