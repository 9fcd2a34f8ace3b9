use Rattle.std.proofs.Common.{length, ◌-◌}
use Rattle.map_model.specs.Members.{is_poi}
use Rattle.map_model.specs.TileBytes.{poi_bytes}
use Rattle.tile_body.proofs.Classes.{MeasuresClass}
use Rattle.tile_body.proofs.members.size_pois.Given as goal

-- what is measured and what is left is the size of all
abbrev pub invariant-loop-i : goal.invariant-loop-i
invariant-loop-i l = MeasuresClass (poi_bytes l.corner) is_poi l.size l.records.records l.i

abbrev pub decreases-loop-i : goal.decreases-loop-i
decreases-loop-i l = length l.records.records - l.i
