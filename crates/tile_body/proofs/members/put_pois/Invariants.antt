use Rattle.std.proofs.Common.{length, ◌-◌}
use Rattle.map_model.specs.Members.{is_poi}
use Rattle.map_model.specs.TileBytes.{poi_bytes}
use Rattle.tile_body.proofs.Classes.{PutsClass}
use Rattle.tile_body.proofs.members.put_pois.Given as goal

-- what is still to be put completes the POIs
abbrev pub invariant-loop-i : goal.invariant-loop-i
invariant-loop-i l = PutsClass (poi_bytes l.corner) is_poi l.out l.fn.out l.records.records l.i

abbrev pub decreases-loop-i : goal.decreases-loop-i
decreases-loop-i l = length l.records.records - l.i
