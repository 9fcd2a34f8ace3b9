use Rattle.std.proofs.Common.{◌≡◌, map, drop}
use Rattle.std.specs.List.{list_any}
use Rattle.map_model.specs.SubFile.{covers}
use Rattle.mf_rows.specs.Shapes.{feature_told}
use Rattle.tile_index.proofs.water.is_water.Given as goal

abbrev pub invariant-loop-i : goal.invariant-loop-i
invariant-loop-i l = list_any (covers l.place) (map feature_told (drop l.i l.desk.records.records))
    ≡ list_any (covers l.place) (map feature_told l.desk.records.records)
