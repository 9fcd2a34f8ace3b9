use Rattle.std.proofs.Common.{drop}
use Rattle.std.specs.List.{AllByRecursion}
use Rattle.mf_rows.specs.Shapes.{IsFeature}
use Rattle.tile_index.proofs.water.tests.are_features.Given as goal

-- what is left has to be features
abbrev pub invariant-loop-i : goal.invariant-loop-i
invariant-loop-i l = AllByRecursion IsFeature (drop l.i l.desk.records.records)
    → AllByRecursion IsFeature l.desk.records.records
