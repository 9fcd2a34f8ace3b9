use Rattle.std.proofs.Common.{rules, arith}
use Rattle.mf_rows.specs.Shapes.{IsFeature}
use Rattle.tile_index.proofs.Tests.{all_left, all_end}
use Rattle.tile_index.proofs.water.tests.are_features.Goals as goal

pub loop-i-preserved : goal.loop-i-preserved
loop-i-preserved c =
    let here : IsFeature c.view.result = search rules in
    λ more. c.loop-i.invariant
    (all_left IsFeature c.args.desk.now.records.records c.loop-i.i c.view.result c.view.ensures here more)

pub returns : goal.returns
returns c =
    λ _. c.loop-i.invariant (all_end IsFeature c.args.desk.now.records.records c.loop-i.i (omega arith))
