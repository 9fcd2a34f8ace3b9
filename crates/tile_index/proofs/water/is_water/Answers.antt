use Rattle.std.proofs.Common.{◌∙◌, sym, arith}
use Rattle.map_model.specs.SubFile.{water, covers}
use Rattle.mf_rows.specs.Shapes.{feature_told}
use Rattle.tile_index.proofs.Tests.{some_left, some_here, none_left}
use Rattle.tile_index.proofs.water.is_water.Goals as goal

pub loop-i-preserved : goal.loop-i-preserved
loop-i-preserved c =
    some_left (covers c.args.place.now) feature_told c.args.desk.now.records.records c.loop-i.i c.view.result
    c.view.ensures (sym c.covers.ensures ∙ c.if-covers.false)
    ∙ c.loop-i.invariant

pub returns-then-covers : goal.returns-then-covers
unfolding water
returns-then-covers c =
    some_here (covers c.args.place.now) feature_told c.args.desk.now.records.records c.loop-i.i c.view.result
    c.view.ensures (sym c.covers.ensures ∙ c.if-covers.true)
    ∙ c.loop-i.invariant

pub returns : goal.returns
unfolding water
returns c =
    none_left (covers c.args.place.now) feature_told c.args.desk.now.records.records c.loop-i.i (omega arith)
    ∙ c.loop-i.invariant
