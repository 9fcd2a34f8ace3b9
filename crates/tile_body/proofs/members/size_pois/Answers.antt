use Rattle.std.proofs.Common.{◌∙◌, arith, length, false, refl, sym, true}
use Rattle.map_model.specs.Members.{is_poi}
use Rattle.map_model.specs.TileBytes.{poi_bytes}
use Rattle.mf_rows.specs.Shapes.{feature_told}
use Rattle.tile_body.specs.Members.{IsMember}
use Rattle.tile_body.proofs.Classes.{holds-at, head-is, poi-is}
use Rattle.tile_body.proofs.Classes.{measures-none, measures-fit, measures-more, measures-skips, measures-all}
use Rattle.tile_body.proofs.members.size_pois.Goals as goal
use Rattle.tile_body.proofs.members.size_pois.Goals.{then-is_poi, else-is_poi}

pub loop-i-init : goal.loop-i-init
loop-i-init c = measures-none (poi_bytes c.args.corner) is_poi c.args.records.now.records

pub size_poi-size-requires-clause-member : goal.size_poi-size-requires-clause-member
size_poi-size-requires-clause-member c =
    holds-at IsMember c.args.records.now.records c.loop-i.i c.view.result c.view.ensures c.requires.members

pub size_poi-size-requires-clause-few : goal.size_poi-size-requires-clause-few
size_poi-size-requires-clause-few c =
    let same = head-is c.args.records.now.records c.loop-i.i c.view.result c.head.result.now c.view.ensures
    c.head.ensures in
    let fit = measures-fit (poi_bytes c.args.corner) is_poi c.loop-i.size
    (length (poi_bytes c.args.corner (feature_told c.view.result))) c.args.records.now.records c.loop-i.i
    c.view.result c.view.ensures
    (poi-is c.view.result c.head.result.now true same (sym c.if-is_poi.true ∙ c.is_poi.ensures))
    c.loop-i.invariant refl in
    omega (arith, fit, c.requires.few)

pub overflow_add-size : goal.overflow_add-size
overflow_add-size c =
    let same = head-is c.args.records.now.records c.loop-i.i c.view.result c.head.result.now c.view.ensures
    c.head.ensures in
    let fit = measures-fit (poi_bytes c.args.corner) is_poi c.loop-i.size c.size_poi-size.result
    c.args.records.now.records c.loop-i.i c.view.result c.view.ensures
    (poi-is c.view.result c.head.result.now true same (sym c.if-is_poi.true ∙ c.is_poi.ensures))
    c.loop-i.invariant c.size_poi-size.ensures.size in
    omega (arith, fit, c.requires.few)

pub loop-i-preserved : goal.loop-i-preserved
loop-i-preserved c =
    elim c.if-is_poi.branch [
      | then-is_poi w ↦
          let same = head-is c.args.records.now.records c.loop-i.i w.view.result c.head.result.now w.view.ensures
          c.head.ensures in
          rw w.size-is (measures-more (poi_bytes c.args.corner) is_poi c.loop-i.size w.size_poi-size.result
          c.args.records.now.records c.loop-i.i w.view.result w.view.ensures
          (poi-is w.view.result c.head.result.now true same (sym w.if-is_poi.true ∙ c.is_poi.ensures))
          c.loop-i.invariant w.size_poi-size.ensures.size)
      | else-is_poi w ↦
          rw w.size-is (measures-skips (poi_bytes c.args.corner) is_poi c.loop-i.size
          c.args.records.now.records c.loop-i.i c.head.result.now c.head.ensures
          (λ r same. poi-is r c.head.result.now false same (sym w.if-is_poi.false ∙ c.is_poi.ensures))
          c.loop-i.invariant)
    ]

pub returns : goal.returns
returns c = record {
  size = measures-all (poi_bytes c.args.corner) is_poi c.loop-i.size c.args.records.now.records c.loop-i.i
      (omega (arith, c.loop-i-test.false, c.len.ensures)) c.loop-i.invariant;
}
