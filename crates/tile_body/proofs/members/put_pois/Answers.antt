use Rattle.std.proofs.Common.{◌∙◌, arith, false, sym, true}
use Rattle.map_model.specs.Members.{is_poi}
use Rattle.map_model.specs.TileBytes.{poi_bytes}
use Rattle.tile_body.specs.Members.{IsMember}
use Rattle.tile_body.proofs.Classes.{holds-at, head-is, poi-is}
use Rattle.tile_body.proofs.Classes.{class-none, class-room, class-puts, class-skips, class-all}
use Rattle.tile_body.proofs.members.put_pois.Goals as goal
use Rattle.tile_body.proofs.members.put_pois.Goals.{then-is_poi, else-is_poi}

pub loop-i-init : goal.loop-i-init
loop-i-init c = class-none (poi_bytes c.args.corner) is_poi c.args.out.now c.args.records.now.records

pub put_poi-requires-clause-member : goal.put_poi-requires-clause-member
put_poi-requires-clause-member c =
    holds-at IsMember c.args.records.now.records c.loop-i.i c.view.result c.view.ensures c.requires.members

pub put_poi-requires-clause-room : goal.put_poi-requires-clause-room
put_poi-requires-clause-room c =
    let same = head-is c.args.records.now.records c.loop-i.i c.view.result c.head.result.now c.view.ensures
    c.head.ensures in
    class-room (poi_bytes c.args.corner) is_poi c.loop-i.out c.args.out.now c.args.records.now.records c.loop-i.i
    c.view.result c.view.ensures
    (poi-is c.view.result c.head.result.now true same (sym c.if-is_poi.true ∙ c.is_poi.ensures))
    c.loop-i.invariant c.requires.room

pub loop-i-preserved : goal.loop-i-preserved
loop-i-preserved c =
    elim c.if-is_poi.branch [
      | then-is_poi w ↦
          let same = head-is c.args.records.now.records c.loop-i.i w.view.result c.head.result.now w.view.ensures
          c.head.ensures in
          rw w.out-is (class-puts (poi_bytes c.args.corner) is_poi c.loop-i.out w.put_poi.new.out c.args.out.now
          c.args.records.now.records c.loop-i.i w.view.result w.view.ensures
          (poi-is w.view.result c.head.result.now true same (sym w.if-is_poi.true ∙ c.is_poi.ensures))
          c.loop-i.invariant w.put_poi.ensures.appends)
      | else-is_poi w ↦
          rw w.out-is (class-skips (poi_bytes c.args.corner) is_poi c.loop-i.out c.args.out.now
          c.args.records.now.records c.loop-i.i c.head.result.now c.head.ensures
          (λ r same. poi-is r c.head.result.now false same (sym w.if-is_poi.false ∙ c.is_poi.ensures))
          c.loop-i.invariant)
    ]

pub returns : goal.returns
returns c = record {
  appends = class-all (poi_bytes c.args.corner) is_poi c.loop-i.out c.args.out.now c.args.records.now.records c.loop-i.i
      (omega (arith, c.loop-i-test.false, c.len.ensures)) c.loop-i.invariant;
}
