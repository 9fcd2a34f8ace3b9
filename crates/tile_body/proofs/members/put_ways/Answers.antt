use Rattle.std.proofs.Common.{◌∙◌, arith, false, sym, true}
use Rattle.map_model.specs.Members.{is_way}
use Rattle.tile_body.specs.Members.{IsMember}
use Rattle.tile_body.specs.Tiles.{way_in}
use Rattle.tile_body.specs.Ways.{way_told}
use Rattle.way_delta.proofs.OfDesk.{units-at}
use Rattle.tile_body.proofs.Classes.{holds-at, head-is, not-node, way-is}
use Rattle.tile_body.proofs.Classes.{class-none, class-room, class-puts, class-skips, class-all}
use Rattle.tile_body.proofs.members.put_ways.Goals as goal
use Rattle.tile_body.proofs.members.put_ways.Goals.{then-not-is_poi, else-not-is_poi}

pub loop-i-init : goal.loop-i-init
loop-i-init c = class-none (way_in c.args.tile.now) is_way c.args.out.now c.args.records.now.records

pub put_way-requires-clause-way : goal.put_way-requires-clause-way
put_way-requires-clause-way c =
    let records = c.args.records.now.records in
    let units = units-at records c.loop-i.i c.view.result c.view.ensures in
    record {
      place = c.requires.tile;
      way = not-node c.view.result c.head.result.now
          (head-is records c.loop-i.i c.view.result c.head.result.now c.view.ensures c.head.ensures)
          (sym c.if-not-is_poi.true ∙ c.is_poi.ensures);
      member = holds-at IsMember records c.loop-i.i c.view.result c.view.ensures c.requires.members;
      light = omega (arith, units, c.requires.light);
    }

pub put_way-requires-clause-room : goal.put_way-requires-clause-room
unfolding way_told
put_way-requires-clause-room c =
    let same = head-is c.args.records.now.records c.loop-i.i c.view.result c.head.result.now c.view.ensures
    c.head.ensures in
    class-room (way_in c.args.tile.now) is_way c.loop-i.out c.args.out.now c.args.records.now.records c.loop-i.i
    c.view.result c.view.ensures
    (way-is c.view.result c.head.result.now false same (sym c.if-not-is_poi.true ∙ c.is_poi.ensures))
    c.loop-i.invariant c.requires.room

pub loop-i-preserved : goal.loop-i-preserved
unfolding way_told
loop-i-preserved c =
    elim c.if-not-is_poi.branch [
      | then-not-is_poi w ↦
          let same = head-is c.args.records.now.records c.loop-i.i w.view.result c.head.result.now w.view.ensures
          c.head.ensures in
          rw w.out-is (class-puts (way_in c.args.tile.now) is_way c.loop-i.out w.put_way.new.out c.args.out.now
          c.args.records.now.records c.loop-i.i w.view.result w.view.ensures
          (way-is w.view.result c.head.result.now false same (sym w.if-not-is_poi.true ∙ c.is_poi.ensures))
          c.loop-i.invariant w.put_way.ensures.appends)
      | else-not-is_poi w ↦
          rw w.out-is (class-skips (way_in c.args.tile.now) is_way c.loop-i.out c.args.out.now
          c.args.records.now.records c.loop-i.i c.head.result.now c.head.ensures
          (λ r same. way-is r c.head.result.now true same (sym w.if-not-is_poi.false ∙ c.is_poi.ensures))
          c.loop-i.invariant)
    ]

pub returns : goal.returns
returns c = record {
  appends = class-all (way_in c.args.tile.now) is_way c.loop-i.out c.args.out.now c.args.records.now.records c.loop-i.i
      (omega (arith, c.loop-i-test.false, c.len.ensures)) c.loop-i.invariant;
}
