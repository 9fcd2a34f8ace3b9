use Rattle.std.proofs.Common.{◌≤◌, ap, arith, refl}
use Rattle.std.specs.Prelude.{not}
use Rattle.map_model.specs.Members.{is_node_kind, is_poi, is_way}
use Rattle.mf_rows.specs.Records.{Record}
use Rattle.mf_rows.specs.declared.head.Head.{Head}
use Rattle.tile_body.proofs.Classes.{holds-at, record-there, poi-is, way-is}
use Rattle.tile_body.proofs.Counting.{counts-record}
use Rattle.tile_body.proofs.table.count_members.Goals as goal

pub count_one-requires-clause-low : goal.count_one-requires-clause-low
count_one-requires-clause-low c =
    let there = record-there c.args.records.now.records c.loop-i.i c.head.result.now c.head.ensures in
    let low = holds-at (λ (r : Record). r.head.zoom ≤ c.args.interval.now.max) c.args.records.now.records c.loop-i.i
    there.0 there.1 c.requires.low in
    let same = ap (λ (h : Head). h.zoom) there.2 in
    omega (arith, low, same)

pub loop-i-preserved : goal.loop-i-preserved
loop-i-preserved c =
    let head = c.head.result.now in
    let there = record-there c.args.records.now.records c.loop-i.i head c.head.ensures in
    let low = holds-at (λ (r : Record). r.head.zoom ≤ c.args.interval.now.max) c.args.records.now.records c.loop-i.i
    there.0 there.1 c.requires.low in (
      counts-record is_poi c.args.interval.now c.args.records.now.records c.loop-i.i there.0 head
          (is_node_kind head.kind) c.loop-i.pois c.count_one.new.pois there.1 there.2
          (poi-is there.0 head (is_node_kind head.kind) there.2 refl) low c.requires.zooms.0 c.requires.zooms.1
          c.count_one.ensures.pois c.loop-i.invariant.0,
      counts-record is_way c.args.interval.now c.args.records.now.records c.loop-i.i there.0 head
          (not (is_node_kind head.kind)) c.loop-i.ways c.count_one.new.ways there.1 there.2
          (way-is there.0 head (is_node_kind head.kind) there.2 refl) low c.requires.zooms.0 c.requires.zooms.1
          c.count_one.ensures.ways c.loop-i.invariant.1,
    )
