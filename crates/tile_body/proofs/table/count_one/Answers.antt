use Rattle.std.proofs.Common.{◌∙◌, ap, sym}
use Rattle.std.specs.Prelude.{not}
use Rattle.map_model.specs.Intervals.{raised_zoom}
use Rattle.map_model.specs.Members.{is_node_kind}
use Rattle.tile_body.proofs.Counting.{counted-yes, counted-no}
use Rattle.tile_body.proofs.table.count_one.Goals as goal

pub returns-then-is_poi-clause-pois : goal.returns-then-is_poi-clause-pois
returns-then-is_poi-clause-pois c =
    let head = c.args.head.now in
    counted-yes (is_node_kind head.kind) c.args.pois.now (raised_zoom c.args.interval.now head.zoom)
    c.from-zoom.result (sym c.is_poi.ensures ∙ c.if-is_poi.true) (c.from-zoom.ensures ∙ c.max.ensures)

pub returns-then-is_poi-clause-ways : goal.returns-then-is_poi-clause-ways
returns-then-is_poi-clause-ways c =
    let head = c.args.head.now in
    counted-no (not (is_node_kind head.kind)) c.args.ways.now (raised_zoom c.args.interval.now head.zoom)
    (ap not (sym c.is_poi.ensures ∙ c.if-is_poi.true))

pub returns-else-is_poi-clause-pois : goal.returns-else-is_poi-clause-pois
returns-else-is_poi-clause-pois c =
    let head = c.args.head.now in
    counted-no (is_node_kind head.kind) c.args.pois.now (raised_zoom c.args.interval.now head.zoom)
    (sym c.is_poi.ensures ∙ c.if-is_poi.false)

pub returns-else-is_poi-clause-ways : goal.returns-else-is_poi-clause-ways
returns-else-is_poi-clause-ways c =
    let head = c.args.head.now in
    counted-yes (not (is_node_kind head.kind)) c.args.ways.now (raised_zoom c.args.interval.now head.zoom)
    c.from-zoom.result (ap not (sym c.is_poi.ensures ∙ c.if-is_poi.false)) (c.from-zoom.ensures ∙ c.max.ensures)
