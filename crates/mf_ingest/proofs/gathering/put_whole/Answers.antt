use Rattle.std.proofs.Common.{ap, ◌∙◌}
use Rattle.osm_entity.specs.Node.{node_shown}
use Rattle.feature_model.specs.Points.{point_of}
use Rattle.mf_rows.specs.Heads.{kind_number}
use Rattle.mf_rows.specs.Kinds.{feature_kind}
use Rattle.mf_rows.specs.RecordUnits.{front_count}
use Rattle.mf_rows.specs.Units.{point_unit}
use Rattle.spill_parts.specs.Parts.{IsPut}
use Rattle.mf_ingest.specs.FrontRows.{front_of, front_rows}
use Rattle.mf_ingest.specs.LeftRows.{units_from}
use Rattle.mf_ingest.proofs.Gatherings.{on-ok, whole-behind}
use Rattle.mf_ingest.proofs.gathering.put_whole.Goals as goal

pub returns-clause-put : goal.returns-clause-put
returns-clause-put g c =
    let d = c.args.front.now in
    let n = node_shown c.args.node in
    let first = c.in_ok-put_rows.ensures.put in
    let point = c.point_unit-unit.ensures
    ∙ ap (λ i. point_unit (record { node = i; place = c.place.result })) c.id.ensures
    ∙ ap (λ p. point_unit (record { node = n.id; place = p })) c.place.ensures in
    on-ok c.put.result
    (λ (is : IsPut feature_kind c.row_of.result c.put_rows.new.writer c.put.new.self
    (g.P.Spill.state c.put.new.spill)). record {
      part = is.part ∙ first.part;
      rows_now = whole-behind (front_rows d) c.args.units.now.rows c.put_rows.new.writer.rows c.put.new.self.rows
          (units_from c.of.result.place c.of.result.front.now) (kind_number d.head.kind) d.head.id
          c.first_units-last.result (front_count (front_of d)) c.point_unit-unit.result (point_unit (point_of n))
          c.row_of.result first.rows_now c.of.ensures c.row_of.ensures c.first_units-last.ensures point is.rows;
      held = is.held;
    }) c.put.ensures.put
