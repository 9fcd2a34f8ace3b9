use Rattle.std.proofs.Common.{rules, ◌≡◌, ◌++◌, length, Some, ap, ◌∙◌, subst, arith}
use Rattle.osm_model.specs.Entities.{way}
use Rattle.osm_entity.specs.Ways.{way_shown}
use Rattle.mf_rows.specs.Kinds.{feature_kind}
use Rattle.spill_parts.specs.Parts.{ArePut}
use Rattle.mf_ingest.specs.Fronts.{IsFront}
use Rattle.mf_ingest.specs.LeftRows.{units_from}
use Rattle.mf_ingest.specs.Gathered.{Gathered, gathered_rows, rows_behind, most_bytes, HaveSpace, KeepsStore}
use Rattle.mf_ingest.specs.EntityRows.{way_parts}
use Rattle.mf_ingest.proofs.Gatherings.{on-ok, way-behind, keeps-one, keeps-more}
use Rattle.mf_ingest.proofs.Grown.{refs-few, front-few}
use Rattle.mf_ingest.proofs.gathering.Gathering.put_way.Goals as goal

pub returns-in_err-put_rows-clause-kept : goal.returns-in_err-put_rows-clause-kept
returns-in_err-put_rows-clause-kept g c =
    let old : Gathered = record {
      places = c.self.inside.places;
      refs = c.self.inside.refs;
      members = c.self.inside.members;
      node_units = c.self.inside.node_units;
      way_units = c.self.inside.way_units;
      relation_units = c.self.inside.relation_units;
    } in
    let w = way_shown c.args.way in
    let refs = ap length c.of.ensures in
    subst (λ o. KeepsStore (most_bytes (way w)) o (g.P.Spill.state c.args.spill.now)
    (g.P.Spill.state c.put_rows.new.spill)) c.self.view_is
    (keeps-one {g = old} c.put_rows.ensures.only c.put_rows.ensures.counts
    (λ (space : HaveSpace (most_bytes (way w)) old). c.put_rows.ensures.within
    (omega (arith, space.refs, refs, refs-few w))))

pub returns-in-Some-clause-put : goal.returns-in-Some-clause-put
returns-in-Some-clause-put g c =
    let old : Gathered = record {
      places = c.self.inside.places;
      refs = c.self.inside.refs;
      members = c.self.inside.members;
      node_units = c.self.inside.node_units;
      way_units = c.self.inside.way_units;
      relation_units = c.self.inside.relation_units;
    } in
    let w = way_shown c.args.way in
    let d = c.in-Some.front in
    let is : c.args.described.now ≡ Some d = search rules in
    let refs = c.in_ok-put_rows.ensures.put.rows_now ∙ ap (λ rows. old.refs.rows ++ rows) c.of.ensures in
    on-ok c.put_rows-in-Some.result
    (λ (units : ArePut feature_kind (units_from c.of-in-Some.result.place c.of-in-Some.result.front.now) old.way_units
    c.put_rows-in-Some.new.writer (g.P.Spill.state c.put_rows-in-Some.new.spill)). subst
    (λ o. gathered_rows (record old { refs = c.put_rows.new.writer; way_units = c.put_rows-in-Some.new.writer })
    ≡ rows_behind (gathered_rows o) (way_parts w c.args.described.now)) c.self.view_is
    (way-behind old c.args.described.now d is w c.put_rows.new.writer c.put_rows-in-Some.new.writer refs
    (units.rows_now ∙ ap (λ rows. old.way_units.rows ++ rows) c.of-in-Some.ensures)))
    c.put_rows-in-Some.ensures.put

pub returns-in-Some-clause-kept : goal.returns-in-Some-clause-kept
returns-in-Some-clause-kept g c =
    let old : Gathered = record {
      places = c.self.inside.places;
      refs = c.self.inside.refs;
      members = c.self.inside.members;
      node_units = c.self.inside.node_units;
      way_units = c.self.inside.way_units;
      relation_units = c.self.inside.relation_units;
    } in
    let w = way_shown c.args.way in
    let front : IsFront c.in-Some.front = search rules in
    let refs = ap length c.of.ensures in
    let units = ap length c.of-in-Some.ensures in
    subst (λ o. KeepsStore (most_bytes (way w)) o (g.P.Spill.state c.args.spill.now)
    (g.P.Spill.state c.put_rows-in-Some.new.spill)) c.self.view_is
    (keeps-more {g = old}
    (keeps-one c.put_rows.ensures.only c.put_rows.ensures.counts
    (λ (space : HaveSpace (most_bytes (way w)) old). c.put_rows.ensures.within
    (omega (arith, space.refs, refs, refs-few w))))
    c.put_rows-in-Some.ensures.only c.put_rows-in-Some.ensures.counts
    (λ (space : HaveSpace (most_bytes (way w)) old). c.put_rows-in-Some.ensures.within
    (omega (arith, space.way_units, units, front-few c.in-Some.front front))))

pub returns-in-None-clause-kept : goal.returns-in-None-clause-kept
returns-in-None-clause-kept g c =
    let old : Gathered = record {
      places = c.self.inside.places;
      refs = c.self.inside.refs;
      members = c.self.inside.members;
      node_units = c.self.inside.node_units;
      way_units = c.self.inside.way_units;
      relation_units = c.self.inside.relation_units;
    } in
    let w = way_shown c.args.way in
    let refs = ap length c.of.ensures in
    subst (λ o. KeepsStore (most_bytes (way w)) o (g.P.Spill.state c.args.spill.now)
    (g.P.Spill.state c.put_rows.new.spill)) c.self.view_is
    (keeps-one {g = old} c.put_rows.ensures.only c.put_rows.ensures.counts
    (λ (space : HaveSpace (most_bytes (way w)) old). c.put_rows.ensures.within
    (omega (arith, space.refs, refs, refs-few w))))
