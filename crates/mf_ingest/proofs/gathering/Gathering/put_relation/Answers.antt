use Rattle.std.proofs.Common.{rules, ◌≡◌, ◌++◌, length, Some, ap, ◌∙◌, subst, arith}
use Rattle.osm_model.specs.Entities.{relation}
use Rattle.osm_entity.specs.Relations.{relation_shown}
use Rattle.mf_rows.specs.Kinds.{feature_kind}
use Rattle.spill_parts.specs.Parts.{ArePut}
use Rattle.mf_ingest.specs.Fronts.{IsFront}
use Rattle.mf_ingest.specs.LeftRows.{units_from}
use Rattle.mf_ingest.specs.Gathered.{Gathered, gathered_rows, rows_behind, most_bytes, HaveSpace, KeepsStore}
use Rattle.mf_ingest.specs.EntityRows.{relation_parts}
use Rattle.mf_ingest.proofs.Gatherings.{on-ok, relation-behind, keeps-one, keeps-more}
use Rattle.mf_ingest.proofs.Grown.{members-few, front-few}
use Rattle.mf_ingest.proofs.gathering.Gathering.put_relation.Goals as goal

pub returns-in_err-put_rows-clause-kept : goal.returns-in_err-put_rows-clause-kept
returns-in_err-put_rows-clause-kept g c =
    let old : Gathered = record {
      places = c.self.inside.places;
      refs = c.self.inside.refs;
      members = c.self.inside.members;
      node_units = c.self.inside.node_units;
      way_units = c.self.inside.way_units;
      relation_units = c.self.inside.relation_units;
    } in
    let r = relation_shown c.args.relation in
    let members = ap length c.of.ensures in
    subst (λ o. KeepsStore (most_bytes (relation r)) o (g.P.Spill.state c.args.spill.now)
    (g.P.Spill.state c.put_rows.new.spill)) c.self.view_is
    (keeps-one {g = old} c.put_rows.ensures.only c.put_rows.ensures.counts
    (λ (space : HaveSpace (most_bytes (relation r)) old). c.put_rows.ensures.within
    (omega (arith, space.members, members, members-few r))))

pub returns-clause-put : goal.returns-clause-put
returns-clause-put g c =
    let old : Gathered = record {
      places = c.self.inside.places;
      refs = c.self.inside.refs;
      members = c.self.inside.members;
      node_units = c.self.inside.node_units;
      way_units = c.self.inside.way_units;
      relation_units = c.self.inside.relation_units;
    } in
    let r = relation_shown c.args.relation in
    let d = c.in-Some.front in
    let is : c.args.described.now ≡ Some d = search rules in
    let members = c.in_ok-put_rows.ensures.put.rows_now ∙ ap (λ rows. old.members.rows ++ rows) c.of.ensures in
    on-ok c.put_rows-2.result
    (λ (units : ArePut feature_kind (units_from c.of-2.result.place c.of-2.result.front.now) old.relation_units
    c.put_rows-2.new.writer (g.P.Spill.state c.put_rows-2.new.spill)). subst
    (λ o. gathered_rows (record old { members = c.put_rows.new.writer; relation_units = c.put_rows-2.new.writer })
    ≡ rows_behind (gathered_rows o) (relation_parts r c.args.described.now)) c.self.view_is
    (relation-behind old c.args.described.now d is r c.put_rows.new.writer c.put_rows-2.new.writer members
    (units.rows_now ∙ ap (λ rows. old.relation_units.rows ++ rows) c.of-2.ensures)))
    c.put_rows-2.ensures.put

pub returns-clause-kept : goal.returns-clause-kept
returns-clause-kept g c =
    let old : Gathered = record {
      places = c.self.inside.places;
      refs = c.self.inside.refs;
      members = c.self.inside.members;
      node_units = c.self.inside.node_units;
      way_units = c.self.inside.way_units;
      relation_units = c.self.inside.relation_units;
    } in
    let r = relation_shown c.args.relation in
    let front : IsFront c.in-Some.front = search rules in
    let members = ap length c.of.ensures in
    let units = ap length c.of-2.ensures in
    subst (λ o. KeepsStore (most_bytes (relation r)) o (g.P.Spill.state c.args.spill.now)
    (g.P.Spill.state c.put_rows-2.new.spill)) c.self.view_is
    (keeps-more {g = old}
    (keeps-one c.put_rows.ensures.only c.put_rows.ensures.counts
    (λ (space : HaveSpace (most_bytes (relation r)) old). c.put_rows.ensures.within
    (omega (arith, space.members, members, members-few r))))
    c.put_rows-2.ensures.only c.put_rows-2.ensures.counts
    (λ (space : HaveSpace (most_bytes (relation r)) old). c.put_rows-2.ensures.within
    (omega (arith, space.relation_units, units, front-few c.in-Some.front front))))
