use Rattle.std.proofs.Common.{rules, ◌≡◌, ◌∷◌, [], ◌++◌, Some, ap, ◌∙◌, subst, arith}
use Rattle.osm_entity.specs.Node.{node_shown}
use Rattle.mf_rows.specs.Kinds.{feature_kind}
use Rattle.spill_parts.specs.Parts.{ArePut}
use Rattle.mf_ingest.specs.Fronts.{IsFront}
use Rattle.mf_ingest.specs.Gathered.{Gathered, gathered_rows, rows_behind, HaveSpace, KeepsStore}
use Rattle.mf_ingest.specs.EntityRows.{whole_rows, node_parts}
use Rattle.mf_ingest.proofs.Gatherings.{on-ok, node-behind, keeps-one, keeps-more}
use Rattle.mf_ingest.proofs.Grown.{front-few}
use Rattle.mf_ingest.proofs.gathering.Gathering.put_node.Goals as goal

pub returns-in-Some-clause-put : goal.returns-in-Some-clause-put
returns-in-Some-clause-put g c =
    let old : Gathered = record {
      places = c.self.inside.places;
      refs = c.self.inside.refs;
      members = c.self.inside.members;
      node_units = c.self.inside.node_units;
      way_units = c.self.inside.way_units;
      relation_units = c.self.inside.relation_units;
    } in
    let n = node_shown c.args.node in
    let d = c.in-Some.front in
    let is : c.args.described.now ≡ Some d = search rules in
    let places = c.in_ok-put.ensures.put.rows ∙ ap (λ r. old.places.rows ++ r ∷ []) c.node_row.ensures.row in
    on-ok c.put_whole.result
    (λ (units : ArePut feature_kind (whole_rows n d) old.node_units c.put_whole.new.units
    (g.P.Spill.state c.put_whole.new.spill)). subst
    (λ o. gathered_rows (record old { places = c.put.new.self; node_units = c.put_whole.new.units })
    ≡ rows_behind (gathered_rows o) (node_parts n c.args.described.now)) c.self.view_is
    (node-behind old c.args.described.now d is n c.put.new.self c.put_whole.new.units places units.rows_now))
    c.put_whole.ensures.put

pub returns-in-Some-clause-kept : goal.returns-in-Some-clause-kept
returns-in-Some-clause-kept g c =
    let old : Gathered = record {
      places = c.self.inside.places;
      refs = c.self.inside.refs;
      members = c.self.inside.members;
      node_units = c.self.inside.node_units;
      way_units = c.self.inside.way_units;
      relation_units = c.self.inside.relation_units;
    } in
    let front : IsFront c.in-Some.front = search rules in
    subst (λ o. KeepsStore 65536 o (g.P.Spill.state c.args.spill.now) (g.P.Spill.state c.put_whole.new.spill))
    c.self.view_is
    (keeps-more {g = old}
    (keeps-one c.put.ensures.only c.put.ensures.counts
    (λ (space : HaveSpace 65536 old). c.put.ensures.within (omega (arith, space.places))))
    c.put_whole.ensures.only c.put_whole.ensures.counts
    (λ (space : HaveSpace 65536 old). c.put_whole.ensures.within
    (omega (arith, space.node_units, front-few c.in-Some.front front))))
