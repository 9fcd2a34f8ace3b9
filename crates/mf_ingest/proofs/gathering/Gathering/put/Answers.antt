use Rattle.std.proofs.Common.{◌≡◌, ◌∷◌, [], sym, ap, ◌∙◌, subst}
use Rattle.feature_model.specs.Descriptions.{description}
use Rattle.osm_entity.specs.EntityViews.{entity_told}
use Rattle.osm_entity.specs.Node.{node_told, node_shown}
use Rattle.osm_entity.specs.Ways.{way_told, way_shown}
use Rattle.osm_entity.specs.Relations.{relation_told, relation_shown}
use Rattle.mf_ingest.specs.Gathered.{gathered_rows, rows_behind, HasPut, most_bytes, HaveGrown}
use Rattle.mf_ingest.specs.EntityRows.{node_parts, way_parts, relation_parts}
use Rattle.mf_ingest.proofs.Gatherings.{on-ok}
use Rattle.mf_ingest.proofs.EntityPuts.{node-put, way-put, relation-put}
use Rattle.mf_ingest.proofs.Grown.{node-grown, way-grown, relation-grown}
use Rattle.mf_ingest.proofs.gathering.Gathering.put.Goals as goal

pub returns-in-Node-clause-put : goal.returns-in-Node-clause-put
returns-in-Node-clause-put g c =
    let m = c.args.mapping.now in
    let v = c.in-Node.node in
    let e : entity_told c.args.entity ≡ node_told v = ap entity_told c.in-Node.is in
    on-ok c.put_node.result
    (λ (behind : gathered_rows c.put_node.new.self
    ≡ rows_behind (gathered_rows c.args.self.now) (node_parts (node_shown v) c.describe-described.result)).
    subst (λ x. HasPut m (x ∷ []) c.args.self.now c.put_node.new.self) (sym e)
    (node-put m (node_shown v) c.describe-described.result
    (c.describe-described.ensures.told ∙ ap (description m) e) c.describe-described.ensures.front
    c.put_node.ensures.known behind)) c.put_node.ensures.put

pub returns-in-Node-clause-grown : goal.returns-in-Node-clause-grown
returns-in-Node-clause-grown g c =
    let v = c.in-Node.node in
    let e : entity_told c.args.entity ≡ node_told v = ap entity_told c.in-Node.is in
    on-ok c.put_node.result
    (λ (behind : gathered_rows c.put_node.new.self
    ≡ rows_behind (gathered_rows c.args.self.now) (node_parts (node_shown v) c.describe-described.result)).
    subst (λ x. HaveGrown (most_bytes x) c.args.self.now c.put_node.new.self) (sym e)
    (node-grown (node_shown v) c.describe-described.result c.describe-described.ensures.front behind))
    c.put_node.ensures.put

pub returns-in-Way-clause-put : goal.returns-in-Way-clause-put
returns-in-Way-clause-put g c =
    let m = c.args.mapping.now in
    let v = c.in-Way.way in
    let e : entity_told c.args.entity ≡ way_told v = ap entity_told c.in-Way.is in
    on-ok c.put_way.result
    (λ (behind : gathered_rows c.put_way.new.self
    ≡ rows_behind (gathered_rows c.args.self.now) (way_parts (way_shown v) c.describe-described.result)).
    subst (λ x. HasPut m (x ∷ []) c.args.self.now c.put_way.new.self) (sym e)
    (way-put m (way_shown v) c.describe-described.result
    (c.describe-described.ensures.told ∙ ap (description m) e) c.describe-described.ensures.front behind))
    c.put_way.ensures.put

pub returns-in-Way-clause-grown : goal.returns-in-Way-clause-grown
returns-in-Way-clause-grown g c =
    let v = c.in-Way.way in
    let e : entity_told c.args.entity ≡ way_told v = ap entity_told c.in-Way.is in
    on-ok c.put_way.result
    (λ (behind : gathered_rows c.put_way.new.self
    ≡ rows_behind (gathered_rows c.args.self.now) (way_parts (way_shown v) c.describe-described.result)).
    subst (λ x. HaveGrown (most_bytes x) c.args.self.now c.put_way.new.self) (sym e)
    (way-grown (way_shown v) c.describe-described.result c.describe-described.ensures.front behind))
    c.put_way.ensures.put

pub returns-in-Relation-clause-put : goal.returns-in-Relation-clause-put
returns-in-Relation-clause-put g c =
    let m = c.args.mapping.now in
    let v = c.in-Relation.relation in
    let e : entity_told c.args.entity ≡ relation_told v = ap entity_told c.in-Relation.is in
    on-ok c.put_relation.result
    (λ (behind : gathered_rows c.put_relation.new.self
    ≡ rows_behind (gathered_rows c.args.self.now) (relation_parts (relation_shown v) c.describe-described.result)).
    subst (λ x. HasPut m (x ∷ []) c.args.self.now c.put_relation.new.self) (sym e)
    (relation-put m (relation_shown v) c.describe-described.result
    (c.describe-described.ensures.told ∙ ap (description m) e) c.describe-described.ensures.front behind))
    c.put_relation.ensures.put

pub returns-in-Relation-clause-grown : goal.returns-in-Relation-clause-grown
returns-in-Relation-clause-grown g c =
    let v = c.in-Relation.relation in
    let e : entity_told c.args.entity ≡ relation_told v = ap entity_told c.in-Relation.is in
    on-ok c.put_relation.result
    (λ (behind : gathered_rows c.put_relation.new.self
    ≡ rows_behind (gathered_rows c.args.self.now) (relation_parts (relation_shown v) c.describe-described.result)).
    subst (λ x. HaveGrown (most_bytes x) c.args.self.now c.put_relation.new.self) (sym e)
    (relation-grown (relation_shown v) c.describe-described.result c.describe-described.ensures.front behind))
    c.put_relation.ensures.put
