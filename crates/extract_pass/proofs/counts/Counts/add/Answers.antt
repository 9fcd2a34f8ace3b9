use Rattle.std.proofs.Common.{rules, subst, sym, ◌≡◌, ◌<◌, ◌^◌, ◌∷◌, ◌++◌, [], arith}
use Rattle.osm_model.specs.Entities.{id_of}
use Rattle.osm_model.specs.Order.{IsRising}
use Rattle.osm_entity.specs.EntityViews.{entity_told}
use Rattle.osm_entity.specs.Node.{node_told}
use Rattle.osm_entity.specs.Ways.{way_told}
use Rattle.osm_entity.specs.Relations.{relation_told}
use Rattle.extract_pass.specs.Counting.{counts_of}
use Rattle.extract_pass.proofs.CountNext.{with_count}
use Rattle.extract_pass.proofs.CountAdds.{fits, adds}
use Rattle.extract_pass.proofs.counts.Counts.add.Goals as goal

pub returns-in-Node : goal.returns-in-Node
returns-in-Node c es more rising is =
    let old = c.args.self.now in
    let e = node_told c.in-Node.field-0 in
    let few = fits old es more e (subst (λ x. IsRising (es ++ entity_told x ∷ more)) c.in-Node.is rising) is in
    let bound : id_of e < 2 ^ 64 = search rules in
    subst (λ x. with_count e c.saturating_add-self.result old ≡ counts_of (es ++ entity_told x ∷ [])) (sym c.in-Node.is)
    (adds old es e c.saturating_add-self.result is (omega (arith, c.saturating_add-self.ensures, few, bound)))

pub returns-in-Way : goal.returns-in-Way
returns-in-Way c es more rising is =
    let old = c.args.self.now in
    let e = way_told c.in-Way.field-0 in
    let few = fits old es more e (subst (λ x. IsRising (es ++ entity_told x ∷ more)) c.in-Way.is rising) is in
    let bound : id_of e < 2 ^ 64 = search rules in
    subst (λ x. with_count e c.saturating_add-self-in-Way.result old ≡ counts_of (es ++ entity_told x ∷ [])) (sym c.in-Way.is)
    (adds old es e c.saturating_add-self-in-Way.result is (omega (arith, c.saturating_add-self-in-Way.ensures, few, bound)))

pub returns-in-Relation : goal.returns-in-Relation
returns-in-Relation c es more rising is =
    let old = c.args.self.now in
    let e = relation_told c.in-Relation.field-0 in
    let few = fits old es more e (subst (λ x. IsRising (es ++ entity_told x ∷ more)) c.in-Relation.is rising) is in
    let bound : id_of e < 2 ^ 64 = search rules in
    subst (λ x. with_count e c.saturating_add-self-in-Relation.result old ≡ counts_of (es ++ entity_told x ∷ [])) (sym c.in-Relation.is)
    (adds old es e c.saturating_add-self-in-Relation.result is (omega (arith, c.saturating_add-self-in-Relation.ensures, few, bound)))
