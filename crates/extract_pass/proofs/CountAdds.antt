-- A count with one entity more does not end, since the ids of a kind rise.
use Rattle.std.proofs.Common.{◌≡◌, ◌∙◌, ◌+◌, ◌≤◌, ◌∷◌, ◌++◌, ℕ, List, [], Some, refl, sym, ap, subst}
use Rattle.std.proofs.lemmas.Option.{none-some}
use Rattle.mf_base.specs.declared.kind.EntityKind.TheVariants as kinds
use Rattle.osm_model.specs.Entities.{Entity, Node, Way, Relation, node, way, relation, as_node, as_way, as_relation}
use Rattle.osm_model.specs.Entities.{kind_of, id_of}
use Rattle.osm_model.specs.Order.{IsRising}
use Rattle.extract_pass.specs.declared.counts.Counts.{Counts}
use Rattle.extract_pass.specs.Counting.{counts_of}
use Rattle.extract_pass.proofs.CountFits.{count-fits}
use Rattle.extract_pass.proofs.CountNext.{with_count, count_for, count-next}

kind_node : (e : Entity) (x : Node) → as_node e ≡ Some x → kind_of e ≡ kinds.Node
kind_node (node n) x e = refl
kind_node (way w) x e = absurd (none-some x e)
kind_node (relation r) x e = absurd (none-some x e)

kind_way : (e : Entity) (x : Way) → as_way e ≡ Some x → kind_of e ≡ kinds.Way
kind_way (node n) x e = absurd (none-some x e)
kind_way (way w) x e = refl
kind_way (relation r) x e = absurd (none-some x e)

kind_relation : (e : Entity) (x : Relation) → as_relation e ≡ Some x → kind_of e ≡ kinds.Relation
kind_relation (node n) x e = absurd (none-some x e)
kind_relation (way w) x e = absurd (none-some x e)
kind_relation (relation r) x e = refl

few : (es more : List Entity) (e : Entity) → IsRising (es ++ e ∷ more) → count_for e (counts_of es) + 1 ≤ id_of e
few es more (node n) rising = count-fits as_node kinds.Node kind_node es (node n) more rising refl
few es more (way w) rising = count-fits as_way kinds.Way kind_way es (way w) more rising refl
few es more (relation r) rising = count-fits as_relation kinds.Relation kind_relation es (relation r) more rising refl

-- fewer of its kind stand before an entity than its id tells
pub fits : (c : Counts) (es more : List Entity) (e : Entity) → IsRising (es ++ e ∷ more) → c ≡ counts_of es
    → count_for e c + 1 ≤ id_of e
fits c es more e rising is = subst (λ c. count_for e c + 1 ≤ id_of e) (sym is) (few es more e rising)

-- the counts with one entity more
pub adds : (c : Counts) (es : List Entity) (e : Entity) (m : ℕ) → c ≡ counts_of es → m ≡ count_for e c + 1
    → with_count e m c ≡ counts_of (es ++ e ∷ [])
adds c es e m is one =
    ap (λ m. with_count e m c) one ∙ ap (λ c. with_count e (count_for e c + 1) c) is ∙ sym (count-next es e)
