-- Points and parts with their places, look-ups under rising ids, and candidates by kind: for the joins of an input.
use Rattle.std.proofs.Common.{◌≡◌, ℕ, zero, suc, ◌+◌, ◌<◌, pos, List, [], ◌∷◌, ◌++◌, map, length, Bool, true}
use Rattle.std.proofs.Common.{false, Option, Some, None, refl, sym, ap, ◌∙◌, arith}
use Rattle.std.specs.Prelude.{filter_map, find, option_map, option_and_then, is_some}
use Rattle.std.specs.List.{AllByRecursion, enumerate_from, cons_option}
use Rattle.std.proofs.lemmas.Bool.{eq-eqb, ne_eqb}
use Rattle.std.proofs.lemmas.List.Elements.{recursion_from_All, filter_map-append}
use Rattle.mf_base.specs.declared.kind.EntityKind.{EntityKind}
use Rattle.mf_base.specs.declared.kind.Role.{Role}
use Rattle.mf_base.proofs.Pairs.{EachPair, each_pair}
use Rattle.osm_model.specs.Entities.{Entity, Node, Way, Member, Relation, node, way, relation, id_of, nodes_of, ways_of}
use Rattle.osm_model.specs.Entities.{relations_of}
use Rattle.osm_model.specs.Order.{kind_and_id, Precedes, IsRising}
use Rattle.feature_model.specs.Mapping.{Mapping}
use Rattle.feature_model.specs.Points.{Point, Part, names, node_named, way_named, point_of, way_points, role_of}
use Rattle.feature_model.specs.Points.{member_part, part_of, relation_parts, may_be_part, numbered_points}
use Rattle.feature_model.specs.Points.{numbered_parts, parts_of}
use Rattle.feature_model.specs.Descriptions.{texts_length}
use Rattle.feature_model.specs.Candidates.{Candidate, candidate_of, candidates}
use Rattle.feature_model.specs.Weights.{point_count, weight, weight_of_counts}

-- ---- with their places

cons-numbered : {B : Type 0} (n : ℕ) (o : Option B) (rest : List (ℕ × B)) (others : List B)
    → map (λ (p : ℕ × B). p.1) rest ≡ others
    → map (λ (p : ℕ × B). p.1) (cons_option (option_map (λ b. (n, b)) o) rest) ≡ cons_option o others
cons-numbered n None rest others e = e
cons-numbered n (Some b) rest others e = ap (λ bs. b ∷ bs) e

numbered-from : {A B : Type 0} (given : A → Option B) (n : ℕ) (items : List A)
    → map (λ (p : ℕ × B). p.1)
    (filter_map (λ (at : ℕ × A). option_map (λ b. (at.0, b)) (given at.1)) (enumerate_from n items))
    ≡ filter_map given items
numbered-from given n [] = refl
numbered-from given n (a ∷ items) =
    cons-numbered n (given a) _ (filter_map given items) (numbered-from given (n + 1) items)

pub points-numbered : (entities : List Entity) (w : Way)
    → map (λ (p : ℕ × Point). p.1) (numbered_points entities w) ≡ way_points entities w
unfolding numbered_points way_points
points-numbered entities w = numbered-from (λ ref. option_map point_of (node_named entities ref)) 0 w.refs

pub parts-numbered : (entities : List Entity) (r : Relation)
    → map (λ (p : ℕ × Part). p.1) (numbered_parts entities r) ≡ relation_parts entities r
unfolding numbered_parts relation_parts
parts-numbered entities r = numbered-from (member_part entities) 0 r.members

-- a member that can't be a part has none
pub no-part : (entities : List Entity) (m : Member) → may_be_part m ≡ false → member_part entities m ≡ None
unfolding member_part
no-part entities m e = by_kind_of m.kind (role_of m.role) e
  where
    of_way : EntityKind → Option Way
    of_way kind = elim kind [ EntityKind.Way ↦ way_named entities m.id | _ ↦ None ]

    by_kind_of : (kind : EntityKind) (role : Option Role)
        → elim kind as (λ k. Bool) [ EntityKind.Way ↦ is_some role | _ ↦ false ] ≡ false
        → option_and_then (λ role. option_and_then (λ w. part_of role (way_points entities w)) (of_way kind)) role
        ≡ None
    by_kind_of kind None e = refl
    by_kind_of EntityKind.Node (Some role) e = refl
    by_kind_of EntityKind.Way (Some role) e = absurd (cc e)
    by_kind_of EntityKind.Relation (Some role) e = refl

-- ---- look-up

abbrev InOrder : List Entity → Type 0
InOrder es = EachPair (λ a b. Precedes (kind_and_id a) (kind_and_id b)) es

nodes-above : (n : Node) (es : List Entity)
    → AllByRecursion (λ later. Precedes (kind_and_id (node n)) (kind_and_id later)) es
    → AllByRecursion (λ (m : Node). n.id < m.id) (nodes_of es)
nodes-above n [] all = tt
nodes-above n (node m ∷ es) all = (all.0.1 refl, nodes-above n es all.1)
nodes-above n (way w ∷ es) all = nodes-above n es all.1
nodes-above n (relation r ∷ es) all = nodes-above n es all.1

nodes-climb : (es : List Entity) → InOrder es → EachPair (λ (a b : Node). a.id < b.id) (nodes_of es)
nodes-climb [] order = tt
nodes-climb (node n ∷ es) order = (nodes-above n es order.0, nodes-climb es order.1)
nodes-climb (way w ∷ es) order = nodes-climb es order.1
nodes-climb (relation r ∷ es) order = nodes-climb es order.1

ways-above : (v : Way) (es : List Entity)
    → AllByRecursion (λ later. Precedes (kind_and_id (way v)) (kind_and_id later)) es
    → AllByRecursion (λ (w : Way). v.id < w.id) (ways_of es)
ways-above v [] all = tt
ways-above v (way w ∷ es) all = (all.0.1 refl, ways-above v es all.1)
ways-above v (node n ∷ es) all = ways-above v es all.1
ways-above v (relation r ∷ es) all = ways-above v es all.1

ways-climb : (es : List Entity) → InOrder es → EachPair (λ (a b : Way). a.id < b.id) (ways_of es)
ways-climb [] order = tt
ways-climb (way w ∷ es) order = (ways-above w es order.0, ways-climb es order.1)
ways-climb (node n ∷ es) order = ways-climb es order.1
ways-climb (relation r ∷ es) order = ways-climb es order.1

names-itself : (id : ℕ) → 0 < id → names (pos id) id ≡ true
names-itself zero some = absurd (omega (arith, some))
names-itself (suc n) some = eq-eqb (suc n) (suc n) refl

names-other : (id other : ℕ) → (id ≡ other → ⊥) → names (pos id) other ≡ false
names-other zero other apart = refl
names-other (suc n) other apart = ne_eqb (suc n) other apart

-- Of items whose ids rise each is the one that is found by its id.
found-itself : {N : Type 0} (key : N → ℕ) (ns : List N) → AllByRecursion (λ (n : N). 0 < key n) ns
    → EachPair (λ a b. key a < key b) ns
    → AllByRecursion (λ (n : N). find (λ (m : N). names (pos (key n)) (key m)) ns ≡ Some n) ns
found-itself key [] some rises = tt
found-itself {N} key (n ∷ ns) some rises =
    (rw (names-itself (key n) some.0) refl, behind ns rises.0 (found-itself key ns some.1 rises.1))
  where
    behind : (ms : List N) → AllByRecursion (λ (m : N). key n < key m) ms
        → AllByRecursion (λ (m : N). find (λ (x : N). names (pos (key m)) (key x)) ns ≡ Some m) ms
        → AllByRecursion (λ (m : N). find (λ (x : N). names (pos (key m)) (key x)) (n ∷ ns) ≡ Some m) ms
    behind [] above found = tt
    behind (m ∷ ms) above found =
        (rw (names-other (key m) (key n) (λ e. omega (arith, above.0, e))) found.0, behind ms above.1 found.1)

found-none : {N : Type 0} (key : N → ℕ) (id : ℕ) (ns : List N) → AllByRecursion (λ (n : N). key n ≡ id → ⊥) ns
    → find (λ (n : N). names (pos id) (key n)) ns ≡ None
found-none key id [] other = refl
found-none key id (n ∷ ns) other = rw (names-other id (key n) (λ e. other.0 (sym e))) (found-none key id ns other.1)

nodes-some : (es : List Entity) → AllByRecursion (λ e. 0 < id_of e) es
    → AllByRecursion (λ (n : Node). 0 < n.id) (nodes_of es)
nodes-some [] all = tt
nodes-some (node n ∷ es) all = (all.0, nodes-some es all.1)
nodes-some (way w ∷ es) all = nodes-some es all.1
nodes-some (relation r ∷ es) all = nodes-some es all.1

ways-some : (es : List Entity) → AllByRecursion (λ e. 0 < id_of e) es
    → AllByRecursion (λ (w : Way). 0 < w.id) (ways_of es)
ways-some [] all = tt
ways-some (way w ∷ es) all = (all.0, ways-some es all.1)
ways-some (node n ∷ es) all = ways-some es all.1
ways-some (relation r ∷ es) all = ways-some es all.1

pub nodes-named : (entities : List Entity) → IsRising entities
    → AllByRecursion (λ (n : Node). node_named entities (pos n.id) ≡ Some n) (nodes_of entities)
nodes-named entities rising =
    found-itself (λ (n : Node). n.id) (nodes_of entities)
    (nodes-some entities (recursion_from_All (λ e. 0 < id_of e) entities rising.0))
    (nodes-climb entities (each_pair (λ a b. Precedes (kind_and_id a) (kind_and_id b)) entities rising.1))

pub ways-named : (entities : List Entity) → IsRising entities
    → AllByRecursion (λ (w : Way). way_named entities (pos w.id) ≡ Some w) (ways_of entities)
ways-named entities rising =
    found-itself (λ (w : Way). w.id) (ways_of entities)
    (ways-some entities (recursion_from_All (λ e. 0 < id_of e) entities rising.0))
    (ways-climb entities (each_pair (λ a b. Precedes (kind_and_id a) (kind_and_id b)) entities rising.1))

pub no-node : (entities : List Entity) (id : ℕ) → AllByRecursion (λ (n : Node). n.id ≡ id → ⊥) (nodes_of entities)
    → node_named entities (pos id) ≡ None
no-node entities id other = found-none (λ (n : Node). n.id) id (nodes_of entities) other

pub no-way : (entities : List Entity) (id : ℕ) → AllByRecursion (λ (w : Way). w.id ≡ id → ⊥) (ways_of entities)
    → way_named entities (pos id) ≡ None
no-way entities id other = found-none (λ (w : Way). w.id) id (ways_of entities) other

-- ---- candidates

pub weight-counted : (c : Candidate)
    → weight c ≡ weight_of_counts (length (parts_of c.geometry)) (point_count c.geometry) (texts_length c.description)
unfolding weight
weight-counted c = refl

pub candidates-parts : (mapping : Mapping) (entities : List Entity) → candidates mapping entities
    ≡ filter_map (candidate_of mapping entities) (map node (nodes_of entities))
    ++ filter_map (candidate_of mapping entities) (map way (ways_of entities))
    ++ filter_map (candidate_of mapping entities) (map relation (relations_of entities))
unfolding candidates
candidates-parts mapping entities =
    filter_map-append (candidate_of mapping entities) (map node (nodes_of entities) ++ map way (ways_of entities))
    (map relation (relations_of entities))
    ∙ ap (λ cs. cs ++ filter_map (candidate_of mapping entities) (map relation (relations_of entities)))
    (filter_map-append (candidate_of mapping entities) (map node (nodes_of entities)) (map way (ways_of entities)))

pub ruleset shape_laws = (points-numbered, parts-numbered, no-part, weight-counted, candidates-parts)
