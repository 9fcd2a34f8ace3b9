-- The nodes, the ways and the points of an input stand in order.
use Rattle.std.proofs.Common.{◌≡◌, ℕ, ◌<◌, ◌≤◌, List, [], ◌∷◌, map, Option, Some, None, refl, sym, ap, subst, inl, inr}
use Rattle.std.proofs.Common.{arith}
use Rattle.std.specs.Prelude.{filter_map, option_map}
use Rattle.std.specs.List.{AllByRecursion, cons_option, enumerate_from}
use Rattle.mf_base.proofs.Pairs.{EachPair, each_pair}
use Rattle.osm_model.specs.Entities.{Entity, Node, Way, node, way, relation, as_node, as_way, nodes_of, ways_of}
use Rattle.osm_model.specs.Order.{kind_and_id, Precedes, IsRising}
use Rattle.osm_model.proofs.InputRises.{input_rises}
use Rattle.feature_model.specs.Points.{Point, numbered_points, point_of, node_named}
use Rattle.feature_model.proofs.ListLemmas.{all-filter_map}
use Rattle.feature_model.proofs.Rising.{all-map, all-from, all-imp, rises-map, rises-flat_map, rises-enumerate}
use Rattle.mf_rows.specs.declared.kinds.NodeRow.{NodeRow}
use Rattle.mf_rows.specs.declared.kinds.PointRow.{PointRow}
use Rattle.spill_parts.specs.Handed.{IsInput, node_row_of}
use Rattle.spill_parts.specs.Join.{Climbs, Rises}
use Rattle.way_points.specs.PointRows.{node_id, point_way, point_row_of, way_point_rows, point_rows, IsPointBelow}

-- the entities of an accepted input are in order
pub rising-input : (entities : List Entity) → IsInput entities → IsRising entities
rising-input entities is = subst IsRising (sym is.all) (input_rises is.input)

-- what is made of some items keeps their order
rises-filter_map : {A B : Type 0} (R : A → A → Type 0) (S : B → B → Type 0) (h : A → Option B)
    → ((a b : A) (c d : B) → h a ≡ Some c → h b ≡ Some d → R a b → S c d) → (xs : List A) → EachPair R xs
    → EachPair S (filter_map h xs)
rises-filter_map R S h step [] rises = tt
rises-filter_map {A} {B} R S h step (x ∷ xs) rises = by_value (h x) refl (rises-filter_map R S h step xs rises.1)
  where
    by_value : (o : Option B) → h x ≡ o → EachPair S (filter_map h xs) → EachPair S (cons_option o (filter_map h xs))
    by_value None e more = more
    by_value (Some y) e more =
        (all-filter_map (R x) (S y) h xs rises.0 (λ a b before is. step x a y b e is before), more)

-- ---- nodes and ways

abbrev EntityBefore : Entity → Entity → Type 0
EntityBefore a b = Precedes (kind_and_id a) (kind_and_id b)

in_order : (entities : List Entity) → IsRising entities → EachPair EntityBefore entities
in_order entities rising = each_pair EntityBefore entities rising.1

node-before : (a b : Entity) (m n : Node) → as_node a ≡ Some m → as_node b ≡ Some n → EntityBefore a b → m.id < n.id
node-before (node a) (node b) m n e f before =
    let first : a ≡ m = cc e in let second : b ≡ n = cc f in rw (← first, ← second) (before.1 refl)
node-before (node a) (way b) m n e f before = absurd (cc f)
node-before (node a) (relation b) m n e f before = absurd (cc f)
node-before (way a) b m n e f before = absurd (cc e)
node-before (relation a) b m n e f before = absurd (cc e)

way-before : (a b : Entity) (v w : Way) → as_way a ≡ Some v → as_way b ≡ Some w → EntityBefore a b → v.id < w.id
way-before (way a) (way b) v w e f before =
    let first : a ≡ v = cc e in let second : b ≡ w = cc f in rw (← first, ← second) (before.1 refl)
way-before (way a) (node b) v w e f before = absurd (cc f)
way-before (way a) (relation b) v w e f before = absurd (cc f)
way-before (node a) b v w e f before = absurd (cc e)
way-before (relation a) b v w e f before = absurd (cc e)

pub ways-rise : (entities : List Entity) → IsRising entities → EachPair (λ (v w : Way). v.id < w.id) (ways_of entities)
ways-rise entities rising =
    rises-filter_map EntityBefore (λ (v w : Way). v.id < w.id) as_way way-before entities (in_order entities rising)

rows-rise : (ns : List Node) → EachPair (λ (m n : Node). m.id < n.id) ns → Rises node_id (map node_row_of ns)
rows-rise [] rises = tt
rows-rise (n ∷ ns) rises =
    (all-map (λ (r : NodeRow). n.id < node_id r) node_row_of ns rises.0, rows-rise ns rises.1)

-- the rows of the nodes rise by their ids
pub nodes-rise : (entities : List Entity) → IsRising entities → Rises node_id (map node_row_of (nodes_of entities))
nodes-rise entities rising =
    rows-rise (nodes_of entities)
    (rises-filter_map EntityBefore (λ (m n : Node). m.id < n.id) as_node node-before entities
    (in_order entities rising))

-- ---- points

-- what is made of an item stands at its place
place-kept : {B : Type 0} (n : ℕ) (o : Option B) (c : ℕ × B) → option_map (λ b. (n, b)) o ≡ Some c → n ≡ c.0
place-kept n None c e = absurd (cc e)
place-kept {B} n (Some b) c e = let same : (n, b) ≡ c = cc e in ap (λ (p : ℕ × B). p.0) same

numbered-rise : {A B : Type 0} (given : A → Option B) (items : List A) → EachPair (λ (p q : ℕ × B). p.0 < q.0)
    (filter_map (λ (at : ℕ × A). option_map (λ b. (at.0, b)) (given at.1)) (enumerate_from 0 items))
numbered-rise {A} {B} given items =
    rises-filter_map (λ (p q : ℕ × A). p.0 < q.0) (λ (p q : ℕ × B). p.0 < q.0)
    (λ (at : ℕ × A). option_map (λ b. (at.0, b)) (given at.1))
    (λ a b c d e f before. omega (arith, place-kept a.0 (given a.1) c e, place-kept b.0 (given b.1) d f, before))
    (enumerate_from 0 items) (rises-enumerate 0 items)

pub places-rise : (entities : List Entity) (w : Way)
    → EachPair (λ (p q : ℕ × Point). p.0 < q.0) (numbered_points entities w)
unfolding numbered_points
places-rise entities w = numbered-rise (λ ref. option_map point_of (node_named entities ref)) w.refs

-- the points of a way are of this way, and rise by their places
pub rows-own : (entities : List Entity) (w : Way)
    → AllByRecursion (λ (r : PointRow). point_way r ≡ w.id) (way_point_rows entities w)
rows-own entities w =
    all-map (λ (r : PointRow). point_way r ≡ w.id) (point_row_of w.id) (numbered_points entities w)
    (all-from (λ (p : ℕ × Point). w.id ≡ w.id) (λ p. refl) (numbered_points entities w))

each-below : (id : ℕ) (ps : List (ℕ × Point)) → EachPair (λ (p q : ℕ × Point). p.0 < q.0) ps
    → EachPair (λ (p q : ℕ × Point). IsPointBelow (point_row_of id p) (point_row_of id q)) ps
each-below id [] rises = tt
each-below id (p ∷ ps) rises = (
  all-imp (λ (q : ℕ × Point). p.0 < q.0) (λ (q : ℕ × Point). IsPointBelow (point_row_of id p) (point_row_of id q))
      (λ q less. inr (refl, less)) ps rises.0,
  each-below id ps rises.1,
)

way-rises : (entities : List Entity) (w : Way) → EachPair IsPointBelow (way_point_rows entities w)
way-rises entities w =
    rises-map IsPointBelow (point_row_of w.id) (numbered_points entities w)
    (each-below w.id (numbered_points entities w) (places-rise entities w))

-- The points of all ways rise by way and place.
pub points-rise : (entities : List Entity) → IsRising entities → EachPair IsPointBelow (point_rows entities)
points-rise entities rising =
    rises-flat_map (λ (w : Way) (r : PointRow). point_way r ≡ w.id) (λ (v w : Way). v.id < w.id) IsPointBelow
    (way_point_rows entities) (λ v w r s less of_v of_w. inl (omega (arith, less, of_v, of_w))) (rows-own entities)
    (way-rises entities) (ways_of entities) (ways-rise entities rising)

up_to : (p q : PointRow) → IsPointBelow p q → point_way p ≤ point_way q
up_to p q (inl less) = omega (arith, less)
up_to p q (inr same) = omega (arith, same.0)

climbs-below : (rows : List PointRow) → EachPair IsPointBelow rows → Climbs point_way rows
climbs-below [] rises = tt
climbs-below (p ∷ rows) rises = (
  all-imp (IsPointBelow p) (λ (q : PointRow). point_way p ≤ point_way q) (up_to p) rows rises.0,
  climbs-below rows rises.1,
)

-- They climb by way.
pub points-climb : (entities : List Entity) → IsRising entities → Climbs point_way (point_rows entities)
points-climb entities rising = climbs-below (point_rows entities) (points-rise entities rising)
