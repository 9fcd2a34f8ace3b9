-- The refs of all ways, joined with the nodes, are the points of way after way.
use Rattle.std.proofs.Common.{◌≡◌, ℕ, zero, suc, ◌≤◌, ℤ, pos, negsuc, List, [], ◌∷◌, ◌++◌, map, length, Option}
use Rattle.std.proofs.Common.{Some, None, refl, sym, ap, ◌∙◌, inl, inr, arith, eq-eqb, ne_eqb}
use Rattle.std.specs.Prelude.{◌==◌, find, filter_map, flat_map, option_map, sum_by}
use Rattle.std.specs.List.{cons_option, enumerate_from}
use Rattle.std.proofs.lemmas.Bool.Decides.{eqb_tells}
use Rattle.std.proofs.lemmas.List.Concat.{length-flat_map}
use Rattle.std.proofs.lemmas.List.Elements.{filter_map-append}
use Rattle.std.proofs.lemmas.List.FromFn.{length-enumerate_from}
use Rattle.std.proofs.lemmas.List.Sums.{sum_by-le-sum_by}
use Rattle.osm_model.specs.Entities.{Entity, Node, Way, nodes_of, ways_of}
use Rattle.feature_model.specs.Points.{Point, names, node_named, point_of, way_points, numbered_points}
use Rattle.feature_model.proofs.ShapeLaws.{points-numbered}
use Rattle.mf_rows.specs.declared.kinds.NodeRow.{NodeRow}
use Rattle.mf_rows.specs.declared.kinds.RefRow.{RefRow}
use Rattle.mf_rows.specs.declared.kinds.PointRow.{PointRow}
use Rattle.spill_parts.specs.Handed.{id_told, node_row_of, ref_row_of, ref_rows}
use Rattle.spill_parts.specs.Join.{joined_rows}
use Rattle.way_points.specs.PointRows.{node_id, ref_node, point_joined, point_row_of, way_point_rows, point_rows}
use Rattle.way_points.specs.PointRows.{point_told}

-- ---- the node of a ref

find_row : (k : ℕ) (ns : List Node)
    → find (λ (r : NodeRow). node_id r == suc k) (map node_row_of ns)
    ≡ option_map node_row_of (find (λ (n : Node). names (pos (suc k)) n.id) ns)
find_row k [] = refl
find_row k (n ∷ ns) = elim (eqb_tells n.id (suc k)) [
  | inl same ↦ rw (same.0, eq-eqb (suc k) n.id (sym same.1)) refl
  | inr other ↦ rw (other.0, ne_eqb (suc k) n.id (λ e. other.1 (sym e))) (find_row k ns)
]

-- the row that is found for a ref above 0 is that of the node that it names
found_row : (entities : List Entity) (ref : ℤ) (id : ℕ) → id_told ref ≡ Some id
    → find (λ (r : NodeRow). node_id r == id) (map node_row_of (nodes_of entities))
    ≡ option_map node_row_of (node_named entities ref)
found_row entities (pos zero) id told = absurd (cc told)
found_row entities (negsuc n) id told = absurd (cc told)
found_row entities (pos (suc k)) id told = let same : suc k ≡ id = cc told in rw (← same) (find_row k (nodes_of entities))

nothing-zero : (ns : List Node) → find (λ (n : Node). names (pos zero) n.id) ns ≡ None
nothing-zero [] = refl
nothing-zero (n ∷ ns) = nothing-zero ns

nothing-below : (k : ℕ) (ns : List Node) → find (λ (n : Node). names (negsuc k) n.id) ns ≡ None
nothing-below k [] = refl
nothing-below k (n ∷ ns) = nothing-below k ns

-- a ref below 1 names no node
none_below : (entities : List Entity) (ref : ℤ) → id_told ref ≡ None → node_named entities ref ≡ None
none_below entities (pos zero) told = nothing-zero (nodes_of entities)
none_below entities (pos (suc k)) told = absurd (cc told)
none_below entities (negsuc k) told = nothing-below k (nodes_of entities)

-- ---- the points of refs

-- the point of a ref, where it has a node
joined_ref : List Entity → RefRow → Option PointRow
joined_ref entities r =
    option_map (point_joined r) (find (λ (n : NodeRow). node_id n == ref_node r) (map node_row_of (nodes_of entities)))

-- a ref as a point at its place
abbrev numbered : List Entity → ℕ × ℤ → Option (ℕ × Point)
numbered entities at = option_map (λ p. (at.0, p)) (option_map point_of (node_named entities at.1))

joined_at : (entities : List Entity) (way : ℕ) (at : ℕ × ℤ) (more : List (ℕ × Point)) (rest : List RefRow)
    → filter_map (joined_ref entities) rest ≡ map (point_row_of way) more
    → filter_map (joined_ref entities) (cons_option (ref_row_of way at) rest)
    ≡ map (point_row_of way) (cons_option (numbered entities at) more)
unfolding joined_ref
joined_at entities way at more rest same = by_id (id_told at.1) refl
  where
    with_id : ℕ → RefRow
    with_id id = record { node = id; way = way; place = at.0 }

    by_node : (o : Option Node) (id : ℕ)
        → cons_option (option_map (point_joined (with_id id)) (option_map node_row_of o)) (map (point_row_of way) more)
        ≡ map (point_row_of way) (cons_option (option_map (λ p. (at.0, p)) (option_map point_of o)) more)
    by_node None id = refl
    by_node (Some n) id = refl

    by_id : (o : Option ℕ) → id_told at.1 ≡ o
        → filter_map (joined_ref entities) (cons_option (option_map with_id o) rest)
        ≡ map (point_row_of way) (cons_option (numbered entities at) more)
    by_id None told = rw (none_below entities at.1 told) same
    by_id (Some id) told = rw (found_row entities at.1 id told, same) (by_node (node_named entities at.1) id)

joined_places : (entities : List Entity) (way : ℕ) (ats : List (ℕ × ℤ))
    → filter_map (joined_ref entities) (filter_map (ref_row_of way) ats)
    ≡ map (point_row_of way) (filter_map (numbered entities) ats)
joined_places entities way [] = refl
joined_places entities way (at ∷ ats) =
    joined_at entities way at (filter_map (numbered entities) ats) (filter_map (ref_row_of way) ats)
    (joined_places entities way ats)

joined_way : (entities : List Entity) (w : Way)
    → filter_map (joined_ref entities) (ref_rows w) ≡ way_point_rows entities w
unfolding numbered_points
joined_way entities w = joined_places entities w.id (enumerate_from 0 w.refs)

joined_ways : (entities : List Entity) (ws : List Way)
    → filter_map (joined_ref entities) (flat_map ref_rows ws) ≡ flat_map (way_point_rows entities) ws
joined_ways entities [] = refl
joined_ways entities (w ∷ ws) =
    filter_map-append (joined_ref entities) (ref_rows w) (flat_map ref_rows ws)
    ∙ ap (λ l. l ++ filter_map (joined_ref entities) (flat_map ref_rows ws)) (joined_way entities w)
    ∙ ap (λ l. way_point_rows entities w ++ l) (joined_ways entities ws)

-- The refs in the order of the input, joined with the nodes, are the points of way after way.
pub all_joined : (entities : List Entity)
    → joined_rows ref_node node_id point_joined (map node_row_of (nodes_of entities))
    (flat_map ref_rows (ways_of entities))
    ≡ point_rows entities
unfolding joined_rows joined_ref
all_joined entities = joined_ways entities (ways_of entities)

-- ---- how many they are

fewer-given : {A B : Type 0} (h : A → Option B) (xs : List A) → length (filter_map h xs) ≤ length xs
fewer-given h [] = omega arith
fewer-given {A} {B} h (x ∷ xs) = by_value (h x) (fewer-given h xs)
  where
    by_value : (o : Option B) → length (filter_map h xs) ≤ length xs
        → length (cons_option o (filter_map h xs)) ≤ suc (length xs)
    by_value None fewer = omega (arith, fewer)
    by_value (Some y) fewer = omega (arith, fewer)

pub fewer-points : (entities : List Entity)
    → length (point_rows entities) ≤ length (flat_map ref_rows (ways_of entities))
fewer-points entities =
    omega (
      arith,
      ap length (joined_ways entities (ways_of entities)),
      fewer-given (joined_ref entities) (flat_map ref_rows (ways_of entities)),
    )

-- no more rows of refs than refs
pub fewer-rows : (entities : List Entity)
    → length (flat_map ref_rows (ways_of entities)) ≤ sum_by (λ (w : Way). length w.refs) (ways_of entities)
fewer-rows entities =
    omega (
      arith,
      length-flat_map ref_rows (ways_of entities),
      sum_by-le-sum_by (λ (w : Way). length (ref_rows w)) (λ (w : Way). length w.refs) (ways_of entities) fewer-of_way,
    )
  where
    fewer-of_way : (w : Way) → length (ref_rows w) ≤ length w.refs
    fewer-of_way w =
        omega (
          arith,
          fewer-given (ref_row_of w.id) (enumerate_from 0 w.refs),
          length-enumerate_from 0 w.refs,
        )

-- ---- without their places

told_each : (way : ℕ) (ps : List (ℕ × Point))
    → map point_told (map (point_row_of way) ps) ≡ map (λ (p : ℕ × Point). p.1) ps
told_each way [] = refl
told_each way (p ∷ ps) = ap (λ (l : List Point). p.1 ∷ l) (told_each way ps)

-- The points of a way as rows tell its points.
pub points-told : (entities : List Entity) (w : Way)
    → map point_told (way_point_rows entities w) ≡ way_points entities w
points-told entities w = told_each w.id (numbered_points entities w) ∙ points-numbered entities w
