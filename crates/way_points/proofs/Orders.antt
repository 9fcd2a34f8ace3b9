-- The joined refs in any order, put in order, are the points of way after way; and ordered refs climb by their nodes.
use Rattle.std.proofs.Common.{◌≡◌, ℕ, suc, ◌+◌, ◌<◌, ◌≤◌, List, [], ◌∷◌, map, length, Option, Some, None, Bool}
use Rattle.std.proofs.Common.{true, false, if◌then◌else◌, refl, sym, ap, subst, ◌∙◌, inl, inr, arith, true≢false, IsTrue}
use Rattle.std.proofs.Common.{not}
use Rattle.std.specs.Prelude.{◌==◌, find, filter_map, option_map}
use Rattle.std.specs.List.{AllByRecursion, cons_option}
use Rattle.std.proofs.lemmas.Bool.Decides.{leb_tells}
use Rattle.mf_base.specs.Ascending.{is_below, Ascends}
use Rattle.mf_base.proofs.Ordered.{ascending-is}
use Rattle.osm_model.specs.Entities.{Entity}
use Rattle.feature_model.proofs.ListLemmas.{all-filter_map}
use Rattle.feature_model.proofs.Rising.{all-imp, rises-imp, all-from}
use Rattle.feature_model.proofs.Totals.{total, length-total}
use Rattle.mf_rows.specs.RowKinds.{Kind, IsOf, bytes_of}
use Rattle.mf_rows.specs.Kinds.{node_kind, ref_kind, point_kind}
use Rattle.mf_rows.specs.Laws.{ref-laws, point-laws}
use Rattle.mf_rows.specs.declared.kinds.NodeRow.{NodeRow}
use Rattle.mf_rows.specs.declared.kinds.RefRow.{RefRow}
use Rattle.mf_rows.specs.declared.kinds.PointRow.{PointRow}
use Rattle.spill_parts.specs.Parts.{put_row_in, ordered_rows}
use Rattle.spill_parts.specs.Join.{joined_rows, Climbs}
use Rattle.spill_parts.proofs.Ordered.{bytes_ordered, all-ordered}
use Rattle.tile_rows.proofs.ByKeys.{below-less, RowBefore, ordered-by_keys}
use Rattle.way_points.specs.PointRows.{node_id, ref_node, point_joined, point_rows, AreInputRows, IsPointBelow}
use Rattle.way_points.proofs.InOrder.{rising-input, points-rise}
use Rattle.way_points.proofs.Joined.{all_joined}

-- ---- the same items

module _ {K : Type 0} (kind : Kind K) (f : K → ℕ) where
  total-put : (row : K) (rows : List K) → total f (put_row_in kind row rows) ≡ f row + total f rows
  total-put row [] = refl
  total-put row (b ∷ rows) = by_order (is_below (bytes_of kind b) (bytes_of kind row)) (total-put row rows)
    where
      by_order : (below : Bool) → total f (put_row_in kind row rows) ≡ f row + total f rows
          → total f (if below then b ∷ put_row_in kind row rows else row ∷ b ∷ rows) ≡ f row + (f b + total f rows)
      by_order true more = omega (arith, more)
      by_order false more = refl

  -- ordered rows are the same rows
  pub total-ordered : (rows : List K) → total f (ordered_rows kind rows) ≡ total f rows
  unfolding ordered_rows
  total-ordered [] = refl
  total-ordered (row ∷ rows) = omega (arith, total-put row (ordered_rows kind rows), total-ordered rows)

-- what is counted of an item for which there may be one
abbrev counted : {B : Type 0} → (B → ℕ) → Option B → ℕ
counted f None = 0
counted f (Some b) = f b

total-given : {A B : Type 0} (f : B → ℕ) (h : A → Option B) (xs : List A)
    → total f (filter_map h xs) ≡ total (λ x. counted f (h x)) xs
total-given f h [] = refl
total-given {A} {B} f h (x ∷ xs) = by_value (h x) (total-given f h xs)
  where
    by_value : (o : Option B) → total f (filter_map h xs) ≡ total (λ x. counted f (h x)) xs
        → total f (cons_option o (filter_map h xs)) ≡ counted f o + total (λ x. counted f (h x)) xs
    by_value None more = omega (arith, more)
    by_value (Some y) more = omega (arith, more)

-- Refs in the order of their bytes are joined to the same points.
joined-total : (f : PointRow → ℕ) (nodes : List NodeRow) (refs : List RefRow)
    → total f (joined_rows ref_node node_id point_joined nodes (ordered_rows ref_kind refs))
    ≡ total f (joined_rows ref_node node_id point_joined nodes refs)
unfolding joined_rows
joined-total f nodes refs =
    let h : RefRow → Option PointRow =
    λ (r : RefRow). option_map (point_joined r) (find (λ (n : NodeRow). node_id n == ref_node r) nodes) in
    total-given f h (ordered_rows ref_kind refs)
    ∙ total-ordered ref_kind (λ r. counted f (h r)) refs
    ∙ sym (total-given f h refs)

-- ---- rows that are rows

find-known : {N : Type 0} (P : N → Type 0) (p : N → Bool) (ns : List N) → AllByRecursion P ns → (n : N)
    → find p ns ≡ Some n → P n
find-known P p [] all n e = absurd (cc e)
find-known {N} P p (m ∷ ns) all n e = by_test (p m) (λ (f : find p ns ≡ Some n). find-known P p ns all.1 n f) e
  where
    by_test : (b : Bool) → (find p ns ≡ Some n → P n) → (if b then Some m else find p ns) ≡ Some n → P n
    by_test true later found = let same : m ≡ n = cc found in subst P same all.0
    by_test false later found = later found

point-known : (r : RefRow) (found : Option NodeRow) (p : PointRow) → IsOf ref_kind r
    → ((n : NodeRow) → found ≡ Some n → IsOf node_kind n) → option_map (point_joined r) found ≡ Some p
    → IsOf point_kind p
point-known r None p known of_node e = absurd (cc e)
point-known r (Some n) p known of_node e =
    let is = of_node n refl in
    let same : point_joined r n ≡ p = cc e in
    subst (IsOf point_kind) same (known.1.0, (known.1.1.0, (is.0, (is.1.0, (is.1.1.0, tt)))))

joined-known : (nodes : List NodeRow) (refs : List RefRow) → AllByRecursion (IsOf node_kind) nodes
    → AllByRecursion (IsOf ref_kind) refs
    → AllByRecursion (IsOf point_kind) (joined_rows ref_node node_id point_joined nodes refs)
unfolding joined_rows
joined-known nodes refs known_nodes known_refs =
    all-filter_map (IsOf ref_kind) (IsOf point_kind)
    (λ (r : RefRow). option_map (point_joined r) (find (λ (n : NodeRow). node_id n == ref_node r) nodes)) refs
    known_refs
    (λ r p known e. point-known r (find (λ (n : NodeRow). node_id n == ref_node r) nodes) p known
    (find-known (IsOf node_kind) (λ (n : NodeRow). node_id n == ref_node r) nodes known_nodes) e)

-- ---- points in order

key-before : (p q : PointRow) → IsPointBelow p q → RowBefore point_kind p q
key-before p q (inl less) = below-less (p.way ∷ p.place ∷ []) (q.way ∷ q.place ∷ []) (inl less)
key-before p q (inr same) = below-less (p.way ∷ p.place ∷ []) (q.way ∷ q.place ∷ []) (inr (same.0, inl same.1))

module _ (entities : List Entity) (nodes : List NodeRow) (refs : List RefRow) (are : AreInputRows entities nodes refs)
  where
    joined-rows : joined_rows ref_node node_id point_joined nodes refs ≡ point_rows entities
    joined-rows = (λ i. joined_rows ref_node node_id point_joined (are.nodes_are i) (are.refs_are i)) ∙ all_joined entities

    same-points : (f : PointRow → ℕ)
        → total f (joined_rows ref_node node_id point_joined nodes (ordered_rows ref_kind refs))
        ≡ total f (point_rows entities)
    same-points f = joined-total f nodes refs ∙ ap (total f) joined-rows

    -- There are as many.
    pub as_many : length (joined_rows ref_node node_id point_joined nodes (ordered_rows ref_kind refs))
        ≡ length (point_rows entities)
    as_many = length-total (joined_rows ref_node node_id point_joined nodes (ordered_rows ref_kind refs))
        ∙ same-points (λ p. 1) ∙ sym (length-total (point_rows entities))

    -- Ordered refs, joined with the nodes and put in order, are the points of way after way.
    pub points_in_order : AllByRecursion (IsOf node_kind) nodes → AllByRecursion (IsOf ref_kind) refs
        → ordered_rows point_kind (joined_rows ref_node node_id point_joined nodes (ordered_rows ref_kind refs))
        ≡ point_rows entities
    points_in_order known_nodes known_refs =
        ordered-by_keys point_kind point-laws
        (joined_rows ref_node node_id point_joined nodes (ordered_rows ref_kind refs)) (point_rows entities)
        (joined-known nodes (ordered_rows ref_kind refs) known_nodes
        (all-ordered ref_kind (IsOf ref_kind) refs known_refs))
        (subst (AllByRecursion (IsOf point_kind)) joined-rows (joined-known nodes refs known_nodes known_refs))
        (rises-imp (λ p. Unit {0}) IsPointBelow (RowBefore point_kind) (λ p q _ _ below. key-before p q below)
        (point_rows entities) (all-from (λ p. Unit {0}) (λ p. tt) (point_rows entities))
        (points-rise entities (rising-input entities are.input)))
        same-points

-- ---- ordered refs

swapped : (a b : RefRow) → IsOf ref_kind a → IsOf ref_kind b → b.node < a.node
    → ordered_rows ref_kind (a ∷ b ∷ []) ≡ b ∷ a ∷ []
swapped a b is_a is_b less =
    ordered-by_keys ref_kind ref-laws (a ∷ b ∷ []) (b ∷ a ∷ []) (is_a, (is_b, tt)) (is_b, (is_a, tt))
    ((below-less (b.node ∷ b.way ∷ b.place ∷ []) (a.node ∷ a.way ∷ a.place ∷ []) (inl less), tt), (tt, tt))
    (λ f. omega arith)

-- of two rows that do not stand the wrong way round the first has no greater node
node-up : (a b : RefRow) → IsOf ref_kind a → IsOf ref_kind b
    → IsTrue (not (is_below (bytes_of ref_kind b) (bytes_of ref_kind a))) → ref_node a ≤ ref_node b
unfolding ordered_rows
node-up a b is_a is_b up = elim (leb_tells (suc b.node) a.node) [
  | inl less ↦ by_order (is_below (bytes_of ref_kind b) (bytes_of ref_kind a)) up (swapped a b is_a is_b less.1)
  | inr more ↦ omega (arith, more.1)
]
  where
    by_order : (below : Bool) → IsTrue (not below) → (if below then b ∷ a ∷ [] else a ∷ b ∷ []) ≡ b ∷ a ∷ []
        → ref_node a ≤ ref_node b
    by_order true up is = absurd (true≢false (sym up))
    by_order false up is = let same : a ≡ b = cc is in rw same (omega arith)

climbs-ascending : (rows : List RefRow) → AllByRecursion (IsOf ref_kind) rows
    → Ascends (map (bytes_of ref_kind) rows) → Climbs ref_node rows
climbs-ascending [] all up = tt
climbs-ascending (a ∷ []) all up = (tt, tt)
climbs-ascending (a ∷ b ∷ rows) all up =
    let more = climbs-ascending (b ∷ rows) all.1 up.1 in
    let first : ref_node a ≤ ref_node b = node-up a b all.0 all.1.0 up.0 in (
      (
        first,
        all-imp (λ (r : RefRow). ref_node b ≤ ref_node r) (λ (r : RefRow). ref_node a ≤ ref_node r)
            (λ r above. omega (arith, first, above)) rows more.0,
      ),
      more,
    )

-- Ordered refs climb by their nodes.
pub refs-climb : (refs : List RefRow) → AllByRecursion (IsOf ref_kind) refs
    → Climbs ref_node (ordered_rows ref_kind refs)
refs-climb refs known =
    climbs-ascending (ordered_rows ref_kind refs) (all-ordered ref_kind (IsOf ref_kind) refs known)
    (subst Ascends (sym (bytes_ordered ref_kind refs)) (ascending-is (map (bytes_of ref_kind) refs)).ascends)
