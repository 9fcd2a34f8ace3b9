-- One entity more is one more of its kind.
use Rattle.std.proofs.Common.{◌≡◌, ◌∙◌, ◌+◌, ◌∷◌, ◌++◌, ℕ, List, [], Option, ap, refl, length, length-append, arith}
use Rattle.std.specs.Prelude.{filter_map}
use Rattle.std.proofs.lemmas.List.Elements.{filter_map-append}
use Rattle.osm_model.specs.Entities.{Entity, node, way, relation, as_node, as_way, as_relation}
use Rattle.extract_pass.specs.declared.counts.Counts.{Counts}
use Rattle.extract_pass.specs.Counting.{counts_of}

-- the counts with this one for the kind of the entity
abbrev pub with_count : Entity → ℕ → Counts → Counts
with_count (node n) m c = record { nodes = m; ways = c.ways; relations = c.relations }
with_count (way w) m c = record { nodes = c.nodes; ways = m; relations = c.relations }
with_count (relation r) m c = record { nodes = c.nodes; ways = c.ways; relations = m }

-- the count of its kind
abbrev pub count_for : Entity → Counts → ℕ
count_for (node n) c = c.nodes
count_for (way w) c = c.ways
count_for (relation r) c = c.relations

one_more : {A : Type 0} (pick : Entity → Option A) (es : List Entity) (e : Entity)
    → length (filter_map pick (es ++ e ∷ [])) ≡ length (filter_map pick es) + length (filter_map pick (e ∷ []))
one_more pick es e =
    ap length (filter_map-append pick es (e ∷ [])) ∙ length-append (filter_map pick es) (filter_map pick (e ∷ []))

same_counts : (a b c x y z : ℕ) → a ≡ x → b ≡ y → c ≡ z
    → ◌≡◌ {A = Counts} (record { nodes = a; ways = b; relations = c }) (record { nodes = x; ways = y; relations = z })
same_counts a b c x y z e f g = rw (e, f, g) refl

pub count-next : (es : List Entity) (e : Entity) → counts_of (es ++ e ∷ [])
    ≡ with_count e (count_for e (counts_of es) + 1) (counts_of es)
count-next es (node n) =
    same_counts _ _ _ _ _ _ (one_more as_node es (node n)) (one_more as_way es (node n) ∙ omega arith)
    (one_more as_relation es (node n) ∙ omega arith)
count-next es (way w) =
    same_counts _ _ _ _ _ _ (one_more as_node es (way w) ∙ omega arith) (one_more as_way es (way w))
    (one_more as_relation es (way w) ∙ omega arith)
count-next es (relation r) =
    same_counts _ _ _ _ _ _ (one_more as_node es (relation r) ∙ omega arith)
    (one_more as_way es (relation r) ∙ omega arith) (one_more as_relation es (relation r))
