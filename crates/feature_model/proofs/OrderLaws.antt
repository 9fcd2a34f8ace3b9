-- An input in order has its nodes, ways and relations in this order.
use Rattle.std.proofs.Common.{◌≡◌, ◌⊎◌, ℕ, ◌≤◌, List, [], ◌∷◌, ◌++◌, map, true, false, Option, Some, None, refl, sym}
use Rattle.std.proofs.Common.{ap, ◌∙◌, subst, inl, inr, arith}
use Rattle.std.specs.Prelude.{filter_map, option_map}
use Rattle.std.specs.List.{AllByRecursion, cons_option}
use Rattle.std.proofs.lemmas.Bool.{cases_Bool}
use Rattle.std.proofs.lemmas.Option.{same_Some}
use Rattle.mf_base.specs.declared.kind.EntityKind.{EntityKind}
use Rattle.mf_base.proofs.Pairs.{EachPair, each_pair, all_pairs}
use Rattle.osm_model.specs.Entities.{Entity, node, way, relation, kind_of, nodes_of, ways_of, relations_of}
use Rattle.osm_model.specs.Order.{rank, kind_and_id, Precedes, AreInOrder, IsRising}
use Rattle.feature_model.specs.Mapping.{Mapping}
use Rattle.feature_model.specs.Choice.{Choice, choice}
use Rattle.feature_model.specs.Points.{geometry_of}
use Rattle.feature_model.specs.Descriptions.{Description, tags_of, entries_for, may_be_shown, described, description}
use Rattle.feature_model.specs.Features.{Shape, shape, shaped, feature_of, features}
use Rattle.feature_model.specs.Candidates.{Candidate, candidate_of, by_kind, candidates}
use Rattle.feature_model.specs.Proper.{candidate_key, feature_key}
use Rattle.feature_model.proofs.ListLemmas.{all-filter_map, all-map, all-weaker}

-- items in order by what they tell, by recursion on their list
abbrev InOrder : {A : Type 0} → (A → EntityKind × ℕ) → List A → Type 0
InOrder tells xs = EachPair (λ a b. Precedes (tells a) (tells b)) xs

-- the objects are of this kind or of later ones
abbrev FromKind : ℕ → List Entity → Type 0
FromKind least es = AllByRecursion (λ e. least ≤ rank (kind_of e)) es

-- behind a relation there are relations alone
relations-alone : (es : List Entity) → FromKind 2 es
    → (nodes_of es ≡ []) × (ways_of es ≡ []) × (map relation (relations_of es) ≡ es)
relations-alone [] behind = (refl, refl, refl)
relations-alone (node n ∷ es) behind = absurd (omega (arith, behind.0))
relations-alone (way w ∷ es) behind = absurd (omega (arith, behind.0))
relations-alone (relation r ∷ es) behind = let more =
    relations-alone es behind.1 in (more.0, more.1, ap (λ (es : List Entity). relation r ∷ es) more.2)

-- what may stand behind an object
behind : (least : ℕ) (e : Entity) (es : List Entity) → least ≤ rank (kind_of e)
    → AllByRecursion (λ later. Precedes (kind_and_id e) (kind_and_id later)) es → FromKind least es
behind least e es here all =
    all-weaker (λ later. Precedes (kind_and_id e) (kind_and_id later)) (λ later. least ≤ rank (kind_of later)) es
    (λ later stands. omega (arith, here, stands.0)) all

-- behind a way there are ways, and then relations
ways-first : (es : List Entity) → FromKind 1 es → InOrder kind_and_id es
    → (nodes_of es ≡ []) × (map way (ways_of es) ++ map relation (relations_of es) ≡ es)
ways-first [] from ordered = (refl, refl)
ways-first (node n ∷ es) from ordered = absurd (omega (arith, from.0))
ways-first (way w ∷ es) from ordered = let more =
    ways-first es from.1 ordered.1 in (more.0, ap (λ (es : List Entity). way w ∷ es) more.1)
ways-first (relation r ∷ es) from ordered =
    let more = relations-alone es (behind 2 (relation r) es (omega arith) ordered.0) in (
      more.0,
      ap (λ ws. map way ws ++ (relation r ∷ map relation (relations_of es))) more.1
          ∙ ap (λ (es : List Entity). relation r ∷ es) more.2,
    )

by_kind-ordered : (es : List Entity) → InOrder kind_and_id es → by_kind es ≡ es
by_kind-ordered [] ordered = refl
by_kind-ordered (node n ∷ es) ordered = ap (λ (es : List Entity). node n ∷ es) (by_kind-ordered es ordered.1)
by_kind-ordered (way w ∷ es) ordered =
    let more = ways-first es (behind 1 (way w) es (omega arith) ordered.0) ordered.1 in
    ap (λ ns. map node ns ++ (way w ∷ map way (ways_of es)) ++ map relation (relations_of es)) more.0
    ∙ ap (λ (es : List Entity). way w ∷ es) more.1
by_kind-ordered (relation r ∷ es) ordered =
    let more = relations-alone es (behind 2 (relation r) es (omega arith) ordered.0) in
    ap (λ ns. map node ns ++ map way (ways_of es) ++ (relation r ∷ map relation (relations_of es))) more.0
    ∙ ap (λ ws. map way ws ++ (relation r ∷ map relation (relations_of es))) more.1
    ∙ ap (λ (es : List Entity). relation r ∷ es) more.2

rising-ordered : (es : List Entity) → IsRising es → InOrder kind_and_id es
rising-ordered es rising = each_pair (λ a b. Precedes (kind_and_id a) (kind_and_id b)) es rising.1

pub candidates-ordered : (mapping : Mapping) (entities : List Entity) → IsRising entities
    → candidates mapping entities ≡ filter_map (candidate_of mapping entities) entities
unfolding candidates
candidates-ordered mapping entities rising =
    ap (λ es. filter_map (candidate_of mapping entities) es) (by_kind-ordered entities (rising-ordered entities rising))

-- ---- the order of kinds and ids

-- what is made of some items keeps their order
filter_map-ordered : {A B : Type 0} (tells : A → EntityKind × ℕ) (tells_made : B → EntityKind × ℕ) (h : A
    → Option B) (xs : List A)
    → ((x : A) (y : B) → h x ≡ Some y → tells x ≡ tells_made y) → InOrder tells xs
    → InOrder tells_made (filter_map h xs)
filter_map-ordered tells tells_made h [] same ordered = tt
filter_map-ordered {A} {B} tells tells_made h (x ∷ xs) same ordered =
    by_value (h x) refl (filter_map-ordered tells tells_made h xs same ordered.1)
  where
    by_value : (o : Option B) → h x ≡ o → InOrder tells_made (filter_map h xs)
        → InOrder tells_made (cons_option (h x) (filter_map h xs))
    by_value None e more = subst (λ o. InOrder tells_made (cons_option o (filter_map h xs))) (sym e) more
    by_value (Some y) e more =
        let before = all-filter_map (λ later. Precedes (tells x) (tells later))
        (λ later. Precedes (tells x) (tells_made later)) h xs ordered.0
        (λ later made stands is. subst (Precedes (tells x)) (same later made is) stands) in
        subst (λ o. InOrder tells_made (cons_option o (filter_map h xs))) (sym e) (
          subst (λ key. AllByRecursion (λ later. Precedes key (tells_made later)) (filter_map h xs)) (same x y e)
              before,
          more,
        )

map-ordered : {A B : Type 0} (tells : A → EntityKind × ℕ) (tells_made : B → EntityKind × ℕ) (f : A → B) (xs : List A)
    → ((x : A) → tells x ≡ tells_made (f x)) → InOrder tells xs → InOrder tells_made (map f xs)
map-ordered tells tells_made f [] same ordered = tt
map-ordered tells tells_made f (x ∷ xs) same ordered = (
  all-map (λ later. Precedes (tells_made (f x)) (tells_made later)) f xs
      (all-weaker (λ later. Precedes (tells x) (tells later))
      (λ later. Precedes (tells_made (f x)) (tells_made (f later))) xs
      (λ later stands. subst (λ key. Precedes key (tells_made (f later))) (same x)
      (subst (Precedes (tells x)) (same later) stands)) ordered.0),
  map-ordered tells tells_made f xs same ordered.1,
)

-- a description has the kind and the id of its object
description-key : (mapping : Mapping) (e : Entity) (d : Description) → description mapping e ≡ Some d
    → kind_and_id e ≡ (d.kind, d.id)
unfolding description
description-key mapping e d h = by_test (cases_Bool (may_be_shown e))
  where
    by_choice : (o : Option Choice) → option_map (described e) o ≡ Some d → kind_and_id e ≡ (d.kind, d.id)
    by_choice None h = absurd (cc h)
    by_choice (Some chosen) h =
        ap (λ (d : Description). let key : EntityKind × ℕ = (d.kind, d.id) in key) (same_Some (described e chosen) d h)

    by_test : (may_be_shown e ≡ true) ⊎ (may_be_shown e ≡ false) → kind_and_id e ≡ (d.kind, d.id)
    by_test (inl good) = by_choice (choice (entries_for mapping (kind_of e)) (tags_of e)) (rw good at h)
    by_test (inr bad) = absurd (cc (rw bad at h))

candidate-key : (mapping : Mapping) (entities : List Entity) (e : Entity) (c : Candidate)
    → candidate_of mapping entities e ≡ Some c → kind_and_id e ≡ candidate_key c
candidate-key mapping entities e c h = by_description (description mapping e) refl h
  where
    with_geometry : Description → Candidate
    with_geometry d = record { description = d; geometry = geometry_of entities e }

    by_description : (o : Option Description) → description mapping e ≡ o → option_map with_geometry o ≡ Some c
        → kind_and_id e ≡ candidate_key c
    by_description None same h = absurd (cc h)
    by_description (Some d) same h =
        description-key mapping e d same ∙ ap candidate_key (same_Some (with_geometry d) c h)

candidates-in_order : (mapping : Mapping) (entities : List Entity) → IsRising entities
    → InOrder candidate_key (candidates mapping entities)
candidates-in_order mapping entities rising =
    subst (InOrder candidate_key) (sym (candidates-ordered mapping entities rising))
    (filter_map-ordered kind_and_id candidate_key (candidate_of mapping entities) entities
    (λ e c h. candidate-key mapping entities e c h) (rising-ordered entities rising))

pub candidates-rise : (mapping : Mapping) (entities : List Entity) → IsRising entities
    → AreInOrder candidate_key (candidates mapping entities)
candidates-rise mapping entities rising =
    all_pairs (λ a b. Precedes (candidate_key a) (candidate_key b)) (candidates mapping entities)
    (candidates-in_order mapping entities rising)

shaped-key : (c : Candidate) (p : Candidate × Shape) → shaped c ≡ Some p → candidate_key c ≡ candidate_key p.0
shaped-key c p h = by_shape (shape c) h
  where
    with_shape : Shape → Candidate × Shape
    with_shape s = (c, s)

    by_shape : (o : Option Shape) → option_map with_shape o ≡ Some p → candidate_key c ≡ candidate_key p.0
    by_shape None h = absurd (cc h)
    by_shape (Some s) h = ap (λ (p : Candidate × Shape). candidate_key p.0) (same_Some (with_shape s) p h)

features-in_order : (mapping : Mapping) (entities : List Entity) → IsRising entities
    → InOrder feature_key (features mapping entities)
unfolding features
features-in_order mapping entities rising =
    map-ordered (λ (p : Candidate × Shape). candidate_key p.0) feature_key feature_of
    (filter_map shaped (candidates mapping entities)) (λ p. refl)
    (filter_map-ordered candidate_key (λ (p : Candidate × Shape). candidate_key p.0) shaped
    (candidates mapping entities) (λ c p h. shaped-key c p h) (candidates-in_order mapping entities rising))

pub features-rise : (mapping : Mapping) (entities : List Entity) → IsRising entities
    → AreInOrder feature_key (features mapping entities)
features-rise mapping entities rising =
    all_pairs (λ a b. Precedes (feature_key a) (feature_key b)) (features mapping entities)
    (features-in_order mapping entities rising)
