-- The members of the candidates of an input, and the points of these members, stand in order.
use Rattle.std.proofs.Common.{◌≡◌, ℕ, ◌<◌, List, [], ◌∷◌, map, Option, Some, None, refl, sym, ap}
use Rattle.std.proofs.Common.{◌∙◌, inl, inr, arith, ◌⊎◌}
use Rattle.std.specs.Prelude.{option_map, option_and_then, is_some}
use Rattle.std.specs.List.{AllByRecursion, enumerate_from}
use Rattle.std.proofs.lemmas.Option.{same_Some}
use Rattle.mf_base.specs.declared.kind.Role.{Role}
use Rattle.mf_base.proofs.Pairs.{EachPair, each_pair}
use Rattle.osm_model.specs.Entities.{Entity, Relation, Member, node, way, relation, as_relation, relations_of}
use Rattle.osm_model.specs.Order.{kind_and_id, Precedes, IsRising}
use Rattle.feature_model.specs.Mapping.{Mapping}
use Rattle.feature_model.specs.Points.{Point}
use Rattle.feature_model.specs.Descriptions.{description}
use Rattle.feature_model.proofs.ListLemmas.{all-filter_map}
use Rattle.feature_model.proofs.Rising.{all-map, all-from, all-imp, all-flat_map, rises-filter, rises-map, rises-flat_map, rises-enumerate}
use Rattle.mf_rows.specs.Units.{role_number}
use Rattle.mf_rows.specs.declared.kinds.MemberRow.{MemberRow}
use Rattle.mf_rows.specs.declared.kinds.RelRow.{RelRow}
use Rattle.spill_parts.specs.Handed.{id_told, part_role, member_row_of, member_rows, candidate_relations}
use Rattle.spill_parts.specs.Join.{Climbs, Rises}
use Rattle.row_runs.specs.Runs.{rows_with, HasItsKey}
use Rattle.row_runs.proofs.Flat.{climbs_flat, rows_of_each}
use Rattle.way_points.specs.PointRows.{point_rows}
use Rattle.member_points.specs.RelRows.{rel_relation, rel_row_of, held_points, points_with, member_point_rows}
use Rattle.member_points.specs.RelRows.{relation_point_rows, rel_rows}
use Rattle.member_points.proofs.Lists.{rises-given, rises-by}

-- ---- relations

abbrev EntityBefore : Entity → Entity → Type 0
EntityBefore a b = Precedes (kind_and_id a) (kind_and_id b)

-- a relation before another
abbrev pub IsLower : Relation → Relation → Type 0
IsLower q r = q.id < r.id

relation-before : (a b : Entity) (q r : Relation) → as_relation a ≡ Some q → as_relation b ≡ Some r → EntityBefore a b
    → IsLower q r
relation-before (relation a) (relation b) q r e f before =
    let first : a ≡ q = cc e in let second : b ≡ r = cc f in rw (← first, ← second) (before.1 refl)
relation-before (relation a) (node b) q r e f before = absurd (cc f)
relation-before (relation a) (way b) q r e f before = absurd (cc f)
relation-before (node a) b q r e f before = absurd (cc e)
relation-before (way a) b q r e f before = absurd (cc e)

relations-rise : (entities : List Entity) → IsRising entities → EachPair IsLower (relations_of entities)
relations-rise entities rising =
    rises-given EntityBefore IsLower as_relation relation-before entities
    (each_pair EntityBefore entities rising.1)

pub candidates-rise : (mapping : Mapping) (entities : List Entity) → IsRising entities
    → EachPair IsLower (candidate_relations mapping (relations_of entities))
candidates-rise mapping entities rising =
    rises-filter IsLower (λ r. is_some (description mapping (relation r))) (relations_of entities)
    (relations-rise entities rising)

-- ---- members

-- what is known of the row of a member
abbrev StandsAt : (relation_id place : ℕ) → MemberRow → Type 0
StandsAt relation_id place m = (m.relation ≡ relation_id) × (m.member ≡ place)

stands : (relation_id : ℕ) (at : ℕ × Member) (m : MemberRow) → member_row_of relation_id at ≡ Some m
    → StandsAt relation_id at.0 m
stands relation_id at m is = by_role (part_role at.1) is
  where
    with_id : Role → ℕ → MemberRow
    with_id role id = record { way = id; relation = relation_id; member = at.0; role = role_number role }

    by_id : (role : Role) (o : Option ℕ) → option_map (with_id role) o ≡ Some m → StandsAt relation_id at.0 m
    by_id role None is = absurd (cc is)
    by_id role (Some id) is =
        let same = same_Some (with_id role id) m is in
        (sym (ap (λ (m : MemberRow). m.relation) same), sym (ap (λ (m : MemberRow). m.member) same))

    by_role : (o : Option Role) → option_and_then (λ role. option_map (with_id role) (id_told at.1.id)) o ≡ Some m
        → StandsAt relation_id at.0 m
    by_role None is = absurd (cc is)
    by_role (Some role) is = by_id role (id_told at.1.id) is

-- the members of a relation are of this relation, and rise by their places
pub members-own : (r : Relation) → AllByRecursion (λ (m : MemberRow). m.relation ≡ r.id) (member_rows r)
members-own r =
    all-filter_map (λ (at : ℕ × Member). Unit {0}) (λ (m : MemberRow). m.relation ≡ r.id) (member_row_of r.id)
    (enumerate_from 0 r.members) (all-from (λ (at : ℕ × Member). Unit {0}) (λ at. tt) (enumerate_from 0 r.members))
    (λ at m any is. (stands r.id at m is).0)

-- a member before another of the same relation
abbrev pub IsEarlier : MemberRow → MemberRow → Type 0
IsEarlier m n = (m.relation ≡ n.relation) × (m.member < n.member)

pub members-rise : (r : Relation) → EachPair IsEarlier (member_rows r)
members-rise r =
    rises-given (λ (p q : ℕ × Member). p.0 < q.0) IsEarlier (member_row_of r.id)
    (λ a b m n e f before. (
      (stands r.id a m e).0 ∙ sym (stands r.id b n f).0,
      omega (arith, (stands r.id a m e).1, (stands r.id b n f).1, before),
    ))
    (enumerate_from 0 r.members) (rises-enumerate 0 r.members)

places-rise : (ms : List MemberRow) → EachPair IsEarlier ms → Rises (λ (m : MemberRow). m.member) ms
places-rise [] rises = tt
places-rise (m ∷ ms) rises = (
  all-imp (IsEarlier m) (λ (n : MemberRow). m.member < n.member) (λ n before. before.1) ms rises.0,
  places-rise ms rises.1,
)

pub member_places-rise : (r : Relation) → Rises (λ (m : MemberRow). m.member) (member_rows r)
member_places-rise r = places-rise (member_rows r) (members-rise r)

-- ---- the points of members

-- points as rows of a member
abbrev pub rows_at : MemberRow → List Point → List RelRow
rows_at m points = map (rel_row_of m) (enumerate_from 0 points)

-- a point of a member: of its relation, and of its place
abbrev pub IsPointOf : MemberRow → RelRow → Type 0
IsPointOf m r = (r.relation ≡ m.relation) × (r.member ≡ m.member)

pub points-own : (m : MemberRow) (points : List Point) → AllByRecursion (IsPointOf m) (rows_at m points)
points-own m points =
    all-map (IsPointOf m) (rel_row_of m) (enumerate_from 0 points)
    (all-from (λ (at : ℕ × Point). IsPointOf m (rel_row_of m at)) (λ at. (refl, refl)) (enumerate_from 0 points))

-- a row before another: of an earlier relation, of an earlier member, or of an earlier place
abbrev pub IsRelBelow : RelRow → RelRow → Type 0
IsRelBelow p q = (p.relation < q.relation)
    ⊎ ((p.relation ≡ q.relation) × ((p.member < q.member) ⊎ ((p.member ≡ q.member) × (p.place < q.place))))

module _ (limit : ℕ) (entities : List Entity) where
  -- the rows of a relation are of this relation
  pub relation-own : (r : Relation) → HasItsKey (λ (r : Relation). r.id) rel_relation (relation_point_rows limit entities) r
  relation-own r =
      all-flat_map (λ (p : RelRow). rel_relation p ≡ r.id) (member_point_rows limit entities) (member_rows r)
      (all-imp (λ (m : MemberRow). m.relation ≡ r.id)
      (λ (m : MemberRow). AllByRecursion (λ (p : RelRow). rel_relation p ≡ r.id) (member_point_rows limit entities m))
      (λ m own. all-imp (IsPointOf m) (λ (p : RelRow). rel_relation p ≡ r.id) (λ p is. is.0 ∙ own)
      (member_point_rows limit entities m)
      (points-own m (held_points limit (points_with (point_rows entities) m.way))))
      (member_rows r) (members-own r))

  all-own : (rs : List Relation)
      → AllByRecursion (HasItsKey (λ (r : Relation). r.id) rel_relation (relation_point_rows limit entities)) rs
  all-own rs =
      all-from (HasItsKey (λ (r : Relation). r.id) rel_relation (relation_point_rows limit entities)) relation-own rs

  -- The rows of all relations climb by relation,
  pub rel_rows-climb : (mapping : Mapping) → IsRising entities → Climbs rel_relation (rel_rows limit mapping entities)
  rel_rows-climb mapping rising =
      climbs_flat (λ (r : Relation). r.id) rel_relation (relation_point_rows limit entities)
      (candidate_relations mapping (relations_of entities)) (all-own (candidate_relations mapping (relations_of entities)))
      (rises-by (λ (r : Relation). r.id) (candidate_relations mapping (relations_of entities))
      (candidates-rise mapping entities rising))

  -- and those of a relation's id are its own.
  pub rel_rows-own : (mapping : Mapping) → IsRising entities
      → AllByRecursion (λ (r : Relation). rows_with rel_relation r.id (rel_rows limit mapping entities)
      ≡ relation_point_rows limit entities r) (candidate_relations mapping (relations_of entities))
  rel_rows-own mapping rising =
      rows_of_each (λ (r : Relation). r.id) rel_relation (relation_point_rows limit entities)
      (candidate_relations mapping (relations_of entities)) (all-own (candidate_relations mapping (relations_of entities)))
      (rises-by (λ (r : Relation). r.id) (candidate_relations mapping (relations_of entities))
      (candidates-rise mapping entities rising))

-- ---- rows that rise

-- those of a member by their places
places-below : (m : MemberRow) (ats : List (ℕ × Point)) → EachPair (λ (p q : ℕ × Point). p.0 < q.0) ats
    → EachPair (λ (p q : ℕ × Point). IsRelBelow (rel_row_of m p) (rel_row_of m q)) ats
places-below m [] rises = tt
places-below m (at ∷ ats) rises = (
  all-imp (λ (q : ℕ × Point). at.0 < q.0) (λ (q : ℕ × Point). IsRelBelow (rel_row_of m at) (rel_row_of m q))
      (λ q less. inr (refl, inr (refl, less))) ats rises.0,
  places-below m ats rises.1,
)

member_rows-rise : (m : MemberRow) (points : List Point) → EachPair IsRelBelow (rows_at m points)
member_rows-rise m points =
    rises-map IsRelBelow (rel_row_of m) (enumerate_from 0 points)
    (places-below m (enumerate_from 0 points) (rises-enumerate 0 points))

module _ (limit : ℕ) (entities : List Entity) where
  relation_rows-rise : (r : Relation) → EachPair IsRelBelow (relation_point_rows limit entities r)
  relation_rows-rise r =
      rises-flat_map IsPointOf IsEarlier IsRelBelow (member_point_rows limit entities)
      (λ m n p q before of_m of_n.
      inr (of_m.0 ∙ before.0 ∙ sym of_n.0, inl (omega (arith, before.1, of_m.1, of_n.1))))
      (λ m. points-own m (held_points limit (points_with (point_rows entities) m.way)))
      (λ m. member_rows-rise m (held_points limit (points_with (point_rows entities) m.way))) (member_rows r)
      (members-rise r)

  -- The rows of all relations rise by relation, member and place.
  pub rel_rows-rise : (mapping : Mapping) → IsRising entities → EachPair IsRelBelow (rel_rows limit mapping entities)
  rel_rows-rise mapping rising =
      rises-flat_map (λ (r : Relation) (p : RelRow). rel_relation p ≡ r.id) IsLower IsRelBelow
      (relation_point_rows limit entities) (λ q r p s before of_q of_r. inl (omega (arith, before, of_q, of_r)))
      (relation-own limit entities) relation_rows-rise (candidate_relations mapping (relations_of entities))
      (candidates-rise mapping entities rising)
