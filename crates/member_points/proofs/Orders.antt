-- The points of members in any order, put in order, are those of relation after relation.
use Rattle.std.proofs.Common.{◌≡◌, ℕ, ◌^◌, ◌≤◌, List, [], ◌∷◌, ◌++◌, length, refl, sym, ap, subst, ◌∙◌, inl, inr}
use Rattle.std.specs.Prelude.{flat_map}
use Rattle.std.specs.List.{AllByRecursion}
use Rattle.osm_model.specs.Entities.{Entity, Relation, relations_of}
use Rattle.feature_model.specs.Mapping.{Mapping}
use Rattle.feature_model.proofs.Rising.{rises-imp, all-from}
use Rattle.feature_model.proofs.Totals.{total, total-flat_map, total-same, length-total}
use Rattle.mf_rows.specs.RowKinds.{IsOf}
use Rattle.mf_rows.specs.Kinds.{point_kind, member_kind, rel_kind}
use Rattle.mf_rows.specs.Laws.{rel-laws}
use Rattle.mf_rows.specs.declared.kinds.MemberRow.{MemberRow}
use Rattle.mf_rows.specs.declared.kinds.PointRow.{PointRow}
use Rattle.mf_rows.specs.declared.kinds.RelRow.{RelRow}
use Rattle.spill_parts.specs.Handed.{member_rows, candidate_relations}
use Rattle.spill_parts.specs.Parts.{ordered_rows}
use Rattle.spill_parts.proofs.Ordered.{all-ordered}
use Rattle.tile_rows.proofs.ByKeys.{below-less, RowBefore, ordered-by_keys}
use Rattle.way_points.specs.PointRows.{point_rows}
use Rattle.way_points.proofs.InOrder.{rising-input, points-rise}
use Rattle.way_points.proofs.Orders.{total-ordered}
use Rattle.member_points.specs.RelRows.{AreMemberRows, points_with, member_point_rows, relation_point_rows}
use Rattle.member_points.specs.RelRows.{rel_rows}
use Rattle.member_points.specs.Pairing.{rows_of_member, paired_rows}
use Rattle.member_points.proofs.Lists.{flat_map-twice}
use Rattle.member_points.proofs.InOrder.{IsRelBelow, rel_rows-rise}
use Rattle.member_points.proofs.Fitting.{few-points, member-rows, rows-known}

key-before : (p q : RelRow) → IsRelBelow p q → RowBefore rel_kind p q
key-before p q (inl less) =
    below-less (p.relation ∷ p.member ∷ p.place ∷ []) (q.relation ∷ q.member ∷ q.place ∷ []) (inl less)
key-before p q (inr (same, inl less)) =
    below-less (p.relation ∷ p.member ∷ p.place ∷ []) (q.relation ∷ q.member ∷ q.place ∷ []) (inr (same, inl less))
key-before p q (inr (same, inr later)) =
    below-less (p.relation ∷ p.member ∷ p.place ∷ []) (q.relation ∷ q.member ∷ q.place ∷ [])
    (inr (same, inr (later.0, inl later.1)))

alike : {A B : Type 0} (f g : A → List B) → ((a : A) → f a ≡ g a) → (xs : List A) → flat_map f xs ≡ flat_map g xs
alike f g same [] = refl
alike f g same (x ∷ xs) = λ i. same x i ++ alike f g same xs i

module _ (room : ℕ) (mapping : Mapping) (entities : List Entity) (members : List MemberRow) (points : List PointRow)
    (are : AreMemberRows mapping entities members points) (known_members : AllByRecursion (IsOf member_kind) members)
    (known_points : AllByRecursion (IsOf point_kind) points) where
  known : AllByRecursion (IsOf point_kind) (point_rows entities)
  known = subst (AllByRecursion (IsOf point_kind)) are.points_are known_points

  few : (k : ℕ) → length (points_with (point_rows entities) k) ≤ 2 ^ 32
  few k = few-points (point_rows entities) k known (points-rise entities (rising-input entities are.input))

  -- for members in any order
  all-paired : (ms : List MemberRow) → paired_rows room points ms ≡ flat_map (member_point_rows room entities) ms
  unfolding paired_rows
  all-paired ms =
      ap (λ ps. flat_map (rows_of_member room ps) ms) are.points_are
      ∙ alike (rows_of_member room (point_rows entities)) (member_point_rows room entities)
      (λ m. member-rows room (point_rows entities) m (few m.way)) ms

  total-paired : (f : RelRow → ℕ)
      → total f (paired_rows room points (ordered_rows member_kind members)) ≡ total f (rel_rows room mapping entities)
  total-paired f =
      let each : MemberRow → ℕ = λ (m : MemberRow). total f (member_point_rows room entities m) in
      ap (total f) (all-paired (ordered_rows member_kind members))
      ∙ total-flat_map f (member_point_rows room entities) (ordered_rows member_kind members)
      ∙ total-ordered member_kind each members
      ∙ ap (total each) are.members_are
      ∙ total-flat_map each member_rows (candidate_relations mapping (relations_of entities))
      ∙ total-same (λ (r : Relation). total each (member_rows r))
      (λ (r : Relation). total f (relation_point_rows room entities r))
      (λ r. sym (total-flat_map f (member_point_rows room entities) (member_rows r)))
      (candidate_relations mapping (relations_of entities))
      ∙ sym (total-flat_map f (relation_point_rows room entities) (candidate_relations mapping (relations_of entities)))

  -- There are as many.
  pub as_many : length (paired_rows room points (ordered_rows member_kind members))
      ≡ length (rel_rows room mapping entities)
  as_many = length-total (paired_rows room points (ordered_rows member_kind members)) ∙ total-paired (λ p. 1)
      ∙ sym (length-total (rel_rows room mapping entities))

  known-paired : (ms : List MemberRow) → AllByRecursion (IsOf member_kind) ms
      → AllByRecursion (IsOf rel_kind) (paired_rows room points ms)
  known-paired ms all =
      subst (AllByRecursion (IsOf rel_kind)) (sym (all-paired ms))
      (rows-known room (point_rows entities) known few ms all)

  known-rel : AllByRecursion (IsOf rel_kind) (rel_rows room mapping entities)
  known-rel =
      subst (AllByRecursion (IsOf rel_kind))
      (flat_map-twice (member_point_rows room entities) member_rows (candidate_relations mapping (relations_of entities)))
      (rows-known room (point_rows entities) known few
      (flat_map member_rows (candidate_relations mapping (relations_of entities)))
      (subst (AllByRecursion (IsOf member_kind)) are.members_are known_members))

  -- Ordered members beside the points, put in order, are relation after relation the points of its members.
  pub rows_in_order : ordered_rows rel_kind (paired_rows room points (ordered_rows member_kind members))
      ≡ rel_rows room mapping entities
  rows_in_order =
      ordered-by_keys rel_kind rel-laws (paired_rows room points (ordered_rows member_kind members))
      (rel_rows room mapping entities)
      (known-paired (ordered_rows member_kind members) (all-ordered member_kind (IsOf member_kind) members known_members))
      known-rel
      (rises-imp (λ p. Unit {0}) IsRelBelow (RowBefore rel_kind) (λ p q _ _ below. key-before p q below)
      (rel_rows room mapping entities) (all-from (λ p. Unit {0}) (λ p. tt) (rel_rows room mapping entities))
      (rel_rows-rise room entities mapping (rising-input entities are.input))) total-paired
