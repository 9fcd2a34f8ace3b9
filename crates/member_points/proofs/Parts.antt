-- The parts of a relation are those of the rows of its members.
use Rattle.std.proofs.Common.{◌≡◌, ◌≢◌, ℕ, zero, suc, ℤ, pos, negsuc, List, [], ◌∷◌, map, Option, Some, None, refl, sym, ap, ◌∙◌}
use Rattle.std.proofs.Common.{inl, inr, eq-eqb, ne_eqb, ◌+◌}
use Rattle.std.specs.Prelude.{◌==◌, find, filter_map, option_map, option_and_then}
use Rattle.std.specs.List.{AllByRecursion, cons_option, enumerate_from}
use Rattle.std.proofs.lemmas.Bool.Decides.{eqb_tells}
use Rattle.mf_base.specs.declared.kind.EntityKind.{EntityKind}
use Rattle.mf_base.specs.declared.kind.Role.{Role}
use Rattle.osm_model.specs.Entities.{Entity, Way, Relation, Member, ways_of}
use Rattle.osm_model.specs.Order.{IsRising}
use Rattle.feature_model.specs.Points.{Part, names, role_of, way_named, way_points, part_of, member_part, relation_parts}
use Rattle.mf_rows.specs.Units.{role_number}
use Rattle.mf_rows.specs.declared.kinds.MemberRow.{MemberRow}
use Rattle.mf_rows.specs.declared.kinds.PointRow.{PointRow}
use Rattle.spill_parts.specs.Handed.{id_told, member_row_of, member_rows}
use Rattle.row_runs.specs.Runs.{rows_with}
use Rattle.row_runs.proofs.Flat.{none_flat}
use Rattle.way_points.specs.PointRows.{point_way, way_point_rows, point_rows, point_told}
use Rattle.way_points.proofs.InOrder.{rows-own}
use Rattle.way_points.proofs.Joined.{points-told}
use Rattle.way_points.proofs.OfWay.{points_of_way}
use Rattle.member_points.specs.RelRows.{role_told, points_with}
use Rattle.feature_model.proofs.Rising.{all-from}

-- ---- the rows of an id

-- the list of the item that was found, or none
abbrev listed : {W R : Type 0} → (W → List R) → Option W → List R
listed f None = []
listed f (Some w) = f w

-- where the rows of each item's id are its own, and those of no item none
rows_found : {W R : Type 0} (id : W → ℕ) (key : R → ℕ) (f : W → List R) (k : ℕ) (all : List R) (ws : List W)
    → AllByRecursion (λ (w : W). rows_with key (id w) all ≡ f w) ws
    → (AllByRecursion (λ (w : W). id w ≢ k) ws → rows_with key k all ≡ [])
    → rows_with key k all ≡ listed f (find (λ (w : W). id w == k) ws)
rows_found id key f k all [] own none = none tt
rows_found id key f k all (w ∷ ws) own none = elim (eqb_tells (id w) k) [
  | inl same ↦ rw same.0 (ap (λ j. rows_with key j all) (sym same.1) ∙ own.0)
  | inr other ↦ rw other.0 (rows_found id key f k all ws own.1 (λ apart. none (other.1, apart)))
]

-- the points of an id are those of the way with this id
points_found : (entities : List Entity) (k : ℕ) → IsRising entities
    → rows_with point_way k (point_rows entities)
    ≡ listed (way_point_rows entities) (find (λ (w : Way). w.id == k) (ways_of entities))
points_found entities k rising =
    rows_found (λ (w : Way). w.id) point_way (way_point_rows entities) k (point_rows entities) (ways_of entities)
    (points_of_way entities rising)
    (none_flat (λ (w : Way). w.id) point_way (way_point_rows entities) k (ways_of entities)
    (all-from (λ (w : Way). AllByRecursion (λ (p : PointRow). point_way p ≡ w.id) (way_point_rows entities w))
    (rows-own entities) (ways_of entities)))

-- ---- the way of a member

ways_named : (k : ℕ) (ws : List Way)
    → find (λ (w : Way). names (pos (suc k)) w.id) ws ≡ find (λ (w : Way). w.id == suc k) ws
ways_named k [] = refl
ways_named k (w ∷ ws) = elim (eqb_tells w.id (suc k)) [
  | inl same ↦ rw (same.0, eq-eqb (suc k) w.id (sym same.1)) refl
  | inr other ↦ rw (other.0, ne_eqb (suc k) w.id (λ e. other.1 (sym e))) (ways_named k ws)
]

-- the way of an id above 0
way_found : (entities : List Entity) (ref : ℤ) (id : ℕ) → id_told ref ≡ Some id
    → way_named entities ref ≡ find (λ (w : Way). w.id == id) (ways_of entities)
way_found entities (pos zero) id told = absurd (cc told)
way_found entities (negsuc n) id told = absurd (cc told)
way_found entities (pos (suc k)) id told =
    let same : suc k ≡ id = cc told in rw (← same) (ways_named k (ways_of entities))

none-zero : (ws : List Way) → find (λ (w : Way). names (pos zero) w.id) ws ≡ None
none-zero [] = refl
none-zero (w ∷ ws) = none-zero ws

none-below : (k : ℕ) (ws : List Way) → find (λ (w : Way). names (negsuc k) w.id) ws ≡ None
none-below k [] = refl
none-below k (w ∷ ws) = none-below k ws

-- an id below 1 names no way
no_way : (entities : List Entity) (ref : ℤ) → id_told ref ≡ None → way_named entities ref ≡ None
no_way entities (pos zero) told = none-zero (ways_of entities)
no_way entities (pos (suc k)) told = absurd (cc told)
no_way entities (negsuc k) told = none-below k (ways_of entities)

-- ---- the part of a member

-- the part of a member's row, where it has one
abbrev pub row_part : List Entity → MemberRow → Option Part
row_part entities m = part_of (role_told m.role) (points_with (point_rows entities) m.way)

role_back : (role : Role) → role_told (role_number role) ≡ role
role_back Role.Outer = refl
role_back Role.Inner = refl

-- the part of a member is that of its row
part_of_member : (entities : List Entity) (relation_id : ℕ) (at : ℕ × Member) (rows : List Part)
    (rest : List MemberRow) → IsRising entities → filter_map (row_part entities) rest ≡ rows
    → filter_map (row_part entities) (cons_option (member_row_of relation_id at) rest)
    ≡ cons_option (member_part entities at.1) rows
unfolding member_part
part_of_member entities relation_id at rows rest rising same = by_kind at.1.kind
  where
    with_id : Role → ℕ → MemberRow
    with_id role id = record { way = id; relation = relation_id; member = at.0; role = role_number role }

    drawn : Role → Option Way → Option Part
    drawn role o = option_and_then (λ w. part_of role (way_points entities w)) o

    by_way : (role : Role) (o : Option Way)
        → part_of role (map point_told (listed (way_point_rows entities) o)) ≡ drawn role o
    by_way role None = refl
    by_way role (Some w) = ap (part_of role) (points-told entities w)

    by_id : (role : Role) (o : Option ℕ) → id_told at.1.id ≡ o
        → filter_map (row_part entities) (cons_option (option_map (with_id role) o) rest)
        ≡ cons_option (drawn role (way_named entities at.1.id)) rows
    by_id role None told = rw (no_way entities at.1.id told) same
    by_id role (Some id) told =
        let found : rows_with point_way id (point_rows entities)
        ≡ listed (way_point_rows entities) (way_named entities at.1.id)
        = points_found entities id rising
        ∙ ap (listed (way_point_rows entities)) (sym (way_found entities at.1.id id told)) in
        let part : row_part entities (with_id role id) ≡ drawn role (way_named entities at.1.id) =
        ap (λ r. part_of r (points_with (point_rows entities) id)) (role_back role)
        ∙ ap (λ l. part_of role (map point_told l)) found
        ∙ by_way role (way_named entities at.1.id) in
        ap (λ o. cons_option o (filter_map (row_part entities) rest)) part
        ∙ ap (cons_option (drawn role (way_named entities at.1.id))) same

    by_role : (o : Option Role)
        → filter_map (row_part entities)
        (cons_option (option_and_then (λ role. option_map (with_id role) (id_told at.1.id)) o) rest)
        ≡ cons_option (option_and_then (λ role. drawn role (way_named entities at.1.id)) o) rows
    by_role None = same
    by_role (Some role) = by_id role (id_told at.1.id) refl

    not_drawn : (o : Option Role) → cons_option (option_and_then (λ role. drawn role None) o) rows ≡ rows
    not_drawn None = refl
    not_drawn (Some role) = refl

    by_kind : (kind : EntityKind)
        → filter_map (row_part entities)
        (cons_option (option_and_then (λ role. option_map (with_id role) (id_told at.1.id))
        (elim kind [ EntityKind.Way ↦ role_of at.1.role | _ ↦ None ])) rest)
        ≡ cons_option (option_and_then
        (λ role. drawn role (elim kind [ EntityKind.Way ↦ way_named entities at.1.id | _ ↦ None ])) (role_of at.1.role)) rows
    by_kind EntityKind.Node = same ∙ sym (not_drawn (role_of at.1.role))
    by_kind EntityKind.Way = by_role (role_of at.1.role)
    by_kind EntityKind.Relation = same ∙ sym (not_drawn (role_of at.1.role))

parts_from : (entities : List Entity) (relation_id n : ℕ) (ms : List Member) → IsRising entities
    → filter_map (row_part entities) (filter_map (member_row_of relation_id) (enumerate_from n ms))
    ≡ filter_map (member_part entities) ms
parts_from entities relation_id n [] rising = refl
parts_from entities relation_id n (m ∷ ms) rising =
    part_of_member entities relation_id (n, m) (filter_map (member_part entities) ms)
    (filter_map (member_row_of relation_id) (enumerate_from (n + 1) ms)) rising
    (parts_from entities relation_id (n + 1) ms rising)

-- The parts of a relation are those of its rows.
pub parts_of_relation : (entities : List Entity) (r : Relation) → IsRising entities
    → filter_map (row_part entities) (member_rows r) ≡ relation_parts entities r
unfolding relation_parts
parts_of_relation entities r rising = parts_from entities r.id 0 r.members rising
