-- The units of parts, read back.
use Rattle.std.proofs.Common.{◌≡◌, ◌⊎◌, inl, inr, ℕ, ◌+◌, ◌^◌, ◌<◌, true, false, List, [], ◌∷◌, ◌++◌, length}
use Rattle.std.proofs.Common.{take, drop, map, Option, Some, None, refl, sym, ap, ◌∙◌, arith}
use Rattle.std.specs.Prelude.{nat_le, unwrap_or, bytes_eq}
use Rattle.std.specs.List.{AllByRecursion}
use Rattle.std.proofs.lemmas.Bool.{cases_Bool, le-leb}
use Rattle.std.proofs.lemmas.Slice.Eq.{bytes_eq-Decides}
use Rattle.std.proofs.lemmas.List.{length-append, length-map, take_at, drop_at}
use Rattle.byteorder.specs.Numbers.{big_number-reads_back}
use Rattle.mf_base.specs.Spelling.{big_endian}
use Rattle.mf_base.specs.declared.kind.Role.{Role}
use Rattle.feature_model.specs.Points.{Point, Part}
use Rattle.mf_rows.specs.Fields.{field_bytes, number}
use Rattle.mf_rows.specs.Places.{number_at}
use Rattle.mf_rows.specs.RowKinds.{IsOf}
use Rattle.mf_rows.specs.Kinds.{node_kind}
use Rattle.mf_rows.specs.Laws.{node-laws}
use Rattle.mf_rows.specs.Units.{Unit16, row_of_point, point_of_row, point_unit, point_in, part_unit}
use Rattle.mf_rows.specs.Units.{part_in, parts_units, next_parts, parts_within, parts_in, IsPart}
use Rattle.mf_rows.proofs.Parts.{same-parts}

-- the number of points stands behind the role
points_told : (role : Role) (points : ℕ) → points < 2 ^ 64 → number_at 1 8 (part_unit role points) ≡ points
unfolding part_unit big_endian
points_told role points few = big_number-reads_back 8 points (field_bytes (number 7 0) ++ []) few

same_bytes : (bytes : List ℕ) → bytes_eq bytes bytes ≡ true
same_bytes bytes = (bytes_eq-Decides bytes bytes).1 refl

other_role : (points : ℕ) → bytes_eq (part_unit Role.Inner points) (part_unit Role.Outer points) ≡ false
unfolding part_unit big_endian
other_role points = refl

pub part_told : (role : Role) (points : ℕ) → points < 2 ^ 64 → part_in (part_unit role points) ≡ Some (role, points)
unfolding part_in
part_told Role.Outer points few = rw (points_told Role.Outer points few, same_bytes (part_unit Role.Outer points)) refl
part_told Role.Inner points few =
    rw (points_told Role.Inner points few, other_role points, same_bytes (part_unit Role.Inner points)) refl

-- no other bytes are the unit of a part
pub part_alone : (unit : Unit16) (role : Role) (points : ℕ) → part_in unit ≡ Some (role, points)
    → unit ≡ part_unit role points
unfolding part_in
part_alone unit role points is = by_outer (cases_Bool (bytes_eq unit (part_unit Role.Outer n)))
  where
    n : ℕ
    n = number_at 1 8 unit

    same_unit : (r : Role) (k : ℕ) → ◌≡◌ {A = Option (Role × ℕ)} (Some (r, k)) (Some (role, points))
        → part_unit r k ≡ part_unit role points
    same_unit r k e = ap (λ (o : Option (Role × ℕ)). let p = unwrap_or o (r, k) in part_unit p.0 p.1) e

    by_inner : bytes_eq unit (part_unit Role.Outer n) ≡ false
        → (bytes_eq unit (part_unit Role.Inner n) ≡ true) ⊎ (bytes_eq unit (part_unit Role.Inner n) ≡ false)
        → unit ≡ part_unit role points
    by_inner other (inl e) = (bytes_eq-Decides unit (part_unit Role.Inner n)).0 e
        ∙ same_unit Role.Inner n (sym (rw (other, e) refl) ∙ is)
    by_inner other (inr e) = let none : ◌≡◌ {A = Option (Role × ℕ)} None (Some (role, points)) =
        sym (rw (other, e) refl) ∙ is in cc

    by_outer : (bytes_eq unit (part_unit Role.Outer n) ≡ true) ⊎ (bytes_eq unit (part_unit Role.Outer n) ≡ false)
        → unit ≡ part_unit role points
    by_outer (inl e) = (bytes_eq-Decides unit (part_unit Role.Outer n)).0 e
        ∙ same_unit Role.Outer n (sym (rw e refl) ∙ is)
    by_outer (inr e) = by_inner e (cases_Bool (bytes_eq unit (part_unit Role.Inner n)))

-- the unit of a point tells it
pub point_again : (p : Point) (u : Unit16) → u ≡ point_unit p → IsOf node_kind (row_of_point p) → point_in u ≡ p
point_again p u is row = ap point_in is ∙ ap point_of_row (node-laws.reads_back (row_of_point p) row)

points_again : (points : List Point) → AllByRecursion (λ (q : Point). IsOf node_kind (row_of_point q)) points
    → map point_in (map point_unit points) ≡ points
points_again [] all = refl
points_again (p ∷ points) all =
    let one : point_in (point_unit p) ≡ p = ap point_of_row (node-laws.reads_back (row_of_point p) all.0) in
    rw (one, points_again points all.1) refl

pub parts_again : (parts : List Part) → AllByRecursion IsPart parts → parts_in (parts_units parts) ≡ Some parts
unfolding parts_within
parts_again [] all = refl
parts_again (p ∷ parts) all =
    let n : ℕ = length p.points in
    let points : List Unit16 = map point_unit p.points in
    let rest : List Unit16 = parts_units parts in
    let units : List Unit16 = points ++ rest in
    let long : length points ≡ n = length-map p.points point_unit in
    let all_long : length units ≡ length points + length rest = length-append points rest in
    let fits : nat_le n (length units) ≡ true = le-leb n (length units) (omega (arith, long, all_long)) in
    let front : take n units ≡ points = take_at points rest n long in
    let back : drop n units ≡ rest = drop_at points rest n long in
    let later : parts_within (length units) rest ≡ Some parts =
    same-parts (length units) (length rest) rest (omega (arith, all_long)) (omega arith)
    ∙ parts_again parts all.1 in
    let told : next_parts (part_in (part_unit p.role n)) units (parts_within (length units))
    ≡ next_parts (Some (p.role, n)) units (parts_within (length units)) =
    ap (λ q. next_parts q units (parts_within (length units))) (part_told p.role n all.0.0) in
    told ∙ rw (fits, front, back, later, points_again p.points all.0.1) refl
