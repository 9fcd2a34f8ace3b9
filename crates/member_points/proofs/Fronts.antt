-- The points of a way are held one after another, as many as there is room for.
use Rattle.std.proofs.Common.{◌≡◌, ℕ, zero, suc, ◌+◌, ◌-◌, ◌≤◌, List, [], ◌∷◌, ◌++◌, map, length, take, replicate, refl, sym, ap}
use Rattle.std.proofs.Common.{◌∙◌, arith, append-nil, append_assoc, subst}
use Rattle.std.proofs.lemmas.List.{length-append, length-map, length-take, take_all}
use Rattle.feature_model.specs.Points.{Point}
use Rattle.mf_rows.specs.RowKinds.{IsOf}
use Rattle.mf_rows.specs.Kinds.{point_kind}
use Rattle.mf_rows.specs.Laws.{node-laws}
use Rattle.mf_rows.specs.Units.{Unit16, row_of_point, point_of_row, point_unit, point_in}
use Rattle.mf_rows.specs.declared.kinds.PointRow.{PointRow}
use Rattle.spill_parts.specs.Parts.{Part}
use Rattle.way_points.specs.PointRows.{point_told}
use Rattle.member_points.specs.RelRows.{blank, held_points}
use Rattle.member_points.specs.Pairing.{counted_points, IsHolding}

-- the unit of a row tells its point
pub unit_told : (row : PointRow) → IsOf point_kind row → point_in (point_unit (point_told row)) ≡ point_told row
unit_told row known =
    ap point_of_row (node-laws.reads_back (row_of_point (point_told row))
    (known.1.1.0, (known.1.1.1.0, (known.1.1.1.1.0, tt))))

-- ---- one point more

map-more : {A B : Type 0} (f : A → B) (xs : List A) (x : A) → map f (xs ++ x ∷ []) ≡ map f xs ++ f x ∷ []
map-more f [] x = refl
map-more f (y ∷ xs) x = ap (λ l. f y ∷ l) (map-more f xs x)

-- there is room for it
pub one_held : (room : ℕ) (units : List Unit16) (unit : Unit16) (p : Point) → length units + 1 ≤ room
    → point_in unit ≡ p → map point_in (units ++ unit ∷ []) ≡ take room (map point_in units ++ p ∷ [])
one_held room units unit p fits is =
    map-more point_in units unit
    ∙ ap (λ q. map point_in units ++ q ∷ []) is
    ∙ sym (take_all room (map point_in units ++ p ∷ [])
    (omega (arith, fits, length-append (map point_in units) (p ∷ []), length-map units point_in)))

take_full : {A : Type 0} (xs : List A) (x : A) → take (length xs) (xs ++ x ∷ []) ≡ xs
take_full [] x = refl
take_full (y ∷ xs) x = ap (λ l. y ∷ l) (take_full xs x)

-- or all room is taken
pub none_held : (room : ℕ) (units : List Unit16) (p : Point) → length units ≡ room
    → map point_in units ≡ take room (map point_in units ++ p ∷ [])
none_held room units p full =
    sym (take_full (map point_in units) p)
    ∙ ap (λ n. take n (map point_in units ++ p ∷ [])) (length-map units point_in ∙ full)

-- ---- the points so far

-- So many points were given, and the first of them are held.
pub record HoldsFront (room count : ℕ) (loose : List Unit16) (rest all : List Point) : Type 0 where
  pub front : List Point
  pub many : length front ≡ count
  pub held : map point_in loose ≡ take room front
  pub whole : front ++ rest ≡ all

take_first : {A : Type 0} (n : ℕ) (xs : List A) (x : A) → take n (take n xs ++ x ∷ []) ≡ take n (xs ++ x ∷ [])
take_first zero xs x = refl
take_first (suc n) [] x = refl
take_first (suc n) (y ∷ xs) x = ap (λ l. y ∷ l) (take_first n xs x)

pub front_none : (room : ℕ) (loose : List Unit16) (all : List Point) → loose ≡ [] → HoldsFront room 0 loose all all
front_none room loose all none = record {
  front = [];
  many = refl;
  held = ap (map point_in) none ∙ nothing room;
  whole = refl;
}
  where
    nothing : (n : ℕ) → [] ≡ take {A = Point} n []
    nothing zero = refl
    nothing (suc n) = refl

pub front_more : (room count : ℕ) (loose loose_now : List Unit16) (p : Point) (rest rest_now all : List Point)
    → rest ≡ p ∷ rest_now → map point_in loose_now ≡ take room (map point_in loose ++ p ∷ [])
    → HoldsFront room count loose rest all → HoldsFront room (count + 1) loose_now rest_now all
front_more room count loose loose_now p rest rest_now all first more is = record {
  front = is.front ++ p ∷ [];
  many = length-append is.front (p ∷ []) ∙ ap (λ n. n + 1) is.many;
  held = more ∙ ap (λ l. take room (l ++ p ∷ [])) is.held ∙ take_first room is.front p;
  whole = append_assoc is.front (p ∷ []) rest_now ∙ ap (λ l. is.front ++ l) (sym first) ∙ is.whole;
}

-- All points were given.
pub front_whole : (room count : ℕ) (loose : List Unit16) (rest all : List Point) → rest ≡ []
    → HoldsFront room count loose rest all → counted_points loose count ≡ held_points room all
front_whole room count loose rest all none is =
    let front : is.front ≡ all = sym (append-nil is.front) ∙ ap (λ l. is.front ++ l) (sym none) ∙ is.whole in
    let held : map point_in loose ≡ take room all = is.held ∙ ap (take room) front in
    let many : length all ≡ count = ap length (sym front) ∙ is.many in
    let some : count - length loose ≡ length all - room =
    omega (arith, many, ap length held, length-map loose point_in, length-take room all) in
    (λ i. held i ++ replicate (some i) blank)

-- ---- the points of a way

-- they are held as before, of the same points and with the same room
pub holding_now : (room room_now way count : ℕ) (loose : List Unit16) (left : List PointRow)
    (source source_now : Part PointRow) → room_now ≡ room → source_now ≡ source
    → IsHolding room way count loose left source.rows → IsHolding room_now way count loose left source_now.rows
holding_now room room_now way count loose left source source_now same_room same is =
    subst (λ (p : Part PointRow). IsHolding room_now way count loose left p.rows) (sym same)
    (subst (λ (n : ℕ). IsHolding n way count loose left source.rows) (sym same_room) is)
