-- Parts as units, the parts that units spell, and the rings of blocks among them.
use Rattle.std.proofs.Common.{◌≡◌, ◌⊎◌, inl, inr, ℕ, zero, suc, ◌+◌, ◌^◌, ◌<◌, ◌≤◌, Bool, true, false, List, [], ◌∷◌}
use Rattle.std.proofs.Common.{◌++◌}
use Rattle.std.proofs.Common.{length, map, take, drop, Option, Some, None, refl, sym, ap, ◌∙◌, arith}
use Rattle.std.specs.Prelude.{◌||◌, filter, sum_by, nat_le, option_map, unwrap_or, is_some, IsSome, if◌then◌else◌}
use Rattle.std.specs.List.{AllByRecursion, enumerate_from, list_any, position_from}
use Rattle.std.proofs.lemmas.Bool.{cases_Bool, le-leb}
use Rattle.std.proofs.lemmas.List.{length-append, length-map, length-drop, take_at, drop_at, map-append}
use Rattle.std.proofs.lemmas.List.{take-append-drop}
use Rattle.std.proofs.lemmas.List.{length-take-le}
use Rattle.std.proofs.lemmas.List.Sums.{sum_by-cons, sum_by-append}
use Rattle.std.proofs.lemmas.Iterator.Adapters.{position_from-zero}
use Rattle.mf_base.specs.declared.kind.Role.{Role}
use Rattle.feature_model.specs.Points.{Point, Part}
use Rattle.feature_model.specs.Rings.{Piece}
use Rattle.feature_model.specs.Blocks.{JoinedBlock, begins_inside, blocks_of, home, is_home, has_role, pieces_of}
use Rattle.feature_model.specs.Blocks.{block_parts}
use Rattle.feature_model.specs.Blocks.{joined_parts}
use Rattle.feature_model.proofs.BlockBounds.{total}
use Rattle.feature_model.proofs.HomeLaws.{blocks-home}
use Rattle.mf_rows.specs.Units.{Unit16, point_in, part_unit, part_in, with_part, next_parts, parts_within, parts_in}
use Rattle.mf_rows.proofs.Parts.{same-parts, FirstPart, first_part, no_part_first}
use Rattle.mf_rows.proofs.PartsAgain.{part_told, part_alone}
use Rattle.ring_assembly.specs.Marked.{State, free, Marked, state_unit, all_units, points_in, is_free}
use Rattle.ring_assembly.specs.Marked.{with_piece, free_pieces}
use Rattle.ring_assembly.specs.Shown.{role_shown, part_shown, AreFree}
use Rattle.ring_assembly.specs.Laid.{LaidRing, ring_rows, foot_row, all_rows, points_of, kept_rows, AreHoused}
use Rattle.ring_assembly.specs.PutBack.{ring_part, inner_parts, block_rings}
use Rattle.ring_assembly.proofs.Putting.{unit-is}
use Rattle.ring_assembly.proofs.BlockRows.{housed, block-rows}

-- ---- free parts are spelled by their units

pub parts-spelled : (parts : List Marked) → AreFree parts → length (all_units parts) < 2 ^ 64
    → parts_in (all_units parts) ≡ Some (map part_shown parts)
unfolding parts_within
parts-spelled [] all few = refl
parts-spelled (m ∷ parts) all few =
    let n : ℕ = length m.units in
    let role : Role = role_shown m.state in
    let rest : List Unit16 = all_units parts in
    let units : List Unit16 = m.units ++ rest in
    let long : length units ≡ n + length rest = length-append m.units rest in
    let fits : nat_le n (length units) ≡ true = le-leb n (length units) (omega (arith, long)) in
    let front : take n units ≡ m.units = take_at m.units rest n refl in
    let back : drop n units ≡ rest = drop_at m.units rest n refl in
    let later : parts_within (length units) rest ≡ Some (map part_shown parts) =
    same-parts (length units) (length rest) rest (omega (arith, long)) (omega arith)
    ∙ parts-spelled parts all.1 (omega (arith, few, long)) in
    let first : state_unit m.state n ≡ part_unit role n =
    ap (λ (s : State). state_unit s n) all.0 ∙ unit-is role n in
    ap (λ u. next_parts (part_in u) units (parts_within (length units))) first
    ∙ ap (λ p. next_parts p units (parts_within (length units))) (part_told role n (omega (arith, few, long)))
    ∙ rw (fits, front, back, later) refl

-- ---- the parts that units spell are free ones

-- the parts of a role, each with its place from this one on
pub pieces_at : Role → ℕ → List Part → List Piece
pieces_at role n all =
    map (λ (p : ℕ × Part). record { number = p.0; points = p.1.points })
    (filter (λ (p : ℕ × Part). has_role role p.1) (enumerate_from n all))

-- units that spell parts are those of free parts
pub record AreSpelled (units : List Unit16) (all : List Part) : Type 0 where
  pub parts : List Marked
  pub units_are : units ≡ all_units parts
  pub pieces : (role : Role) (n : ℕ) → free_pieces role n parts ≡ pieces_at role n all

piece-first : (wanted role : Role) (n : ℕ) (points : List Unit16) (more : List Piece) (others : List Part)
    → more ≡ pieces_at wanted (n + 1) others
    → with_piece (is_free wanted (free role)) (record { number = n; points = points_in points }) more
    ≡ pieces_at wanted n (record { role = role; points = points_in points } ∷ others)
unfolding pieces_at
piece-first Role.Outer Role.Outer n points more others is =
    ap (λ ps. record { number = n; points = points_in points } ∷ ps) is
piece-first Role.Outer Role.Inner n points more others is = is
piece-first Role.Inner Role.Outer n points more others is = is
piece-first Role.Inner Role.Inner n points more others is =
    ap (λ ps. record { number = n; points = points_in points } ∷ ps) is

some_is : (a b : List Part) → Some a ≡ Some b → a ≡ b
some_is a b e = ap (λ o. unwrap_or o a) e

spelled-within : (most : ℕ) (units : List Unit16) (all : List Part) → length units ≤ most
    → parts_in units ≡ Some all → AreSpelled units all
unfolding parts_within free_pieces pieces_at
spelled-within most [] all le is = record {
  parts = [];
  units_are = refl;
  pieces = λ role n. ap (pieces_at role n) (some_is [] all is);
}
spelled-within zero (first ∷ units) all le is = absurd (omega (arith, le))
spelled-within (suc most) (first ∷ units) all le is =
    by_part (part_in first) refl (λ us others fewer found. spelled-within most us others fewer found)
  where
    some : IsSome (parts_in (first ∷ units))
    some = ap is_some is

    by_rest : (role : Role) (n : ℕ) → part_in first ≡ Some (role, n) → n ≤ length units → (o : Option (List Part))
        → parts_in (drop n units) ≡ o → IsSome o
        → parts_in (first ∷ units) ≡ option_map (with_part role (take n units)) o
        → ((us : List Unit16) (others : List Part) → length us ≤ most → parts_in us ≡ Some others
        → AreSpelled us others)
        → AreSpelled (first ∷ units) all
    by_rest role n told within None rest there all_is more = cc
    by_rest role n told within (Some others) rest there all_is more =
        let points : List Unit16 = take n units in
        let long : length points ≡ n = length-take-le n units within in
        let later = more (drop n units) others (omega (arith, le, length-drop n units)) rest in
        let whole : all ≡ with_part role points others = some_is all (with_part role points others) (sym is ∙ all_is) in
        let unit : first ≡ state_unit (free role) (length points) =
        part_alone first role n told ∙ sym (unit-is role n) ∙ ap (λ k. state_unit (free role) k) (sym long) in
        let behind : units ≡ points ++ all_units later.parts =
        sym (take-append-drop n units) ∙ ap (λ us. points ++ us) later.units_are in
        record {
          parts = record { state = free role; units = points } ∷ later.parts;
          units_are = ap (λ u. u ∷ units) unit
              ∙ ap (λ us. state_unit (free role) (length points) ∷ us) behind;
          pieces = λ wanted k. piece-first wanted role k points (free_pieces wanted (k + 1) later.parts) others
              (later.pieces wanted (k + 1)) ∙ ap (pieces_at wanted k) (sym whole);
        }

    by_part : (p : Option (Role × ℕ)) → part_in first ≡ p
        → ((us : List Unit16) (others : List Part) → length us ≤ most → parts_in us ≡ Some others
        → AreSpelled us others)
        → AreSpelled (first ∷ units) all
    by_part None none more = absurd (no_part_first first units none some)
    by_part (Some p) told more =
        let found : FirstPart p.0 p.1 units (parts_in (first ∷ units)) = first_part first units p.0 p.1 told some in
        by_rest p.0 p.1 told found.within (parts_in (drop p.1 units)) refl found.rest found.all_is more

pub parts-read : (units : List Unit16) (all : List Part) → parts_in units ≡ Some all → AreSpelled units all
parts-read units all is = spelled-within (length units) units all (omega arith) is

pub pieces-are : (role : Role) (all : List Part) → pieces_at role 0 all ≡ pieces_of role all
unfolding pieces_at
pieces-are role all = refl

-- ---- the rings of blocks

block-free : (n : ℕ) (inner : List LaidRing) → AreFree (inner_parts n inner)
block-free n inner = all-inner (filter (λ (r : LaidRing). is_home n r.home) inner)
  where
    all-inner : (rings : List LaidRing) → AreFree (map (ring_part Role.Inner) rings)
    all-inner [] = tt
    all-inner (r ∷ rings) = (refl, all-inner rings)

free-both : (xs ys : List Marked) → AreFree xs → AreFree ys → AreFree (xs ++ ys)
free-both [] ys fx fy = fy
free-both (x ∷ xs) ys fx fy = (fx.0, free-both xs ys fx.1 fy)

pub blocks-free : (n : ℕ) (outer inner : List LaidRing) → AreFree (block_rings n outer inner)
blocks-free n [] inner = tt
blocks-free n (o ∷ outer) inner = (
  refl,
  free-both (inner_parts n inner) (block_rings (n + 1) outer inner) (block-free n inner)
      (blocks-free (n + 1) outer inner),
)

-- an inner ring as a part
abbrev inner_shown : List Point → Part
inner_shown ring = record { role = Role.Inner; points = ring }

inner-shown : (outer : List (List Point)) (n : ℕ) (inner : List LaidRing)
    → AllByRecursion (λ (r : LaidRing). r.home ≡ home outer (points_in r.units)) inner
    → map part_shown (inner_parts n inner)
    ≡ map inner_shown (filter (λ ring. is_home n (home outer ring)) (points_of inner))
inner-shown outer n [] housed = refl
inner-shown outer n (r ∷ inner) housed =
    by_home (is_home n (home outer (points_in r.units))) (ap (is_home n) housed.0)
    (inner-shown outer n inner housed.1)
  where
    kept : List Part
    kept = map part_shown (inner_parts n inner)

    by_home : (b : Bool) → is_home n r.home ≡ b
        → map part_shown (inner_parts n inner)
        ≡ map inner_shown (filter (λ ring. is_home n (home outer ring)) (points_of inner))
        → map part_shown (inner_parts n (r ∷ inner))
        ≡ map inner_shown (if b then points_in r.units ∷ filter (λ ring. is_home n (home outer ring)) (points_of inner)
        else filter (λ ring. is_home n (home outer ring)) (points_of inner))
    by_home true e more = rw e (ap (λ ps. inner_shown (points_in r.units) ∷ ps) more)
    by_home false e more = rw e more

-- a block of an outer ring with its number
abbrev block_at : List (List Point) → List (List Point) → ℕ × List Point → JoinedBlock
block_at outer inner o = o.1 ∷ filter (λ ring. is_home o.0 (home outer ring)) inner

blocks-from : (all : List (List Point)) (n : ℕ) (outer inner : List LaidRing)
    → AllByRecursion (λ (r : LaidRing). r.home ≡ home all (points_in r.units)) inner
    → map part_shown (block_rings n outer inner)
    ≡ joined_parts (map (block_at all (points_of inner)) (enumerate_from n (points_of outer)))
blocks-from all n [] inner housed = refl
blocks-from all n (o ∷ outer) inner housed =
    ap (λ ps. part_shown (ring_part Role.Outer o) ∷ ps)
    (map-append part_shown (inner_parts n inner) (block_rings (n + 1) outer inner)
    ∙ ap (λ ps. ps ++ map part_shown (block_rings (n + 1) outer inner)) (inner-shown all n inner housed)
    ∙ ap (λ ps. map inner_shown (filter (λ ring. is_home n (home all ring)) (points_of inner)) ++ ps)
    (blocks-from all (n + 1) outer inner housed))

pub blocks-shown : (outer inner : List LaidRing) → AreHoused outer inner
    → map part_shown (block_rings 0 outer inner) ≡ joined_parts (blocks_of (points_of outer) (points_of inner))
blocks-shown outer inner housed =
    blocks-from (points_of outer) 0 outer inner housed
    ∙ ap joined_parts (sym (blocks-home (points_of outer) (points_of inner)))

-- ---- how many units they have

-- a unit for a ring, and one for each point
abbrev ring_units : List Point → ℕ
ring_units ring = 1 + length ring

abbrev part_total : List Part → ℕ
part_total parts = sum_by (λ (p : Part). ring_units p.points) parts

units-shown : (parts : List Marked) → length (all_units parts) ≡ part_total (map part_shown parts)
units-shown [] = refl
units-shown (m ∷ parts) = omega (
  arith,
  sum_by-cons (λ (p : Part). ring_units p.points) (part_shown m) (map part_shown parts),
  units-shown parts,
  length-append m.units (all_units parts),
  length-map m.units point_in,
)

inner-total : (inner : List (List Point)) → part_total (map inner_shown inner) ≡ sum_by ring_units inner
inner-total [] = refl
inner-total (ring ∷ inner) = omega (
  arith,
  sum_by-cons (λ (p : Part). ring_units p.points) (inner_shown ring) (map inner_shown inner),
  sum_by-cons ring_units ring inner,
  inner-total inner,
)

block-total : (block : JoinedBlock) → part_total (block_parts block) ≡ sum_by ring_units block
block-total [] = refl
block-total (o ∷ inner) = omega (
  arith,
  sum_by-cons (λ (p : Part). ring_units p.points) (record { role = Role.Outer; points = o }) (map inner_shown inner),
  sum_by-cons ring_units o inner,
  inner-total inner,
)

joined-total : (found : List JoinedBlock) → part_total (joined_parts found) ≡ total ring_units found
joined-total [] = refl
joined-total (block ∷ found) = omega (
  arith,
  sum_by-append (λ (p : Part). ring_units p.points) (block_parts block) (joined_parts found),
  sum_by-cons (λ (b : JoinedBlock). sum_by ring_units b) block found,
  block-total block,
  joined-total found,
)

outer-total : (outer : List LaidRing) → sum_by ring_units (points_of outer) ≡ length (all_rows outer)
outer-total [] = refl
outer-total (o ∷ outer) = omega (
  arith,
  sum_by-cons ring_units (points_in o.units) (points_of outer),
  outer-total outer,
  length-append (ring_rows o) (all_rows outer),
  length-append o.units (foot_row o.home (length o.units) ∷ []),
  length-map o.units point_in,
)

found-any : {A : Type 0} (test : A → Bool) (n : ℕ) (xs : List A) → is_some (position_from test n xs) ≡ list_any test xs
found-any test n [] = refl
found-any test n (x ∷ xs) = by_test (test x) (found-any test (n + 1) xs)
  where
    by_test : (b : Bool) → is_some (position_from test (n + 1) xs) ≡ list_any test xs
        → is_some (if b then Some n else position_from test (n + 1) xs) ≡ (b || list_any test xs)
    by_test true more = refl
    by_test false more = more

home-housed : (outer : List (List Point)) (ring : List Point) → is_some (home outer ring) ≡ housed outer ring
home-housed outer ring = ap is_some (position_from-zero (λ o. begins_inside o ring) outer)
    ∙ found-any (λ o. begins_inside o ring) 0 outer

kept-total : (outer : List (List Point)) (inner : List LaidRing)
    → AllByRecursion (λ (r : LaidRing). r.home ≡ home outer (points_in r.units)) inner
    → sum_by ring_units (filter (housed outer) (points_of inner)) ≡ sum_by kept_rows inner
kept-total outer [] all = refl
kept-total outer (r ∷ inner) all =
    by_home (cases_Bool (housed outer (points_in r.units))) (kept-total outer inner all.1)
  where
    some-is : is_some r.home ≡ housed outer (points_in r.units)
    some-is = ap is_some all.0 ∙ home-housed outer (points_in r.units)

    by_home : (housed outer (points_in r.units) ≡ true) ⊎ (housed outer (points_in r.units) ≡ false)
        → sum_by ring_units (filter (housed outer) (points_of inner)) ≡ sum_by kept_rows inner
        → sum_by ring_units (filter (housed outer) (points_of (r ∷ inner))) ≡ sum_by kept_rows (r ∷ inner)
    by_home (inl e) more =
        let kept : kept_rows r ≡ length r.units + 1 = ap (λ b. if b then length r.units + 1 else 0) (some-is ∙ e) in
        rw e (omega (
          arith,
          sum_by-cons ring_units (points_in r.units) (filter (housed outer) (points_of inner)),
          sum_by-cons kept_rows r inner,
          kept,
          more,
          length-map r.units point_in,
        ))
    by_home (inr e) more =
        let kept : kept_rows r ≡ 0 = ap (λ b. if b then length r.units + 1 else 0) (some-is ∙ e) in
        rw e (omega (arith, sum_by-cons kept_rows r inner, kept, more))

pub blocks-long : (outer inner : List LaidRing) → AreHoused outer inner
    → length (all_units (block_rings 0 outer inner)) ≡ length (all_rows outer) + sum_by kept_rows inner
blocks-long outer inner all =
    units-shown (block_rings 0 outer inner)
    ∙ ap part_total (blocks-shown outer inner all)
    ∙ joined-total (blocks_of (points_of outer) (points_of inner))
    ∙ block-rows ring_units (points_of outer) (points_of inner)
    ∙ sums (outer-total outer) (kept-total (points_of outer) inner all)
  where
    sums : {a b c d : ℕ} → a ≡ b → c ≡ d → a + c ≡ b + d
    sums e f = omega (arith, e, f)
