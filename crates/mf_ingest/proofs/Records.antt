-- The records of candidates, and their units as rows.
use Rattle.std.proofs.Common.{◌≡◌, ℕ, zero, suc, ◌+◌, ◌*◌, ◌≤◌, List, [], ◌∷◌, ◌++◌, map, length, take, drop, replicate, Some, None}
use Rattle.std.proofs.Common.{refl, sym, ap, ◌∙◌, subst, arith}
use Rattle.std.specs.Prelude.{slice_get, option_map}
use Rattle.std.specs.List.{AllByRecursion, enumerate_from}
use Rattle.std.proofs.lemmas.List.{append-nil, map-append, length-append, length-map, length-take}
use Rattle.std.proofs.lemmas.List.FromFn.{length-enumerate_from}
use Rattle.std.proofs.lemmas.Option.{slice_get-map}
use Rattle.mf_base.specs.Texts.{Text}
use Rattle.mf_base.specs.declared.kind.EntityKind.{EntityKind}
use Rattle.feature_model.specs.Points.{Point}
use Rattle.mf_rows.specs.Heads.{kind_number}
use Rattle.mf_rows.specs.Units.{Unit16, point_unit}
use Rattle.mf_rows.specs.Records.{Record, texts_told}
use Rattle.mf_rows.specs.RecordUnits.{units_of, record_in, drawn_units, text_bytes, text_units, units_for, front_count}
use Rattle.mf_base.specs.Ascending.{cut_rows}
use Rattle.mf_rows.specs.FirstUnits.{IsShort, IsHead, front_record, front_units}
use Rattle.mf_rows.specs.Whole.{AreTexts, IsSpot, CanDraw}
use Rattle.mf_rows.specs.declared.head.Head.{Head}
use Rattle.mf_rows.specs.declared.head.TextSlot.{TextSlot}
use Rattle.mf_rows.specs.declared.head.TextSpan.{TextSpan}
use Rattle.mf_rows.specs.declared.kinds.FeatureRow.{FeatureRow}
use Rattle.mf_rows.proofs.ReadAgain.{whole-again}
use Rattle.spill_parts.specs.Handed.{feature_row_of, record_rows}

module _ (h : Head) (texts : List (TextSlot × Text)) where
  abbrev front : Record
  front = front_record h texts

  -- a record that has a point
  abbrev pub with_point : Point → Record
  with_point p = record { head = h; texts = texts; spot = Some p; parts = [] }

  -- ---- units

  nothing-drawn : (kind : EntityKind) → drawn_units kind None [] ≡ []
  nothing-drawn EntityKind.Node = refl
  nothing-drawn EntityKind.Way = refl
  nothing-drawn EntityKind.Relation = refl

  front-units : units_of front ≡ front_units front
  unfolding units_of
  front-units =
      ap (λ us. front_units front ++ us) (nothing-drawn h.kind) ∙ append-nil (front_units front)

  point-drawn : (p : Point) → h.kind ≡ EntityKind.Node → drawn_units h.kind (Some p) [] ≡ point_unit p ∷ []
  point-drawn p node = ap (λ k. drawn_units k (Some p) []) node

  point-units : (p : Point) → h.kind ≡ EntityKind.Node
      → units_of (with_point p) ≡ front_units front ++ point_unit p ∷ []
  unfolding units_of
  point-units p node = ap (λ us. front_units front ++ us) (point-drawn p node)

  cut-long : (n : ℕ) (bytes : List ℕ) → length (cut_rows 16 n bytes) ≡ n
  cut-long zero bytes = refl
  cut-long (suc n) bytes = omega (arith, cut-long n (drop 16 bytes))

  pub front-long : length (front_units front) ≡ front_count front
  front-long =
      let n : ℕ = units_for (length (text_bytes texts)) in
      let long : length (text_units (text_bytes texts)) ≡ n =
      cut-long n (take (16 * n) (text_bytes texts ++ replicate 16 0)) in
      omega (arith, long)

  -- ---- units are read again

  module _ (is : IsHead h) (are : AreTexts h texts) where
    can-draw : (kind : EntityKind) → CanDraw kind None []
    can-draw EntityKind.Node = (refl, tt)
    can-draw EntityKind.Way = (refl, tt)
    can-draw EntityKind.Relation = (refl, tt)

    pub front-again : record_in (units_of front) ≡ Some front
    front-again = whole-again front (record { head = is; texts = are; drawn = can-draw h.kind })

    pub point-again : (p : Point) → h.kind ≡ EntityKind.Node → IsSpot p
        → record_in (units_of (with_point p)) ≡ Some (with_point p)
    point-again p node known =
        let draws : CanDraw h.kind (Some p) [] = subst (λ k. CanDraw k (Some p) []) (sym node) (refl, known) in
        whole-again (with_point p) (record { head = is; texts = are; drawn = draws })

  -- ---- units as rows

  abbrev row_of : ℕ × Unit16 → FeatureRow
  row_of = feature_row_of (kind_number h.kind) h.id

  abbrev pub rows_of_front : List FeatureRow
  rows_of_front = map row_of (enumerate_from 0 (front_units front))

  pub front-rows : record_rows front ≡ rows_of_front
  front-rows = ap (λ us. map row_of (enumerate_from 0 us)) front-units

  enumerate-append : (n : ℕ) (xs : List Unit16) (y : Unit16)
      → enumerate_from n (xs ++ y ∷ []) ≡ enumerate_from n xs ++ (n + length xs, y) ∷ []
  enumerate-append n [] y = let same : n ≡ n + 0 = omega arith in ap (λ k. (k, y) ∷ []) same
  enumerate-append n (x ∷ xs) y =
      let same : n + 1 + length xs ≡ n + suc (length xs) = omega arith in
      ap (λ more. (n, x) ∷ more)
      (enumerate-append (n + 1) xs y ∙ ap (λ k. enumerate_from (n + 1) xs ++ (k, y) ∷ []) same)

  pub point-rows : (p : Point) → h.kind ≡ EntityKind.Node
      → record_rows (with_point p) ≡ rows_of_front ++ row_of (front_count front, point_unit p) ∷ []
  point-rows p node =
      let place : 0 + length (front_units front) ≡ front_count front = omega (arith, front-long) in
      ap (λ us. map row_of (enumerate_from 0 us)) (point-units p node)
      ∙ ap (map row_of) (enumerate-append 0 (front_units front) (point_unit p))
      ∙ map-append row_of (enumerate_from 0 (front_units front))
      ((0 + length (front_units front), point_unit p) ∷ [])
      ∙ ap (λ k. rows_of_front ++ row_of (k, point_unit p) ∷ []) place

  pub rows-long : length rows_of_front ≡ front_count front
  rows-long = length-map (enumerate_from 0 (front_units front)) row_of
      ∙ length-enumerate_from 0 (front_units front) ∙ front-long

  enumerated : (n i : ℕ) (xs : List Unit16)
      → slice_get (enumerate_from n xs) i ≡ option_map (λ x. (n + i, x)) (slice_get xs i)
  enumerated n i [] = refl
  enumerated n zero (x ∷ xs) = let same : n ≡ n + 0 = omega arith in ap (λ k. Some (k, x)) same
  enumerated n (suc i) (x ∷ xs) =
      let same : n + 1 + i ≡ n + suc i = omega arith in
      enumerated (n + 1) i xs ∙ ap (λ k. option_map (λ x. (k, x)) (slice_get xs i)) same

  -- the row of a unit
  pub row-at : (i : ℕ) (unit : Unit16) → Some unit ≡ slice_get (front_units front) i
      → Some (row_of (i, unit)) ≡ slice_get rows_of_front i
  row-at i unit is =
      let same : 0 + i ≡ i = omega arith in
      sym (slice_get-map row_of (enumerate_from 0 (front_units front)) i
      ∙ ap (option_map row_of) (enumerated 0 i (front_units front)
      ∙ ap (option_map (λ x. (0 + i, x))) (sym is) ∙ ap (λ k. Some (k, unit)) same))

-- ---- how many there are

pub texts-short : (block : List ℕ) (spans : List TextSpan) → AllByRecursion IsShort spans
    → length (text_bytes (texts_told block spans)) ≤ 1020 * length spans
texts-short block [] short = omega arith
texts-short block (s ∷ spans) short = omega (
  arith,
  short.0,
  texts-short block spans short.1,
  length-append (take s.len (drop s.start block)) (text_bytes (texts_told block spans)),
  length-take s.len (drop s.start block),
)
