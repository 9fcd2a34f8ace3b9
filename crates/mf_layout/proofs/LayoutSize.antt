-- The rows of a layout are few, by its size.
use Rattle.std.proofs.Common.{◌≡◌, ℕ, ◌+◌, ◌*◌, ◌<◌, ◌≤◌, List, [], ◌∷◌, map, length, refl, ap, ◌∙◌, arith}
use Rattle.std.proofs.Common.{length-append}
use Rattle.std.specs.Prelude.{flat_map, sum_by, slice_index_or}
use Rattle.std.specs.List.{enumerate_from, AllByRecursion}
use Rattle.std.proofs.lemmas.List.{length-map}
use Rattle.std.proofs.lemmas.List.FromFn.{length-enumerate_from}
use Rattle.std.proofs.lemmas.List.Sums.{sum_by-cons}
use Rattle.mf_base.specs.declared.place.Rect.{Rect}
use Rattle.feature_model.specs.Features.{Feature}
use Rattle.map_model.specs.Header.{HeadSettings}
use Rattle.map_model.specs.MapFile.{all_tiles, tile_weight}
use Rattle.mf_rows.specs.Shapes.{feature_told}
use Rattle.mf_rows.specs.declared.desk.Desk.{Desk}
use Rattle.mf_rows.specs.declared.kinds.ShapeRow.{ShapeRow}
use Rattle.spill_parts.specs.Shaped.{Spelled, shape_row_of, shape_rows, IsLight, AreShapes}
use Rattle.mf_layout.specs.Layouts.{layout_size}

-- a feature weighs what the head of its record tells
pub weight-told : (s : Spelled) → (feature_told s.told).weight ≡ s.told.head.weight
unfolding feature_told
weight-told s = refl

-- features have no more rows than they weigh together
rows-weigh : (limit : ℕ) (spelled : List Spelled) → AllByRecursion (IsLight limit) spelled
    → length (flat_map shape_rows spelled)
    ≤ sum_by (λ (f : Feature). f.weight) (map (λ (s : Spelled). feature_told s.told) spelled)
rows-weigh limit [] each = omega arith
rows-weigh limit (s ∷ more) each =
    let here = length-map (enumerate_from 0 s.units) (shape_row_of s.told.head.number)
    ∙ length-enumerate_from 0 s.units in
    let joined = length-append (shape_rows s) (flat_map shape_rows more) in
    let sum = sum_by-cons (λ (f : Feature). f.weight) (feature_told s.told)
    (map (λ (s : Spelled). feature_told s.told) more) in
    omega (arith, here, joined, sum, weight-told s, each.0.units, rows-weigh limit more each.1)

pub shapes-weigh : (limit : ℕ) (list : List Feature) (rows : List ShapeRow) → AreShapes limit list rows
    → length rows ≤ sum_by (λ (f : Feature). f.weight) list
shapes-weigh limit list rows are =
    let many = ap length are.rows_are in
    let same = ap (sum_by (λ (f : Feature). f.weight)) are.shows in
    omega (arith, many, same, rows-weigh limit are.spelled are.each)

-- the bytes of the rows of features, and of so many rows of members
pub rows-few : (limit : ℕ) (set : HeadSettings) (box : Rect) (list : List Feature) (rows : List ShapeRow) (n : ℕ)
    → AreShapes limit list rows → n ≤ sum_by (tile_weight list) (all_tiles set box)
    → 28 * length rows + 39 * n ≤ 39 * layout_size set box list
unfolding layout_size
rows-few limit set box list rows n are few = omega (arith, few, shapes-weigh limit list rows are)

-- the first of the desks has room for as many rows as each
pub first-room : (desks : List Desk) (room : ℕ) (d : Desk) → 0 < length desks
    → AllByRecursion (λ (one : Desk). one.records.capacity ≡ room) desks
    → (slice_index_or desks 0 d).records.capacity ≡ room
first-room [] room d some all = absurd (omega (arith, some))
first-room (first ∷ others) room d some all = all.0
