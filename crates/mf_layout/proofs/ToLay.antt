-- The features of a part can be spread over tiles, and the rows of all tiles, in order, can be laid out.
use Rattle.std.proofs.Common.{◌≡◌, ℕ, ◌≤◌, length, List, map, sym, ap, subst, ◌∙◌, arith}
use Rattle.std.specs.Prelude.{sum_by, IsTrue}
use Rattle.std.specs.List.{AllByRecursion}
use Rattle.std.proofs.lemmas.List.Concat.{length-flat_map}
use Rattle.std.proofs.lemmas.List.Sums.{sum_by-le-sum_by}
use Rattle.std.proofs.lemmas.Simd.{map-map}
use Rattle.mf_base.proofs.Pairs.{all_pairs}
use Rattle.mf_base.specs.declared.place.Rect.{Rect}
use Rattle.feature_model.specs.Features.{Feature}
use Rattle.feature_model.specs.Mapping.{Mapping}
use Rattle.feature_model.proofs.Rising.{all-imp, all-unmap}
use Rattle.feature_model.proofs.Totals.{sum-total, total-map, total-same}
use Rattle.map_model.specs.Header.{HeadSettings}
use Rattle.map_model.specs.MapFile.{all_tiles, tile_weight}
use Rattle.map_model.specs.Intervals.{are_intervals}
use Rattle.map_model.specs.NumberedMembers.{TileBelow}
use Rattle.map_model.proofs.AllTiles.{tiles-rise}
use Rattle.mf_rows.specs.Kinds.{shape_kind}
use Rattle.mf_rows.specs.RowKinds.{IsOf}
use Rattle.mf_rows.specs.Shapes.{feature_told}
use Rattle.mf_rows.specs.declared.kinds.ShapeRow.{ShapeRow}
use Rattle.mf_rows.specs.declared.kinds.TileRow.{TileRow}
use Rattle.spill_parts.specs.Shaped.{Spelled, IsShown}
use Rattle.tile_rows.specs.TileRows.{shown, put_rows, tile_rows, rows_of_tiles}
use Rattle.tile_rows.proofs.RowCount.{tile-within, rows-within}
use Rattle.tile_rows.proofs.RowOrder.{shapes-numbered}
use Rattle.tile_load.specs.Loading.{weight_of}
use Rattle.tile_spread.specs.Pass.{IsOnEarth, MaySpread}
use Rattle.mf_layout.specs.Laying.{AreToLay}
use Rattle.mf_layout.specs.Layouts.{AreFeatures, AreInOrder}
use Rattle.mf_layout.proofs.LayoutSize.{weight-told}

-- records weigh what their features weigh
weight-shown : (list : List Spelled) → weight_of list ≡ sum_by (λ (f : Feature). f.weight) (map shown list)
weight-shown list =
    sum-total (λ (s : Spelled). s.told.head.weight) list
    ∙ total-same (λ (s : Spelled). s.told.head.weight) (λ (s : Spelled). (shown s).weight) (λ s. sym (weight-told s)) list
    ∙ sym (total-map (λ (f : Feature). f.weight) shown list)
    ∙ sym (sum-total (λ (f : Feature). f.weight) (map shown list))

-- where a feature may be shown, its record is on the earth
on-earth : (mapping : Mapping) (s : Spelled) → IsShown mapping (shown s) → IsOnEarth s.told
unfolding feature_told
on-earth mapping s may = may.1.places

module _ (limit : ℕ) (mapping : Mapping) (features : List Feature) (shapes : List ShapeRow)
    (are : AreFeatures limit mapping features shapes) where
  -- the features can be spread
  pub may-spread : AllByRecursion (IsOf shape_kind) shapes → MaySpread limit are.shapes.spelled shapes
  may-spread known = record {
    rows_are = are.shapes.rows_are;
    light = are.shapes.each;
    places = all-imp (λ s. IsShown mapping (shown s)) (λ s. IsOnEarth s.told) (on-earth mapping) are.shapes.spelled
        (all-unmap (IsShown mapping) shown are.shapes.spelled
        (subst (AllByRecursion (IsShown mapping)) (sym are.shapes.shows) are.shown));
    numbered = shapes-numbered limit features shapes are.shapes known;
  }

  -- no more rows are put than all tiles weigh
  pub put-few : (set : HeadSettings) (box : Rect) → IsTrue (are_intervals set.intervals)
      → length (put_rows set box are.shapes.spelled) ≤ sum_by (tile_weight features) (all_tiles set box)
  put-few set box intervals =
      subst (λ fs. length (put_rows set box are.shapes.spelled) ≤ sum_by (tile_weight fs) (all_tiles set box))
      are.shapes.shows (rows-within limit set box are.shapes.spelled intervals are.shapes.each)

  module _ (set : HeadSettings) (box : Rect) (rows : List TileRow)
      (ordered : AreInOrder limit set box are.shapes.spelled rows) where
    -- the records in order show the features
    pub shown-made : map shown ordered.made ≡ features
    shown-made =
        sym (map-map feature_told (λ (s : Spelled). s.told) ordered.made)
        ∙ ap (map feature_told) ordered.told
        ∙ map-map feature_told (λ (s : Spelled). s.told) are.shapes.spelled
        ∙ are.shapes.shows

    -- their rows can be laid out
    pub to-lay : AreToLay limit ordered.made (all_tiles set box) rows
    to-lay =
        let weighs = weight-shown ordered.made ∙ ap (sum_by (λ (f : Feature). f.weight)) shown-made in
        record {
          left = record {
            light = ordered.light;
            few = omega (arith, weighs, are.shapes.light);
            order = all_pairs TileBelow (all_tiles set box) (tiles-rise set box);
            rows_are = ordered.rows_are;
          };
          mapping = mapping;
          is_mapping = are.mapping_is;
          may_show = subst (AllByRecursion (IsShown mapping)) (sym shown-made) are.shown;
        }

    -- and are no more than all tiles weigh
    pub ordered-few : length rows ≤ sum_by (tile_weight features) (all_tiles set box)
    unfolding rows_of_tiles
    ordered-few =
        let tiles = all_tiles set box in
        let many = ap length ordered.rows_are ∙ length-flat_map (tile_rows ordered.made) tiles in
        let le = sum_by-le-sum_by (λ t. length (tile_rows ordered.made t)) (tile_weight (map shown ordered.made)) tiles
        (λ t. tile-within limit ordered.made t ordered.light) in
        let same = ap (λ fs. sum_by (tile_weight fs) tiles) shown-made in
        omega (arith, many, le, same)
