-- The rows that are put, in ascending order, are those of the tiles, tile after tile.
use Rattle.std.proofs.Common.{◌≡◌, ℕ, ◌<◌, List, [], ◌∷◌, ◌++◌, length, sym, subst}
use Rattle.std.specs.Prelude.{flat_map, IsTrue}
use Rattle.std.specs.List.{AllByRecursion}
use Rattle.mf_base.specs.declared.place.Rect.{Rect}
use Rattle.mf_base.proofs.Pairs.{EachPair, each_pair, all_pairs}
use Rattle.feature_model.specs.Features.{Feature}
use Rattle.feature_model.proofs.Rising.{all-after, all-from, rises-imp, rises-unmap, rises-range}
use Rattle.map_model.specs.Header.{HeadSettings}
use Rattle.map_model.specs.MapFile.{all_tiles}
use Rattle.map_model.specs.Intervals.{are_intervals}
use Rattle.map_model.proofs.AllTiles.{tiles-rise, tiles-room}
use Rattle.mf_rows.specs.RowKinds.{IsOf}
use Rattle.mf_rows.specs.Kinds.{shape_kind, tile_kind}
use Rattle.mf_rows.specs.Laws.{tile-laws}
use Rattle.mf_rows.specs.declared.kinds.ShapeRow.{ShapeRow}
use Rattle.spill_parts.specs.Parts.{ordered_rows}
use Rattle.spill_parts.specs.Shaped.{Spelled, shape_rows, AreShapes}
use Rattle.tile_rows.specs.TileRows.{put_rows, all_tile_rows, NumberBelow, AreNumbered}
use Rattle.tile_rows.proofs.ByKeys.{below-less, RowBefore, ordered-by_keys}
use Rattle.tile_rows.proofs.RowKeys.{row_numbers, RowBelow, rows-rise}
use Rattle.tile_rows.proofs.Put.{rows-total}
use Rattle.tile_rows.proofs.RowRoom.{put-room, tiles-rows-room}

pub rows-ordered : (set : HeadSettings) (box : Rect) (list : List Spelled) → IsTrue (are_intervals set.intervals)
    → AreNumbered list → ordered_rows tile_kind (put_rows set box list) ≡ all_tile_rows set box list
rows-ordered set box list intervals are =
    ordered-by_keys tile_kind tile-laws (put_rows set box list) (all_tile_rows set box list)
    (put-room set box list intervals are.rows)
    (tiles-rows-room list are.rows (all_tiles set box) (tiles-room set box intervals))
    (rises-imp (λ row. Unit {0}) RowBelow (RowBefore tile_kind)
    (λ a b _ _ h. below-less (row_numbers a) (row_numbers b) h) (all_tile_rows set box list)
    (all-from (λ row. Unit {0}) (λ row. tt) (all_tile_rows set box list))
    (rows-rise list (each_pair NumberBelow list are.rise) (all_tiles set box) (tiles-rise set box)))
    (λ f. rows-total f set box list intervals)

-- ---- what is handed on as shapes

all-before : {X : Type 0} (P : X → Type 0) (xs ys : List X) → AllByRecursion P (xs ++ ys) → AllByRecursion P xs
all-before P [] ys all = tt
all-before P (x ∷ xs) ys all = (all.0, all-before P xs ys all.1)

-- what holds of all items of blocks holds of those of each block
all-blocks : {X Y : Type 0} (P : Y → Type 0) (g : X → List Y) (xs : List X) → AllByRecursion P (flat_map g xs)
    → AllByRecursion (λ x. AllByRecursion P (g x)) xs
all-blocks P g [] all = tt
all-blocks P g (x ∷ xs) all = (
  all-before P (g x) (flat_map g xs) all,
  all-blocks P g xs (all-after P (g x) (flat_map g xs) all),
)

pub shapes-numbered : (limit : ℕ) (list : List Feature) (rows : List ShapeRow) (is : AreShapes limit list rows)
    → AllByRecursion (IsOf shape_kind) rows → AreNumbered is.spelled
shapes-numbered limit list rows is known = record {
  rise = all_pairs NumberBelow is.spelled
      (rises-unmap (λ m n. m < n) (λ (s : Spelled). s.told.head.number) is.spelled
      (subst (EachPair (λ m n. m < n)) (sym is.numbers) (rises-range 0 (length list))));
  rows =
      all-blocks (IsOf shape_kind) shape_rows is.spelled (subst (AllByRecursion (IsOf shape_kind)) is.rows_are known);
}

pub ruleset order_laws = (rows-ordered)
