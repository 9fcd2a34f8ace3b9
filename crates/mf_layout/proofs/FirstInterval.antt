-- A first interval is laid out, and others behind it: what is left, and the first tile over the limit.
use Rattle.std.proofs.Common.{◌≡◌, ℕ, ◌+◌, List, ◌∷◌, ◌++◌, map, true, Some, subst, ◌∙◌, append_assoc}
use Rattle.mf_base.specs.declared.place.Rect.{Rect}
use Rattle.mf_base.specs.declared.tile.Interval.{Interval}
use Rattle.mf_base.specs.declared.tile.TilePlace.{TilePlace}
use Rattle.mf_edge.specs.Spill.{SpillState}
use Rattle.feature_model.specs.declared.fault.LimitFault.{LimitFault}
use Rattle.map_model.specs.Intervals.{interval_tiles}
use Rattle.mf_rows.specs.declared.kinds.TileRow.{TileRow}
use Rattle.spill_parts.specs.Shaped.{Spelled}
use Rattle.tile_rows.specs.TileRows.{shown}
use Rattle.mf_layout.specs.Laying.{tiles_fault, AreToLay, AreDone, LaysOut}
use Rattle.mf_layout.specs.AllLaid.{tiles_from}
use Rattle.mf_layout.specs.declared.laid.Laid.{Laid}
use Rattle.mf_layout.specs.declared.sub_files.SubFileSize.{SubFileSize}
use Rattle.mf_layout.proofs.LaidOut.{fault-behind, fault-first}

-- the rows that are left are those of the first interval, and then of the others and of the later tiles
pub first-to_lay : (limit : ℕ) (box : Rect) (index : ℕ) (interval : Interval) (intervals : List Interval)
    (left : List TileRow) (list : List Spelled) (later : List TilePlace)
    → AreToLay limit list (tiles_from box index (interval ∷ intervals) ++ later) left
    → AreToLay limit list (interval_tiles box index interval ++ (tiles_from box (index + 1) intervals ++ later)) left
first-to_lay limit box index interval intervals left list later to_lay =
    subst (λ ts. AreToLay limit list ts left)
    (append_assoc (interval_tiles box index interval) (tiles_from box (index + 1) intervals) later) to_lay

-- some tile of the first is over the limit
pub first-over : (limit : ℕ) (box : Rect) (index : ℕ) (interval : Interval) (intervals : List Interval)
    (left : List TileRow) (f : LimitFault)
    → ((list : List Spelled) (later : List TilePlace)
    → AreToLay limit list (interval_tiles box index interval ++ later) left
    → tiles_fault limit (map shown list) (interval_tiles box index interval) ≡ Some f)
    → (list : List Spelled) (later : List TilePlace)
    → AreToLay limit list (tiles_from box index (interval ∷ intervals) ++ later) left
    → tiles_fault limit (map shown list) (tiles_from box index (interval ∷ intervals)) ≡ Some f
first-over limit box index interval intervals left f over list later to_lay =
    let behind = tiles_from box (index + 1) intervals in
    fault-first limit (map shown list) (interval_tiles box index interval) behind f
    (over list (behind ++ later) (first-to_lay limit box index interval intervals left list later to_lay))

module _ (limit : ℕ) (box : Rect) (index : ℕ) (interval : Interval) (intervals : List Interval)
    (left left1 : List TileRow) (size size1 : SubFileSize) (l l1 : Laid) (a b : SpillState) (told : a.tells ≡ true)
    (first : LaysOut limit (interval_tiles box index interval) left left1 size size1 l l1 a b) where
  -- the first was laid out, and the rows of the others are left
  pub first-done : (list : List Spelled) (later : List TilePlace)
      → AreToLay limit list (tiles_from box index (interval ∷ intervals) ++ later) left
      → AreDone limit list (interval_tiles box index interval) (tiles_from box (index + 1) intervals ++ later) left1
      first.done
  first-done list later to_lay =
      first.told told list (tiles_from box (index + 1) intervals ++ later)
      (first-to_lay limit box index interval intervals left list later to_lay)

  -- some tile of the others is over the limit
  pub others-over : (f : LimitFault)
      → ((list : List Spelled) (later : List TilePlace)
      → AreToLay limit list (tiles_from box (index + 1) intervals ++ later) left1
      → tiles_fault limit (map shown list) (tiles_from box (index + 1) intervals) ≡ Some f)
      → (list : List Spelled) (later : List TilePlace)
      → AreToLay limit list (tiles_from box index (interval ∷ intervals) ++ later) left
      → tiles_fault limit (map shown list) (tiles_from box index (interval ∷ intervals)) ≡ Some f
  others-over f over list later to_lay =
      let before = first-done list later to_lay in
      fault-behind limit (map shown list) (interval_tiles box index interval) (tiles_from box (index + 1) intervals)
      before.no_fault
      ∙ over list later before.to_lay
