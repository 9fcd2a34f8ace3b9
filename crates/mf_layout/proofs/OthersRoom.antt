-- Behind the sub-file of an interval there is room for those of the others.
use Rattle.std.proofs.Common.{◌≡◌, ℕ, suc, ◌+◌, ◌*◌, ◌^◌, ◌≤◌, List, map, length, IsTrue, ap, arith}
use Rattle.std.specs.Prelude.{leb, ◌&&◌}
use Rattle.std.proofs.lemmas.Bool.{leb-true, and_parts}
use Rattle.std.proofs.lemmas.List.{length-map}
use Rattle.mf_base.specs.Ranges.{is_rect}
use Rattle.mf_base.specs.declared.place.Rect.{Rect}
use Rattle.mf_base.specs.declared.tile.Interval.{Interval}
use Rattle.mf_edge.specs.Spill.{SpillState}
use Rattle.map_model.specs.Intervals.{is_zoom_range, interval_tiles}
use Rattle.map_model.proofs.RowLaws.{rect-tiles}
use Rattle.mf_layout.specs.Laid.{Tile, AreLaid, HasRoom}
use Rattle.mf_layout.specs.declared.laid.Laid.{Laid}
use Rattle.mf_layout.specs.declared.sub_files.SubFileSize.{SubFileSize}
use Rattle.mf_layout.proofs.AllLaid.{room-less, room-behind}
use Rattle.mf_layout.proofs.IntervalTiles.{few-in-interval}

-- the base of an interval is at most 16
low : (interval : Interval) → IsTrue (is_zoom_range interval) → interval.base ≤ 16
low interval range =
    let ends = and_parts (leb interval.min interval.base && leb interval.base interval.max && leb interval.base 16)
    (leb interval.max 21) range in
    leb-true interval.base 16 (and_parts (leb interval.min interval.base && leb interval.base interval.max)
    (leb interval.base 16) ends.0).1

-- an interval has at most 2^32 tiles
few : (box : Rect) (index : ℕ) (interval : Interval) → IsTrue (is_zoom_range interval) → IsTrue (is_rect box)
    → length (interval_tiles box index interval) ≤ 2 ^ 32
few box index interval range rect =
    let z = low interval range in
    few-in-interval box index interval range (rect-tiles box interval.base rect (omega (arith, z)))

pub others-room : (box : Rect) (index : ℕ) (interval : Interval) (tiles : List Tile) (size : SubFileSize)
    (l l1 : Laid) (a b : SpillState) (n m : ℕ) → IsTrue (is_zoom_range interval) → IsTrue (is_rect box)
    → map (λ (t : Tile). t.place) tiles ≡ interval_tiles box index interval
    → AreLaid tiles (record { tiles = 0; bytes = 0 }) size l l1 a b → m ≡ suc n → HasRoom (2 ^ 39 * m) l
    → HasRoom (2 ^ 39 * n) l1
others-room box index interval tiles size l l1 a b n m range rect places laid more room =
    let many : length tiles ≤ 2 ^ 32 =
    omega (arith, length-map tiles (λ (t : Tile). t.place), ap length places, few box index interval range rect) in
    room-behind (2 ^ 39 * n) tiles size l l1 a b laid many
    (room-less (2 ^ 39 * m) (2 ^ 39 + 2 ^ 39 * n) l (omega (arith, more)) room)
