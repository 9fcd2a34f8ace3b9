-- How many bytes the tiles of a map have, and how many tiles there are.
use Rattle.std.proofs.Common.{◌≡◌, ◌∙◌, ◌+◌, ◌-◌, ◌*◌, ◌<◌, ◌≤◌, ◌^◌, ℕ, zero, suc, List, [], ◌∷◌, None}
use Rattle.std.proofs.Common.{refl, sym, ap, arith, length, true, inl, inr}
use Rattle.std.specs.Prelude.{IsTrue, map, flat_map, nat_lt, sum_by, option_map, find}
use Rattle.std.specs.List.{AllByRecursion, enumerate_from, range_with_len}
use Rattle.std.proofs.lemmas.Bool.Decides.{leb_tells}
use Rattle.std.proofs.lemmas.List.{length-map}
use Rattle.std.proofs.lemmas.List.Concat.{length-flat_map}
use Rattle.std.proofs.lemmas.List.Sums.{sum_by-cons}
use Rattle.mf_base.specs.declared.place.Rect.{Rect}
use Rattle.mf_base.specs.declared.tile.Interval.{Interval}
use Rattle.mf_base.specs.declared.tile.TilePlace.{TilePlace}
use Rattle.mf_base.specs.declared.tile.TileRect.{TileRect}
use Rattle.feature_model.specs.Features.{Feature}
use Rattle.feature_model.specs.declared.fault.LimitFault.{LimitFault}
use Rattle.feature_model.proofs.Totals.{total, total-map, total-flat_map, total-same, sum-total, length-total}
use Rattle.feature_model.proofs.Rising.{all-flat_map, all-map, all-from, all-imp, all-both}
use Rattle.map_model.specs.Header.{HeadSettings}
use Rattle.map_model.specs.Mercator.{column}
use Rattle.map_model.specs.TileRects.{from_to, tiles_of, tile_rect}
use Rattle.map_model.specs.Intervals.{tile_place, interval_tiles, are_intervals}
use Rattle.map_model.specs.Members.{members, in_tile, in_tile_order, weight_of_tile}
use Rattle.map_model.specs.MapFile.{all_contents, all_tiles, tile_weight, tile_limit_fault}
use Rattle.map_model.specs.Room.{rows_limit, IsWritable}
use Rattle.map_model.specs.NumberedMembers.{is_in_tile, members_by, in_tile_order_by}
use Rattle.map_model.specs.SubFile.{TileContent, content_of, contents, entry_of}
use Rattle.map_model.specs.TileBytes.{tile_bytes}
use Rattle.map_model.proofs.AllTiles.{HasRoom, tiles-room}
use Rattle.map_model.proofs.LevelLemmas.{members-in_tile_order}
use Rattle.map_model.proofs.NumberedMembers.{members-all}
use Rattle.map_model.proofs.RowLaws.{column-below}
use Rattle.map_model.proofs.TileRoom.{tile-room}

-- ---- one tile

tile_bytes-none : (tile : TilePlace) → tile_bytes tile [] ≡ []
unfolding tile_bytes
tile_bytes-none tile = refl

-- what a tile that is not too heavy needs of its place
record IsPlaced (t : TilePlace) : Type 0 where
  below : t.x < 2 ^ t.interval.base
  top : t.interval.max ≤ 21

-- a tile that weighs no more than a desk holds has at most 42 bytes for each row
tile-bytes : (tile : TilePlace) (fs : List Feature) → IsPlaced tile → fs ≡ in_tile_order tile.interval fs
    → AllByRecursion IsWritable fs → weight_of_tile fs ≤ rows_limit
    → length (tile_bytes tile fs) ≤ 42 * weight_of_tile fs
tile-bytes tile [] placed ordered all light = let none = ap length (tile_bytes-none tile) in omega (arith, none)
tile-bytes tile (f ∷ fs) placed ordered all light =
    let room = tile-room tile (f ∷ fs) placed.below placed.top ordered all light in
    let first = all.0.weight in
    let sum = sum_by-cons (λ (g : Feature). g.weight) f fs in
    omega (arith, room, first, sum)

-- the bytes of a tile among all features
abbrev bytes_at : List Feature → TilePlace → ℕ
bytes_at list tile = length (tile_bytes tile (members list tile))

-- no tile weighs more than a desk holds
abbrev IsLightIn : List Feature → TilePlace → Type 0
IsLightIn list tile = IsPlaced tile × (tile_weight list tile ≤ rows_limit)

members-writable : (list : List Feature) (tile : TilePlace) → AllByRecursion IsWritable list
    → AllByRecursion IsWritable (members list tile)
unfolding members in_tile_order in_tile members_by in_tile_order_by
members-writable list tile all =
    all-imp (λ f. IsWritable f × (is_in_tile tile f ≡ true)) IsWritable (λ f h. h.0) (members list tile)
    (members-all (λ f. f) (λ f. 0) IsWritable list tile all)

bytes-total : (list : List Feature) (tiles : List TilePlace) → AllByRecursion IsWritable list
    → AllByRecursion (IsLightIn list) tiles → total (bytes_at list) tiles ≤ 42 * total (tile_weight list) tiles
bytes-total list [] all light = omega arith
bytes-total list (t ∷ tiles) all light =
    let first = tile-bytes t (members list t) light.0.0 (members-in_tile_order list t) (members-writable list t all)
    light.0.1 in
    let rest = bytes-total list tiles all light.1 in
    omega (arith, first, rest)

-- ---- the tiles of a map

all-top : (a n l : ℕ) → n ≤ suc l - a → AllByRecursion (λ m. m ≤ l) (range_with_len a n)
all-top a zero l le = tt
all-top a (suc n) l le = (omega (arith, le), all-top (a + 1) n l (omega (arith, le)))

x-within : (t : TileRect) → AllByRecursion (λ (p : ℕ × ℕ). p.0 ≤ t.last_x) (tiles_of t)
unfolding tiles_of
x-within t =
    all-flat_map IsWest (λ y. map (λ x. (x, y)) columns) (from_to t.first_y t.last_y)
    (all-from (λ y. AllByRecursion IsWest (map (λ x. (x, y)) columns))
    (λ y. all-map IsWest (λ x. (x, y)) columns (all-top t.first_x (suc t.last_x - t.first_x) t.last_x (omega arith)))
    (from_to t.first_y t.last_y))
  where
    IsWest : ℕ × ℕ → Type 0
    IsWest p = p.0 ≤ t.last_x

    columns : List ℕ
    columns = from_to t.first_x t.last_x

abbrev IsBelow : TilePlace → Type 0
IsBelow t = t.x < 2 ^ t.interval.base

tiles-below : (set : HeadSettings) (box : Rect) → AllByRecursion IsBelow (all_tiles set box)
unfolding all_tiles interval_tiles tile_rect
tiles-below set box =
    all-flat_map IsBelow (λ at. interval_tiles box at.0 at.1) (enumerate_from 0 set.intervals)
    (all-from (λ at. AllByRecursion IsBelow (interval_tiles box at.0 at.1)) one (enumerate_from 0 set.intervals))
  where
    one : (at : ℕ × Interval) → AllByRecursion IsBelow (interval_tiles box at.0 at.1)
    one at =
        all-map IsBelow (tile_place at.0 at.1) (tiles_of (tile_rect box at.1.base))
        (all-imp (λ (p : ℕ × ℕ). p.0 ≤ column at.1.base box.max_lon) (λ p. IsBelow (tile_place at.0 at.1 p))
        (λ p h. omega (arith, h, column-below at.1.base box.max_lon)) (tiles_of (tile_rect box at.1.base))
        (x-within (tile_rect box at.1.base)))

tiles-placed : (set : HeadSettings) (box : Rect) → IsTrue (are_intervals set.intervals)
    → AllByRecursion IsPlaced (all_tiles set box)
tiles-placed set box h =
    all-imp (λ t. IsBelow t × HasRoom t) IsPlaced (λ t k. record { below = k.0; top = k.1.most }) (all_tiles set box)
    (all-both IsBelow HasRoom (all_tiles set box) (tiles-below set box) (tiles-room set box h))

-- no tile is over the limit
under-all : (limit : ℕ) (list : List Feature) (tiles : List TilePlace)
    → option_map (λ t. LimitFault.Tile t.index t.x t.y (tile_weight list t))
    (find (λ t. nat_lt limit (tile_weight list t)) tiles) ≡ None
    → AllByRecursion (λ tile. tile_weight list tile ≤ limit) tiles
under-all limit list [] none = tt
under-all limit list (t ∷ tiles) none = elim (leb_tells (suc limit) (tile_weight list t)) [
  | inl over ↦ absurd (cc (rw over.0 at none))
  | inr under ↦ (omega (arith, under.1), under-all limit list tiles (rw under.0 at none))
]

none-over : (limit : ℕ) (set : HeadSettings) (box : Rect) (list : List Feature)
    → tile_limit_fault limit set box list ≡ None
    → AllByRecursion (λ tile. tile_weight list tile ≤ limit) (all_tiles set box)
unfolding tile_limit_fault
none-over limit set box list none = under-all limit list (all_tiles set box) none

-- ---- their contents

bytes-each : (all : List (List TileContent))
    → length (flat_map (flat_map (λ (t : TileContent). t.bytes)) all)
    ≡ total (total (λ (t : TileContent). length t.bytes)) all
bytes-each all =
    length-flat_map (flat_map (λ (t : TileContent). t.bytes)) all
    ∙ sum-total (λ tiles. length (flat_map (λ (t : TileContent). t.bytes) tiles)) all
    ∙ total-same (λ tiles. length (flat_map (λ (t : TileContent). t.bytes) tiles))
    (total (λ (t : TileContent). length t.bytes))
    (λ tiles. length-flat_map (λ (t : TileContent). t.bytes) tiles
    ∙ sum-total (λ (t : TileContent). length t.bytes) tiles) all

contents-total : (f : TileContent → ℕ) (set : HeadSettings) (box : Rect) (list : List Feature)
    → total (total f) (all_contents set box list)
    ≡ total (λ tile. f (content_of tile (members list tile))) (all_tiles set box)
unfolding all_contents all_tiles contents
contents-total f set box list =
    total-map (total f) (λ at. contents list box at.0 at.1) (enumerate_from 0 set.intervals)
    ∙ total-same (λ at. total f (contents list box at.0 at.1))
    (λ at. total (λ tile. f (content_of tile (members list tile))) (interval_tiles box at.0 at.1))
    (λ at. total-map f (λ tile. content_of tile (members list tile)) (interval_tiles box at.0 at.1))
    (enumerate_from 0 set.intervals)
    ∙ sym (total-flat_map (λ tile. f (content_of tile (members list tile))) (λ at. interval_tiles box at.0 at.1)
    (enumerate_from 0 set.intervals))

contents-bytes : (set : HeadSettings) (box : Rect) (list : List Feature)
    → length (flat_map (flat_map (λ (t : TileContent). t.bytes)) (all_contents set box list))
    ≡ total (bytes_at list) (all_tiles set box)
unfolding content_of
contents-bytes set box list =
    bytes-each (all_contents set box list) ∙ contents-total (λ (t : TileContent). length t.bytes) set box list

-- how many tiles there are
pub contents-count : (set : HeadSettings) (box : Rect) (list : List Feature)
    → length (flat_map (map entry_of) (all_contents set box list)) ≡ length (all_tiles set box)
contents-count set box list =
    length-flat_map (map entry_of) (all_contents set box list)
    ∙ sum-total (λ tiles. length (map entry_of tiles)) (all_contents set box list)
    ∙ total-same (λ tiles. length (map entry_of tiles)) (total (λ (t : TileContent). 1))
    (λ tiles. length-map tiles entry_of ∙ length-total tiles) (all_contents set box list)
    ∙ contents-total (λ (t : TileContent). 1) set box list ∙ sym (length-total (all_tiles set box))

-- The tiles of a map, of which none is over the limit, have at most 42 bytes for each row that they weigh.
pub contents-within : (limit : ℕ) (set : HeadSettings) (box : Rect) (list : List Feature)
    → IsTrue (are_intervals set.intervals) → limit ≤ rows_limit → AllByRecursion IsWritable list
    → tile_limit_fault limit set box list ≡ None
    → length (flat_map (flat_map (λ (t : TileContent). t.bytes)) (all_contents set box list))
    ≤ 42 * sum_by (tile_weight list) (all_tiles set box)
contents-within limit set box list intervals few all none =
    let light : AllByRecursion (IsLightIn list) (all_tiles set box) =
    all-both IsPlaced (λ tile. tile_weight list tile ≤ rows_limit) (all_tiles set box)
    (tiles-placed set box intervals)
    (all-imp (λ tile. tile_weight list tile ≤ limit) (λ tile. tile_weight list tile ≤ rows_limit)
    (λ tile h. omega (arith, h, few)) (all_tiles set box) (none-over limit set box list none)) in
    let bytes = bytes-total list (all_tiles set box) all light in
    omega (arith, bytes, contents-bytes set box list, sum-total (tile_weight list) (all_tiles set box))
