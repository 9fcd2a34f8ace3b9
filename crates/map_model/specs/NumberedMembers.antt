-- The members of tiles with their numbers, and the keys that order them: this project's own.
use Rattle.std.specs.Prelude.{◌≡◌, ◌⊎◌, ℕ, ◌<◌, ◌*◌, nat_le, ◌==◌, Bool, ◌&&◌, if◌then◌else◌, List, [], ◌∷◌, ◌++◌}
use Rattle.std.specs.Prelude.{map, filter, flat_map, length, Option, Some, None}
use Rattle.std.specs.List.{enumerate_from}
use Rattle.mf_base.specs.declared.place.Rect.{Rect}
use Rattle.mf_base.specs.declared.tile.Interval.{Interval}
use Rattle.mf_base.specs.declared.tile.TilePlace.{TilePlace}
use Rattle.mf_base.specs.declared.tile.TileRect.{TileRect}
use Rattle.feature_model.specs.Features.{Feature}
use Rattle.map_model.specs.declared.tile_key.TileKey.{TileKey}
use Rattle.map_model.specs.Rectangles.{rect_of}
use Rattle.map_model.specs.TileRects.{tile_rect, common, tiles_of, meets}
use Rattle.map_model.specs.Intervals.{raised_zoom, zooms, tile_place}
use Rattle.map_model.specs.Members.{is_poi, is_way, class_of}
use Rattle.map_model.specs.Header.{HeadSettings}
use Rattle.map_model.specs.MapFile.{all_tiles}

-- Members among things that show features, as numbered features do, and records.

-- a feature meets the tile, and its zoom is at most the maximum
abbrev pub is_in_tile : TilePlace → Feature → Bool
is_in_tile tile f = nat_le f.zoom tile.interval.max && meets (rect_of f) tile.interval.base tile.x tile.y

-- those of one effective zoom
abbrev pub of_zoom_by : {R : Type 0} → (R → Feature) → Interval → ℕ → List R → List R
of_zoom_by shown interval zoom things = filter (λ r. raised_zoom interval (shown r).zoom == zoom) things

-- by effective zoom, and in their order within one
abbrev pub by_zoom_by : {R : Type 0} → (R → Feature) → Interval → List R → List R
by_zoom_by shown interval things = flat_map (λ zoom. of_zoom_by shown interval zoom things) (zooms interval)

-- first POIs, then ways, each by effective zoom, then in their order
unfoldable pub in_tile_order_by : {R : Type 0} → (R → Feature) → Interval → List R → List R
in_tile_order_by shown interval things = by_zoom_by shown interval (filter (λ r. is_poi (shown r)) things)
    ++ by_zoom_by shown interval (filter (λ r. is_way (shown r)) things)

-- The things that show the members of a tile, in the order of the members.
unfoldable pub members_by : {R : Type 0} → (R → Feature) → List R → TilePlace → List R
members_by shown things tile = in_tile_order_by shown tile.interval (filter (λ r. is_in_tile tile (shown r)) things)

-- the members of a tile among all features of the map, each with its number
abbrev pub numbered_members : List Feature → TilePlace → List (ℕ × Feature)
numbered_members features tile = members_by (λ p. p.1) (enumerate_from 0 features) tile

-- Keys: interval, y, x, class, effective zoom, number. The first number that differs decides.

-- the first number that differs is smaller
abbrev pub KeyBelow : List ℕ → List ℕ → Type 0
KeyBelow [] b = ⊥
KeyBelow (m ∷ a) [] = ⊥
KeyBelow (m ∷ a) (n ∷ b) = (m < n) ⊎ ((m ≡ n) × KeyBelow a b)

-- the numbers of a tile, in the order in which they decide
abbrev pub tile_numbers : TilePlace → List ℕ
tile_numbers t = t.index ∷ t.y ∷ t.x ∷ []

-- the numbers of a key
abbrev pub key_numbers : TileKey → List ℕ
key_numbers k = k.index ∷ k.y ∷ k.x ∷ k.class ∷ k.zoom ∷ k.number ∷ []

-- a tile before another
abbrev pub TileBelow : TilePlace → TilePlace → Type 0
TileBelow t u = KeyBelow (tile_numbers t) (tile_numbers u)

-- a key before another
abbrev pub IsKeyBelow : TileKey → TileKey → Type 0
IsKeyBelow k l = KeyBelow (key_numbers k) (key_numbers l)

-- the key of a numbered feature in a tile
abbrev pub key_in : TilePlace → ℕ × Feature → TileKey
key_in tile at =
    record {
      index = tile.index;
      y = tile.y;
      x = tile.x;
      class = class_of at.1;
      zoom = raised_zoom tile.interval at.1.zoom;
      number = at.0;
    }

-- a key is of this tile
abbrev pub is_key_of : TilePlace → TileKey → Bool
is_key_of tile k = k.index == tile.index && k.y == tile.y && k.x == tile.x

-- the keys of a tile's members, in their order
unfoldable pub tile_keys : List Feature → TilePlace → List TileKey
tile_keys features tile = map (key_in tile) (numbered_members features tile)

-- the keys of some tiles, one tile after another, and nothing for a tile without members
unfoldable pub keys_of_tiles : List Feature → List TilePlace → List TileKey
keys_of_tiles features tiles = flat_map (tile_keys features) tiles

-- the tiles of a rectangle of tiles, and none where there is no rectangle
abbrev pub tiles_of_some : Option TileRect → List (ℕ × ℕ)
tiles_of_some None = []
tiles_of_some (Some t) = tiles_of t

-- the columns and rows of the tiles of an interval that the box and a feature's rectangle have in common
unfoldable pub shared_tiles : Rect → Interval → Feature → List (ℕ × ℕ)
shared_tiles box interval f = tiles_of_some (common (tile_rect box interval.base) (tile_rect (rect_of f) interval.base))

-- what a numbered feature puts in an interval: its key for each of these tiles, where its zoom is at most the maximum
unfoldable pub interval_keys : Rect → ℕ → Interval → ℕ × Feature → List TileKey
interval_keys box index interval at =
    if nat_le at.1.zoom interval.max then map (λ xy. key_in (tile_place index interval xy) at)
    (shared_tiles box interval at.1) else []

-- all keys that are put: for each interval, each feature
unfoldable pub put_keys : HeadSettings → Rect → List Feature → List TileKey
put_keys set box features =
    flat_map (λ i. flat_map (interval_keys box i.0 i.1) (enumerate_from 0 features)) (enumerate_from 0 set.intervals)

-- the keys of all tiles, by interval, then y, then x
abbrev pub all_keys : HeadSettings → Rect → List Feature → List TileKey
all_keys set box features = keys_of_tiles features (all_tiles set box)

-- what a feature weighs in all tiles of an interval that it shares with the box
abbrev pub spread_weight : Rect → Interval → Feature → ℕ
spread_weight box interval f = if nat_le f.zoom interval.max then f.weight * length (shared_tiles box interval f) else 0
