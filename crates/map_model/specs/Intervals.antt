-- Zoom intervals and their tiles: Mapsforge Specification, Binary Map File Format, version 5, on zoom intervals; the
-- rule that intervals keep is this project's profile.
use Rattle.std.specs.Prelude.{ℕ, suc, max, nat_le, ◌==◌, if◌then◌else◌, Bool, ◌&&◌, List, map, zip, drop, length}
use Rattle.std.specs.Prelude.{Option, Some, None}
use Rattle.std.specs.List.{list_all}
use Rattle.mf_base.specs.declared.place.Rect.{Rect}
use Rattle.mf_base.specs.declared.tile.Interval.{Interval}
use Rattle.mf_base.specs.declared.tile.TilePlace.{TilePlace}
use Rattle.map_model.specs.TileRects.{from_to, tile_rect, tiles_of}

-- the minimum is at most the base, the base at most the maximum and at most 16, and the maximum at most 21
abbrev pub is_zoom_range : Interval → Bool
is_zoom_range interval = nat_le interval.min interval.base && nat_le interval.base interval.max
    && nat_le interval.base 16 && nat_le interval.max 21

-- 1 to 8 intervals, of which each minimum but the first is the maximum before plus 1
abbrev pub are_intervals : List Interval → Bool
are_intervals intervals =
    nat_le 1 (length intervals) && nat_le (length intervals) 8 && list_all is_zoom_range intervals
    && list_all (λ at. at.1.min == suc at.0.max) (zip intervals (drop 1 intervals))

-- the zoom levels of an interval
abbrev pub zooms : Interval → List ℕ
zooms interval = from_to interval.min interval.max

-- a zoom level, raised to the minimum of an interval
abbrev pub raised_zoom : Interval → ℕ → ℕ
raised_zoom interval zoom = max zoom interval.min

-- The effective zoom of a feature's zoom in an interval: the greater of it and the minimum, or None where it is above
-- the maximum.
abbrev pub effective_zoom : ℕ → Interval → Option ℕ
effective_zoom zoom interval = if nat_le zoom interval.max then Some (raised_zoom interval zoom) else None

-- the tile of this interval, by the interval's place, with this column and row
abbrev pub tile_place : ℕ → Interval → ℕ × ℕ → TilePlace
tile_place index interval at = record { index = index; interval = interval; x = at.0; y = at.1 }

-- the tiles of an interval: those at its base zoom that the box meets
unfoldable pub interval_tiles : Rect → ℕ → Interval → List TilePlace
interval_tiles box index interval = map (tile_place index interval) (tiles_of (tile_rect box interval.base))
