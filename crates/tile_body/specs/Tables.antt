-- The numbers of a zoom table while members are counted. This project's own.
use Rattle.std.specs.Prelude.{◌≡◌, ℕ, ◌+◌, ◌^◌, ◌≤◌, ◌<◌, Bool, if◌then◌else◌, List, ◌++◌, flat_map, get_or, slice_set}
use Rattle.std.specs.List.{AllByRecursion}
use Rattle.mf_base.specs.Spelling.{vbe_unsigned}
use Rattle.mf_base.specs.declared.tile.Interval.{Interval}
use Rattle.feature_model.specs.Features.{Feature}
use Rattle.map_model.specs.Intervals.{zooms}
use Rattle.mf_rows.specs.Records.{Record}
use Rattle.tile_body.specs.Tiles.{count_at}

-- no zoom level is above the maximum
abbrev pub AreLow : Interval → List Record → Type 0
AreLow interval records = AllByRecursion (λ (r : Record). r.head.zoom ≤ interval.max) records

-- these are the numbers of features of a class by their effective zooms
abbrev pub AreCounts : (Feature → Bool) → Interval → List Feature → List ℕ → Type 0
AreCounts class interval fs counts = (z : ℕ) → z < 22 → get_or counts z 0 ≡ count_at class interval z fs

-- one more may be counted of each zoom level
abbrev pub AreFew : List ℕ → Type 0
AreFew counts = (z : ℕ) → get_or counts z 0 + 1 < 2 ^ 32

-- one more is counted of this zoom level
abbrev pub one_more : List ℕ → ℕ → List ℕ
one_more counts zoom = slice_set counts zoom (get_or counts zoom 0 + 1)

-- one more is counted of this zoom level, or not
abbrev pub counted_if : Bool → List ℕ → ℕ → List ℕ
counted_if belongs counts zoom = if belongs then one_more counts zoom else counts

-- the numbers of one zoom level
abbrev pub level_bytes : List ℕ → List ℕ → ℕ → List ℕ
level_bytes pois ways zoom = vbe_unsigned (get_or pois zoom 0) ++ vbe_unsigned (get_or ways zoom 0)

-- the numbers of all zoom levels
unfoldable pub levels_bytes : List ℕ → List ℕ → Interval → List ℕ
levels_bytes pois ways interval = flat_map (level_bytes pois ways) (zooms interval)
