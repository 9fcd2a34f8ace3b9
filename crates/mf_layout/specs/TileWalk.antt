-- The tiles of a rectangle of tiles that a walk has still to give. This project's own.
use Rattle.std.specs.Prelude.{ℕ, ◌+◌, ◌≤◌, List, [], ◌++◌, map, flat_map, Option, Some, None, ⊤}
use Rattle.mf_base.specs.declared.tile.TileRect.{TileRect}
use Rattle.map_model.specs.TileRects.{from_to}

-- the tiles of one row of a rectangle from a column on
abbrev pub row_from : TileRect → ℕ → ℕ → List (ℕ × ℕ)
row_from t x y = map (λ n. (n, y)) (from_to x t.last_x)

-- the tiles of a rectangle from one on, row by row from the north and west to east, or none
abbrev pub walk_from : TileRect → Option (ℕ × ℕ) → List (ℕ × ℕ)
walk_from t None = []
walk_from t (Some at) = row_from t at.0 at.1 ++ flat_map (λ y. row_from t t.first_x y) (from_to (at.1 + 1) t.last_y)

-- a tile lies neither east nor south of a rectangle
abbrev pub LiesBefore : TileRect → Option (ℕ × ℕ) → Type 0
LiesBefore t None = ⊤
LiesBefore t (Some at) = (at.0 ≤ t.last_x) × (at.1 ≤ t.last_y)
