-- The tiles of a rectangle from the first on.
use Rattle.std.proofs.Common.{◌≡◌, ℕ, suc, ◌+◌, ◌-◌, ◌≤◌, List, ◌∷◌, Some}
use Rattle.std.proofs.Common.{sym, ap, ◌∙◌, arith}
use Rattle.std.specs.Prelude.{flat_map}
use Rattle.std.specs.List.{range_with_len}
use Rattle.std.proofs.lemmas.List.Concat.{flat_map-cons}
use Rattle.mf_base.specs.declared.tile.TileRect.{TileRect}
use Rattle.map_model.specs.TileRects.{from_to, tiles_of, IsTileRect}
use Rattle.mf_layout.specs.TileWalk.{row_from, walk_from}

-- the first number, and those behind it
from-first : (a b : ℕ) → a ≤ b → from_to a b ≡ a ∷ from_to (a + 1) b
from-first a b le = let next : suc b - a ≡ suc (suc b - (a + 1)) = omega (arith, le) in ap (range_with_len a) next

-- all tiles are those from the first on
pub walk-begins : (t : TileRect) → IsTileRect t → walk_from t (Some (t.first_x, t.first_y)) ≡ tiles_of t
unfolding tiles_of
walk-begins t is =
    sym (ap (λ (ns : List ℕ). flat_map (λ n. row_from t t.first_x n) ns) (from-first t.first_y t.last_y is.rows)
    ∙ flat_map-cons (λ n. row_from t t.first_x n) t.first_y (from_to (t.first_y + 1) t.last_y))
