-- Tiles that meet a rectangle, and those that meet two: for layouts.
use Rattle.std.proofs.Common.{◌≡◌, ℕ, Some, None}
use Rattle.std.specs.Prelude.{◌↔◌, IsTrue}
use Rattle.mf_base.specs.declared.place.Rect.{Rect}
use Rattle.mf_base.specs.declared.tile.TileRect.{TileRect}
use Rattle.map_model.specs.TileRects.{tile_rect, common, meets, has_tile}
use Rattle.map_model.proofs.TileLaws.{common-both, common-none}

pub meets-one : (rect : Rect) (z x y : ℕ) → IsTrue (meets rect z x y) ↔ IsTrue (has_tile (tile_rect rect z) x y)
unfolding meets
meets-one rect z x y = (λ h. h, λ h. h)

pub meets-both : (box rect : Rect) (z : ℕ) (t : TileRect) → common (tile_rect box z) (tile_rect rect z) ≡ Some t
    → (x y : ℕ) → IsTrue (has_tile t x y) ↔ (IsTrue (meets box z x y) × IsTrue (meets rect z x y))
unfolding meets
meets-both box rect z t e x y = common-both (tile_rect box z) (tile_rect rect z) t e x y

pub meets-none : (box rect : Rect) (z : ℕ) → common (tile_rect box z) (tile_rect rect z) ≡ None → (x y : ℕ)
    → IsTrue (meets box z x y) → IsTrue (meets rect z x y) → ⊥
unfolding meets
meets-none box rect z e x y = common-none (tile_rect box z) (tile_rect rect z) e x y
