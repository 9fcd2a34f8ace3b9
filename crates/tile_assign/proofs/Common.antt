-- The tiles of two rectangles, as the code has them.
use Rattle.std.proofs.Common.{◌≡◌, ℕ, ◌<◌, ◌≤◌, refl, arith, Some, None}
use Rattle.std.specs.Prelude.{max, min}
use Rattle.std.proofs.lemmas.Bool.{le-leb, lt-leb}
use Rattle.mf_base.specs.declared.tile.TileRect.{TileRect}
use Rattle.map_model.specs.TileRects.{common}

-- the sides of what is common, where they are sides
pub record AreSides (a b : TileRect) (first_x last_x first_y last_y : ℕ) : Type 0 where
  pub west : first_x ≡ max a.first_x b.first_x
  pub east : last_x ≡ min a.last_x b.last_x
  pub north : first_y ≡ max a.first_y b.first_y
  pub south : last_y ≡ min a.last_y b.last_y

pub common-some : (a b : TileRect) (first_x last_x first_y last_y : ℕ) → AreSides a b first_x last_x first_y last_y
    → first_x ≤ last_x → first_y ≤ last_y
    → Some (record { z = a.z; first_x = first_x; last_x = last_x; first_y = first_y; last_y = last_y }) ≡ common a b
unfolding common
common-some a b first_x last_x first_y last_y sides columns rows =
    let x : max a.first_x b.first_x ≤ min a.last_x b.last_x = omega (arith, sides.west, sides.east, columns) in
    let y : max a.first_y b.first_y ≤ min a.last_y b.last_y = omega (arith, sides.north, sides.south, rows) in
    rw (le-leb _ _ x, le-leb _ _ y)
    (λ i. Some (record {
      z = a.z;
      first_x = sides.west i;
      last_x = sides.east i;
      first_y = sides.north i;
      last_y = sides.south i;
    }))

pub common-no_column : (a b : TileRect) (first_x last_x first_y last_y : ℕ) → AreSides a b first_x last_x first_y last_y
    → last_x < first_x → None ≡ common a b
unfolding common
common-no_column a b first_x last_x first_y last_y sides none =
    let x : min a.last_x b.last_x < max a.first_x b.first_x = omega (arith, sides.west, sides.east, none) in
    rw (lt-leb _ _ x) refl

pub common-no_row : (a b : TileRect) (first_x last_x first_y last_y : ℕ) → AreSides a b first_x last_x first_y last_y
    → first_x ≤ last_x → last_y < first_y → None ≡ common a b
unfolding common
common-no_row a b first_x last_x first_y last_y sides columns none =
    let x : max a.first_x b.first_x ≤ min a.last_x b.last_x = omega (arith, sides.west, sides.east, columns) in
    let y : min a.last_y b.last_y < max a.first_y b.first_y = omega (arith, sides.north, sides.south, none) in
    rw (le-leb _ _ x, lt-leb _ _ y) refl
