-- What is put where a zoom is at most a maximum, and tiles that two rectangles have in common.
use Rattle.std.proofs.Common.{◌≡◌, ℕ, ◌≤◌, ◌^◌, Bool, true, false, List, [], Option, Some, None, inl, inr}
use Rattle.std.proofs.Common.{refl, sym, ap, ◌∙◌, arith}
use Rattle.std.specs.Prelude.{nat_le, if◌then◌else◌, IfSome}
use Rattle.mf_base.specs.declared.place.Rect.{Rect}
use Rattle.mf_base.specs.declared.tile.TileRect.{TileRect}
use Rattle.mf_base.specs.declared.tile.Interval.{Interval}
use Rattle.mf_rows.specs.Units.{Unit16}
use Rattle.mf_rows.specs.declared.head.Head.{Head}
use Rattle.mf_rows.specs.declared.kinds.TileRow.{TileRow}
use Rattle.map_model.specs.TileRects.{tile_rect, common, IsTileRect}
use Rattle.tile_spread.specs.Spread.{IsSmall, head_row, some_rows, rect_rows, both_tiles, head_rows}
use Rattle.std.proofs.lemmas.Bool.Decides.{leb_tells}
use Rattle.std.proofs.Math.Nat.{pow-le-pow_right}

-- the rows, where the zoom is at most the maximum
pub all-below : {A : Type 0} (zoom max : ℕ) (rows : List A) → zoom ≤ max
    → (if nat_le zoom max then rows else []) ≡ rows
all-below zoom max rows le = elim (leb_tells zoom max) [
  | inl is ↦ rw is.0 refl
  | inr not ↦ absurd (omega (arith, not.1, le))
]

-- the tiles of a rectangle are of the zoom that was asked for
pub zoom-of_rect : (rect : Rect) (z : ℕ) → (tile_rect rect z).z ≡ z
unfolding tile_rect
zoom-of_rect rect z = refl

zoom-of_some : (are : Bool) (both t : TileRect) → Some t ≡ (if are then Some both else None) → t.z ≡ both.z
zoom-of_some true both t is = ap zoom_or is
  where
    zoom_or : Option TileRect → ℕ
    zoom_or None = 0
    zoom_or (Some u) = u.z
zoom-of_some false both t is = absurd (cc is)

-- and so are those of two
zoom-of_common : (a b t : TileRect) → Some t ≡ common a b → t.z ≡ a.z
unfolding common
zoom-of_common a b t is = zoom-of_some _ _ t is

-- the last of them are small
pub small-common : (a b : TileRect) (found : Option TileRect) → found ≡ common a b → IfSome found IsTileRect
    → a.z ≤ 16 → IfSome found IsSmall
small-common a b None is proper le = tt
small-common a b (Some t) is proper le =
    let zoom : t.z ≡ a.z = zoom-of_common a b t is in
    let most : 2 ^ t.z ≤ 2 ^ 16 = pow-le-pow_right {n = 2} (omega arith) {i = t.z} {j = 16} (omega (
      arith,
      zoom,
      le,
    )) in
    record { east = omega (arith, proper.east, most); south = omega (arith, proper.south, most) }

-- what is put, of a row with any unit, where the zoom is at most the maximum
pub shown-rows : (box rect : Rect) (index : ℕ) (interval : Interval) (head : Head) (units : List Unit16)
    (like : TileRow) (shared : Option TileRect) → head.zoom ≤ interval.max
    → like ≡ head_row index interval head like.unit → shared ≡ both_tiles box rect interval.base
    → some_rows like units shared ≡ head_rows box rect index interval head units
shown-rows box rect index interval head units like shared le row is =
    ap (λ (r : TileRow). some_rows r units shared) row
    ∙ same-unit (head_row index interval head like.unit) (head_row index interval head []) shared refl
    ∙ ap (some_rows (head_row index interval head []) units) is
    ∙ sym (all-below head.zoom interval.max _ le)
  where
    same-unit : (a b : TileRow) (o : Option TileRect) → record a { unit = [] } ≡ record b { unit = [] }
        → some_rows a units o ≡ some_rows b units o
    same-unit a b None same = refl
    same-unit a b (Some t) same =
        ap (λ (r : TileRow). rect_rows r units t.first_x t.last_x t.first_y t.last_y) same
