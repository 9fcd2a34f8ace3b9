-- What a feature of a head and a rectangle puts is what its record puts.
use Rattle.std.proofs.Common.{◌≡◌, ℕ, ◌≤◌, List, [], ◌∷◌, ◌++◌, Option, Some, None, inl, inr}
use Rattle.std.proofs.Common.{refl, sym, ◌∙◌, arith}
use Rattle.std.specs.Prelude.{flat_map}
use Rattle.std.specs.List.{enumerate_from}
use Rattle.std.proofs.lemmas.Bool.Decides.{leb_tells}
use Rattle.mf_base.specs.declared.place.Rect.{Rect}
use Rattle.mf_base.specs.declared.tile.Interval.{Interval}
use Rattle.mf_base.specs.declared.tile.TileRect.{TileRect}
use Rattle.map_model.specs.Rectangles.{rect_of}
use Rattle.map_model.specs.TileRects.{common, tile_rect, from_to}
use Rattle.map_model.specs.Intervals.{tile_place}
use Rattle.mf_rows.specs.Records.{candidate_told}
use Rattle.mf_rows.specs.Shapes.{feature_told}
use Rattle.spill_parts.specs.Shaped.{Spelled}
use Rattle.tile_rows.specs.TileRows.{shown, member_rows, interval_rows}
use Rattle.tile_rows.proofs.PutSteps.{put-above, put-none, put-shared}
use Rattle.tile_spread.specs.Spread.{head_row, at_tile, rows_like, column_rows, some_rows, both_tiles, head_rows}
use Rattle.tile_spread.specs.Pass.{heads_from, spread_of}
use Rattle.tile_spread.proofs.Shared.{all-below}

-- what is made of each is the same
flat-same : {X Y : Type 0} (f g : X → List Y) → ((x : X) → f x ≡ g x) → (xs : List X) → flat_map f xs ≡ flat_map g xs
flat-same f g same [] = refl
flat-same f g same (x ∷ xs) = λ i. same x i ++ flat-same f g same xs i

zoom-is : (s : Spelled) → (shown s).zoom ≡ s.told.head.zoom
unfolding feature_told candidate_told
zoom-is s = refl

module _ (box : Rect) (index : ℕ) (interval : Interval) (s : Spelled) where
  tile-is : (x y : ℕ) → rows_like (at_tile (head_row index interval s.told.head []) (x, y)) s.units
      ≡ member_rows (tile_place index interval (x, y)) s
  unfolding member_rows feature_told candidate_told
  tile-is x y = refl

  by-tiles : (both : Option TileRect) → (shown s).zoom ≤ interval.max
      → common (tile_rect box interval.base) (tile_rect (rect_of (shown s)) interval.base) ≡ both
      → some_rows (head_row index interval s.told.head []) s.units both ≡ interval_rows box index interval s
  by-tiles None le is = sym (put-none box index interval s le is)
  by-tiles (Some t) le is =
      flat-same (λ y. column_rows (head_row index interval s.told.head []) s.units y t.first_x t.last_x)
      (λ y. flat_map (λ x. member_rows (tile_place index interval (x, y)) s) (from_to t.first_x t.last_x))
      (λ y. flat-same (λ x. rows_like (at_tile (head_row index interval s.told.head []) (x, y)) s.units)
      (λ x. member_rows (tile_place index interval (x, y)) s) (λ x. tile-is x y) (from_to t.first_x t.last_x))
      (from_to t.first_y t.last_y)
      ∙ sym (put-shared box index interval s t le is)

  -- in an interval
  pub head-is : head_rows box (rect_of (shown s)) index interval s.told.head s.units
      ≡ interval_rows box index interval s
  head-is = elim (leb_tells s.told.head.zoom interval.max) [
    | inl is ↦ all-below s.told.head.zoom interval.max _ is.1
        ∙ by-tiles (both_tiles box (rect_of (shown s)) interval.base) (omega (arith, zoom-is s, is.1)) refl
    | inr not ↦ let none : head_rows box (rect_of (shown s)) index interval s.told.head s.units ≡ [] =
        rw not.0 refl in none ∙ sym (put-above box index interval s (omega (arith, zoom-is s, not.1)))
  ]

-- in all intervals
pub heads-are : (intervals : List Interval) (box : Rect) (s : Spelled)
    → heads_from box (rect_of (shown s)) s.told.head s.units 0 intervals ≡ spread_of intervals box s
heads-are intervals box s =
    flat-same (λ (at : ℕ × Interval). head_rows box (rect_of (shown s)) at.0 at.1 s.told.head s.units)
    (λ (at : ℕ × Interval). interval_rows box at.0 at.1 s) (λ at. head-is box at.0 at.1 s) (enumerate_from 0 intervals)
