-- Other units that spell a record make as many rows, and each is one.
use Rattle.std.proofs.Common.{◌≡◌, ℕ, ◌+◌, Bool, true, false, List, [], ◌∷◌, length, refl, sym, ap, subst, ◌∙◌, arith}
use Rattle.std.specs.Prelude.{flat_map, map, nat_le, cond, if◌then◌else◌}
use Rattle.std.specs.List.{enumerate_from, AllByRecursion}
use Rattle.std.proofs.lemmas.List.{length-append}
use Rattle.mf_base.specs.declared.place.Rect.{Rect}
use Rattle.mf_base.specs.declared.tile.Interval.{Interval}
use Rattle.feature_model.specs.Features.{Feature}
use Rattle.map_model.specs.Intervals.{tile_place}
use Rattle.map_model.specs.NumberedMembers.{shared_tiles}
use Rattle.mf_rows.specs.Fields.{IsRow}
use Rattle.mf_rows.specs.Kinds.{shape_kind}
use Rattle.mf_rows.specs.RowKinds.{IsOf}
use Rattle.mf_rows.specs.Shapes.{feature_told}
use Rattle.mf_rows.specs.Records.{Record}
use Rattle.mf_rows.specs.Units.{Unit16}
use Rattle.spill_parts.specs.Shaped.{Spelled, shape_row_of}
use Rattle.unit_rows.proofs.RunsOf.{rows-counted}
use Rattle.tile_rows.specs.TileRows.{shown, unit_row, member_rows, interval_rows, HasRows}
use Rattle.tile_spread.specs.Pass.{spread_of}

-- as many are made of each
same-long : {X Y : Type 0} (f g : X → List Y) → ((x : X) → length (f x) ≡ length (g x)) → (xs : List X)
    → length (flat_map f xs) ≡ length (flat_map g xs)
same-long f g same [] = refl
same-long f g same (x ∷ xs) = omega (
  arith,
  length-append (f x) (flat_map f xs),
  length-append (g x) (flat_map g xs),
  same x,
  same-long f g same xs,
)

module _ (r s : Spelled) (told : r.told ≡ s.told) (many : length r.units ≡ length s.units) where
  interval-long : (box : Rect) (index : ℕ) (interval : Interval)
      → length (interval_rows box index interval r) ≡ length (interval_rows box index interval s)
  unfolding interval_rows member_rows
  interval-long box index interval =
      ap (λ (f : Feature). length (if nat_le f.zoom interval.max
      then flat_map (λ xy. member_rows (tile_place index interval xy) r) (shared_tiles box interval f) else []))
      (ap feature_told told) ∙ by_test (nat_le (shown s).zoom interval.max)
    where
      tiles : List (ℕ × ℕ)
      tiles = shared_tiles box interval (shown s)

      in_tile : (xy : ℕ × ℕ) → length (member_rows (tile_place index interval xy) r)
          ≡ length (member_rows (tile_place index interval xy) s)
      in_tile xy = omega (
        arith,
        rows-counted (unit_row (tile_place index interval xy) r) r.units,
        rows-counted (unit_row (tile_place index interval xy) s) s.units,
        many,
      )

      by_test : (b : Bool)
          → length (cond b (flat_map (λ xy. member_rows (tile_place index interval xy) r) tiles) [])
          ≡ length (cond b (flat_map (λ xy. member_rows (tile_place index interval xy) s) tiles) [])
      by_test true = same-long (λ xy. member_rows (tile_place index interval xy) r)
          (λ xy. member_rows (tile_place index interval xy) s) in_tile tiles
      by_test false = refl

  -- in all intervals
  pub spread-long : (intervals : List Interval) (box : Rect)
      → length (spread_of intervals box r) ≡ length (spread_of intervals box s)
  spread-long intervals box =
      same-long (λ (at : ℕ × Interval). interval_rows box at.0 at.1 r)
      (λ (at : ℕ × Interval). interval_rows box at.0 at.1 s) (λ at. interval-long box at.0 at.1)
      (enumerate_from 0 intervals)

rows-known : (number n : ℕ) (us vs : List Unit16) → length us ≡ length vs → AllByRecursion (IsRow 16) us
    → AllByRecursion (IsOf shape_kind) (map (shape_row_of number) (enumerate_from n vs))
    → AllByRecursion (IsOf shape_kind) (map (shape_row_of number) (enumerate_from n us))
rows-known number n [] vs same wide known = tt
rows-known number n (u ∷ us) [] same wide known = absurd (omega (arith, same))
rows-known number n (u ∷ us) (v ∷ vs) same wide known = (
  (known.0.0, (known.0.1.0, (wide.0, tt))),
  rows-known number (n + 1) us vs (omega (arith, same)) wide.1 known.1,
)

-- the rows of a feature are rows, where those of another with its number are, and as many
pub has-rows : (r s : Spelled) → r.told ≡ s.told → length r.units ≡ length s.units
    → AllByRecursion (IsRow 16) r.units → HasRows s → HasRows r
has-rows r s told many wide has =
    subst (λ n. AllByRecursion (IsOf shape_kind) (map (shape_row_of n) (enumerate_from 0 r.units)))
    (sym (ap (λ (t : Record). t.head.number) told))
    (rows-known s.told.head.number 0 r.units s.units many wide has)
