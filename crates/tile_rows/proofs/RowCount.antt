-- How many rows are put.
use Rattle.std.proofs.Common.{◌≡◌, ℕ, ◌≤◌, List, [], ◌∷◌, map, length, refl, sym, ap, ◌∙◌, arith, true}
use Rattle.std.specs.Prelude.{flat_map, IsTrue, sum_by}
use Rattle.std.specs.List.{AllByRecursion}
use Rattle.mf_base.specs.declared.place.Rect.{Rect}
use Rattle.mf_base.specs.declared.tile.TilePlace.{TilePlace}
use Rattle.feature_model.specs.Features.{Feature}
use Rattle.feature_model.proofs.Totals.{total, total-map, total-flat_map, total-same, sum-total, length-total}
use Rattle.feature_model.proofs.Rising.{all-imp, all-from}
use Rattle.map_model.specs.Header.{HeadSettings}
use Rattle.map_model.specs.MapFile.{all_tiles, tile_weight}
use Rattle.map_model.specs.Intervals.{are_intervals}
use Rattle.map_model.specs.Members.{weight_of_tile}
use Rattle.map_model.specs.NumberedMembers.{is_in_tile, members_by}
use Rattle.map_model.proofs.NumberedMembers.{members-all}
use Rattle.mf_rows.specs.Shapes.{feature_told}
use Rattle.spill_parts.specs.Shaped.{Spelled, IsLight}
use Rattle.unit_rows.proofs.RunsOf.{rows-counted}
use Rattle.tile_rows.specs.TileRows.{shown, unit_row, member_rows, put_rows, tile_rows, rows_of_tiles}
use Rattle.tile_rows.proofs.Put.{rows-total}
use Rattle.tile_rows.proofs.MemberRows.{members-are}

-- the weight of a feature is that of its head
shown-weight : (s : Spelled) → (shown s).weight ≡ s.told.head.weight
unfolding feature_told
shown-weight s = refl

member-length : (tile : TilePlace) (s : Spelled) → length (member_rows tile s) ≡ length s.units
unfolding member_rows
member-length tile s = rows-counted (unit_row tile s) s.units

-- a tile has as many rows as its members have units
tile-length : (list : List Spelled) (tile : TilePlace)
    → length (tile_rows list tile) ≡ total (λ (s : Spelled). length s.units) (members_by shown list tile)
unfolding tile_rows
tile-length list tile =
    length-total (flat_map (member_rows tile) (members_by shown list tile))
    ∙ total-flat_map (λ row. 1) (member_rows tile) (members_by shown list tile)
    ∙ total-same (λ s. total (λ row. 1) (member_rows tile s)) (λ (s : Spelled). length s.units)
    (λ s. sym (length-total (member_rows tile s)) ∙ member-length tile s) (members_by shown list tile)

-- and weighs what its members' heads tell
tile-weight : (list : List Spelled) (tile : TilePlace)
    → tile_weight (map shown list) tile ≡ total (λ (s : Spelled). s.told.head.weight) (members_by shown list tile)
tile-weight list tile =
    ap weight_of_tile (sym (members-are list tile))
    ∙ sum-total (λ (f : Feature). f.weight) (map shown (members_by shown list tile))
    ∙ total-map (λ (f : Feature). f.weight) shown (members_by shown list tile)
    ∙ total-same (λ (s : Spelled). (shown s).weight) (λ (s : Spelled). s.told.head.weight) shown-weight
    (members_by shown list tile)

pub weight-told : (list : List Spelled) (tile : TilePlace) → tile_weight (map shown list) tile
    ≡ sum_by (λ (s : Spelled). s.told.head.weight) (members_by shown list tile)
weight-told list tile = tile-weight list tile
    ∙ sym (sum-total (λ (s : Spelled). s.told.head.weight) (members_by shown list tile))

-- what holds of all features by their weights holds of the members
pub members-light : (limit : ℕ) (list : List Spelled) (tile : TilePlace) → AllByRecursion (IsLight limit) list
    → AllByRecursion (IsLight limit) (members_by shown list tile)
members-light limit list tile light =
    all-imp (λ s. IsLight limit s × (is_in_tile tile (shown s) ≡ true)) (IsLight limit) (λ s h. h.0)
    (members_by shown list tile) (members-all shown (λ s. s.told.head.number) (IsLight limit) list tile light)

total-le : {X : Type 0} (f g : X → ℕ) (xs : List X) → AllByRecursion (λ x. f x ≤ g x) xs → total f xs ≤ total g xs
total-le f g [] h = omega arith
total-le f g (x ∷ xs) h = let first = h.0 in omega (arith, first, total-le f g xs h.1)

pub tile-within : (limit : ℕ) (list : List Spelled) (tile : TilePlace) → AllByRecursion (IsLight limit) list
    → length (tile_rows list tile) ≤ tile_weight (map shown list) tile
tile-within limit list tile light =
    let units = tile-length list tile in
    let weight = tile-weight list tile in
    let le = total-le (λ (s : Spelled). length s.units) (λ (s : Spelled). s.told.head.weight)
    (members_by shown list tile)
    (all-imp (IsLight limit) (λ (s : Spelled). length s.units ≤ s.told.head.weight) (λ s h. h.units)
    (members_by shown list tile) (members-light limit list tile light)) in
    omega (arith, units, weight, le)

pub rows-within : (limit : ℕ) (set : HeadSettings) (box : Rect) (list : List Spelled)
    → IsTrue (are_intervals set.intervals) → AllByRecursion (IsLight limit) list
    → length (put_rows set box list) ≤ sum_by (tile_weight (map shown list)) (all_tiles set box)
unfolding rows_of_tiles
rows-within limit set box list intervals light =
    let put = length-total (put_rows set box list) ∙ rows-total (λ row. 1) set box list intervals
    ∙ total-flat_map (λ row. 1) (tile_rows list) (all_tiles set box) in
    let each = total-same (λ t. total (λ row. 1) (tile_rows list t)) (λ t. length (tile_rows list t))
    (λ t. sym (length-total (tile_rows list t))) (all_tiles set box) in
    let le = total-le (λ t. length (tile_rows list t)) (tile_weight (map shown list)) (all_tiles set box)
    (all-from (λ t. length (tile_rows list t) ≤ tile_weight (map shown list) t) (λ t. tile-within limit list t light)
    (all_tiles set box)) in
    let weights = sum-total (tile_weight (map shown list)) (all_tiles set box) in
    omega (arith, put, each, le, weights)

pub ruleset count_laws = (rows-within)
