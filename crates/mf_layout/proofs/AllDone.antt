-- The tiles that were laid out are those of the map: their contents, counts, weights and sizes.
use Rattle.std.proofs.Common.{◌≡◌, ℕ, ◌+◌, ◌^◌, List, [], ◌∷◌, ◌++◌, map}
use Rattle.std.proofs.Common.{Option, Some, None, refl, sym, ap, ◌∙◌, arith, inl, inr}
use Rattle.std.specs.Prelude.{Bool, cond, nat_le, count_by, flat_map, fold, max, find, option_map}
use Rattle.std.specs.List.{enumerate_from, AllByRecursion}
use Rattle.std.specs.Option.{option_or}
use Rattle.std.proofs.lemmas.Bool.{cases_lt, le-leb, lt-leb}
use Rattle.std.proofs.lemmas.List.{map-append}
use Rattle.std.proofs.lemmas.Simd.{map-map}
use Rattle.mf_base.specs.declared.place.Rect.{Rect}
use Rattle.mf_base.specs.declared.tile.Interval.{Interval}
use Rattle.mf_base.specs.declared.tile.TilePlace.{TilePlace}
use Rattle.feature_model.specs.Features.{Feature}
use Rattle.feature_model.specs.declared.fault.LimitFault.{LimitFault}
use Rattle.feature_model.proofs.Totals.{count-total, total-map}
use Rattle.map_model.specs.Header.{HeadSettings}
use Rattle.map_model.specs.Intervals.{interval_tiles}
use Rattle.map_model.specs.MapFile.{all_contents, all_tiles, tile_weight, largest_tile, tile_limit_fault}
use Rattle.map_model.specs.MapFile.{sub_file_limit_fault, sub_file_sizes, layout_fault, shown_tiles, water_tiles}
use Rattle.map_model.specs.SubFile.{contents, sub_file_size}
use Rattle.mf_layout.specs.Laid.{Tile, content, is_shown, is_water}
use Rattle.mf_layout.specs.Laying.{tile_of, tiles_fault}
use Rattle.mf_layout.specs.AllLaid.{tiles_from, flat, size_of_tiles, IsShort}
use Rattle.mf_layout.specs.declared.sub_files.SubFileSize.{SubFileSize}

-- the tiles of numbered intervals, as they are laid out, those of each interval by themselves
abbrev pub tiles_of_each : List Feature → Rect → List (ℕ × Interval) → List (List Tile)
tiles_of_each features box numbered = map (λ at. map (tile_of features) (interval_tiles box at.0 at.1)) numbered

-- those of all intervals of a map
abbrev pub tiles_of_map : HeadSettings → Rect → List Feature → List (List Tile)
tiles_of_map set box features = tiles_of_each features box (enumerate_from 0 set.intervals)

-- the tiles of the first interval on are all tiles
pub tiles-all : (set : HeadSettings) (box : Rect) → tiles_from box 0 set.intervals ≡ all_tiles set box
unfolding all_tiles
tiles-all set box = refl

-- ---- tiles

-- one sub-file after another
flat-each : (features : List Feature) (box : Rect) (numbered : List (ℕ × Interval))
    → flat (tiles_of_each features box numbered)
    ≡ map (tile_of features) (flat_map (λ at. interval_tiles box at.0 at.1) numbered)
flat-each features box [] = refl
flat-each features box (at ∷ numbered) =
    let here = interval_tiles box at.0 at.1 in
    ap (λ (ts : List Tile). map (tile_of features) here ++ ts) (flat-each features box numbered)
    ∙ sym (map-append (tile_of features) here (flat_map (λ at. interval_tiles box at.0 at.1) numbered))

pub flat-map : (set : HeadSettings) (box : Rect) (features : List Feature)
    → flat (tiles_of_map set box features) ≡ map (tile_of features) (all_tiles set box)
unfolding all_tiles
flat-map set box features = flat-each features box (enumerate_from 0 set.intervals)

-- the contents of each interval
contents-each : (features : List Feature) (box : Rect) (numbered : List (ℕ × Interval))
    → map (map content) (tiles_of_each features box numbered) ≡ map (λ at. contents features box at.0 at.1) numbered
unfolding contents
contents-each features box [] = refl
contents-each features box (at ∷ numbered) = λ i.
    map-map content (tile_of features) (interval_tiles box at.0 at.1) i ∷ contents-each features box numbered i

pub contents-map : (set : HeadSettings) (box : Rect) (features : List Feature)
    → map (map content) (tiles_of_map set box features) ≡ all_contents set box features
unfolding all_contents
contents-map set box features = contents-each features box (enumerate_from 0 set.intervals)

-- ---- counts and weights

-- how many of the tiles of a map are such
count-map : (p : Tile → Bool) (features : List Feature) (places : List TilePlace)
    → count_by p (map (tile_of features) places) ≡ count_by (λ t. p (tile_of features t)) places
count-map p features places =
    count-total p (map (tile_of features) places)
    ∙ total-map (λ t. cond (p t) 1 0) (tile_of features) places
    ∙ sym (count-total (λ t. p (tile_of features t)) places)

pub shown-map : (set : HeadSettings) (box : Rect) (features : List Feature)
    → count_by is_shown (flat (tiles_of_map set box features)) ≡ shown_tiles set box features
unfolding shown_tiles
shown-map set box features =
    ap (count_by is_shown) (flat-map set box features) ∙ count-map is_shown features (all_tiles set box)

pub water-map : (set : HeadSettings) (box : Rect) (features : List Feature)
    → count_by is_water (flat (tiles_of_map set box features)) ≡ water_tiles set box features
unfolding water_tiles
water-map set box features =
    ap (count_by is_water) (flat-map set box features) ∙ count-map is_water features (all_tiles set box)

-- the greatest number, and that of the others
fold-max : (n : ℕ) (xs : List ℕ) → fold max n xs ≡ max n (fold max 0 xs)
fold-max n [] = omega arith
fold-max n (x ∷ xs) =
    let all = fold-max (max n x) xs in
    let later = fold-max (max 0 x) xs in
    omega (arith, all, later)

pub largest-map : (n : ℕ) (set : HeadSettings) (box : Rect) (features : List Feature)
    → fold max n (map (λ (t : Tile). t.weight) (flat (tiles_of_map set box features)))
    ≡ max n (largest_tile set box features)
unfolding largest_tile
largest-map n set box features =
    ap (λ (ts : List Tile). fold max n (map (λ (t : Tile). t.weight) ts)) (flat-map set box features)
    ∙ ap (fold max n) (map-map (λ (t : Tile). t.weight) (tile_of features) (all_tiles set box))
    ∙ fold-max n (map (tile_weight features) (all_tiles set box))

-- ---- limits

-- the first tile over the limit
pub fault-map : (limit : ℕ) (set : HeadSettings) (box : Rect) (features : List Feature)
    → tiles_fault limit features (tiles_from box 0 set.intervals) ≡ tile_limit_fault limit set box features
unfolding tile_limit_fault all_tiles
fault-map limit set box features = refl

-- it is the fault of the layout
pub layout-tile : (limit : ℕ) (set : HeadSettings) (box : Rect) (features : List Feature) (f : LimitFault)
    → tiles_fault limit features (tiles_from box 0 set.intervals) ≡ Some f
    → layout_fault limit set box features ≡ Some f
unfolding layout_fault
layout-tile limit set box features f over =
    ap (λ (o : Option LimitFault). option_or o (sub_file_limit_fault (sub_file_sizes set box features)))
    (sym (fault-map limit set box features) ∙ over)

-- where there is none, it is that of the sub-files
pub layout-sub_file : (limit : ℕ) (set : HeadSettings) (box : Rect) (features : List Feature)
    → tiles_fault limit features (tiles_from box 0 set.intervals) ≡ None
    → layout_fault limit set box features ≡ sub_file_limit_fault (sub_file_sizes set box features)
unfolding layout_fault
layout-sub_file limit set box features none =
    ap (λ (o : Option LimitFault). option_or o (sub_file_limit_fault (sub_file_sizes set box features)))
    (sym (fault-map limit set box features) ∙ none)

-- the sizes of sub-files in bytes
bytes-each : (all : List (List Tile))
    → map (λ (s : SubFileSize). s.bytes) (map size_of_tiles all) ≡ map sub_file_size (map (map content) all)
bytes-each [] = refl
bytes-each (tiles ∷ all) = ap (λ (ns : List ℕ). sub_file_size (map content tiles) ∷ ns) (bytes-each all)

pub sizes-map : (set : HeadSettings) (box : Rect) (features : List Feature)
    → map (λ (s : SubFileSize). s.bytes) (map size_of_tiles (tiles_of_map set box features))
    ≡ sub_file_sizes set box features
sizes-map set box features =
    bytes-each (tiles_of_map set box features) ∙ ap (map sub_file_size) (contents-map set box features)

-- where no sub-file is over the limit, each is short
none-over : (n : ℕ) (all : List (List Tile))
    → option_map {U = LimitFault} (λ (at : ℕ × ℕ). LimitFault.SubFile at.0 at.1)
    (find (λ (at : ℕ × ℕ). nat_le (2 ^ 39) at.1)
    (enumerate_from n (map (λ (s : SubFileSize). s.bytes) (map size_of_tiles all)))) ≡ None
    → AllByRecursion IsShort all
none-over n [] none = tt
none-over n (tiles ∷ all) none =
    elim (cases_lt (sub_file_size (map content tiles)) (2 ^ 39)) [
      | inl less ↦ (less, none-over (n + 1) all (rw (lt-leb (2 ^ 39) (sub_file_size (map content tiles)) less) at none))
      | inr le ↦ absurd (let over = rw (le-leb (2 ^ 39) (sub_file_size (map content tiles)) le) at none in cc)
    ]

pub all-short : (all : List (List Tile))
    → sub_file_limit_fault (map (λ (s : SubFileSize). s.bytes) (map size_of_tiles all)) ≡ None
    → AllByRecursion IsShort all
unfolding sub_file_limit_fault
all-short all none = none-over 0 all none
