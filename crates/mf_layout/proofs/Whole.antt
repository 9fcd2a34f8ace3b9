-- The sub-files of a map are those of the tiles that were laid out, from the first interval to the last.
use Rattle.std.proofs.Common.{◌≡◌, ℕ, ◌+◌, ◌*◌, List, [], ◌∷◌, ◌++◌, map, length, true}
use Rattle.std.proofs.Common.{None, refl, sym, ap, subst, ◌∙◌, arith, length-append}
use Rattle.std.specs.Prelude.{flat_map, fold, max, count_by}
use Rattle.std.specs.List.{enumerate_from, AllByRecursion}
use Rattle.std.proofs.lemmas.List.{append-nil, length-map, map-append}
use Rattle.std.proofs.lemmas.List.FromFn.{length-enumerate_from}
use Rattle.std.proofs.lemmas.Simd.{map-map}
use Rattle.mf_base.specs.declared.place.Rect.{Rect}
use Rattle.mf_base.specs.declared.tile.Interval.{Interval}
use Rattle.mf_edge.specs.Spill.{SpillState}
use Rattle.map_model.specs.Header.{HeadSettings}
use Rattle.map_model.specs.Intervals.{interval_tiles}
use Rattle.map_model.specs.MapFile.{all_tiles, sub_file_limit_fault, layout_fault}
use Rattle.map_model.specs.SubFile.{TileContent, entry_of}
use Rattle.mf_rows.specs.declared.kinds.TileRow.{TileRow}
use Rattle.spill_parts.specs.Shaped.{Spelled}
use Rattle.tile_rows.specs.TileRows.{shown}
use Rattle.mf_layout.specs.Laid.{Tile, content, is_shown, is_water, index_row_of, bytes_of}
use Rattle.mf_layout.specs.Laying.{AreToLay}
use Rattle.mf_layout.specs.AllLaid.{tiles_from, flat, size_of_tiles, IsShort, IsBegun, AreAllDone, LayAll}
use Rattle.mf_layout.specs.Layouts.{IsLayoutOf}
use Rattle.mf_layout.specs.SubFiles.{entry_told, size_of, HoldTiles, IsSubFile, tiles_in, bytes_in, AreSubFiles}
use Rattle.mf_layout.specs.declared.laid.Laid.{Laid}
use Rattle.mf_layout.specs.declared.sub_files.SubFileSize.{SubFileSize}
use Rattle.mf_layout.specs.declared.sub_files.SubFiles.{SubFiles}
use Rattle.mf_layout.proofs.Contents.{size-is}
use Rattle.mf_layout.proofs.LaidTiles.{bytes-append, rows-told}
use Rattle.mf_layout.proofs.AllDone.{tiles-all, contents-map, shown-map, water-map, largest-map}
use Rattle.mf_layout.proofs.AllDone.{layout-sub_file, sizes-map, all-short}

-- ---- as many sub-files as intervals, with all rows and all bytes

-- their tiles
tiles-in : (all : List (List Tile)) → tiles_in (map size_of_tiles all) ≡ length (flat all)
tiles-in [] = refl
tiles-in (tiles ∷ all) =
    omega (arith, tiles-in all, length-map tiles content, length-append tiles (flat all))

-- their bytes
bytes-in : (all : List (List Tile))
    → bytes_in (map size_of_tiles all) ≡ 5 * length (flat all) + length (bytes_of (map content (flat all)))
bytes-in [] = refl
bytes-in (tiles ∷ all) =
    let bytes = ap length (bytes-append tiles (flat all))
    ∙ length-append (bytes_of (map content tiles)) (bytes_of (map content (flat all))) in
    let many = length-append tiles (flat all) in
    omega (arith, bytes-in all, size-is (map content tiles), length-map tiles content, bytes, many)

-- each has room for its index, and is short
each-sub_file : (all : List (List Tile)) → AllByRecursion IsShort all
    → AllByRecursion IsSubFile (map size_of_tiles all)
each-sub_file [] short = tt
each-sub_file (tiles ∷ all) short =
    ((omega (arith, size-is (map content tiles)), short.0), each-sub_file all short.1)

-- one for each interval
one-each : (box : Rect) (index : ℕ) (intervals : List Interval) (all : List (List Tile))
    → map (map (λ (t : Tile). t.place)) all
    ≡ map (λ at. interval_tiles box at.0 at.1) (enumerate_from index intervals) → length all ≡ length intervals
one-each box index intervals all places =
    sym (length-map all (map (λ (t : Tile). t.place)))
    ∙ ap length places
    ∙ length-map (enumerate_from index intervals) (λ at. interval_tiles box at.0 at.1)
    ∙ length-enumerate_from index intervals

pub are-sub_files : (box : Rect) (index : ℕ) (intervals : List Interval) (all : List (List Tile)) (subs : SubFiles)
    → map (map (λ (t : Tile). t.place)) all
    ≡ map (λ at. interval_tiles box at.0 at.1) (enumerate_from index intervals)
    → subs.sizes.items ≡ map size_of_tiles all → subs.index.rows ≡ map index_row_of (flat all)
    → subs.tiles.size ≡ length (bytes_of (map content (flat all))) → AllByRecursion IsShort all
    → AreSubFiles (length intervals) subs
are-sub_files box index intervals all subs places sizes rows size short =
    let many = ap length rows ∙ length-map (flat all) index_row_of in
    record {
      many = ap length sizes ∙ length-map all size_of_tiles ∙ one-each box index intervals all places;
      each = subst (AllByRecursion IsSubFile) (sym sizes) (each-sub_file all short);
      rows = ap tiles_in sizes ∙ tiles-in all ∙ sym many;
      bytes = ap bytes_in sizes ∙ bytes-in all ∙ (λ i. 5 * sym many i + sym size i);
    }

-- ---- they hold the contents of the tiles

-- the entries of tiles, one sub-file after another
entries-flat : (all : List (List Tile))
    → map entry_of (map content (flat all)) ≡ flat_map (map entry_of) (map (map content) all)
entries-flat [] = refl
entries-flat (tiles ∷ all) =
    ap (map entry_of) (map-append content tiles (flat all))
    ∙ map-append entry_of (map content tiles) (map content (flat all))
    ∙ ap (λ es. map entry_of (map content tiles) ++ es) (entries-flat all)

-- their bytes
bytes-flat : (all : List (List Tile))
    → bytes_of (map content (flat all)) ≡ flat_map (flat_map (λ (t : TileContent). t.bytes)) (map (map content) all)
bytes-flat [] = refl
bytes-flat (tiles ∷ all) =
    bytes-append tiles (flat all) ∙ ap (λ bs. bytes_of (map content tiles) ++ bs) (bytes-flat all)

pub hold-tiles : (all : List (List Tile)) (subs : SubFiles) (s : SpillState)
    → subs.sizes.items ≡ map size_of_tiles all → subs.index.rows ≡ map index_row_of (flat all)
    → s.bytes subs.tiles.part ≡ bytes_of (map content (flat all)) → HoldTiles (map (map content) all) subs s
hold-tiles all subs s sizes rows bytes = record {
  sizes = sizes ∙ sym (map-map size_of (map content) all);
  entries = ap (map entry_told) rows ∙ rows-told (flat all) ∙ entries-flat all;
  tiles = bytes ∙ bytes-flat all;
}

-- ---- from the first interval to the last

-- Sub-files of these sizes are what was laid out.
pub record AreOf (sizes : List SubFileSize) (laid : Laid) (subs : SubFiles) : Type 0 where
  pub sizes_are : subs.sizes.items ≡ sizes
  pub index_is : subs.index ≡ laid.index
  pub tiles_are : subs.tiles ≡ laid.tiles
  pub shown_is : subs.shown ≡ laid.shown
  pub water_is : subs.water ≡ laid.water
  pub largest_is : subs.largest ≡ laid.largest

module _ (limit : ℕ) (set : HeadSettings) (box : Rect) (left left_now : List TileRow) (sizes : List SubFileSize)
    (largest : ℕ) (l l1 : Laid) (a b : SpillState) (begun : IsBegun largest l)
    (lays : LayAll limit box 0 set.intervals left left_now [] sizes l l1 a b) where
  -- where no sub-file is over the limit, each is short
  short-all : sub_file_limit_fault (map (λ (s : SubFileSize). s.bytes) sizes) ≡ None → AllByRecursion IsShort lays.all
  short-all none =
      all-short lays.all (ap (λ (ss : List SubFileSize). sub_file_limit_fault (map (λ (s : SubFileSize). s.bytes) ss))
      (sym lays.sizes_are) ∙ none)

  rows-all : (subs : SubFiles) → AreOf sizes l1 subs → AllByRecursion IsShort lays.all
      → subs.index.rows ≡ map index_row_of (flat lays.all)
  rows-all subs are short =
      ap (λ p. p.rows) are.index_is ∙ lays.laid_are.rows_are short
      ∙ ap (λ rows. rows ++ map index_row_of (flat lays.all)) begun.rows_are

  -- over every store
  pub whole-sub_files : (subs : SubFiles) → AreOf sizes l1 subs
      → sub_file_limit_fault (map (λ (s : SubFileSize). s.bytes) sizes) ≡ None
      → AreSubFiles (length set.intervals) subs
  whole-sub_files subs are none =
      let short = short-all none in
      let size = ap (λ p. p.size) are.tiles_are in
      are-sub_files box 0 set.intervals lays.all subs lays.places_are (are.sizes_are ∙ lays.sizes_are)
      (rows-all subs are short) (omega (arith, size, lays.laid_are.put_size short, begun.size_is)) short

  module _ (list : List Spelled) (told : a.tells ≡ true) (to_lay : AreToLay limit list (all_tiles set box) left) where
    done : AreAllDone limit box 0 set.intervals list [] left_now lays.all
    done = lays.told told list [] (subst (λ ts. AreToLay limit list ts left)
        (sym (tiles-all set box) ∙ sym (append-nil (tiles_from box 0 set.intervals))) to_lay)

    -- the fault of the layout is that of the sub-files
    pub whole-fault : layout_fault limit set box (map shown list)
        ≡ sub_file_limit_fault (map (λ (s : SubFileSize). s.bytes) sizes)
    whole-fault =
        layout-sub_file limit set box (map shown list) done.no_fault
        ∙ ap sub_file_limit_fault (sym (sizes-map set box (map shown list)))
        ∙ ap (λ ss. sub_file_limit_fault (map (λ (s : SubFileSize). s.bytes) ss))
        (sym (lays.sizes_are ∙ ap (map size_of_tiles) done.tiles_are))

    -- the layout of the map
    pub whole-layout : (subs : SubFiles) (s : SpillState) → AreOf sizes l1 subs
        → sub_file_limit_fault (map (λ (s : SubFileSize). s.bytes) sizes) ≡ None
        → b.tells ≡ true → a.bytes l.tiles.part ≡ [] → l1.tiles.part ≡ l.tiles.part
        → s.bytes l1.tiles.part ≡ b.bytes l1.tiles.part
        → IsLayoutOf limit set box (map shown list) largest subs s
    whole-layout subs s are none tells empty part same =
        let short = short-all none in
        let bytes = ap (λ p. s.bytes p.part) are.tiles_are ∙ same ∙ ap b.bytes part
        ∙ lays.laid_are.put_are short tells
        ∙ ap (λ bs. bs ++ bytes_of (map content (flat lays.all))) empty in
        let all-is = done.tiles_are in
        record {
          no_limit = whole-fault ∙ none;
          holds = subst (λ all. HoldTiles all subs s)
              (ap (map (map content)) all-is ∙ contents-map set box (map shown list))
              (hold-tiles lays.all subs s (are.sizes_are ∙ lays.sizes_are) (rows-all subs are short) bytes);
          shown_count = are.shown_is ∙ lays.laid_are.shown_are ∙ omega (
            arith,
            begun.shown_is,
            ap (λ all. count_by is_shown (flat all)) all-is ∙ shown-map set box (map shown list),
          );
          water_count = are.water_is ∙ lays.laid_are.water_are ∙ omega (
            arith,
            begun.water_is,
            ap (λ all. count_by is_water (flat all)) all-is ∙ water-map set box (map shown list),
          );
          greatest = are.largest_is ∙ lays.laid_are.largest_is
              ∙ (λ i. fold max (begun.largest_is i) (map (λ (t : Tile). t.weight) (flat (all-is i))))
              ∙ largest-map largest set box (map shown list);
        }
