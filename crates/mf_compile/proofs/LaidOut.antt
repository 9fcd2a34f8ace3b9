-- What is laid out, by what the passes tell of it.
use Rattle.std.proofs.Common.{◌≡◌, ◌∙◌, ◌+◌, ◌*◌, ◌≤◌, ℕ, List, [], ◌∷◌, None, refl, sym, ap, subst, arith}
use Rattle.std.proofs.Common.{length}
use Rattle.std.specs.Prelude.{IsTrue, map, sum}
use Rattle.std.specs.List.{AllByRecursion}
use Rattle.std.proofs.lemmas.List.{length-map}
use Rattle.std.proofs.lemmas.List.Sums.{sum_by-cons}
use Rattle.mf_base.specs.declared.place.Rect.{Rect}
use Rattle.osm_model.specs.Entities.{Entity}
use Rattle.feature_model.specs.Mapping.{Mapping}
use Rattle.feature_model.specs.Entries.{IsMapping}
use Rattle.feature_model.specs.Features.{Feature, features}
use Rattle.feature_model.proofs.Rising.{all-map, all-imp, all-both}
use Rattle.map_model.specs.Intervals.{are_intervals}
use Rattle.map_model.specs.TagLists.{tag_lists}
use Rattle.map_model.specs.Header.{HeadSettings, header_size}
use Rattle.map_model.specs.Room.{rows_limit, IsWritable}
use Rattle.map_model.specs.SubFile.{TileContent, sub_file_size}
use Rattle.map_model.specs.MapFile as model
use Rattle.map_model.specs.MapFile.{map_file, all_contents, all_tiles, sub_file_sizes, job_size, largest, tile_weight}
use Rattle.map_model.specs.declared.report.Report.{Report}
use Rattle.map_model.proofs.FileLaws.{length-map_of}
use Rattle.map_model.proofs.WrittenLevels.{writable-of}
use Rattle.mf_edge.specs.Spill.{SpillState}
use Rattle.mf_rows.specs.Shapes.{feature_told}
use Rattle.mf_rows.specs.declared.kinds.ShapeRow.{ShapeRow}
use Rattle.spill_parts.specs.Shaped.{Spelled, IsLight, AreShapes, IsShown, IsShapeOf}
use Rattle.spill_parts.specs.declared.handed.Shapes.{Shapes}
use Rattle.mf_layout.specs.SubFiles.{size_of, bytes_in, entry_told, AreSubFiles}
use Rattle.mf_layout.specs.Layouts.{AreFeatures, IsLayoutOf}
use Rattle.mf_layout.specs.declared.sub_files.SubFiles.{SubFiles}
use Rattle.mf_layout.proofs.Mapped.{whole-part}
use Rattle.job_words.specs.Settings.{JobSettings}
use Rattle.mf_compile.specs.LaidOut.{IsLaidOut}
use Rattle.mf_compile.proofs.TileBytes.{contents-count, contents-within}
use Rattle.mf_compile.proofs.JobSizes.{tiles-within}
use Rattle.mf_compile.proofs.Limits.{limit-of_layout, no-tile}

told-weight : (limit : ℕ) (s : Spelled) → IsLight limit s → (feature_told s.told).weight ≤ limit
unfolding feature_told
told-weight limit s h = h.weight

-- no feature weighs more than the limit
light-all : (limit : ℕ) (list : List Feature) (rows : List ShapeRow) → AreShapes limit list rows
    → AllByRecursion (λ (f : Feature). f.weight ≤ limit) list
light-all limit list rows are =
    subst (AllByRecursion (λ (f : Feature). f.weight ≤ limit)) are.shows
    (all-map (λ (f : Feature). f.weight ≤ limit) (λ (s : Spelled). feature_told s.told) are.spelled
    (all-imp (IsLight limit) (λ (s : Spelled). (feature_told s.told).weight ≤ limit) (told-weight limit) are.spelled
    are.each))

-- each may be written
writable-all : (limit : ℕ) (mapping : Mapping) (list : List Feature) (rows : List ShapeRow) → IsMapping mapping
    → limit ≤ rows_limit → AreShapes limit list rows → AllByRecursion (IsShown mapping) list
    → AllByRecursion IsWritable list
writable-all limit mapping list rows m few are shown =
    all-imp (λ f. (f.weight ≤ limit) × IsShown mapping f) IsWritable
    (λ f h. writable-of mapping f m (record {
      proper = h.1.0;
      input = h.1.1;
      light = omega (arith, h.0, few);
    })) list
    (all-both (λ (f : Feature). f.weight ≤ limit) (IsShown mapping) list (light-all limit list rows are) shown)

-- the bytes of sub-files that are held
bytes-held : (all : List (List TileContent)) → bytes_in (map size_of all) ≡ sum (map sub_file_size all)
bytes-held [] = refl
bytes-held (tiles ∷ all) =
    ap (λ n. sub_file_size tiles + n) (bytes-held all) ∙ sym (sum_by-cons (λ (n : ℕ). n) (sub_file_size tiles) (map sub_file_size all))

length-map_file : (set : HeadSettings) (mapping : Mapping) (box : Rect) (entities : List Entity)
    → length (map_file set mapping box entities)
    ≡ header_size set (tag_lists mapping) + sum (sub_file_sizes set box (features mapping entities))
unfolding map_file
length-map_file set mapping box entities = length-map_of set (tag_lists mapping) box (features mapping entities)

-- what is told of a map: of what was shaped, and of what was laid out
abbrev pub report_of : Shapes → SubFiles → ℕ → Report
report_of shapes subs bytes = record {
  nodes = shapes.nodes;
  ways = shapes.ways;
  relations = shapes.relations;
  features = shapes.features;
  skipped = shapes.skipped;
  tiles = subs.shown;
  water = subs.water;
  bytes = bytes;
  largest = subs.largest;
}

-- what a layout is asked with, of what was shaped under a page of this room
pub features-are : (room limit : ℕ) (mapping : Mapping) (entities : List Entity) (shapes : Shapes) → IsMapping mapping
    → limit ≡ room → IsShapeOf room mapping entities shapes
    → AreFeatures limit mapping (features mapping entities) shapes.shapes.rows
features-are room limit mapping entities shapes m same shape =
    subst (λ (n : ℕ). AreFeatures n mapping (features mapping entities) shapes.shapes.rows) (sym same)
    (record { mapping_is = m; shapes = shape.shapes; shown = shape.shown })

module _ (job : JobSettings) (box : Rect) (entities : List Entity) (shapes : Shapes) (subs : SubFiles) (s : SpillState)
    (shape : IsShapeOf job.rows job.mapping entities shapes)
    (layout : IsLayoutOf job.rows job.head box (features job.mapping entities) shapes.largest subs s) where
  report-is : (bytes : ℕ) → bytes ≡ header_size job.head (tag_lists job.mapping) + bytes_in subs.sizes.items
      → report_of shapes subs bytes ≡ model.report job.head job.mapping box entities
  unfolding model.report largest
  report-is bytes size =
      let sizes = ap bytes_in layout.holds.sizes
      ∙ bytes-held (all_contents job.head box (features job.mapping entities)) in
      let told : bytes ≡ length (map_file job.head job.mapping box entities) =
      size ∙ ap (λ n. header_size job.head (tag_lists job.mapping) + n) sizes
      ∙ sym (length-map_file job.head job.mapping box entities) in
      rw (
        shape.node_count,
        shape.way_count,
        shape.relation_count,
        shape.count,
        shape.without,
        layout.shown_count,
        layout.water_count,
        layout.greatest,
        shape.greatest,
        told,
      ) refl

  few : (intervals : ℕ) → IsMapping job.mapping → IsTrue (are_intervals job.head.intervals) → job.rows ≤ rows_limit
      → AreSubFiles intervals subs
      → 18 * length subs.index.rows + subs.tiles.size ≤ 42 * job_size job.head job.mapping box entities
  few intervals mapping_is are most files =
      let list = features job.mapping entities in
      let all = all_contents job.head box list in
      let writable = writable-all job.rows job.mapping list shapes.shapes.rows mapping_is most shape.shapes shape.shown in
      let bytes = contents-within job.rows job.head box list are most writable
      (no-tile job.rows job.head box list layout.no_limit) in
      let count = sym (length-map subs.index.rows entry_told) ∙ ap length layout.holds.entries
      ∙ contents-count job.head box list in
      let size = sym (whole-part intervals all subs s files layout.holds) ∙ ap length layout.holds.tiles in
      let within = tiles-within job.head job.mapping box entities in
      omega (arith, bytes, count, size, within)

  pub laid-out : (bytes intervals : ℕ)
      → bytes ≡ header_size job.head (tag_lists job.mapping) + bytes_in subs.sizes.items → IsMapping job.mapping
      → IsTrue (are_intervals job.head.intervals) → job.rows ≤ rows_limit → AreSubFiles intervals subs
      → IsLaidOut job box entities subs (report_of shapes subs bytes) s
  laid-out bytes intervals size mapping_is are most files = record {
    no_limit = limit-of_layout job.rows job.head job.mapping box entities None shape.no_fault layout.no_limit;
    holds = layout.holds;
    report_is = report-is bytes size;
    few = few intervals mapping_is are most files;
  }

  -- the same of a report of what was shaped, in which what was laid out is put
  pub laid-told : (counted : Report) (bytes intervals : ℕ)
      → counted ≡ record {
        nodes = shapes.nodes;
        ways = shapes.ways;
        relations = shapes.relations;
        features = shapes.features;
        skipped = shapes.skipped;
        tiles = 0;
        water = 0;
        bytes = 0;
        largest = 0;
      } → bytes ≡ header_size job.head (tag_lists job.mapping) + bytes_in subs.sizes.items → IsMapping job.mapping
      → IsTrue (are_intervals job.head.intervals) → job.rows ≤ rows_limit → AreSubFiles intervals subs
      → IsLaidOut job box entities subs (record {
        nodes = counted.nodes;
        ways = counted.ways;
        relations = counted.relations;
        features = counted.features;
        skipped = counted.skipped;
        tiles = subs.shown;
        water = subs.water;
        bytes = bytes;
        largest = subs.largest;
      }) s
  laid-told counted bytes intervals are size mapping_is rule most files =
      subst (λ (c : Report). IsLaidOut job box entities subs (record {
        nodes = c.nodes;
        ways = c.ways;
        relations = c.relations;
        features = c.features;
        skipped = c.skipped;
        tiles = subs.shown;
        water = subs.water;
        bytes = bytes;
        largest = subs.largest;
      }) s) (sym are) (laid-out bytes intervals size mapping_is rule most files)
