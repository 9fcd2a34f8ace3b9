-- The sub-files that are written of rows and bytes are those of the tiles that they hold.
use Rattle.std.proofs.Common.{◌≡◌, ℕ, ◌+◌, ◌-◌, ◌*◌, List, [], ◌∷◌, ◌++◌, map, length, take, drop, refl}
use Rattle.std.proofs.Common.{sym, ap, ◌∙◌, arith, length-append}
use Rattle.std.specs.Prelude.{Bool, flat_map, sum_by}
use Rattle.std.proofs.lemmas.List.{length-map, take-map, drop-map}
use Rattle.std.proofs.lemmas.List.Concat.{length-flat_map}
use Rattle.std.proofs.Math.Seq.{take-append_seam, drop-append_seam}
use Rattle.feature_model.proofs.Totals.{sum-total, total-map}
use Rattle.map_model.specs.SubFile.{TileContent, index_bytes, sub_file_of, sub_file_size, entries_from, entry_of}
use Rattle.map_model.proofs.FileLaws.{index-running, size-running}
use Rattle.mf_rows.specs.declared.kinds.IndexRow.{IndexRow}
use Rattle.mf_layout.specs.declared.sub_files.SubFileSize.{SubFileSize}
use Rattle.mf_layout.specs.SubFiles.{entry_told, entries_told, tiles_size, size_of, sub_files_told, Fit}
use Rattle.mf_layout.specs.SubFiles.{tiles_in, bytes_in}

-- the bytes of a sub-file's tiles
abbrev pub tile_bytes : List TileContent → List ℕ
tile_bytes tiles = flat_map (λ (t : TileContent). t.bytes) tiles

-- the front of a list that is joined of two, by its length
front : {A : Type 0} (n : ℕ) (xs ys all : List A) → n ≡ length xs → all ≡ xs ++ ys → take n all ≡ xs
front n xs ys all e same = (λ i. take (e i) (same i)) ∙ take-append_seam xs ys

behind : {A : Type 0} (n : ℕ) (xs ys all : List A) → n ≡ length xs → all ≡ xs ++ ys → drop n all ≡ ys
behind n xs ys all e same = (λ i. drop (e i) (same i)) ∙ drop-append_seam xs ys

-- the rows of a first sub-file, and those of the others
take-told : (tiles : List TileContent) (more : List (Bool × ℕ)) (rows : List IndexRow)
    → map entry_told rows ≡ map entry_of tiles ++ more → map entry_told (take (length tiles) rows) ≡ map entry_of tiles
take-told tiles more rows e =
    sym (take-map entry_told (length tiles) rows)
    ∙ front (length tiles) (map entry_of tiles) more (map entry_told rows) (sym (length-map tiles entry_of)) e

drop-told : (tiles : List TileContent) (more : List (Bool × ℕ)) (rows : List IndexRow)
    → map entry_told rows ≡ map entry_of tiles ++ more → map entry_told (drop (length tiles) rows) ≡ more
drop-told tiles more rows e =
    sym (drop-map entry_told (length tiles) rows)
    ∙ behind (length tiles) (map entry_of tiles) more (map entry_told rows) (sym (length-map tiles entry_of)) e

-- how many bytes tiles have, by what rows tell
sizes-told : (rows : List IndexRow) → sum_by (λ (p : Bool × ℕ). p.1) (map entry_told rows) ≡ tiles_size rows
sizes-told rows =
    sum-total (λ (p : Bool × ℕ). p.1) (map entry_told rows)
    ∙ total-map (λ (p : Bool × ℕ). p.1) entry_told rows
    ∙ sym (sum-total (λ (row : IndexRow). row.size) rows)

sizes-of : (tiles : List TileContent) → sum_by (λ (p : Bool × ℕ). p.1) (map entry_of tiles) ≡ length (tile_bytes tiles)
sizes-of tiles =
    sum-total (λ (p : Bool × ℕ). p.1) (map entry_of tiles)
    ∙ total-map (λ (p : Bool × ℕ). p.1) entry_of tiles
    ∙ sym (sum-total (λ (t : TileContent). length t.bytes) tiles)
    ∙ sym (length-flat_map (λ (t : TileContent). t.bytes) tiles)

-- the size of a sub-file: its index, and the bytes of its tiles
pub size-is : (tiles : List TileContent) → sub_file_size tiles ≡ 5 * length tiles + length (tile_bytes tiles)
size-is tiles = size-running tiles ∙ ap (λ (n : ℕ). 5 * length tiles + n) (sizes-of tiles)

-- the index that rows tell is that of the tiles
index-told : (tiles : List TileContent) (rows : List IndexRow) → map entry_told rows ≡ map entry_of tiles
    → entries_told (5 * length tiles) rows ≡ index_bytes tiles
index-told tiles rows e = ap (entries_from (5 * length tiles)) e ∙ sym (index-running tiles)

pub told-all : (all : List (List TileContent)) (rows : List IndexRow) (bytes : List ℕ)
    → map entry_told rows ≡ flat_map (map entry_of) all → bytes ≡ flat_map tile_bytes all
    → sub_files_told (map size_of all) rows bytes ≡ flat_map sub_file_of all
unfolding sub_file_of
told-all [] rows bytes e same = refl
told-all (tiles ∷ all) rows bytes e same =
    let n : sub_file_size tiles - 5 * length tiles ≡ length (tile_bytes tiles) = omega (arith, size-is tiles) in
    let index = index-told tiles (take (length tiles) rows) (take-told tiles (flat_map (map entry_of) all) rows e) in
    let size = sub_file_size tiles - 5 * length tiles in
    let first = front size (tile_bytes tiles) (flat_map tile_bytes all) bytes n same in
    let later = behind size (tile_bytes tiles) (flat_map tile_bytes all) bytes n same in
    let rest = told-all all (drop (length tiles) rows) (drop (sub_file_size tiles - 5 * length tiles) bytes)
    (drop-told tiles (flat_map (map entry_of) all) rows e) later in
    λ i. index i ++ first i ++ rest i

pub fit-all : (all : List (List TileContent)) (rows : List IndexRow) → map entry_told rows ≡ flat_map (map entry_of) all
    → Fit (map size_of all) rows
fit-all [] rows e = tt
fit-all (tiles ∷ all) rows e =
    let told = take-told tiles (flat_map (map entry_of) all) rows e in
    let same = sym (sizes-told (take (length tiles) rows)) ∙ ap (sum_by (λ (p : Bool × ℕ). p.1)) told ∙ sizes-of tiles
    in (
      omega (arith, same, size-is tiles),
      fit-all all (drop (length tiles) rows) (drop-told tiles (flat_map (map entry_of) all) rows e),
    )

pub sizes-bytes : (all : List (List TileContent))
    → map (λ (s : SubFileSize). s.bytes) (map size_of all) ≡ map sub_file_size all
sizes-bytes [] = refl
sizes-bytes (tiles ∷ all) = ap (λ more. sub_file_size tiles ∷ more) (sizes-bytes all)

-- the bytes of the tiles are those of the sub-files less their indexes
pub tiles-length : (all : List (List TileContent))
    → bytes_in (map size_of all) ≡ 5 * tiles_in (map size_of all) + length (flat_map tile_bytes all)
tiles-length [] = refl
tiles-length (tiles ∷ all) =
    let first = size-is tiles in
    let rest = tiles-length all in
    let joined = length-append (tile_bytes tiles) (flat_map tile_bytes all) in
    omega (arith, first, rest, joined)
