-- The sizes of headers and sub-files, and index entries both ways.
use Rattle.std.proofs.Common.{◌≡◌, ℕ, ◌+◌, ◌*◌, ◌/◌, ◌%◌, ◌^◌, ◌<◌, List, [], ◌∷◌, ◌++◌, length, refl, ap, ◌∙◌, arith}
use Rattle.std.proofs.Common.{true, false, length-append}
use Rattle.std.specs.Prelude.{Bool, flat_map, zip, sum_by, cond}
use Rattle.std.specs.List.{enumerate_from}
use Rattle.std.proofs.Math.Seq.{take-length}
use Rattle.std.proofs.lemmas.Bool.{ne_eqb, eq-eqb}
use Rattle.std.proofs.lemmas.Slice.Zip.{length-zip}
use Rattle.std.proofs.lemmas.List.FromFn.{length-enumerate_from}
use Rattle.std.proofs.lemmas.List.Concat.{length-flat_map}
use Rattle.byteorder.specs.Endian.{big_number}
use Rattle.byteorder.specs.Numbers.{big_number-reads_back}
use Rattle.mf_base.specs.Spelling.{big_endian}
use Rattle.mf_base.specs.declared.place.Rect.{Rect}
use Rattle.mf_base.specs.declared.tile.Interval.{Interval}
use Rattle.mf_base.proofs.ByteLaws.{length-big_endian}
use Rattle.map_model.specs.SubFile.{TileContent, entry_bytes, offset_of, index_bytes, sub_file_of, sub_file_size}
use Rattle.map_model.specs.TagLists.{TagLists}
use Rattle.map_model.specs.Header.{HeadSettings, SubFile, HeaderFields, box_bytes, interval_bytes, middle_bytes}
use Rattle.map_model.specs.Header.{fields_bytes, header_fields_bytes, written_header, header_size, header_bytes}
use Rattle.map_model.specs.Listing.{index_entry_of}

fives : (all : List TileContent) (xs : List (ℕ × TileContent))
    → length (flat_map (λ at. entry_bytes at.1.water (offset_of all at.0)) xs) ≡ 5 * length xs
fives all [] = refl
fives all (x ∷ xs) =
    rw (
      length-append (entry_bytes x.1.water (offset_of all x.0))
          (flat_map (λ at. entry_bytes at.1.water (offset_of all at.0)) xs),
      length-big_endian 5 ((cond x.1.water (2 ^ 39) 0) + offset_of all x.0),
      fives all xs,
    ) (omega arith)

-- the index has five bytes for each tile
pub length-index_bytes : (tiles : List TileContent) → length (index_bytes tiles) ≡ 5 * length tiles
unfolding index_bytes
length-index_bytes tiles = fives tiles (enumerate_from 0 tiles) ∙ ap (λ n. 5 * n) (length-enumerate_from 0 tiles)

pub length-sub_file : (tiles : List TileContent) → length (sub_file_of tiles) ≡ sub_file_size tiles
unfolding sub_file_of
length-sub_file tiles =
    rw (take-length tiles) (length-append (index_bytes tiles) (flat_map (λ t. t.bytes) tiles)
    ∙ (λ i. length-index_bytes tiles i + length-flat_map (λ (t : TileContent). t.bytes) tiles i))

-- an entry is read again, whatever follows
pub entry-again : (water : Bool) (offset : ℕ) (rest : List ℕ) → offset < 2 ^ 39
    → index_entry_of (big_number 5 (entry_bytes water offset ++ rest)) ≡ record { water = water; offset = offset }
unfolding big_endian
entry-again true offset rest fits =
    rw (big_number-reads_back 5 (2 ^ 39 + offset) rest (omega (arith, fits)))
    (λ i. record { water = eq-eqb ((2 ^ 39 + offset) / 2 ^ 39) 1 (omega (arith, fits)) i; offset = high i })
  where
    high : (2 ^ 39 + offset) % 2 ^ 39 ≡ offset
    high = omega (arith, fits)
entry-again false offset rest fits =
    rw (big_number-reads_back 5 (0 + offset) rest (omega (arith, fits)))
    (λ i. record { water = ne_eqb ((0 + offset) / 2 ^ 39) 1 (λ e. absurd (omega (arith, fits, e))) i; offset = low i })
  where
    low : (0 + offset) % 2 ^ 39 ≡ offset
    low = omega (arith, fits)

-- ---- header

nineteen : (xs : List (Interval × SubFile)) → length (flat_map interval_bytes xs) ≡ 19 * length xs
nineteen [] = refl
nineteen (x ∷ xs) =
    rw (
      length-append (interval_bytes x) (flat_map interval_bytes xs),
      nineteen xs,
      length-append (big_endian 1 x.0.base ++ big_endian 1 x.0.min ++ big_endian 1 x.0.max ++ big_endian 8 x.1.start)
          (big_endian 8 x.1.size),
      length-append (big_endian 1 x.0.base ++ big_endian 1 x.0.min ++ big_endian 1 x.0.max) (big_endian 8 x.1.start),
      length-append (big_endian 1 x.0.base ++ big_endian 1 x.0.min) (big_endian 1 x.0.max),
      length-append (big_endian 1 x.0.base) (big_endian 1 x.0.min),
      length-big_endian 1 x.0.base,
      length-big_endian 1 x.0.min,
      length-big_endian 1 x.0.max,
      length-big_endian 8 x.1.start,
      length-big_endian 8 x.1.size,
    ) (omega arith)

length-box : (box : Rect) → length (box_bytes box) ≡ 16
length-box box = simp (length-append, length-big_endian) refl

pub length-fields : (total : ℕ) (h : HeaderFields) → length h.subs ≡ length h.settings.intervals
    → length (fields_bytes total h) ≡ 36 + length (middle_bytes h.tile_size h.other h.settings h.names)
    + 19 * length h.settings.intervals + length h.after
unfolding fields_bytes
length-fields total h same =
    let zipped = length-zip h.settings.intervals h.subs in
    let n : length (zip h.settings.intervals h.subs) ≡ length h.settings.intervals = omega (arith, zipped, same) in
    let all = nineteen (zip h.settings.intervals h.subs) in
    let box = length-box h.bounds in
    simp (length-append, length-big_endian) (omega (arith, all, n, box))

-- the header has the size that is counted without its sub-files
pub length-header_bytes : (set : HeadSettings) (box : Rect) (names : TagLists) (subs : List SubFile)
    → length subs ≡ length set.intervals
    → length (header_bytes set box names subs) ≡ header_size set names
unfolding header_bytes header_fields_bytes header_size written_header
length-header_bytes set box names subs same =
    let total = header_size set names + sum_by (λ (s : SubFile). s.size) subs in
    let fields = length-fields total (written_header set box names subs) same in
    simp (length-append, length-big_endian) (omega (arith, fields))

pub ruleset size_laws = (length-header_bytes, length-sub_file, length-index_bytes, entry-again)
