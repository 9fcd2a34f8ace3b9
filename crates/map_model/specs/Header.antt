-- The header of a map: Mapsforge Specification, Binary Map File Format, version 5, on the file header. Fixed-width
-- numbers are big-endian, and places are in microdegrees.
use Rattle.std.specs.Prelude.{ℕ, ◌<◌, ◌≤◌, ◌^◌, IfSome, IsTrue, map, sum, take, ◌+◌, ◌*◌, ℤ, List, [], ◌∷◌, ◌++◌, zip}
use Rattle.std.specs.Prelude.{flat_map, length, sum_by, Option, is_some, codes}
use Rattle.std.specs.Int.{w32, cast_unsigned}
use Rattle.std.specs.List.{enumerate_from}
use Rattle.std.specs.Str.{is_utf8}
use Rattle.mf_base.specs.Ranges.{is_on_earth}
use Rattle.mf_base.specs.Spelling.{string, big_endian}
use Rattle.mf_base.specs.declared.place.Place.{Place}
use Rattle.mf_base.specs.declared.place.Rect.{Rect}
use Rattle.mf_base.specs.declared.tile.Interval.{Interval}
use Rattle.map_model.specs.Intervals.{are_intervals}
use Rattle.map_model.specs.Layout.{optional, flag}
use Rattle.map_model.specs.TagLists.{TagLists}

-- What the words of the command line say of the header. The date of creation is in milliseconds since 1970.
pub record HeadSettings : Type 0 where
  pub date : ℕ
  pub start : Option Place
  pub start_zoom : Option ℕ
  pub language : Option (List ℕ)
  pub comment : Option (List ℕ)
  pub created_by : Option (List ℕ)
  pub intervals : List Interval

-- a text of at most 255 bytes, in UTF-8
abbrev pub IsShortText : List ℕ → Type 0
IsShortText text = (length text ≤ 255) × IsTrue (is_utf8 text)

-- What the words can say: a start position on the earth, a start zoom level of at most 21, texts of at most 255 bytes,
-- and intervals that follow each other.
pub record IsHeadSettings (set : HeadSettings) : Type 0 where
  pub date : set.date < 2 ^ 63
  pub start : IfSome set.start (λ p. IsTrue (is_on_earth p))
  pub start_zoom : IfSome set.start_zoom (λ zoom. zoom ≤ 21)
  pub language : IfSome set.language IsShortText
  pub comment : IfSome set.comment IsShortText
  pub created_by : IfSome set.created_by IsShortText
  pub intervals : IsTrue (are_intervals set.intervals)

-- where a sub-file starts in the file, and how many bytes it has
pub record SubFile : Type 0 where
  pub start : ℕ
  pub size : ℕ

-- the magic bytes that a map begins with
abbrev pub magic_word : List ℕ
magic_word = codes "mapsforge binary OSM"

-- the name of the projection
abbrev pub mercator_word : List ℕ
mercator_word = codes "Mercator"

-- a signed number of four bytes, in two's complement
abbrev pub be_signed : ℤ → List ℕ
be_signed z = big_endian 4 (cast_unsigned w32 z)

-- the bounding box: least latitude, least longitude, greatest latitude, greatest longitude, four bytes each
abbrev pub box_bytes : Rect → List ℕ
box_bytes box = be_signed box.min_lat ++ be_signed box.min_lon ++ be_signed box.max_lat ++ be_signed box.max_lon

-- the flags of the optional fields that are there: start position, start zoom level, language, comment, created by
abbrev pub head_flags : HeadSettings → ℕ
head_flags set = flag (is_some set.start) 0x40 + flag (is_some set.start_zoom) 0x20 + flag (is_some set.language) 0x10
    + flag (is_some set.comment) 0x08 + flag (is_some set.created_by) 0x04

-- a count of two bytes, and a string for each tag
abbrev pub tag_list_bytes : List (List ℕ) → List ℕ
tag_list_bytes tags = big_endian 2 (length tags) ++ flat_map string tags

-- What a header tells. `other` are the flag bits that have no name, and `after` the bytes after its last field.
pub record HeaderFields : Type 0 where
  pub settings : HeadSettings
  pub bounds : Rect
  pub tile_size : ℕ
  pub other : ℕ
  pub names : TagLists
  pub subs : List SubFile
  pub after : List ℕ

-- the fields from the tile size to the number of intervals; start position of four bytes each, start zoom level of one
unfoldable pub middle_bytes : ℕ → ℕ → HeadSettings → TagLists → List ℕ
middle_bytes tile_size other set names =
    big_endian 2 tile_size ++ string mercator_word ++ (head_flags set + other)
    ∷ optional (λ p. be_signed p.lat ++ be_signed p.lon) set.start
    ++ optional (big_endian 1) set.start_zoom
    ++ optional string set.language ++ optional string set.comment ++ optional string set.created_by
    ++ tag_list_bytes names.poi ++ tag_list_bytes names.way
    ++ big_endian 1 (length set.intervals)

-- a zoom interval: base, least and greatest zoom level of one byte each, then start and size of its sub-file of eight
-- bytes each
abbrev pub interval_bytes : Interval × SubFile → List ℕ
interval_bytes at = big_endian 1 at.0.base ++ big_endian 1 at.0.min ++ big_endian 1 at.0.max ++ big_endian 8 at.1.start
    ++ big_endian 8 at.1.size

-- the fields after the header size; the file size counts all bytes of the file
unfoldable pub fields_bytes : ℕ → HeaderFields → List ℕ
fields_bytes file_size h =
    big_endian 4 5 ++ big_endian 8 file_size ++ big_endian 8 h.settings.date ++ box_bytes h.bounds
    ++ middle_bytes h.tile_size h.other h.settings h.names
    ++ flat_map interval_bytes (zip h.settings.intervals h.subs)
    ++ h.after

-- the whole header; the header size counts the bytes after its own field
unfoldable pub header_fields_bytes : ℕ → HeaderFields → List ℕ
header_fields_bytes file_size h =
    magic_word ++ big_endian 4 (length (fields_bytes file_size h)) ++ fields_bytes file_size h

-- what is written in the header
unfoldable pub written_header : HeadSettings → Rect → TagLists → List SubFile → HeaderFields
written_header set box names subs =
    record { settings = set; bounds = box; tile_size = 256; other = 0; names = names; subs = subs; after = [] }

-- the size of the header, whatever its sub-files: 60 bytes up to the box, and 19 for each interval
unfoldable pub header_size : HeadSettings → TagLists → ℕ
header_size set names = 60 + length (middle_bytes 256 0 set names) + 19 * length set.intervals

-- the file size: the header and all sub-files
abbrev pub file_size : HeadSettings → TagLists → List SubFile → ℕ
file_size set names subs = header_size set names + sum_by (λ s. s.size) subs

-- the header, with one sub-file for each interval; the file ends where the last of them does
unfoldable pub header_bytes : HeadSettings → Rect → TagLists → List SubFile → List ℕ
header_bytes set box names subs = header_fields_bytes (file_size set names subs) (written_header set box names subs)

-- sub-files of these sizes, the first behind a header of so many bytes and each behind the one before, without a gap
unfoldable pub sub_files : ℕ → List ℕ → List SubFile
sub_files head sizes = map (λ at. record { start = head + sum (take at.0 sizes); size = at.1 }) (enumerate_from 0 sizes)
