-- What the definitions of the header call the settings, tags and sub-files of the code.
use Rattle.std.specs.Prelude.{ℕ, ◌+◌, List, ◌++◌, length, option_map}
use Rattle.mf_base.specs.declared.kind.List as kinds
use Rattle.mf_base.specs.declared.kind.List.TheVariants.{Poi, Way}
use Rattle.map_model.specs.TagLists.{TagLists}
use Rattle.mf_base.specs.Spelling.{string, big_endian}
use Rattle.map_model.specs.Layout.{optional}
use Rattle.map_model.specs.Header as header
use Rattle.map_model.specs.Header.{be_signed, tag_list_bytes}
use Rattle.map_header.specs.declared.head_settings.HeadSettings.{HeadSettings}
use Rattle.map_header.specs.declared.sub_file.SubFile.{SubFile}

-- the settings
abbrev pub settings_of : HeadSettings → header.HeadSettings
settings_of set = record {
  date = set.date;
  start = set.start;
  start_zoom = set.start_zoom;
  language = option_map (λ t. t.bytes) set.language;
  comment = option_map (λ t. t.bytes) set.comment;
  created_by = option_map (λ t. t.bytes) set.created_by;
  intervals = set.intervals.items;
}

-- the tags of one list
abbrev pub tags_in : kinds.List → TagLists → List (List ℕ)
tags_in Poi names = names.poi
tags_in Way names = names.way

-- a sub-file
abbrev pub sub_file_of : SubFile → header.SubFile
sub_file_of sub = record { start = sub.start; size = sub.size }

-- The optional fields that are there, in their order.
abbrev pub options_bytes : header.HeadSettings → List ℕ
options_bytes set =
    optional (λ p. be_signed p.lat ++ be_signed p.lon) set.start ++ optional (big_endian 1) set.start_zoom
    ++ optional string set.language ++ optional string set.comment ++ optional string set.created_by

-- how many bytes they take
abbrev pub options_size : header.HeadSettings → ℕ
options_size set =
    length (optional (λ p. be_signed p.lat ++ be_signed p.lon) set.start) + length
    (optional (big_endian 1) set.start_zoom)
    + length (optional string set.language) + length (optional string set.comment) + length
    (optional string set.created_by)

-- How many bytes stand between the box and the intervals: 13 for tile size, projection, flags and the number of
-- intervals, the optional fields and the tags.
abbrev pub middle_size : header.HeadSettings → TagLists → ℕ
middle_size set names = 13 + options_size set + length (tag_list_bytes names.poi) + length (tag_list_bytes names.way)
