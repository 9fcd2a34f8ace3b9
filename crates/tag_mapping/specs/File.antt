-- The mapping that a file is: this project's profile, over TOML.
use Rattle.std.specs.Prelude.{ℕ, ℤ, pos, negsuc, Bool, false, nat_le, List, [], ◌∷◌, map, codes, Option, Some, None}
use Rattle.std.specs.Prelude.{option_map, option_and_then, ok_or, is_some, Result, if◌then◌else◌}
use Rattle.std.specs.List.{list_all}
use Rattle.std.specs.Str.{is_utf8}
use Rattle.toml.specs.Data.{Data, Items, no_items, item, Members, no_members, member, get_member, as_str, as_integer}
use Rattle.toml.specs.Data.{as_bool, as_array, as_table}
use Rattle.toml.specs.Parse.{parse_document}
use Rattle.mf_base.specs.Steps.{◌>>=◌}
use Rattle.mf_base.specs.declared.kind.List as which
use Rattle.mf_base.specs.Texts.{Text, is_among}
use Rattle.feature_model.specs.declared.fault.MappingFault.{MappingFault}
use Rattle.feature_model.specs.Mapping.{Entry, Mapping}
use Rattle.feature_model.specs.Entries.{mapping_told}

-- the keys of a table
abbrev pub keys : Members → List Text
keys no_members = []
keys (member key value more) = key ∷ keys more

-- the items of an array
abbrev pub data_of : Items → List Data
data_of no_items = []
data_of (item value more) = value ∷ data_of more

-- ---- an entry

-- the members of an entry: in `way` it also has the marks
abbrev pub member_names : which.List → List Text
member_names which.List.Poi = codes "key" ∷ codes "value" ∷ codes "zoom" ∷ []
member_names which.List.Way = codes "key" ∷ codes "value" ∷ codes "zoom" ∷ codes "water" ∷ codes "label" ∷ []

-- whether a table has no other members
unfoldable pub only_members : which.List → Members → Bool
only_members list members = list_all (is_among (member_names list)) (keys members)

-- the text that a table has under a name
abbrev pub text_at : Text → Members → Option Text
text_at name members = option_and_then as_str (get_member name members)

-- a zoom level is in 0..21
abbrev pub zoom_level : ℤ → Option ℕ
zoom_level (pos n) = if nat_le n 21 then Some n else None
zoom_level (negsuc n) = None

-- the zoom level of a table
abbrev pub zoom_at : Members → Option ℕ
zoom_at members = option_and_then zoom_level (option_and_then as_integer (get_member (codes "zoom") members))

-- a mark that is not given is false
abbrev pub mark : Option Data → Option Bool
mark None = Some false
mark (Some value) = as_bool value

-- the mark that a table has under a name
abbrev pub mark_at : Text → Members → Option Bool
mark_at name members = mark (get_member name members)

-- an entry of these, where all are there
abbrev pub made_entry : Option Text → Option Text → Option ℕ → Option Bool → Option Bool → Option Entry
made_entry (Some key) (Some value) (Some zoom) (Some water) (Some label) =
    Some (record { key = key; value = value; zoom = zoom; water = water; label = label })
made_entry _ _ _ _ _ = None

-- the entry that the members of a table tell
abbrev pub told_members : Members → Option Entry
told_members members =
    made_entry (text_at (codes "key") members) (text_at (codes "value") members) (zoom_at members)
    (mark_at (codes "water") members) (mark_at (codes "label") members)

-- The entry that a table tells: it has the members of its list and no others, the first three are there, and each has
-- the right type.
unfoldable pub entry_of : which.List → Members → Option Entry
entry_of list members = if only_members list members then told_members members else None

-- ---- the file

-- the items of an array
abbrev pub items_in : Data → Option (List Data)
items_in value = option_map data_of (as_array value)

-- items that are all tables
abbrev pub all_tables : List Data → Option (List Data)
all_tables items = if list_all (λ value. is_some (as_table value)) items then Some items else None

-- the items of a list of the file: they are tables, and a list that is missing is empty
abbrev pub tables_in : Option Data → Option (List Data)
tables_in None = Some []
tables_in (Some value) = option_and_then all_tables (items_in value)

-- what the items of a list tell
abbrev pub told_items : which.List → List Data → List (Option Entry)
told_items list items = map (λ value. option_and_then (entry_of list) (as_table value)) items

-- the document of bytes that are UTF-8 and TOML
abbrev pub document : List ℕ → Option Members
document bytes = if is_utf8 bytes then parse_document bytes else None

-- the two lists of a document: it has no key but `poi` and `way`
unfoldable pub lists_of : Members → Option (List Data × List Data)
lists_of top = if list_all (is_among (codes "poi" ∷ codes "way" ∷ [])) (keys top)
    then option_and_then (λ poi. option_map (λ way. (poi, way)) (tables_in (get_member (codes "way") top)))
    (tables_in (get_member (codes "poi") top))
    else None

-- the mapping of a document
unfoldable pub mapping_in : Members → Result Mapping MappingFault
mapping_in top = do
  lists ← ok_or (lists_of top) MappingFault.Shape
  mapping_told (told_items which.List.Poi lists.0) (told_items which.List.Way lists.1)

-- The mapping of a file's bytes, or the first fault: Toml, Shape, TooMany, and then entry by entry.
unfoldable pub mapping_of : List ℕ → Result Mapping MappingFault
mapping_of bytes = ok_or (document bytes) MappingFault.Toml >>= mapping_in
