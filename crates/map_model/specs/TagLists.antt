-- The tags of a header, of which features name the places: Mapsforge Specification, Binary Map File Format, version 5,
-- on the file header.
use Rattle.std.specs.Prelude.{ℕ, [], ◌∷◌, ◌==◌, List, ◌++◌, map, slice_index_or}
use Rattle.std.specs.List.{before_first, after_first}
use Rattle.mf_base.specs.Texts.{Text}
use Rattle.feature_model.specs.Mapping.{Entry, Mapping, ValueKind, value_kind}

-- the texts of a header's tags, a list for POIs and a list for ways
pub record TagLists : Type 0 where
  pub poi : List (List ℕ)
  pub way : List (List ℕ)

-- an entry in the header: `key=value`
abbrev pub entry_text : Entry → Text
entry_text e = e.key ++ 61 ∷ e.value

-- the texts of a mapping's entries
abbrev pub tag_lists : Mapping → TagLists
tag_lists mapping = record { poi = map entry_text mapping.poi; way = map entry_text mapping.way }

-- the key of a tag's text: what stands before its first `=`
abbrev pub tag_key : List ℕ → List ℕ
tag_key tag = before_first (λ b. b == 61) tag

-- the value of a tag's text: what stands after that, or nothing where there is no `=`
abbrev pub tag_value : List ℕ → List ℕ
tag_value tag = after_first (λ b. b == 61) tag

-- the kind of a tag's value
unfoldable pub tag_kind : List ℕ → ValueKind
tag_kind tag = value_kind (tag_value tag)

-- the text of the tag with this id
abbrev pub tag_at : List (List ℕ) → ℕ → List ℕ
tag_at tags id = slice_index_or tags id []
