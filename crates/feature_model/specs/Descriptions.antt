-- What the tags of an object tell of it, before its points are known: this project's profile.
use Rattle.std.specs.Prelude.{ℕ, ℤ, Bool, true, false, List, [], ◌∷◌, ◌++◌, length, flat_map, sum_by, codes, bytes_eq}
use Rattle.std.specs.Prelude.{Option, Some, None, option_map, option_and_then, unwrap_or, if◌then◌else◌}
use Rattle.std.specs.List.{enumerate_from}
use Rattle.mf_base.specs.declared.kind.EntityKind.{EntityKind}
use Rattle.mf_base.specs.Texts.{Text}
use Rattle.mf_base.specs.Tags.{Tags, value_of, text_of}
use Rattle.mf_base.specs.Numbers.{height}
use Rattle.osm_model.specs.Entities.{Entity, node, way, relation, kind_of, id_of}
use Rattle.feature_model.specs.Mapping.{Entry, Mapping, KeptValue}
use Rattle.feature_model.specs.Choice.{Kept, Choice, choice}

-- An object that matches an entry of its list.
pub record Description : Type 0 where
  pub kind : EntityKind
  pub id : ℕ
  pub choice : Choice
  pub name : Option Text
  pub house : Option Text
  pub reference : Option Text
  pub height : Option ℤ

-- the tags of an object
abbrev pub tags_of : Entity → Tags
tags_of (node n) = n.tags
tags_of (way w) = w.tags
tags_of (relation r) = r.tags

-- the entries that a kind of object is matched with: those of `poi` for a node, and else those of `way`
abbrev pub entries_for : Mapping → EntityKind → List Entry
entries_for mapping EntityKind.Node = mapping.poi
entries_for mapping EntityKind.Way = mapping.way
entries_for mapping EntityKind.Relation = mapping.way

-- whether the value of `type` is `multipolygon`
abbrev pub is_multipolygon : Tags → Bool
is_multipolygon tags = unwrap_or (option_map (bytes_eq (codes "multipolygon")) (value_of (codes "type") tags)) false

-- whether an object is shown where it matches: each node and way, and a multipolygon
abbrev pub may_be_shown : Entity → Bool
may_be_shown (node n) = true
may_be_shown (way w) = true
may_be_shown (relation r) = is_multipolygon r.tags

-- the reference of a way or a relation: the text of `ref`
abbrev pub reference_of : EntityKind → Tags → Option Text
reference_of EntityKind.Node tags = None
reference_of EntityKind.Way tags = text_of (codes "ref") tags
reference_of EntityKind.Relation tags = text_of (codes "ref") tags

-- the elevation of a node in metres, read from `ele`
abbrev pub height_of : EntityKind → Tags → Option ℤ
height_of EntityKind.Node tags = option_and_then height (value_of (codes "ele") tags)
height_of EntityKind.Way tags = None
height_of EntityKind.Relation tags = None

-- an object with what its tags choose
abbrev pub described : Entity → Choice → Description
described e chosen = record {
  kind = kind_of e;
  id = id_of e;
  choice = chosen;
  name = text_of (codes "name") (tags_of e);
  house = text_of (codes "addr:housenumber") (tags_of e);
  reference = reference_of (kind_of e) (tags_of e);
  height = height_of (kind_of e) (tags_of e);
}

-- The description of an object that is a candidate: a node, a way or a multipolygon with a matching entry of its list.
unfoldable pub description : Mapping → Entity → Option Description
description mapping e =
    if may_be_shown e then option_map (described e) (choice (entries_for mapping (kind_of e)) (tags_of e)) else None

-- The texts of a description.

-- what a text is: a name, a house number, a reference, or the value of the kept tag of this place
pub data TextSlot : Type 0 where
  name : TextSlot
  house : TextSlot
  reference : TextSlot
  tag : ℕ → TextSlot

-- a text in its slot, where it is there
abbrev pub in_slot : TextSlot → Option Text → List (TextSlot × Text)
in_slot slot None = []
in_slot slot (Some text) = (slot, text) ∷ []

-- the text of a kept `%s` tag
abbrev pub kept_text : KeptValue → Option Text
kept_text (KeptValue.text t) = Some t
kept_text _ = None

-- The texts in the order of their slots: name, house number, reference, and then those of the kept `%s` tags.
unfoldable pub texts_of : Description → List (TextSlot × Text)
texts_of d = in_slot name d.name ++ in_slot house d.house ++ in_slot reference d.reference
    ++ flat_map (λ (k : ℕ × Kept). in_slot (tag k.0) (kept_text k.1.value)) (enumerate_from 0 d.choice.tags)

-- the bytes of the texts taken together
unfoldable pub texts_length : Description → ℕ
texts_length d = sum_by (λ (t : TextSlot × Text). length t.1) (texts_of d)

-- the bytes of a text, where it is there
abbrev pub text_size : Option Text → ℕ
text_size None = 0
text_size (Some text) = length text

-- the bytes of the texts among kept tags
unfoldable pub kept_size : List Kept → ℕ
kept_size tags = sum_by (λ (k : Kept). text_size (kept_text k.value)) tags
