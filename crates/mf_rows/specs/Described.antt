-- The head and the texts of a description: this project's own.
use Rattle.std.specs.Prelude.{ℕ, ◌+◌, ◌≤◌, List, [], ◌∷◌, ◌++◌, length, map, Option, Some, None, IfSome}
use Rattle.std.specs.List.{AllByRecursion}
use Rattle.mf_base.specs.Texts.{Text}
use Rattle.mf_base.specs.declared.kept.Kept.{Kept as KeptRead}
use Rattle.mf_base.specs.declared.kept.KeptValue.{KeptValue}
use Rattle.mf_base.specs.declared.kept.KeptValue.TheVariants as read
use Rattle.feature_model.specs.Mapping as model
use Rattle.feature_model.specs.Choice.{Kept}
use Rattle.feature_model.specs.Descriptions.{Description, kept_text}
use Rattle.mf_rows.specs.declared.head.Head.{Head}
use Rattle.mf_rows.specs.declared.head.TextSlot.{TextSlot}
use Rattle.mf_rows.specs.declared.head.TextSlot.TheVariants.{Name, House, Reference, Tag}

-- a kept value, of which a text tells its length alone
abbrev pub short_value : model.KeptValue → KeptValue
short_value model.KeptValue.plain = read.Plain
short_value (model.KeptValue.byte z) = read.Byte z
short_value (model.KeptValue.short z) = read.Short z
short_value (model.KeptValue.int z) = read.Int z
short_value (model.KeptValue.text text) = read.Text (length text)

-- a kept tag, of whose text the length alone is told
abbrev pub short_kept : Kept → KeptRead
short_kept k = record { tag = k.tag; value = short_value k.value }

-- the head of a description, before number and weight are set
abbrev pub head_of : Description → Head
head_of d = record {
  kind = d.kind;
  id = d.id;
  number = 0;
  weight = 0;
  zoom = d.choice.zoom;
  layer = d.choice.layer;
  water = d.choice.water;
  label = d.choice.label;
  coast = d.choice.coast;
  height = d.height;
  tags = record { items = map short_kept d.choice.tags };
}

-- the text of a slot, where there is one
abbrev pub slot_text : TextSlot → Option Text → List (TextSlot × Text)
slot_text slot None = []
slot_text slot (Some text) = (slot, text) ∷ []

-- the texts of kept tags, from this place on
abbrev pub tag_texts : ℕ → List Kept → List (TextSlot × Text)
tag_texts i [] = []
tag_texts i (k ∷ tags) = slot_text (Tag i) (kept_text k.value) ++ tag_texts (i + 1) tags

-- the texts of a description, in the order of their slots
abbrev pub texts_of : Description → List (TextSlot × Text)
texts_of d = slot_text Name d.name ++ (slot_text House d.house ++ (slot_text Reference d.reference
    ++ tag_texts 0 d.choice.tags))

-- a text of 1 to 1,020 bytes
abbrev pub IsShortText : Text → Type 0
IsShortText text = (1 ≤ length text) × (length text ≤ 1020)

-- All texts of a description are such.
pub record HasShortTexts (d : Description) : Type 0 where
  pub name : IfSome d.name IsShortText
  pub house : IfSome d.house IsShortText
  pub reference : IfSome d.reference IsShortText
  pub tags : AllByRecursion (λ (k : Kept). IfSome (kept_text k.value) IsShortText) d.choice.tags
