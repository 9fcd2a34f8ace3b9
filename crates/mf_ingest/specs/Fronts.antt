-- Head and texts of a candidate, in the words of the definitions. This project's own.
use Rattle.std.specs.Prelude.{◌≡◌, ℕ, ◌+◌, ◌<◌, ◌≤◌, ℤ, List, [], ◌∷◌, ◌++◌, length, codes, slice_get}
use Rattle.std.specs.Prelude.{Option, Some, None, option_and_then}
use Rattle.std.specs.List.{AllByRecursion}
use Rattle.mf_base.specs.Texts.{Text}
use Rattle.mf_base.specs.Tags.{Tags, text_of}
use Rattle.mf_base.specs.declared.kind.EntityKind.{EntityKind}
use Rattle.mf_base.specs.declared.kept.Kept.{Kept as KeptRead}
use Rattle.mf_base.specs.declared.kept.KeptValue.{KeptValue}
use Rattle.mf_base.specs.declared.kept.KeptValue.TheVariants as read
use Rattle.feature_model.specs.Mapping.{Entry}
use Rattle.feature_model.specs.Descriptions.{Description, reference_of}
use Rattle.mf_rows.specs.Records.{LiesIn, texts_told, description_told}
use Rattle.mf_rows.specs.Whole.{AreTexts}
use Rattle.mf_rows.specs.FirstUnits.{IsShort, IsHead}
use Rattle.mf_rows.specs.declared.head.Head.{Head}
use Rattle.mf_rows.specs.declared.head.TextSlot.{TextSlot}
use Rattle.mf_rows.specs.declared.head.TextSpan.{TextSpan}
use Rattle.mf_rows.specs.declared.head.TextSlot.TheVariants.{Name, House, Reference, Tag}
use Rattle.tag_mapping.specs.declared.choice.Choice.{Choice}
use Rattle.mf_ingest.specs.declared.front.Described.{Described}

-- ---- what is described

-- the description that head and texts tell
abbrev pub front_told : Described → Description
front_told d = description_told d.head (texts_told d.texts.block.now d.texts.spans.items)

-- What holds of head and texts that are handed on: number and weight are 0, each text lies in the block, and is short,
-- and the head tells just these texts.
pub record IsFront (d : Described) : Type 0 where
  pub head_is : IsHead d.head
  pub no_number : d.head.number ≡ 0
  pub no_weight : d.head.weight ≡ 0
  pub few : length d.texts.spans.items ≤ 18
  pub lies : AllByRecursion (LiesIn (length d.texts.block.now)) d.texts.spans.items
  pub short : AllByRecursion IsShort d.texts.spans.items
  pub texts_are : AreTexts d.head (texts_told d.texts.block.now d.texts.spans.items)

-- ---- heads

-- the head of an object with what its tags choose
abbrev pub head_told : EntityKind → ℕ → Option ℤ → Choice → Head
head_told kind id height c = record {
  kind = kind;
  id = id;
  number = 0;
  weight = 0;
  zoom = c.zoom;
  layer = c.layer;
  water = c.water;
  label = c.label;
  coast = c.coast;
  height = height;
  tags = c.tags;
}

-- ---- texts

-- a text lies in a block of so many bytes, and has 1 to 1,020 of them
abbrev pub IsSpan : ℕ → TextSpan → Type 0
IsSpan size span = (span.start + span.len ≤ size) × (1 ≤ span.len) × (span.len ≤ 1020)

-- kept tags are entries of a list
abbrev pub AreEntriesOf : List Entry → List KeptRead → Type 0
AreEntriesOf entries kept = AllByRecursion (λ (k : KeptRead). k.tag < length entries) kept

-- a text in its slot, where it is there
abbrev pub slot_text : TextSlot → Option Text → List (TextSlot × Text)
slot_text slot None = []
slot_text slot (Some text) = (slot, text) ∷ []

-- a text, where a value is one
abbrev pub of_text : KeptValue → Option Text → Option Text
of_text (read.Text len) text = text
of_text _ text = None

-- the text of a kept tag: a `%s` tag has the text of its key
abbrev pub kept_text : List Entry → Tags → KeptRead → Option Text
kept_text entries tags k =
    of_text k.value (option_and_then (λ (e : Entry). text_of e.key tags) (slice_get entries k.tag))

-- the texts of kept tags, of which the first has this place
abbrev pub kept_texts : List Entry → Tags → ℕ → List KeptRead → List (TextSlot × Text)
kept_texts entries tags i [] = []
kept_texts entries tags i (k ∷ kept) =
    slot_text (Tag i) (kept_text entries tags k) ++ kept_texts entries tags (i + 1) kept

-- the texts of an object, by their slots
unfoldable pub tag_texts : List Entry → EntityKind → Tags → List KeptRead → List (TextSlot × Text)
tag_texts entries kind tags kept = slot_text Name (text_of (codes "name") tags)
    ++ slot_text House (text_of (codes "addr:housenumber") tags) ++ slot_text Reference (reference_of kind tags)
    ++ kept_texts entries tags 0 kept
