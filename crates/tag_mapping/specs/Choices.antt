-- A choice as it is answered, with each kept text told by its length: this project's own.
use Rattle.std.specs.Prelude.{ℕ, ℤ, Bool, List, map, length}
use Rattle.mf_base.specs.declared.kept.Kept.{Kept}
use Rattle.mf_base.specs.declared.kept.KeptValue.{KeptValue}
use Rattle.mf_base.specs.declared.kept.KeptValue.TheVariants as told
use Rattle.feature_model.specs.Mapping as model
use Rattle.feature_model.specs.Choice as model_choice
use Rattle.tag_mapping.specs.declared.choice.Choice.{Choice}

-- what is kept of a value, a text by its length
abbrev pub value_told : model.KeptValue → KeptValue
value_told model.KeptValue.plain = told.Plain
value_told (model.KeptValue.byte z) = told.Byte z
value_told (model.KeptValue.short z) = told.Short z
value_told (model.KeptValue.int z) = told.Int z
value_told (model.KeptValue.text t) = told.Text (length t)

-- a kept tag, with its entry's id
abbrev pub kept_told : model_choice.Kept → Kept
kept_told kept = record { tag = kept.tag; value = value_told kept.value }

-- A choice, with each kept text by its length.
pub record ToldChoice : Type 0 where
  pub tags : List Kept
  pub zoom : ℕ
  pub layer : ℤ
  pub water : Bool
  pub label : Bool
  pub coast : Bool

-- what is told of a choice
abbrev pub choice_told : model_choice.Choice → ToldChoice
choice_told c = record {
  tags = map kept_told c.tags;
  zoom = c.zoom;
  layer = c.layer;
  water = c.water;
  label = c.label;
  coast = c.coast;
}

-- what is answered of a choice
abbrev pub choice_shown : Choice → ToldChoice
choice_shown c = record {
  tags = c.tags.items;
  zoom = c.zoom;
  layer = c.layer;
  water = c.water;
  label = c.label;
  coast = c.coast;
}
