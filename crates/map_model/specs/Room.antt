-- What may be written of a feature, so that it takes at most 16 bytes for each row that it weighs: this project's
-- profile.
use Rattle.std.specs.Prelude.{ℕ, ◌+◌, ◌/◌, ◌≤◌, ◌<◌, nat_abs, length, IfSome, IsTrue}
use Rattle.std.specs.List.{AllByRecursion}
use Rattle.mf_base.specs.Texts.{Text}
use Rattle.feature_model.specs.Mapping.{Mapping}
use Rattle.feature_model.specs.Choice.{Kept}
use Rattle.feature_model.specs.Descriptions.{entries_for, kept_text, texts_length}
use Rattle.feature_model.specs.Features.{Feature, description_of}
use Rattle.feature_model.specs.Proper.{is_shape, ring_count, place_count, IsProper, IsOfInput}
use Rattle.map_model.specs.Rectangles.{places_of}
use Rattle.map_model.specs.TileReading.{IsPlaceOf32Bits}

-- a desk holds at most so many rows, and nothing that is written weighs more
abbrev pub rows_limit : ℕ
rows_limit = 16777216

-- a text of at most 1,020 bytes
abbrev pub IsShort : Text → Type 0
IsShort text = length text ≤ 1020

-- the id of a kept tag is below 4,096, and its text is short
abbrev pub IsKeptShort : Kept → Type 0
IsKeptShort k = (k.tag < 4096) × IfSome (kept_text k.value) IsShort

-- Of a feature that is written: at most fifteen tags with ids below 4,096, short texts, a height of at most five
-- digits, places of 32 bits, and a weight of at least 10, one for each ring, one for each place and one for each begun
-- 16 bytes of its texts.
pub record IsWritable (f : Feature) : Type 0 where
  pub few : length f.tags ≤ 15
  pub kept : AllByRecursion IsKeptShort f.tags
  pub name : IfSome f.name IsShort
  pub house : IfSome f.house IsShort
  pub reference : IfSome f.reference IsShort
  pub height : IfSome f.height (λ z. nat_abs z < 100000)
  pub shape : IsTrue (is_shape f.shape)
  pub places : AllByRecursion IsPlaceOf32Bits (places_of f)
  pub weight : 10 + ring_count f.shape + place_count f.shape + (texts_length (description_of f) + 15) / 16 ≤ f.weight
  pub light : f.weight ≤ rows_limit

-- A feature of an accepted input under a mapping that weighs at most as many rows as a desk holds.
pub record IsWritten (mapping : Mapping) (f : Feature) : Type 0 where
  pub proper : IsProper (entries_for mapping f.kind) f
  pub input : IsOfInput f
  pub light : f.weight ≤ rows_limit
