-- The bytes of a record's tags: Mapsforge Specification, Binary Map File Format, version 5, on POIs and ways.
use Rattle.std.specs.Prelude.{ℕ, List, map, flat_map}
use Rattle.std.specs.List.{enumerate_from}
use Rattle.mf_base.specs.Spelling.{vbe_unsigned}
use Rattle.mf_base.specs.Texts.{Text}
use Rattle.mf_base.specs.declared.kept.Kept.{Kept as KeptRead}
use Rattle.mf_base.specs.declared.kept.KeptValue.{KeptValue}
use Rattle.feature_model.specs.Choice.{Kept}
use Rattle.map_model.specs.Layout.{value_bytes}
use Rattle.mf_rows.specs.Records.{Record, kept_told}
use Rattle.mf_rows.specs.declared.head.TextSlot.{TextSlot}

-- the kept tags of a record
abbrev pub tags_told : Record → List Kept
tags_told r = map (kept_told r.texts) (enumerate_from 0 r.head.tags.items)

-- the ids of tags
unfoldable pub ids_bytes : List KeptRead → List ℕ
ids_bytes tags = flat_map (λ (k : KeptRead). vbe_unsigned k.tag) tags

-- the variable value of the tag of a place
abbrev pub value_told : List (TextSlot × Text) → ℕ → KeptValue → List ℕ
value_told texts at value = value_bytes (kept_told texts (at, record { tag = 0; value = value })).value

-- the variable values of tags, the first of this place
unfoldable pub values_from : List (TextSlot × Text) → ℕ → List KeptRead → List ℕ
values_from texts at tags =
    flat_map (λ (k : ℕ × KeptRead). value_told texts k.0 k.1.value) (enumerate_from at tags)

-- those of all tags of a record
abbrev pub values_bytes : Record → List ℕ
values_bytes r = values_from r.texts 0 r.head.tags.items
