-- What a reader of a map sees of a tile. This project's profile.
use Rattle.std.specs.Prelude.{ℕ, ℤ, List, ◌++◌, map, flat_map, zip, Option, if◌then◌else◌}
use Rattle.mf_base.specs.declared.place.Place.{Place}
use Rattle.mf_base.specs.declared.tile.Interval.{Interval}
use Rattle.mf_base.specs.declared.tile.TilePlace.{TilePlace}
use Rattle.feature_model.specs.Features.{Block, Feature}
use Rattle.feature_model.specs.Mapping.{KeptValue}
use Rattle.feature_model.specs.Choice.{Kept}
use Rattle.map_model.specs.Members.{is_poi}
use Rattle.map_model.specs.TagLists.{TagLists, tag_key, tag_at}
use Rattle.map_model.specs.Intervals.{raised_zoom, zooms}
use Rattle.map_model.specs.Bitmap.{sub_tile_bits}
use Rattle.map_model.specs.Layout.{PoiFields, WayFields, Level}
use Rattle.map_model.specs.TileBytes.{poi_fields, way_fields, tile_corner}

-- A shown tag: the header's text, or its key and a value of the feature.
pub data ShownTag : Type 0 where
  plain : List ℕ → ShownTag
  number : List ℕ → ℤ → ShownTag
  text : List ℕ → List ℕ → ShownTag

-- What is seen of a POI: its effective zoom level, and its place in microdegrees.
pub record ListedPoi : Type 0 where
  pub zoom : ℕ
  pub layer : ℤ
  pub place : Place
  pub tags : List ShownTag
  pub name : Option (List ℕ)
  pub house : Option (List ℕ)
  pub height : Option ℤ

-- What is seen of a way: besides, its bitmap, its label and all places of its data blocks.
pub record ListedWay : Type 0 where
  pub zoom : ℕ
  pub layer : ℤ
  pub bits : ℕ
  pub tags : List ShownTag
  pub name : Option (List ℕ)
  pub house : Option (List ℕ)
  pub reference : Option (List ℕ)
  pub label : Option Place
  pub blocks : List Block

-- what is seen of a POI or a way
pub data Listed : Type 0 where
  poi : ListedPoi → Listed
  way : ListedWay → Listed

-- ---- what is shown

-- a tag with what is kept of its value: its text, or its key and the value of the feature
abbrev pub shown_value : List ℕ → KeptValue → ShownTag
shown_value tag KeptValue.plain = ShownTag.plain tag
shown_value tag (KeptValue.byte n) = ShownTag.number (tag_key tag) n
shown_value tag (KeptValue.short n) = ShownTag.number (tag_key tag) n
shown_value tag (KeptValue.int n) = ShownTag.number (tag_key tag) n
shown_value tag (KeptValue.text bytes) = ShownTag.text (tag_key tag) bytes

-- the tags of a feature, by the texts of their ids
abbrev pub shown_tags : List (List ℕ) → List Kept → List ShownTag
shown_tags texts kept = map (λ k. shown_value (tag_at texts k.tag) k.value) kept

-- a POI of this zoom level
abbrev pub shown_poi : List (List ℕ) → ℕ → PoiFields → ListedPoi
shown_poi texts zoom p = record {
  zoom = zoom;
  layer = p.layer;
  place = p.place;
  tags = shown_tags texts p.tags;
  name = p.name;
  house = p.house;
  height = p.height;
}

-- a way of this zoom level
abbrev pub shown_way : List (List ℕ) → ℕ → WayFields → ListedWay
shown_way texts zoom w = record {
  zoom = zoom;
  layer = w.layer;
  bits = w.bits;
  tags = shown_tags texts w.tags;
  name = w.name;
  house = w.house;
  reference = w.reference;
  label = w.label;
  blocks = w.blocks;
}

-- the records of a tile: the POIs by zoom level, then the ways
unfoldable pub shown_levels : TagLists → Interval → List Level → List Listed
shown_levels names interval levels =
    flat_map (λ at. map (λ p. poi (shown_poi names.poi at.0 p)) at.1.pois) (zip (zooms interval) levels)
    ++ flat_map (λ at. map (λ w. way (shown_way names.way at.0 w)) at.1.ways) (zip (zooms interval) levels)

-- a feature as a reader sees it in a tile
unfoldable pub listed : TagLists → TilePlace → Feature → Listed
listed names tile f =
    let zoom = raised_zoom tile.interval f.zoom in
    if is_poi f then poi (shown_poi names.poi zoom (poi_fields f))
    else way (shown_way names.way zoom (way_fields (tile_corner tile) (sub_tile_bits f tile) f))
