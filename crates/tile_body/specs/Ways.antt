-- A way that is written from a record: Mapsforge Specification, Binary Map File Format, version 5, on ways.
use Rattle.std.specs.Prelude.{◌≡◌, ◌≢◌, ℕ, ◌+◌, ◌^◌, ◌≤◌, nat_lt, if◌then◌else◌, List, [], ◌∷◌, ◌++◌, length}
use Rattle.std.specs.Prelude.{Option, option_map, is_some, IfSome}
use Rattle.mf_base.specs.Spelling.{vbe_unsigned, string, big_endian}
use Rattle.mf_base.specs.declared.place.Place.{Place}
use Rattle.mf_base.specs.declared.kind.EntityKind.{EntityKind}
use Rattle.mf_base.specs.declared.tile.TilePlace.{TilePlace}
use Rattle.feature_model.specs.Points.{Point}
use Rattle.feature_model.specs.Features.{Feature}
use Rattle.map_model.specs.Rectangles.{blocks_of_shape}
use Rattle.map_model.specs.Bitmap.{sub_tile_bits}
use Rattle.map_model.specs.Labels.{label_place}
use Rattle.map_model.specs.Layout.{WayFields, step, step_bytes, first_of_blocks, optional, flag, tag_bytes}
use Rattle.map_model.specs.Layout.{way_body_bytes}
use Rattle.map_model.specs.Room.{rows_limit}
use Rattle.map_model.specs.TileBytes.{tile_corner, is_double, way_fields, way_bytes}
use Rattle.mf_rows.specs.Records.{Record, text_in}
use Rattle.mf_rows.specs.RecordUnits.{unit_count}
use Rattle.mf_rows.specs.Shapes.{feature_told}
use Rattle.way_delta.specs.Steps.{shown, IsStepBelow}
use Rattle.way_delta.specs.Rings.{blocks_told, blocks_bytes}
use Rattle.mf_rows.specs.declared.head.TextSlot.TheVariants.{Name, House, Reference}
use Rattle.tile_body.specs.Members.{IsTile, IsMember}
use Rattle.tile_body.specs.Tags.{tags_told}
use Rattle.tile_body.specs.declared.way.Drawn.{Drawn}

-- a record is that of a way or a relation, may be a member of this tile, and has at most as many units as a desk
pub record IsWayIn (tile : TilePlace) (r : Record) : Type 0 where
  pub place : IsTile tile
  pub way : r.head.kind ≢ EntityKind.Node
  pub member : IsMember r
  pub light : unit_count r ≤ rows_limit

-- what is written of a record in a tile
abbrev pub fields_told : TilePlace → Record → WayFields
fields_told tile r = way_fields (tile_corner tile) (sub_tile_bits (feature_told r) tile) (feature_told r)

-- the bytes of a way
unfoldable pub way_told : TilePlace → Record → List ℕ
way_told tile r = way_bytes (tile_corner tile) (sub_tile_bits (feature_told r) tile) (feature_told r)

-- those behind its data size
unfoldable pub body_told : TilePlace → Record → List ℕ
body_told tile r = way_body_bytes (tile_corner tile) (fields_told tile r)

-- how far the label is from the first place of the first ring
abbrev pub label_step : Feature → Option Place
label_step f = option_map (step (first_of_blocks (blocks_of_shape f.shape))) (label_place f)

-- the last of some points' places, or this one where there are none
abbrev pub last_from : Place → List Point → Place
last_from last [] = last
last_from last (p ∷ points) = last_from p.place points

-- the number of data blocks, where there are several
abbrev pub block_count_bytes : ℕ → List ℕ
block_count_bytes blocks = if nat_lt 1 blocks then vbe_unsigned blocks else []

-- the flags of a way of which this is told
abbrev pub flags_of : Record → Drawn → ℕ
flags_of r d = flag (is_some (text_in r.texts Name)) 0x80 + flag (is_some (text_in r.texts House)) 0x40
    + flag (is_some (text_in r.texts Reference)) 0x20 + flag (is_some d.label) 0x10 + flag (nat_lt 1 d.blocks) 0x08
    + flag d.double 0x04

-- the bytes behind the data size of a way of which this is told
unfoldable pub body_of : Record → Drawn → List ℕ
body_of r d =
    big_endian 2 d.bits ++ tag_bytes r.head.layer (tags_told r) ++ flags_of r d ∷ optional string (text_in r.texts Name)
    ++ optional string (text_in r.texts House) ++ optional string (text_in r.texts Reference)
    ++ optional step_bytes (option_map shown d.label) ++ block_count_bytes d.blocks
    ++ blocks_bytes d.corner d.double (blocks_told r)

-- What is told of a way has the numbers of its data blocks: how many they are, and how many bytes they take. A label is
-- no farther than 32 bits reach.
pub record IsSized (r : Record) (d : Drawn) : Type 0 where
  pub small : IfSome d.label (IsStepBelow (2 ^ 33))
  pub blocks : d.blocks ≡ length (blocks_told r)
  pub size : d.size ≡ length (blocks_bytes d.corner d.double (blocks_told r))

-- This is told of a way in a tile, beside its head and texts: the tile's corner, its bits, its label, the delta kind,
-- and the numbers of its data blocks.
pub record IsDrawn (tile : TilePlace) (r : Record) (d : Drawn) : Type 0 where
  pub corner : d.corner ≡ tile_corner tile
  pub bits : d.bits ≡ sub_tile_bits (feature_told r) tile
  pub label : option_map shown d.label ≡ label_step (feature_told r)
  pub double : d.double ≡ is_double (tile_corner tile) (feature_told r)
  pub sized : IsSized r d
