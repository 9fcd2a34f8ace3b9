-- What a record of a desk tells of one object. This project's own.
use Rattle.std.specs.Prelude.{ℕ, ◌+◌, ◌≤◌, nat_eq, pos, Bool, true, false, List, [], ◌∷◌, map, take, drop, slice_get}
use Rattle.std.specs.Prelude.{find, Option, Some, None, option_map, unwrap_or}
use Rattle.std.specs.List.{enumerate_from}
use Rattle.mf_base.specs.Texts.{Text}
use Rattle.mf_base.specs.declared.kept.Kept.{Kept as KeptRead}
use Rattle.mf_base.specs.declared.kept.KeptValue.TheVariants as read
use Rattle.mf_base.specs.declared.kind.EntityKind.{EntityKind}
use Rattle.feature_model.specs.Mapping as model
use Rattle.feature_model.specs.Choice.{Kept}
use Rattle.feature_model.specs.Points.{Point, Part, Geometry, place, line, parts}
use Rattle.feature_model.specs.Descriptions.{Description}
use Rattle.feature_model.specs.Candidates.{Candidate}
use Rattle.mf_rows.specs.Units.{Unit16, point_in, parts_in}
use Rattle.mf_rows.specs.declared.head.Head.{Head}
use Rattle.mf_rows.specs.declared.head.TextSlot.{TextSlot}
use Rattle.mf_rows.specs.declared.head.TextSpan.{TextSpan}
use Rattle.mf_rows.specs.declared.head.TextSlot.TheVariants.{Name, House, Reference, Tag}

-- A record: its head, its texts by their slots, the point of a node, and the parts with their points. Once its rings
-- are joined, the parts of a relation are the rings, and each outer one begins a block.
pub record Record : Type 0 where
  pub head : Head
  pub texts : List (TextSlot × Text)
  pub spot : Option Point
  pub parts : List Part

-- ---- its texts

-- two slots are one
abbrev pub same_slot : TextSlot → TextSlot → Bool
same_slot Name Name = true
same_slot House House = true
same_slot Reference Reference = true
same_slot (Tag i) (Tag j) = nat_eq i j
same_slot _ _ = false

-- the text in a slot
abbrev pub text_in : List (TextSlot × Text) → TextSlot → Option Text
text_in texts slot =
    option_map (λ (t : TextSlot × Text). t.1) (find (λ (t : TextSlot × Text). same_slot t.0 slot) texts)

-- a text lies in a block of so many bytes
abbrev pub LiesIn : ℕ → TextSpan → Type 0
LiesIn size span = span.start + span.len ≤ size

-- the texts that spans name in a block
abbrev pub texts_told : List ℕ → List TextSpan → List (TextSlot × Text)
texts_told block spans = map (λ (s : TextSpan). (s.slot, take s.len (drop s.start block))) spans

-- ---- what it is drawn from, in units

-- the point of a node, where it is there yet
abbrev pub spot_in : EntityKind → List Unit16 → Option Point
spot_in EntityKind.Node units = option_map point_in (slice_get units 0)
spot_in EntityKind.Way units = None
spot_in EntityKind.Relation units = None

-- the parts of a way or a relation, where the units spell some
abbrev pub drawn_parts : EntityKind → List Unit16 → Option (List Part)
drawn_parts EntityKind.Node units = Some []
drawn_parts EntityKind.Way units = parts_in units
drawn_parts EntityKind.Relation units = parts_in units

-- ---- the candidate that it is

-- what is kept of a tag of this place
abbrev pub kept_told : List (TextSlot × Text) → ℕ × KeptRead → Kept
kept_told texts at = record {
  tag = at.1.tag;
  value = elim at.1.value [
    | read.Plain ↦ model.KeptValue.plain
    | read.Byte z ↦ model.KeptValue.byte z
    | read.Short z ↦ model.KeptValue.short z
    | read.Int z ↦ model.KeptValue.int z
    | read.Text len ↦ model.KeptValue.text (unwrap_or (text_in texts (Tag at.0)) [])
  ];
}

-- what head and texts tell
abbrev pub description_told : Head → List (TextSlot × Text) → Description
description_told h texts = record {
  kind = h.kind;
  id = h.id;
  choice = record {
    tags = map (kept_told texts) (enumerate_from 0 h.tags.items);
    zoom = h.zoom;
    layer =
        h.layer;
    water = h.water;
    label = h.label;
    coast = h.coast;
  };
  name = text_in texts Name;
  house = text_in texts House;
  reference = text_in texts Reference;
  height = h.height;
}

-- the place of a node: (0, 0) where it has no point yet
abbrev pub place_told : Option Point → Geometry
place_told None = place (record { lat = pos 0; lon = pos 0 })
place_told (Some p) = place p.place

-- the points of the first part
abbrev pub first_points : List Part → List Point
first_points [] = []
first_points (p ∷ more) = p.points

-- what it is drawn from
abbrev pub geometry_told : EntityKind → Option Point → List Part → Geometry
geometry_told EntityKind.Node spot all = place_told spot
geometry_told EntityKind.Way spot all = line (first_points all)
geometry_told EntityKind.Relation spot all = parts all

-- the candidate that a record is
unfoldable pub candidate_told : Record → Candidate
candidate_told r =
    record { description = description_told r.head r.texts; geometry = geometry_told r.head.kind r.spot r.parts }
