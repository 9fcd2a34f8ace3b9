-- What holds of each entity of an accepted input: this project's profile of the OpenStreetMap wiki, "PBF Format".
use Rattle.std.specs.Prelude.{◌≡◌, ◌≤◌, ◌<◌, ◌^◌, true}
use Rattle.std.specs.List.{All}
use Rattle.std.specs.Str.{is_utf8}
use Rattle.mf_base.specs.Tags.{Tag, Tags}
use Rattle.mf_base.specs.Ranges.{is_on_earth, is_signed_64}
use Rattle.osm_model.specs.Entities.{Member, Entity, node, way, relation, id_of}

-- keys and values are UTF-8
abbrev pub AreTexts : Tags → Type 0
AreTexts tags = All (λ (t : Tag). (is_utf8 t.0 ≡ true) × (is_utf8 t.1 ≡ true)) tags

-- A node is on the earth; the refs of a way and the ids of members have signed 64 bits; keys, values and roles are
-- UTF-8.
abbrev pub HasParts : Entity → Type 0
HasParts (node n) = (is_on_earth n.place ≡ true) × AreTexts n.tags
HasParts (way w) = All (λ ref. is_signed_64 ref ≡ true) w.refs × AreTexts w.tags
HasParts (relation r) = All (λ (m : Member). (is_signed_64 m.id ≡ true) × (is_utf8 m.role ≡ true)) r.members
    × AreTexts r.tags

-- The entity has an id in 1 to 2^63 - 1, and parts as above.
pub record IsAccepted (e : Entity) : Type 0 where
  pub least : 1 ≤ id_of e
  pub most : id_of e < 2 ^ 63
  pub parts : HasParts e
