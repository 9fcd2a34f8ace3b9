-- The rows of what is left of an entity. This project's own.
use Rattle.std.specs.Prelude.{ℕ, ℤ, List, filter_map, drop}
use Rattle.std.specs.List.{enumerate_from}
use Rattle.osm_model.specs.Entities.{Member}
use Rattle.mf_rows.specs.declared.kinds.RefRow.{RefRow}
use Rattle.mf_rows.specs.declared.kinds.MemberRow.{MemberRow}
use Rattle.mf_rows.specs.declared.kinds.FeatureRow.{FeatureRow}
use Rattle.spill_parts.specs.Handed.{ref_row_of, member_row_of}
use Rattle.mf_ingest.specs.declared.front.Described.{Described}
use Rattle.mf_ingest.specs.FrontRows.{front_rows}

-- the rows of the refs of a way from this place on
abbrev pub refs_from : (way_id place : ℕ) → List ℤ → List RefRow
refs_from way_id place refs = filter_map (ref_row_of way_id) (enumerate_from place refs)

-- the rows of the members of a relation from this place on
abbrev pub members_from : (relation_id place : ℕ) → List Member → List MemberRow
members_from relation_id place members = filter_map (member_row_of relation_id) (enumerate_from place members)

-- the rows of the units of a head and its texts from this place on
abbrev pub units_from : ℕ → Described → List FeatureRow
units_from place d = drop place (front_rows d)
