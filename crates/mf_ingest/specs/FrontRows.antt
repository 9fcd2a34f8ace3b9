-- The units of a head and its texts as rows. This project's own.
use Rattle.std.specs.Prelude.{List, map}
use Rattle.std.specs.List.{enumerate_from}
use Rattle.mf_rows.specs.Heads.{kind_number}
use Rattle.mf_rows.specs.Records.{Record, texts_told}
use Rattle.mf_rows.specs.FirstUnits.{front_record, front_units}
use Rattle.mf_rows.specs.declared.kinds.FeatureRow.{FeatureRow}
use Rattle.spill_parts.specs.Handed.{feature_row_of}
use Rattle.mf_ingest.specs.declared.front.Described.{Described}

-- the record of a head and its texts
abbrev pub front_of : Described → Record
front_of d = front_record d.head (texts_told d.texts.block.now d.texts.spans.items)

-- the units of a head and its texts as rows, by their places
abbrev pub front_rows : Described → List FeatureRow
front_rows d = map (feature_row_of (kind_number d.head.kind) d.head.id) (enumerate_from 0 (front_units (front_of d)))
