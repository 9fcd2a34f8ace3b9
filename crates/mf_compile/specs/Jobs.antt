-- What a job can be, and for how much it has room. This project's own.
use Rattle.std.specs.Prelude.{◌≡◌, ℕ, ◌+◌, List, [], map, replicate, sum_by}
use Rattle.mf_base.specs.Buffer.{Buffer}
use Rattle.map_model.specs.Header.{header_size}
use Rattle.map_model.specs.TagLists.{tag_lists}
use Rattle.osm_model.specs.declared.limits.TheConstants.{BLOB_LIMIT}
use Rattle.mf_rows.specs.Desks.{used}
use Rattle.mf_rows.specs.declared.desk.Desk.{Desk}
use Rattle.spill_parts.specs.Parts.{PageBytes}
use Rattle.feature_model.specs.Entries.{IsMapping}
use Rattle.job_words.specs.Settings.{JobSettings, IsJob}

-- What a job can be so far: what words say, with a mapping without entries for ways.
pub record IsReady (job : JobSettings) : Type 0 where
  pub said : IsJob job
  pub mapping_is : IsMapping job.mapping
  pub no_ways : job.mapping.way ≡ []

-- ---- rooms

-- for how many rows each desk has room
abbrev pub desk_rooms : List Desk → List ℕ
desk_rooms desks = map (λ (d : Desk). d.records.capacity) desks

-- As many desks as there are workers and a page, each with room for so many rows.
pub record HaveRooms (workers rows : ℕ) (desks : List Desk) (page : PageBytes) : Type 0 where
  pub desks_have : desk_rooms desks ≡ replicate workers rows
  pub page_has : page.room ≡ rows

-- What a job has room for: rows, the longest blob, and its header.
pub record HasRooms (job : JobSettings) (desks : List Desk) (page : PageBytes) (block head : Buffer) : Type 0 where
  pub rows_have : HaveRooms job.workers job.rows desks page
  pub block_has : block.capacity ≡ BLOB_LIMIT
  pub head_has : head.capacity ≡ header_size job.head (tag_lists job.mapping)

-- the rows in use in desks: the units of their records, and the loose ones
abbrev pub rows_in_use : List Desk → ℕ
rows_in_use desks = sum_by (λ (d : Desk). used d.records) desks

-- The rows that are resident: those in use in desks, and all for which a page has room.
abbrev pub resident_rows : List Desk → PageBytes → ℕ
resident_rows desks page = rows_in_use desks + page.room
