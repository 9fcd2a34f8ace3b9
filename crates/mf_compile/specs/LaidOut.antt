-- What is laid out of the entities of an input. This project's own.
use Rattle.std.specs.Prelude.{◌≡◌, ◌+◌, ◌*◌, ◌≤◌, List, length, None}
use Rattle.mf_base.specs.declared.place.Rect.{Rect}
use Rattle.osm_model.specs.Entities.{Entity}
use Rattle.feature_model.specs.Features.{features}
use Rattle.map_model.specs.MapFile as model
use Rattle.map_model.specs.MapFile.{limit_fault, all_contents, job_size}
use Rattle.map_model.specs.declared.report.Report.{Report}
use Rattle.mf_edge.specs.Spill.{SpillState}
use Rattle.mf_layout.specs.SubFiles.{HoldTiles}
use Rattle.mf_layout.specs.declared.sub_files.SubFiles.{SubFiles}
use Rattle.job_words.specs.Settings.{JobSettings}

-- Nothing passes its limit, the parts hold the sub-files of these entities, and their report is told. To write them no
-- more bytes are read than 42 for each unit of the job's size.
pub record IsLaidOut (job : JobSettings) (box : Rect) (entities : List Entity) (subs : SubFiles) (told : Report)
    (s : SpillState) : Type 0 where
  pub no_limit : limit_fault job.rows job.head job.mapping box entities ≡ None
  pub holds : HoldTiles (all_contents job.head box (features job.mapping entities)) subs s
  pub report_is : told ≡ model.report job.head job.mapping box entities
  pub few : 18 * length subs.index.rows + subs.tiles.size ≤ 42 * job_size job.head job.mapping box entities
