-- What a job comes to over the bytes of an input. This project's own.
use Rattle.std.specs.Prelude.{ℕ, ◌+◌, List, Option, option_map, ok_or, Result, Ok, Err}
use Rattle.mf_base.specs.declared.place.Rect.{Rect}
use Rattle.mf_base.specs.Steps.{◌>>=◌, refuse}
use Rattle.osm_model.specs.Input.{input_fault, input_entities, known_box}
use Rattle.feature_model.specs.declared.fault.LimitFault.{LimitFault}
use Rattle.map_model.specs.MapFile.{map_file, limit_fault, job_size, report}
use Rattle.map_model.specs.declared.report.Report.{Report}
use Rattle.job_words.specs.Settings.{JobSettings}
use Rattle.mf_compile.specs.declared.fault.Fault.{Fault}
use Rattle.mf_compile.specs.declared.fault.Fault.TheVariants as fault

-- The box of the words, or else that of the input; or the first fault of the input, or that no box is known.
unfoldable pub job_box : JobSettings → List ℕ → Result Rect Fault
job_box job bytes = do
  accepted ← refuse (option_map fault.Input (input_fault bytes))
  ok_or (known_box job.bounds bytes) fault.NoBox

-- the map of the objects in these bytes
unfoldable pub job_map : JobSettings → Rect → List ℕ → List ℕ
job_map job box bytes = map_file job.head job.mapping box (input_entities bytes)

-- its report
unfoldable pub job_report : JobSettings → Rect → List ℕ → Report
job_report job box bytes = report job.head job.mapping box (input_entities bytes)

-- the first of the candidates, tiles and sub-files that passes its limit
unfoldable pub job_limit : JobSettings → Rect → List ℕ → Option LimitFault
job_limit job box bytes = limit_fault job.rows job.head job.mapping box (input_entities bytes)

-- what is made of an input: a map, and its report
pub record Made : Type 0 where
  pub map : List ℕ
  pub report : Report

-- what is made with this box
abbrev pub made : JobSettings → List ℕ → Rect → Made
made job bytes box = record { map = job_map job box bytes; report = job_report job box bytes }

-- What a job comes to: the map and the report; or the first fault of the input, or that no box is known, or what passes
-- its limit. It depends on no number of workers, and on the row limit only for what passes it.
unfoldable pub outcome : JobSettings → List ℕ → Result Made Fault
outcome job bytes = do
  box ← job_box job bytes
  within ← refuse (option_map fault.Limit (job_limit job box bytes))
  Ok (made job bytes box)

-- the size of a job with this box
unfoldable pub size_of_job : JobSettings → Rect → List ℕ → ℕ
size_of_job job box bytes = job_size job.head job.mapping box (input_entities bytes)

-- one more than the size with a box, where there is one
abbrev pub extent_of : (Rect → ℕ) → Result Rect Fault → ℕ
extent_of size (Ok box) = size box + 1
extent_of size (Err why) = 0

-- What bounds the work over the store: one more than the size of the job, where the input is accepted and a box is
-- known, and else 0.
unfoldable pub extent : JobSettings → List ℕ → ℕ
extent job bytes = extent_of (λ box. size_of_job job box bytes) (job_box job bytes)
