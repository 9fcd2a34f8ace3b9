-- What a job comes to, by its box, its limit and its map.
use Rattle.std.proofs.Common.{◌≡◌, ◌∙◌, ◌+◌, ℕ, List, Option, Some, None, Result, Ok, Err, refl, sym, ap}
use Rattle.std.specs.Prelude.{option_map}
use Rattle.mf_base.specs.declared.place.Rect.{Rect}
use Rattle.mf_base.specs.Steps.{◌>>=◌, refuse}
use Rattle.osm_model.specs.Input.{input_entities}
use Rattle.feature_model.specs.declared.fault.LimitFault.{LimitFault}
use Rattle.map_model.specs.MapFile.{map_file, limit_fault, job_size, report}
use Rattle.job_words.specs.Settings.{JobSettings}
use Rattle.mf_compile.specs.declared.fault.Fault.{Fault}
use Rattle.mf_compile.specs.declared.fault.Fault.TheVariants as fault
use Rattle.mf_compile.specs.Outcomes.{Made, job_box, job_map, job_report, job_limit, made, outcome, size_of_job, extent_of}
use Rattle.mf_compile.specs.Outcomes.{extent}

-- by the box and by what passes its limit
abbrev by_limit : JobSettings → List ℕ → Rect → Option LimitFault → Result Made Fault
by_limit job bytes box over = refuse (option_map fault.Limit over) >>= λ _. Ok (made job bytes box)

abbrev by_box : JobSettings → List ℕ → Result Rect Fault → Result Made Fault
by_box job bytes found = found >>= λ box. by_limit job bytes box (job_limit job box bytes)

outcome-is : (job : JobSettings) (bytes : List ℕ) → outcome job bytes ≡ by_box job bytes (job_box job bytes)
unfolding outcome
outcome-is job bytes = refl

limit-is : (job : JobSettings) (box : Rect) (bytes : List ℕ)
    → limit_fault job.rows job.head job.mapping box (input_entities bytes) ≡ job_limit job box bytes
unfolding job_limit
limit-is job box bytes = refl

-- what is made, as map and report of the objects
pub made-is : (job : JobSettings) (bytes : List ℕ) (box : Rect)
    → record {
      map = map_file job.head job.mapping box (input_entities bytes);
      report = report job.head job.mapping box (input_entities bytes);
    } ≡ made job bytes box
unfolding job_map job_report
made-is job bytes box = refl

module _ (job : JobSettings) (bytes : List ℕ) where
  pub outcome-refused : (why : Fault) → job_box job bytes ≡ Err why → outcome job bytes ≡ Err why
  outcome-refused why e = outcome-is job bytes ∙ ap (by_box job bytes) e

  with_box : (box : Rect) (over : Option LimitFault) → job_box job bytes ≡ Ok box
      → limit_fault job.rows job.head job.mapping box (input_entities bytes) ≡ over
      → outcome job bytes ≡ by_limit job bytes box over
  with_box box over e limit =
      outcome-is job bytes ∙ ap (by_box job bytes) e
      ∙ ap (by_limit job bytes box) (sym (limit-is job box bytes) ∙ limit)

  pub outcome-limit : (box : Rect) (f : LimitFault) → job_box job bytes ≡ Ok box
      → limit_fault job.rows job.head job.mapping box (input_entities bytes) ≡ Some f
      → outcome job bytes ≡ Err (fault.Limit f)
  outcome-limit box f e limit = with_box box (Some f) e limit

  pub outcome-made : (box : Rect) → job_box job bytes ≡ Ok box
      → limit_fault job.rows job.head job.mapping box (input_entities bytes) ≡ None
      → outcome job bytes ≡ Ok (made job bytes box)
  outcome-made box e limit = with_box box None e limit

  -- the size of a job with a box is that of the definitions, and one more bounds its work
  pub extent-is : (box : Rect) → job_box job bytes ≡ Ok box
      → extent job bytes ≡ job_size job.head job.mapping box (input_entities bytes) + 1
  unfolding extent size_of_job
  extent-is box e = ap (extent_of (λ (b : Rect). job_size job.head job.mapping b (input_entities bytes))) e
