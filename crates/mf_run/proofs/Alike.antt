-- What is the same for every row limit that suffices.
use Rattle.std.proofs.Common.{◌≡◌, ◌∙◌, ◌≤◌, ℕ, List, Option, Some, None, Result, Ok, Err, refl, sym, ap, subst}
use Rattle.mf_base.specs.declared.place.Rect.{Rect}
use Rattle.osm_model.specs.Input.{input_entities}
use Rattle.feature_model.specs.Features.{features}
use Rattle.feature_model.specs.Mapping.{Mapping}
use Rattle.feature_model.specs.declared.fault.LimitFault.{LimitFault}
use Rattle.map_model.specs.Header.{HeadSettings}
use Rattle.map_model.specs.MapFile.{limit_fault, sub_file_limit_fault, sub_file_sizes, map_file, report}
use Rattle.job_words.specs.Settings.{JobSettings}
use Rattle.mf_compile.specs.Outcomes.{Made, job_box, job_map, job_report, made, outcome}
use Rattle.mf_compile.specs.declared.fault.Fault.{Fault}
use Rattle.mf_compile.specs.declared.fault.Fault.TheVariants as fault
use Rattle.mf_compile.proofs.Outcomes.{made-is, outcome-refused, outcome-limit, outcome-made}
use Rattle.mf_compile.proofs.Sufficient.{limit-sufficient}
use Rattle.mf_run.specs.Decided.{AskSame, Suffices}

-- what passes a limit that suffices: a sub-file
abbrev sub_file_fault : HeadSettings → Mapping → Rect → List ℕ → Option LimitFault
sub_file_fault head mapping box bytes =
    sub_file_limit_fault (sub_file_sizes head box (features mapping (input_entities bytes)))

box-same : (job other : JobSettings) (bytes : List ℕ) → other.bounds ≡ job.bounds
    → job_box other bytes ≡ job_box job bytes
unfolding job_box
box-same job other bytes same = rw same refl

made-same : (job other : JobSettings) (bytes : List ℕ) (box : Rect) → AskSame job other
    → made other bytes box ≡ made job bytes box
made-same job other bytes box same =
    sym (made-is other bytes box)
    ∙ ap (λ (s : HeadSettings × Mapping). record {
      map = map_file s.0 s.1 box (input_entities bytes);
      report = report s.0 s.1 box (input_entities bytes);
    }) (pair other.head job.head other.mapping job.mapping same.head same.mapping)
    ∙ made-is job bytes box
  where
    pair : (a b : HeadSettings) (m n : Mapping) → a ≡ b → m ≡ n → ◌≡◌ {A = HeadSettings × Mapping} (a, m) (b, n)
    pair a b m n e f = cc

module _ (job other : JobSettings) (all : List ℕ) (same : AskSame job other) (fits : Suffices job all)
    (fits_too : Suffices other all) where
  same-sub_files : (box : Rect) → sub_file_fault other.head other.mapping box all ≡ sub_file_fault job.head job.mapping box all
  same-sub_files box = ap (λ h. sub_file_fault h other.mapping box all) same.head
      ∙ ap (λ m. sub_file_fault job.head m box all) same.mapping

  by-limit : (box : Rect) (over : Option LimitFault) → job_box job all ≡ Ok box → job_box other all ≡ Ok box
      → limit_fault job.rows job.head job.mapping box (input_entities all) ≡ over
      → limit_fault other.rows other.head other.mapping box (input_entities all) ≡ over
      → outcome other all ≡ outcome job all
  by-limit box (Some f) boxed boxed_too limit limit_too =
      outcome-limit other all box f boxed_too limit_too ∙ sym (outcome-limit job all box f boxed limit)
  by-limit box None boxed boxed_too limit limit_too =
      outcome-made other all box boxed_too limit_too ∙ ap Ok (made-same job other all box same)
      ∙ sym (outcome-made job all box boxed limit)

  by-box : (found : Result Rect Fault) → job_box job all ≡ found → job_box other all ≡ found
      → outcome other all ≡ outcome job all
  by-box (Err why) e e_too = outcome-refused other all why e_too ∙ sym (outcome-refused job all why e)
  by-box (Ok box) e e_too =
      let limit = limit-sufficient job.rows job.head job.mapping box (input_entities all) (fits box e) in
      let limit_too = limit-sufficient other.rows other.head other.mapping box (input_entities all) (fits_too box e_too) in
      by-limit box (sub_file_fault job.head job.mapping box all) e e_too limit (limit_too ∙ same-sub_files box)

  pub alike : outcome other all ≡ outcome job all
  alike = by-box (job_box job all) refl (box-same job other all same.bounds)
