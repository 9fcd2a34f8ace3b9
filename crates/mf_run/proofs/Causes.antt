-- The answers that have a status, and what is promised of them.
use Rattle.std.proofs.Common.{◌≡◌, ◌≢◌, ◌∙◌, ◌⊎◌, ℕ, List, Result, Ok, Err, refl, sym, ap, subst, inl, inr, true}
use Rattle.osm_model.specs.declared.faults.InputFault.{InputFault}
use Rattle.feature_model.specs.declared.fault.LimitFault.{LimitFault}
use Rattle.map_model.specs.declared.report.Report.{Report}
use Rattle.mf_edge.specs.Device.{CountsOne}
use Rattle.mf_edge.proofs.Counting.{risen}
use Rattle.job_words.specs.Settings.{JobSettings}
use Rattle.mf_compile.specs.Runs.{IsCompiled}
use Rattle.mf_compile.specs.declared.fault.Fault.{Fault}
use Rattle.mf_compile.specs.declared.fault.Fault.TheVariants as fault
use Rattle.mf_run.specs.Run.{Seen, Says, RunsJob}
use Rattle.mf_run.specs.Statuses.{status_of, line_for}
use Rattle.mf_run.specs.Decided.{NoneFailed}
use Rattle.mf_run.specs.declared.status.TheConstants.{WRITTEN, INPUT, LIMIT, READ, WRITE, SPILL, NO_BOX}

-- ---- the answer of a status

written-is : (a : Result Report Fault) → status_of a ≡ WRITTEN → (report : Report) × (a ≡ Ok report)
written-is (Ok report) e = (report, refl)
written-is (Err (fault.Input why)) e = cc
written-is (Err (fault.Limit why)) e = cc
written-is (Err fault.NoBox) e = cc
written-is (Err fault.Read) e = cc
written-is (Err fault.Write) e = cc
written-is (Err fault.Spill) e = cc

input-is : (a : Result Report Fault) → status_of a ≡ INPUT → (why : InputFault) × (a ≡ Err (fault.Input why))
input-is (Ok report) e = cc
input-is (Err (fault.Input why)) e = (why, refl)
input-is (Err (fault.Limit why)) e = cc
input-is (Err fault.NoBox) e = cc
input-is (Err fault.Read) e = cc
input-is (Err fault.Write) e = cc
input-is (Err fault.Spill) e = cc

limit-is : (a : Result Report Fault) → status_of a ≡ LIMIT → (why : LimitFault) × (a ≡ Err (fault.Limit why))
limit-is (Ok report) e = cc
limit-is (Err (fault.Input why)) e = cc
limit-is (Err (fault.Limit why)) e = (why, refl)
limit-is (Err fault.NoBox) e = cc
limit-is (Err fault.Read) e = cc
limit-is (Err fault.Write) e = cc
limit-is (Err fault.Spill) e = cc

no_box-is : (a : Result Report Fault) → status_of a ≡ NO_BOX → a ≡ Err fault.NoBox
no_box-is (Ok report) e = cc
no_box-is (Err (fault.Input why)) e = cc
no_box-is (Err (fault.Limit why)) e = cc
no_box-is (Err fault.NoBox) e = refl
no_box-is (Err fault.Read) e = cc
no_box-is (Err fault.Write) e = cc
no_box-is (Err fault.Spill) e = cc

read-is : (a : Result Report Fault) → status_of a ≡ READ → a ≡ Err fault.Read
read-is (Ok report) e = cc
read-is (Err (fault.Input why)) e = cc
read-is (Err (fault.Limit why)) e = cc
read-is (Err fault.NoBox) e = cc
read-is (Err fault.Read) e = refl
read-is (Err fault.Write) e = cc
read-is (Err fault.Spill) e = cc

write-is : (a : Result Report Fault) → status_of a ≡ WRITE → a ≡ Err fault.Write
write-is (Ok report) e = cc
write-is (Err (fault.Input why)) e = cc
write-is (Err (fault.Limit why)) e = cc
write-is (Err fault.NoBox) e = cc
write-is (Err fault.Read) e = cc
write-is (Err fault.Write) e = refl
write-is (Err fault.Spill) e = cc

spill-is : (a : Result Report Fault) → status_of a ≡ SPILL → a ≡ Err fault.Spill
spill-is (Ok report) e = cc
spill-is (Err (fault.Input why)) e = cc
spill-is (Err (fault.Limit why)) e = cc
spill-is (Err fault.NoBox) e = cc
spill-is (Err fault.Read) e = cc
spill-is (Err fault.Write) e = cc
spill-is (Err fault.Spill) e = refl

-- ---- what is promised of it

-- What a compilation promises of an answer, and what was said of it.
pub record Answered (job : JobSettings) (old new : Seen) (answer : Result Report Fault) : Type 0 where
  pub compiled : IsCompiled job old.devices new.devices answer
  pub said : Says old.say (line_for answer) new.say

untouched-of : (job : JobSettings) (old new : Seen) (status : ℕ) (a : Result Report Fault) → status ≡ status_of a → IsCompiled job old.devices new.devices a
    → status ≢ WRITTEN → status ≢ WRITE → status ≢ SPILL → new.devices.output ≡ old.devices.output
untouched-of job old new status (Ok report) told is no_map no_write no_spill = absurd (no_map told)
untouched-of job old new status (Err why) told is no_map no_write no_spill = is.untouched why refl
    (λ e. no_write (told ∙ ap (λ w. status_of (Err w)) e)) (λ e. no_spill (told ∙ ap (λ w. status_of (Err w)) e))

complete-of : (job : JobSettings) (old new : Seen) (status : ℕ) (a : Result Report Fault) → status ≡ status_of a → IsCompiled job old.devices new.devices a
    → NoneFailed old.devices new.devices
    → (status ≡ WRITTEN) ⊎ (status ≡ INPUT) ⊎ (status ≡ NO_BOX) ⊎ (status ≡ LIMIT)
complete-of job old new status (Ok report) told is well = inl told
complete-of job old new status (Err (fault.Input why)) told is well = inr (inl told)
complete-of job old new status (Err fault.NoBox) told is well = inr (inr (inl told))
complete-of job old new status (Err (fault.Limit why)) told is well = inr (inr (inr told))
complete-of job old new status (Err fault.Read) told is well = absurd (well.input (risen _ _ (is.faults.read refl)))
complete-of job old new status (Err fault.Write) told is well = absurd (well.output (risen _ _ (is.faults.write refl)))
complete-of job old new status (Err fault.Spill) told is well = absurd (well.store (risen _ _ (is.faults.spill refl)))

module _ {job : JobSettings} {old new : Seen} where
  answered : {status : ℕ} (run : RunsJob job old new status) → Answered job old new run.answer
  answered run = record { compiled = run.compiled; said = run.said }

  pub written-answered : RunsJob job old new WRITTEN → (report : Report) × Answered job old new (Ok report)
  written-answered run = let is = written-is run.answer (sym run.told) in
      (is.0, subst (Answered job old new) is.1 (answered run))

  pub input-answered : RunsJob job old new INPUT → (why : InputFault) × Answered job old new (Err (fault.Input why))
  input-answered run = let is = input-is run.answer (sym run.told) in
      (is.0, subst (Answered job old new) is.1 (answered run))

  pub limit-answered : RunsJob job old new LIMIT → (why : LimitFault) × Answered job old new (Err (fault.Limit why))
  limit-answered run = let is = limit-is run.answer (sym run.told) in
      (is.0, subst (Answered job old new) is.1 (answered run))

  pub no_box-answered : RunsJob job old new NO_BOX → Answered job old new (Err fault.NoBox)
  no_box-answered run = subst (Answered job old new) (no_box-is run.answer (sym run.told)) (answered run)

  pub read-answered : RunsJob job old new READ → Answered job old new (Err fault.Read)
  read-answered run = subst (Answered job old new) (read-is run.answer (sym run.told)) (answered run)

  pub write-answered : RunsJob job old new WRITE → Answered job old new (Err fault.Write)
  write-answered run = subst (Answered job old new) (write-is run.answer (sym run.told)) (answered run)

  pub spill-answered : RunsJob job old new SPILL → Answered job old new (Err fault.Spill)
  spill-answered run = subst (Answered job old new) (spill-is run.answer (sym run.told)) (answered run)

  pub untouched-run : (status : ℕ) → RunsJob job old new status → status ≢ WRITTEN → status ≢ WRITE → status ≢ SPILL
      → new.devices.output ≡ old.devices.output
  untouched-run status run no_map no_write no_spill =
      untouched-of job old new status run.answer run.told run.compiled no_map no_write no_spill

  pub complete-run : (status : ℕ) → RunsJob job old new status → NoneFailed old.devices new.devices
      → (status ≡ WRITTEN) ⊎ (status ≡ INPUT) ⊎ (status ≡ NO_BOX) ⊎ (status ≡ LIMIT)
  complete-run status run well = complete-of job old new status run.answer run.told run.compiled well
