-- What the definitions decide of a run that no device fails.
use Rattle.std.proofs.Common.{◌≡◌, ◌≢◌, ◌∙◌, ℕ, List, [], ◌++◌, Option, Some, None, Result, Ok, Err, refl, sym, ap, subst}
use Rattle.std.proofs.Common.{true, rules, length}
use Rattle.std.proofs.lemmas.List.{append-nil}
use Rattle.map_model.specs.declared.report.Report.{Report}
use Rattle.mf_edge.specs.Device.{SourceState, SinkState, Took, Takes, HasNone, IsAtEnd, Gained, Gains, HasRisen, CountsOne}
use Rattle.mf_edge.proofs.Counting.{risen}
use Rattle.job_words.specs.Settings.{JobSettings}
use Rattle.mf_compile.specs.Gathering.{HasRead, HasReadAll}
use Rattle.mf_compile.specs.Outcomes.{Made, outcome}
use Rattle.mf_compile.specs.Runs.{Moment, answer_for, HasWritten, IsCompiled, TellsCompiled}
use Rattle.mf_compile.specs.declared.fault.Fault.{Fault}
use Rattle.mf_compile.specs.declared.fault.Fault.TheVariants as fault
use Rattle.mf_run.specs.Run.{Seen, Says, RunsJob}
use Rattle.mf_run.specs.Statuses.{status_of, line_for}
use Rattle.mf_run.specs.Decided.{NoneFailed, IsDecided, map_for}
use Rattle.mf_run.specs.declared.status.TheConstants.{WRITTEN}

-- all bytes that were left were taken, where nothing is left
all-taken : (left now : Option (List ℕ)) (all bytes : List ℕ) → left ≡ Some all → Takes left bytes now → HasNone now
    → bytes ≡ all
all-taken None now all bytes e taken none = cc
all-taken (Some whole) None all bytes e taken none = absurd taken
all-taken (Some whole) (Some rest) all bytes e taken none =
    sym (append-nil bytes) ∙ ap (λ r. bytes ++ r) (sym none) ∙ sym taken ∙ some-is whole all e
  where
    some-is : (a b : List ℕ) → Some a ≡ Some b → a ≡ b
    some-is a b h = cc

pub of_all : {Holds : List ℕ → Type 0} {old new : SourceState} (all : List ℕ) → old.left ≡ Some all
    → HasReadAll Holds old new → Holds all
of_all {Holds} {old} {new} all left h =
    subst Holds (all-taken old.left new.left all h.bytes left h.taken h.holds.1) h.holds.0

nothing-gained : (old new : SinkState) → new ≡ old → Gained old [] new
nothing-gained old new same = subst (λ n. Gained old [] n) (sym same) (kept old.taken)
  where
    kept : (taken : Option (List ℕ)) → Gains taken [] taken
    kept None = refl
    kept (Some before) = ap Some (sym (append-nil before))

answer-ok : (o : Result Made Fault) (report : Report) → ◌≡◌ {A = Result Report Fault} (Ok report) (answer_for o) → (made : Made) × (o ≡ Ok made)
answer-ok (Ok made) report e = (made, refl)
answer-ok (Err why) report e = cc

answer-err : (o : Result Made Fault) (why : Fault) → ◌≡◌ {A = Result Report Fault} (Err why) (answer_for o) → map_for o ≡ []
answer-err (Ok made) why e = cc
answer-err (Err other) why e = refl

module _ (job : JobSettings) (all : List ℕ) (old new : Seen) (status : ℕ) (run : RunsJob job old new status)
    (left : old.devices.input.left ≡ Some all) (tells : old.devices.store.tells ≡ true)
    (well : NoneFailed old.devices new.devices) where
  no_read : run.answer ≢ Err fault.Read
  no_read e = well.input (risen _ _ (run.compiled.faults.read e))

  no_write : run.answer ≢ Err fault.Write
  no_write e = well.output (risen _ _ (run.compiled.faults.write e))

  no_spill : run.answer ≢ Err fault.Spill
  no_spill e = well.store (risen _ _ (run.compiled.faults.spill e))

  answer-is : run.answer ≡ answer_for (outcome job all)
  answer-is = run.compiled.exact all left tells no_read no_write no_spill

  -- what was written, by what was answered
  wrote : (answer : Result Report Fault) → answer ≡ run.answer
      → Gained old.devices.output (map_for (outcome job all)) new.devices.output
  wrote (Ok report) e =
      let done = subst (λ a. TellsCompiled job old.devices a new.devices) (sym e) (run.compiled.told tells) in
      let is = of_all all left done.input in
      subst (λ o. Gained old.devices.output (map_for o) new.devices.output) (sym is) done.written
  wrote (Err why) e =
      subst (λ m. Gained old.devices.output m new.devices.output)
      (sym (answer-err (outcome job all) why (e ∙ answer-is)))
      (nothing-gained old.devices.output new.devices.output
      (run.compiled.untouched why (sym e) (λ is. no_write (sym e ∙ ap Err is)) (λ is. no_spill (sym e ∙ ap Err is))))

  -- success comes of a map alone
  read-all : (answer : Result Report Fault) → answer ≡ run.answer → status_of answer ≡ WRITTEN
      → IsAtEnd new.devices.input
  read-all (Ok report) e is =
      let done = subst (λ a. TellsCompiled job old.devices a new.devices) (sym e) (run.compiled.told tells) in
      done.input.holds.1
  read-all (Err (fault.Input why)) e is = cc
  read-all (Err (fault.Limit why)) e is = cc
  read-all (Err fault.NoBox) e is = cc
  read-all (Err fault.Read) e is = cc
  read-all (Err fault.Write) e is = cc
  read-all (Err fault.Spill) e is = cc

  pub decided : IsDecided job all old new status
  decided = record {
    told = run.told ∙ ap status_of answer-is;
    said = subst (λ a. Says old.say (line_for a) new.say) answer-is run.said;
    written = wrote run.answer refl;
    read = λ is. read-all run.answer refl (sym run.told ∙ is);
  }
