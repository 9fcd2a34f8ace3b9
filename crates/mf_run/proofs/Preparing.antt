-- What is prepared of what was read, and for right words with a right mapping.
use Rattle.std.proofs.Common.{◌≡◌, ◌≢◌, ◌∙◌, ◌↔◌, ℕ, List, Option, Some, None, Result, Ok, Err, refl, sym, ap, subst, inl, inr, ◌⊎◌}
use Rattle.mf_base.specs.Texts.{Text}
use Rattle.mf_base.specs.Steps.{◌>>=◌}
use Rattle.mf_edge.specs.Device.{HasRisen}
use Rattle.mf_edge.specs.Shelves.{ShelfState}
use Rattle.mf_edge.proofs.Counting.{risen}
use Rattle.feature_model.specs.declared.fault.MappingFault.TheVariants as mapping_fault
use Rattle.job_words.specs.Reading.{MayHold, IsToldBy, LeavesShelf}
use Rattle.job_words.specs.Settings.{JobSettings, JobAsked, job_of, usage_or}
use Rattle.job_words.specs.Shown.{asked_of, told_by}
use Rattle.job_words.specs.Usage.{usage, value_of}
use Rattle.job_words.specs.declared.job.JobWords.{JobWords}
use Rattle.job_words.specs.declared.refusal.Refusal.{Refusal}
use Rattle.job_words.specs.declared.refusal.Refusal.TheVariants as refusal
use Rattle.job_words.specs.declared.usage_word.UsageWord.{UsageWord}
use Rattle.job_words.specs.declared.usage_word.UsageWord.TheVariants as option
use Rattle.mf_run.specs.Prepared.{IsPrepared, told_of, job_or}
use Rattle.mf_run.specs.declared.prepare.Prepared.{Prepared}
use Rattle.mf_run.specs.declared.prepare.Prepared.TheVariants.{Ready, NotBuilt, Refused}

none-wrong : (wrong : Option UsageWord) (rest : Result JobAsked Refusal) (asked : JobAsked)
    → usage_or wrong rest ≡ Ok asked → wrong ≡ None
none-wrong None rest asked e = refl
none-wrong (Some _) rest asked e = cc

words-right : (words : List Text) (file : List ℕ) (now : ℕ) (asked : JobAsked) → job_of words file now ≡ Ok asked
    → usage words ≡ None
unfolding job_of
words-right words file now asked e = none-wrong (usage words) _ asked e

refused-is : (p : Prepared) (why : Refusal) → told_of p ≡ Err why → p ≡ Refused why
refused-is (Ready job) why e = cc
refused-is NotBuilt why e = cc
refused-is (Refused other) why e = cc

held-is : (file : Option (List ℕ)) (all bytes : List ℕ) → file ≡ Some all → MayHold file bytes → bytes ≡ all
held-is None all bytes e held = cc
held-is (Some whole) all bytes e held = cc

pub prepared-right : (words : List Text) (now : ℕ) (old new : ShelfState) (p : Prepared) (file : List ℕ) (asked : JobAsked)
    → IsPrepared words now old p new → old.file ≡ Some file → job_of words file now ≡ Ok asked
    → ¬ (HasRisen old.faults new.faults) → (p ≡ Refused refusal.Memory) ⊎ (told_of p ≡ job_or (Ok asked))
prepared-right words now old new p file asked is held right well = elim is.told [
  | inl memory ↦ inl (refused-is p refusal.Memory memory)
  | inr rest ↦ elim rest [
    | inl read ↦ absurd (well (risen _ _ ((is.leaves (words-right words file now asked right)).fault read)))
    | inr told ↦ inr (told.2 ∙ ap (λ b. job_or (job_of words b now)) (held-is old.file file told.0 held told.1)
        ∙ ap job_or right)
  ]
]

-- ---- of what was read

-- What is known of a reading of words.
pub record Reads (words : List Text) (now : ℕ) (old new : ShelfState) (result : Result JobWords Refusal) : Type 0 where
  pub told : IsToldBy (λ bytes. job_of words bytes now) old (told_by result)
  pub refused : (word : UsageWord) → (result ≡ Err (refusal.Usage word)) ↔ (usage words ≡ Some word)
  pub same : (word : UsageWord) → result ≡ Err (refusal.Usage word) → new ≡ old
  pub leaves : usage words ≡ None → LeavesShelf (value_of words option.Mapping) old result new
  pub other : result ≢ Err (refusal.Mapping mapping_fault.Memory)

-- the same refusal of another reading
err-at : {A B : Type 0} (a b : Refusal) → ◌≡◌ {A = Result A Refusal} (Err a) (Err b)
    → ◌≡◌ {A = Result B Refusal} (Err a) (Err b)
err-at {A = A} a b e = ap Err (err-is e)
  where
    err-is : ◌≡◌ {A = Result A Refusal} (Err a) (Err b) → a ≡ b
    err-is h = cc

refusal-is : (a b : Refusal) → Refused a ≡ Refused b → a ≡ b
refusal-is a b e = cc

leaves-err : {A B : Type 0} {old new : ShelfState} (asked : Option Text) (why : Refusal)
    → LeavesShelf {A = A} asked old (Err why) new → LeavesShelf {A = B} asked old (Err why) new
leaves-err asked why h = record {
  fault = λ e. h.fault (err-at why refusal.Read e);
  given = λ e. h.given (err-at why refusal.Read e);
  same_faults = λ no. h.same_faults (λ e. no (err-at why refusal.Read e));
  file = h.file;
  named = λ no. h.named (λ e. no (err-at why refusal.Memory e));
  name = h.name;
  untouched = h.untouched;
}

leaves-ok : {A B : Type 0} {old new : ShelfState} (asked : Option Text) (a : A) (answer : Result B Refusal)
    → answer ≢ Err refusal.Read → LeavesShelf {A = A} asked old (Ok a) new → LeavesShelf {A = B} asked old answer new
leaves-ok asked a answer no_read h = record {
  fault = λ e. absurd (no_read e);
  given = λ e. absurd (no_read e);
  same_faults = λ no. h.same_faults (λ e. cc e);
  file = h.file;
  named = λ no. h.named (λ e. cc e);
  name = h.name;
  untouched = h.untouched;
}

module _ (words : List Text) (now : ℕ) (old new : ShelfState) where
  told-refused : (why : Refusal) → IsToldBy (λ bytes. job_of words bytes now) old (Err why)
      → IsToldBy (λ bytes. job_or (job_of words bytes now)) old (Err why)
  told-refused why told = elim told [
    | inl memory ↦ inl (err-at why refusal.Memory memory)
    | inr rest ↦ elim rest [
      | inl read ↦ inr (inl (err-at why refusal.Read read))
      | inr is ↦ inr (inr (is.0, is.1, ap job_or is.2))
    ]
  ]

  -- a refusal is handed on
  pub prepared-refused : (why : Refusal) → Reads words now old new (Err why) → IsPrepared words now old (Refused why) new
  prepared-refused why read = record {
    told = told-refused why read.told;
    refused = λ word. (
      λ e. (read.refused word).0 (ap Err (refusal-is why (refusal.Usage word) e)),
      λ e. ap Refused (err-is (refusal.Usage word) ((read.refused word).1 e)),
    );
    same = λ word e. read.same word (ap Err (refusal-is why (refusal.Usage word) e));
    leaves = λ right. leaves-err (value_of words option.Mapping) why (read.leaves right);
    other = λ e. read.other (ap Err (refusal-is why (refusal.Mapping mapping_fault.Memory) e));
  }
    where
      err-is : (other : Refusal) → ◌≡◌ {A = Result JobWords Refusal} (Err why) (Err other) → why ≡ other
      err-is other h = cc

  told-read : (asked : JobAsked) (p : Prepared) → IsToldBy (λ bytes. job_of words bytes now) old (Ok asked)
      → (p ≡ Refused refusal.Memory) ⊎ (told_of p ≡ job_or (Ok asked))
      → IsToldBy (λ bytes. job_or (job_of words bytes now)) old (told_of p)
  told-read asked p told is = elim is [
    | inl memory ↦ inl (ap told_of memory)
    | inr made ↦ elim told [
      | inl never ↦ absurd (cc never)
      | inr rest ↦ elim rest [
        | inl never ↦ absurd (cc never)
        | inr found ↦ inr (inr (found.0, found.1, made ∙ ap job_or found.2))
      ]
    ]
  ]

  no-refusal : (asked : JobAsked) (p : Prepared) (why : Refusal)
      → (p ≡ Refused refusal.Memory) ⊎ (told_of p ≡ job_or (Ok asked)) → why ≢ refusal.Memory → p ≢ Refused why
  no-refusal asked p why is other e = elim is [
    | inl memory ↦ other (refusal-is why refusal.Memory (sym e ∙ memory))
    | inr made ↦ never (sym (ap told_of e) ∙ made)
  ]
    where
      never : ◌≡◌ {A = Result (Option JobSettings) Refusal} (Err why) (job_or (Ok asked)) → ⊥
      never h = cc

  -- what is asked for is a job, or memory is wanting for it
  pub prepared-read : (asked : JobWords) (p : Prepared) → Reads words now old new (Ok asked)
      → (p ≡ Refused refusal.Memory) ⊎ (told_of p ≡ job_or (Ok (asked_of asked))) → IsPrepared words now old p new
  prepared-read asked p read is = record {
    told = told-read (asked_of asked) p read.told is;
    refused = λ word. (
      λ e. absurd (no-refusal (asked_of asked) p (refusal.Usage word) is (λ h. cc h) e),
      λ e. absurd (cc ((read.refused word).1 e)),
    );
    same = λ word e. absurd (no-refusal (asked_of asked) p (refusal.Usage word) is (λ h. cc h) e);
    leaves = λ right. leaves-ok (value_of words option.Mapping) asked (told_of p)
        (λ e. no-refusal (asked_of asked) p refusal.Read is (λ h. cc h) (refused-is p refusal.Read e))
        (read.leaves right);
    other = no-refusal (asked_of asked) p (refusal.Mapping mapping_fault.Memory) is (λ h. cc h);
  }
