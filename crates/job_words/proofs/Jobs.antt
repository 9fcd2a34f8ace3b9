-- A job of right words.
use Rattle.std.proofs.Common.{◌≡◌, ◌≢◌, ℕ, List, [], inl, inr, Option, Some, None, Result, Err, Ok, refl}
use Rattle.std.proofs.Common.{ap, ◌∙◌}
use Rattle.mf_edge.specs.Shelves.{ShelfState}
use Rattle.mf_base.specs.Texts.{Text}
use Rattle.feature_model.specs.declared.fault.MappingFault.{MappingFault}
use Rattle.feature_model.specs.Entries.{one_poi}
use Rattle.feature_model.specs.Mapping.{Mapping}
use Rattle.job_words.specs.declared.refusal.Refusal.{Refusal}
use Rattle.job_words.specs.declared.refusal.Refusal.TheVariants as why
use Rattle.job_words.specs.declared.usage_word.UsageWord.{UsageWord}
use Rattle.job_words.specs.declared.usage_word.UsageWord.TheVariants as which
use Rattle.job_words.specs.Reading.{MayHold, IsOrMemory, IsToldBy}
use Rattle.job_words.specs.Settings.{asked, or_refused, mapping_of_file, mapping_or, job_of}
use Rattle.job_words.specs.Usage.{value_of, usage}

-- ---- the mapping

-- there are bytes of a file
some-bytes : (file : Option (List ℕ)) → (bytes : List ℕ) × MayHold file bytes
some-bytes None = ([], tt)
some-bytes (Some all) = (all, refl)

pub poi-told : (words : List Text) (word : Text) (shelf : ShelfState) (answer : Result Mapping Refusal)
    → value_of words which.Poi ≡ Some word → IsOrMemory (or_refused (one_poi word)) answer
    → IsToldBy (mapping_or (value_of words which.Poi)) shelf answer
poi-told words word shelf answer poi (inl memory) = inl memory
poi-told words word shelf answer poi (inr told) =
    let bytes = some-bytes shelf.file in inr (inr (bytes.0, bytes.1, told ∙ rw poi refl))

pub named-told : (words : List Text) (shelf : ShelfState) (answer : Result Mapping Refusal)
    → value_of words which.Poi ≡ None → IsToldBy mapping_of_file shelf answer
    → IsToldBy (mapping_or (value_of words which.Poi)) shelf answer
named-told words shelf answer none told = rw none told

-- ---- the job

pub told-usage : (words : List Text) (broken : UsageWord) (now : ℕ) (shelf : ShelfState) → usage words ≡ Some broken
    → IsToldBy (λ bytes. job_of words bytes now) shelf (Err (why.Usage broken))
unfolding job_of
told-usage words broken now shelf wrong =
    let bytes = some-bytes shelf.file in inr (inr (bytes.0, bytes.1, rw wrong refl))

pub told-refused : (words : List Text) (now : ℕ) (shelf : ShelfState) (refusal : Refusal) → usage words ≡ None
    → IsToldBy (mapping_or (value_of words which.Poi)) shelf (Err refusal)
    → IsToldBy (λ bytes. job_of words bytes now) shelf (Err refusal)
unfolding job_of
told-refused words now shelf refusal right (inl memory) = inl (ap (λ (r : Refusal). Err r) (err-is memory))
  where
    err-is : {A : Type 0} {r s : Refusal} → ◌≡◌ {A = Result A Refusal} (Err r) (Err s) → r ≡ s
    err-is e = cc e
told-refused words now shelf refusal right (inr (inl read)) = inr (inl (ap (λ (r : Refusal). Err r) (cc read)))
told-refused words now shelf refusal right (inr (inr told)) =
    inr (inr (told.0, told.1, rw (right, ← told.2) refl))

pub told-asked : (words : List Text) (now : ℕ) (shelf : ShelfState) (mapping : Mapping) → usage words ≡ None
    → IsToldBy (mapping_or (value_of words which.Poi)) shelf (Ok mapping)
    → IsToldBy (λ bytes. job_of words bytes now) shelf (Ok (asked words mapping now))
unfolding job_of
told-asked words now shelf mapping right (inl memory) = absurd (cc memory)
told-asked words now shelf mapping right (inr (inl read)) = absurd (cc read)
told-asked words now shelf mapping right (inr (inr told)) =
    inr (inr (told.0, told.1, rw (right, ← told.2) refl))

-- ---- which refusals there are

no-usage-of : (found : Result Mapping MappingFault) (broken : UsageWord) → Err (why.Usage broken) ≢ or_refused found
no-usage-of (Ok mapping) broken e = cc e
no-usage-of (Err fault) broken e = cc e
