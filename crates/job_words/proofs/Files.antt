-- The file of a mapping, as it is read from a shelf.
use Rattle.std.proofs.Common.{◌≡◌, ◌≢◌, ◌⊎◌, ℕ, ◌+◌, ◌≤◌, ◌<◌, List, [], ◌++◌, length, take, min, inl, inr, true}
use Rattle.std.proofs.Common.{false}
use Rattle.std.proofs.Common.{Option, Some, None, Result, Err, arith, refl, sym, ap, ◌∙◌, append-nil}
use Rattle.std.specs.Prelude.{nat_le, nat_lt}
use Rattle.std.proofs.lemmas.Bool.{cases_Bool, lt-leb, leb-true, ltb-true, leb-false, ltb-false}
use Rattle.std.proofs.lemmas.Option.{none-some}
use Rattle.std.proofs.lemmas.List.{length-take-le, length-take, take_at, take_min}
use Rattle.std.proofs.Math.Seq.{take-length}
use Rattle.mf_edge.specs.Device.{Takes, HasNone, CountsOne}
use Rattle.mf_edge.specs.Shelves.{ShelfState, KeepsName}
use Rattle.mf_base.specs.Texts.{Text}
use Rattle.feature_model.specs.Mapping.{Mapping}
use Rattle.job_words.specs.declared.refusal.Refusal.{Refusal}
use Rattle.job_words.specs.declared.refusal.Refusal.TheVariants as why
use Rattle.job_words.specs.Reading.{IsFrontOf, MayHold, IsOrMemory, IsToldBy, LeavesShelf}
use Rattle.job_words.specs.Settings.{file_limit, mapping_of_file}

pub keeps-then : (old mid new : ShelfState) → KeepsName old mid → KeepsName mid new → KeepsName old new
keeps-then old mid new first second = record {
  name = second.name ∙ first.name;
  file = second.file ∙ first.file;
  is_open = second.is_open ∙ first.is_open;
}

-- ---- the front of a file

-- what there is more than room for is all
pub take-all : (most : ℕ) (bytes : List ℕ) → length bytes ≤ most → take most bytes ≡ bytes
take-all most bytes short =
    let all : min most (length bytes) ≡ length bytes = omega (arith, short) in
    sym (take_min most bytes) ∙ rw all (take-length bytes)

whole-front : (most n : ℕ) (room all rest : List ℕ) → length room ≡ most → n ≤ length room
    → all ≡ take n room ++ rest → (n < length room → rest ≡ []) → take n room ≡ take most all
whole-front most n room all rest len within is end = by_end (cases_Bool (nat_lt n (length room)))
  where
    size : length (take n room) ≡ n
    size = length-take-le n room within

    by_end : (nat_lt n (length room) ≡ true) ⊎ (nat_lt n (length room) ≡ false) → take n room ≡ take most all
    by_end (inl less) =
        let none = end (ltb-true n (length room) less) in
        let same : all ≡ take n room = is ∙ (ap (λ (r : List ℕ). take n room ++ r) none ∙ append-nil (take n room)) in
        rw same (sym (take-all most (take n room) (omega (arith, size, len, within))))
    by_end (inr full) =
        let long : length (take n room) ≡ most = omega (arith, size, len, within, ltb-false n (length room) full) in
        rw is (sym (take_at (take n room) rest most long))

-- What was read into a room until it was full or nothing was left is the front of the file.
pub front-read : (file left : Option (List ℕ)) (most n : ℕ) (room : List ℕ) → length room ≡ most → n ≤ length room
    → Takes file (take n room) left → (n < length room → HasNone left) → IsFrontOf file most (take n room)
front-read None left most n room len within takes end = tt
front-read (Some all) None most n room len within takes end = absurd takes
front-read (Some all) (Some rest) most n room len within takes end =
    whole-front most n room all rest len within takes end

-- ---- the mapping of a file

long-front : (all : List ℕ) → nat_le (length all) file_limit ≡ false
    → nat_le (length (take (file_limit + 1) all)) file_limit ≡ false
long-front all long =
    lt-leb (length (take (file_limit + 1) all)) file_limit
    (omega (arith, length-take (file_limit + 1) all, leb-false (length all) file_limit long))

-- The byte behind the limit tells as much as all bytes.
front-tells : (all : List ℕ) → mapping_of_file (take (file_limit + 1) all) ≡ mapping_of_file all
front-tells all = by_length (cases_Bool (nat_le (length all) file_limit))
  where
    by_length : (nat_le (length all) file_limit ≡ true) ⊎ (nat_le (length all) file_limit ≡ false)
        → mapping_of_file (take (file_limit + 1) all) ≡ mapping_of_file all
    by_length (inl short) =
        ap mapping_of_file (take-all (file_limit + 1) all (omega (arith, leb-true (length all) file_limit short)))
    by_length (inr long) = rw (long-front all long, long) refl

told-front : (file : Option (List ℕ)) (bytes : List ℕ) (answer : Result Mapping Refusal)
    → IsFrontOf file (file_limit + 1) bytes → answer ≡ mapping_of_file bytes
    → (all : List ℕ) × MayHold file all × (answer ≡ mapping_of_file all)
told-front None bytes answer front told = (bytes, tt, told)
told-front (Some all) bytes answer front told = (all, refl, told ∙ (ap mapping_of_file front ∙ front-tells all))

pub file-told : (shelf : ShelfState) (most : ℕ) (bytes : List ℕ) (answer : Result Mapping Refusal)
    → most ≡ file_limit + 1 → IsFrontOf shelf.file most bytes → IsOrMemory (mapping_of_file bytes) answer
    → IsToldBy mapping_of_file shelf answer
file-told shelf most bytes answer all front (inl memory) = inl memory
file-told shelf most bytes answer all front (inr told) =
    inr (inr (told-front shelf.file bytes answer (rw all at front) told))

-- ---- what a reading leaves

pub leaves-read : {A : Type 0} (name : Text) (old : ShelfState) (answer : Result A Refusal) (new : ShelfState)
    → answer ≢ Err why.Read → new.faults ≡ old.faults → new.name ≡ Some name → new.file ≡ old.file
    → LeavesShelf (Some name) old answer new
leaves-read name old answer new read same_faults named file = record {
  fault = λ is. absurd (read is);
  given = λ is. absurd (read is);
  same_faults = λ _. same_faults;
  file = file;
  named = λ _. named;
  name = inr named;
  untouched = λ is. absurd (none-some name (sym is));
}

pub leaves-failed : {A : Type 0} (name : Text) (old : ShelfState) (answer : Result A Refusal) (new : ShelfState)
    → answer ≡ Err why.Read → CountsOne old.faults new.faults → new.name ≡ Some name → new.file ≡ old.file
    → LeavesShelf (Some name) old answer new
leaves-failed name old answer new read fault named file = record {
  fault = λ _. fault;
  given = λ _ none. none-some name (sym none);
  same_faults = λ other. absurd (other read);
  file = file;
  named = λ _. named;
  name = inr named;
  untouched = λ is. absurd (none-some name (sym is));
}

pub leaves-alone : {A : Type 0} (asked : Option Text) (old : ShelfState) (answer : Result A Refusal)
    → old.name ≡ None → answer ≢ Err why.Read → asked ≡ None → LeavesShelf asked old answer old
leaves-alone asked old answer unnamed read none = record {
  fault = λ is. absurd (read is);
  given = λ is. absurd (read is);
  same_faults = λ _. refl;
  file = refl;
  named = λ _. unnamed ∙ sym none;
  name = inl unnamed;
  untouched = λ _. refl;
}
