-- The next blob of a known type, and the bytes that lead to it.
use Rattle.std.proofs.Common.{◌≡◌, ℕ, ◌+◌, ◌≤◌, List, [], ◌∷◌, ◌++◌, length, refl, sym, ap, subst, ◌∙◌, arith, inl, inr}
use Rattle.std.proofs.Common.{true, false, Bool, cond, Result, Ok, Err, Option, Some, None, append_assoc, append-nil}
use Rattle.std.proofs.Common.{length-append}
use Rattle.std.specs.Prelude.{find}
use Rattle.std.proofs.lemmas.Bool.{cases_Bool}
use Rattle.std.proofs.lemmas.Option.{none-some, same_Some}
use Rattle.mf_base.specs.Spelling.{IsBytes, big_endian}
use Rattle.mf_base.proofs.StepLaws.{ok_is, err_is_no_ok}
use Rattle.osm_model.specs.Reading.{Reading}
use Rattle.osm_model.specs.Frames.{Content, Frame, FrameFaultAt, AreFrames, SpellsFrame, FramesEnd, frames_at, is_known}
use Rattle.osm_model.specs.Frames.{known_frames, next_known, PassesOver, LeadsTo}
use Rattle.osm_model.proofs.TableLaws.{some_no_none}
use Rattle.mf_base.proofs.ByteLaws.{length-big_endian}
use Rattle.osm_model.proofs.FrameListLaws.{frames-append, frames_read, frames_split}

-- what is told where this blob was found, or none, and there is this fault behind the blobs
abbrev told_next : Option Frame → Option FrameFaultAt → Result (Option Frame) FrameFaultAt
told_next found fault =
    elim found [ Some f ↦ Ok (Some f) | None ↦ elim fault [ Some told ↦ Err told | None ↦ Ok None ] ]

cons_no_nil : (f : Frame) (fs : List Frame) → f ∷ fs ≡ [] → ⊥
cons_no_nil f fs e = cc

-- a list without a known blob
pub unknown_first : (f : Frame) (fs : List Frame) → known_frames (f ∷ fs) ≡ []
    → (is_known f ≡ false) × (known_frames fs ≡ [])
unknown_first f fs e =
    elim (cases_Bool (is_known f)) [
      | inl known ↦
          absurd (cons_no_nil f (known_frames fs)
          (ap (λ c. cond c (f ∷ known_frames fs) (known_frames fs)) (sym known) ∙ e))
      | inr unknown ↦ (unknown, ap (λ c. cond c (f ∷ known_frames fs) (known_frames fs)) (sym unknown) ∙ e)
    ]

unknown_with : (f : Frame) (fs : List Frame) → is_known f ≡ false → known_frames fs ≡ [] → known_frames (f ∷ fs) ≡ []
unknown_with f fs unknown e = ap (λ c. cond c (f ∷ known_frames fs) (known_frames fs)) unknown ∙ e

find-passed : (passed fs : List Frame) → known_frames passed ≡ [] → find is_known (passed ++ fs) ≡ find is_known fs
find-passed [] fs e = refl
find-passed (f ∷ passed) fs e =
    let parts = unknown_first f passed e in
    ap (λ c. cond c (Some f) (find is_known (passed ++ fs))) parts.0 ∙ find-passed passed fs parts.1

find-known : (f : Frame) (fs : List Frame) → is_known f ≡ true → find is_known (f ∷ fs) ≡ Some f
find-known f fs known = ap (λ c. cond c (Some f) (find is_known fs)) known

-- where a known blob was found, the blobs before it are unknown
abbrev FoundIn : List Frame → Frame → Type 0
FoundIn fs f = (passed : List Frame) × (later : List Frame) × (fs ≡ passed ++ (f ∷ later))
    × (known_frames passed ≡ []) × (is_known f ≡ true)

found_in : (fs : List Frame) (f : Frame) → find is_known fs ≡ Some f → FoundIn fs f
found_in [] f e = absurd (none-some f e)
found_in (g ∷ fs) f e = go (λ h. found_in fs f h) (is_known g) refl
  where
    go : (find is_known fs ≡ Some f → FoundIn fs f) → (c : Bool) → is_known g ≡ c → FoundIn (g ∷ fs) f
    go others true known =
        let same : g ≡ f = same_Some g f (sym (find-known g fs known) ∙ e) in
        subst (FoundIn (g ∷ fs)) same ([], fs, refl, refl, known)
    go others false unknown =
        let (passed, later, whole, none, known) =
        others (ap (λ c. cond c (Some g) (find is_known fs)) (sym unknown) ∙ e) in
        (g ∷ passed, later, ap (λ xs. g ∷ xs) whole, unknown_with g passed unknown none, known)

none_in : (fs : List Frame) → find is_known fs ≡ None → known_frames fs ≡ []
none_in [] e = refl
none_in (g ∷ fs) e = go (λ h. none_in fs h) (is_known g) refl
  where
    go : (find is_known fs ≡ None → known_frames fs ≡ []) → (c : Bool) → is_known g ≡ c → known_frames (g ∷ fs) ≡ []
    go others true known = absurd (some_no_none g (sym (find-known g fs known) ∙ e))
    go others false unknown =
        unknown_with g fs unknown (others (ap (λ c. cond c (Some g) (find is_known fs)) (sym unknown) ∙ e))

-- what was told tells what was found
told_some : (found : Option Frame) (fault : Option FrameFaultAt) (f : Frame) → told_next found fault ≡ Ok (Some f)
    → found ≡ Some f
told_some (Some g) fault f e = ok_is (Some g) (Some f) e
told_some None (Some told) f e = absurd (err_is_no_ok told (Some f) e)
told_some None None f e = absurd (none-some f (ok_is None (Some f) e))

told_none : (found : Option Frame) (fault : Option FrameFaultAt) → told_next found fault ≡ Ok None
    → (found ≡ None) × (fault ≡ None)
told_none (Some g) fault e = absurd (some_no_none g (ok_is (Some g) None e))
told_none None (Some told) e = absurd (err_is_no_ok told None e)
told_none None None e = (refl, refl)

pub leads : (at : ℕ) (b rest : List ℕ) (f : Frame) → LeadsTo at b f
    → next_known (frames_at at (b ++ rest)) ≡ Ok (Some f)
leads at b rest f h =
    let behind : Reading Frame FrameFaultAt = frames_at (at + length b) rest in
    let found : find is_known ((h.passed ++ f ∷ []) ++ behind.items) ≡ Some f =
    ap (find is_known) (append_assoc h.passed (f ∷ []) behind.items)
    ∙ find-passed h.passed (f ∷ behind.items) h.unknown ∙ find-known f behind.items h.known in
    ap next_known (frames-append at (h.passed ++ f ∷ []) b rest h.spelled) ∙ ap (λ o. told_next o behind.fault) found

pub passes : (at : ℕ) (b rest : List ℕ) → PassesOver at b
    → next_known (frames_at at (b ++ rest)) ≡ next_known (frames_at (at + length b) rest)
passes at b rest h =
    let behind : Reading Frame FrameFaultAt = frames_at (at + length b) rest in
    ap next_known (frames-append at h.passed b rest h.spelled)
    ∙ ap (λ o. told_next o behind.fault) (find-passed h.passed behind.items h.unknown)

pub led : (at : ℕ) (bytes : List ℕ) (f : Frame) → IsBytes bytes → next_known (frames_at at bytes) ≡ Ok (Some f)
    → (front : List ℕ) × (rest : List ℕ) × LeadsTo at front f × (bytes ≡ front ++ rest)
led at bytes f small e =
    let read = frames_read at bytes small in
    let (passed, later, whole, none, known) =
    found_in (frames_at at bytes).items f
    (told_some (find is_known (frames_at at bytes).items) (frames_at at bytes).fault f e) in
    let parts : (frames_at at bytes).items ≡ (passed ++ f ∷ []) ++ later = whole
    ∙ sym (append_assoc passed (f ∷ []) later) in
    let (p, q, cut, before, behind) =
    frames_split at read.front (passed ++ f ∷ []) later (subst (AreFrames at read.front) parts read.spelled) in
    let joined : bytes ≡ (p ++ q) ++ read.rest = read.whole ∙ ap (λ x. x ++ read.rest) cut in
    let all : bytes ≡ p ++ (q ++ read.rest) = joined ∙ append_assoc p q read.rest in
    (p, q ++ read.rest, record { passed = passed; unknown = none; known = known; spelled = before }, all)

pub passed_over : (at : ℕ) (bytes : List ℕ) → IsBytes bytes → next_known (frames_at at bytes) ≡ Ok None
    → PassesOver at bytes
passed_over at bytes small e =
    let read = frames_read at bytes small in
    let told = told_none (find is_known (frames_at at bytes).items) (frames_at at bytes).fault e in
    let nothing : read.rest ≡ [] = subst (FramesEnd (at + length read.front) read.rest) told.1 read.ended in
    let whole : read.front ≡ bytes = sym (append-nil read.front) ∙ ap (λ x. read.front ++ x) (sym nothing)
    ∙ sym read.whole in
    record {
      passed = (frames_at at bytes).items;
      unknown = none_in (frames_at at bytes).items told.0;
      spelled =
          subst (λ b. AreFrames at b (frames_at at bytes).items) whole read.spelled;
    }

-- a blob takes at most a length, the longest BlobHeader and the longest Blob
pub at_most : (c : Content) (b : List ℕ) → SpellsFrame c b → length b ≤ 4 + 65535 + 33554432
at_most c b h =
    let count : length b ≡ length (big_endian 4 (length h.head) ++ h.head) + length h.body = ap length h.whole
    ∙ length-append (big_endian 4 (length h.head) ++ h.head) h.body in
    omega (
      arith,
      count,
      length-append (big_endian 4 (length h.head)) h.head,
      length-big_endian 4 (length h.head),
      h.head_size,
      h.body_size,
    )
