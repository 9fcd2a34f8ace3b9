-- Which texts are present and readable.
use Rattle.std.proofs.Common.{◌≡◌, ◌⊎◌, ◌<◌, ◌≤◌, length, refl, ap, inl, inr, false, Option, Some, None, Result, Ok}
use Rattle.std.proofs.Common.{Err, option_map, Bor, MatchResult}
use Rattle.std.specs.Prelude.{nat_le}
use Rattle.std.specs.Str.{IsUtf8, is_utf8}
use Rattle.std.specs.Result.{result_ok}
use Rattle.std.proofs.lemmas.Bool.{and_right, cases_Bool, lt-leb, le-leb}
use Rattle.std.proofs.lemmas.Str.{IsUtf8-from_is_utf8, is_utf8-from_IsUtf8}
use Rattle.mf_base.specs.Texts.{Text}
use Rattle.mf_base.specs.Tags.{present_text, readable_text}

long_absent : (bytes : Text) → (length bytes ≡ 0) ⊎ (1020 < length bytes) → present_text bytes ≡ None
unfolding present_text
long_absent bytes (inl none) = rw none refl
long_absent bytes (inr long) = rw (lt-leb (length bytes) 1020 long, and_right (nat_le 1 (length bytes)) false refl) refl

pub unreadable : (bytes : Text) → (length bytes ≡ 0) ⊎ (1020 < length bytes) → None ≡ readable_text bytes
unfolding readable_text
unreadable bytes out = elim (cases_Bool (is_utf8 bytes)) [
  | inl good ↦ rw (good, long_absent bytes out) refl
  | inr bad ↦ rw bad refl
]

-- what `from_utf8` says of bytes that are not too many
pub readable : {E : Type 0} (F : E → Type 0) (bytes : Text) (r : Result (Bor Text) E) (o : Option (Bor Text))
    → 1 ≤ length bytes → length bytes ≤ 1020
    → MatchResult r (λ s. (s.now ≡ bytes) × IsUtf8 bytes) (λ e. (IsUtf8 bytes → ⊥) × F e) → o ≡ result_ok r
    → option_map (λ (t : Bor Text). t.now) o ≡ readable_text bytes
unfolding readable_text present_text
readable F bytes (Ok s) o some few h is =
    rw (is, is_utf8-from_IsUtf8 bytes h.1, le-leb 1 (length bytes) some, le-leb (length bytes) 1020 few)
    (ap (λ (t : Text). Some t) h.0)
readable F bytes (Err e) o some few h is = elim (cases_Bool (is_utf8 bytes)) [
  | inl good ↦ absurd (h.0 (IsUtf8-from_is_utf8 bytes good))
  | inr bad ↦ rw (is, bad) refl
]
