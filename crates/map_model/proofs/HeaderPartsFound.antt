-- What is read as a string, a list of tags, a box or the intervals of a header is spelled so.
use Rattle.std.proofs.Common.{◌≡◌, ℕ, ◌+◌, ◌<◌, ◌≤◌, List, ◌++◌, length, take, drop, sym, ap, ◌∙◌, subst, arith, Result}
use Rattle.std.proofs.Common.{Ok, Err}
use Rattle.std.specs.Prelude.{flat_map, IsTrue}
use Rattle.std.specs.List.{AllByRecursion}
use Rattle.std.specs.Int.{w32}
use Rattle.std.proofs.lemmas.Bool.{leb-true}
use Rattle.std.proofs.lemmas.Int.{of_z-to_z}
use Rattle.std.proofs.lemmas.List.{length-drop, take_all}
use Rattle.std.proofs.Math.Seq.{take-add}
use Rattle.byteorder.specs.Endian.{big_bytes, big_number}
use Rattle.byteorder.specs.Numbers.{big_from-lt}
use Rattle.mf_base.specs.Spelling.{IsBytes, string, big_endian}
use Rattle.mf_base.specs.NumberReading.{unsigned_front}
use Rattle.mf_base.specs.Ranges.{is_rect}
use Rattle.mf_base.specs.declared.number.VbeFault.{VbeFault}
use Rattle.mf_base.specs.declared.place.Rect.{Rect}
use Rattle.mf_base.specs.declared.tile.Interval.{Interval}
use Rattle.mf_base.proofs.StepLaws.{err_is_no_ok, bind_ok, require_ok, ok_is}
use Rattle.mf_base.proofs.BigBytes.{big_bytes-big_number}
use Rattle.map_model.specs.Header.{SubFile, be_signed, box_bytes, tag_list_bytes, interval_bytes}
use Rattle.map_model.specs.Reader.{with_rest}
use Rattle.map_model.specs.TileReading.{IsText}
use Rattle.map_model.specs.HeaderReading.{length_of, header_text_at, tag_name_at, tag_list_at, signed_32, rect_of_bytes}
use Rattle.map_model.specs.HeaderReading.{box_at, interval_of_bytes, is_interval, interval_at, intervals_at, IsTagName}
use Rattle.map_model.specs.HeaderReading.{AreTagNames, FitsInterval}
use Rattle.map_model.specs.declared.fault.HeaderKind.{HeaderKind}
use Rattle.mf_base.proofs.ByteLaws.{drop-bytes}
use Rattle.map_model.proofs.ReaderFound.{Takes, IsFound, Finds, then, fixed-found, fixed_number-found, times-found}
use Rattle.map_model.proofs.PlacesFound.{unsigned-found, text_found}

-- ---- strings

length_of-ok : (bytes : List ℕ) (f : Result (ℕ × List ℕ) VbeFault) (n : ℕ × List ℕ) → length_of bytes f ≡ Ok n
    → f ≡ Ok n
length_of-ok bytes (Ok m) n e = cc
length_of-ok bytes (Err f) n e = absurd (err_is_no_ok _ n e)

pub string_at-found : Finds header_text_at string IsText
unfolding header_text_at
string_at-found bytes r small e =
    let n = bind_ok _ _ r e in
    let whole = bind_ok _ _ r n.2 in
    let good = bind_ok _ _ r whole.2 in
    let found = unsigned-found bytes n.0 small (length_of-ok bytes (with_rest bytes (unsigned_front bytes)) n.0 n.1) in
    subst (IsFound string IsText bytes) (ok_is (take n.0.0 n.0.1, drop n.0.0 n.0.1) r good.2)
    (text_found bytes n.0 found.0 found.1 (leb-true n.0.0 (length n.0.1) (require_ok _ _ _ whole.1))
    (require_ok _ _ _ good.1))

tag_name_at-found : Finds tag_name_at string IsTagName
unfolding tag_name_at
tag_name_at-found bytes r small e =
    let name = bind_ok _ _ r e in
    let known = bind_ok _ _ r name.2 in
    let found = string_at-found bytes name.0 small name.1 in
    subst (IsFound string IsTagName bytes) (ok_is name.0 r known.2) (found.0, (found.1, require_ok _ _ _ known.1))

pub tag_list_at-found : Finds tag_list_at tag_list_bytes AreTagNames
unfolding tag_list_at
tag_list_at-found bytes r small e =
    let n = bind_ok _ _ r e in
    let count = fixed_number-found HeaderKind.Short 2 bytes n.0 small n.1 in
    let names = times-found tag_name_at string IsTagName tag_name_at-found n.0.0 n.0.1 r count.0.behind n.2 in
    let many = names.1.0 in
    (then (subst (λ k. Takes bytes (big_endian 2 k) n.0.1) (sym many) count.0) names.0, (rw many count.1, names.1.1))

-- ---- the box

-- a signed number of four bytes is spelled by them
pub signed_field : (bytes : List ℕ) → IsBytes bytes → 4 ≤ length bytes → be_signed (signed_32 bytes) ≡ take 4 bytes
unfolding big_endian
signed_field bytes small some = ap (big_bytes 4) (of_z-to_z w32 (big_number 4 bytes) (big_from-lt 0 4 bytes small))
    ∙ big_bytes-big_number 4 bytes small some

four_fours : (s : List ℕ) → length s ≡ 16 → take 4 s ++ take 4 (drop 4 s) ++ take 4 (drop 8 s) ++ take 4 (drop 12 s) ≡ s
four_fours s len =
    ap (λ t. t ++ take 4 (drop 8 s) ++ take 4 (drop 12 s)) (sym (take-add 4 4 s))
    ∙ ap (λ t. t ++ take 4 (drop 12 s)) (sym (take-add 8 4 s))
    ∙ sym (take-add 12 4 s)
    ∙ take_all 16 s (omega (arith, len))

-- there are so many bytes behind the first
rest_of : (k n : ℕ) (s : List ℕ) (all : ℕ) → length s ≡ all → k + n ≤ all → n ≤ length (drop k s)
rest_of k n s all len fits = rw (length-drop k s) (omega (arith, len, fits))

box_spelled : (s : List ℕ) → IsBytes s → length s ≡ 16 → box_bytes (rect_of_bytes s) ≡ s
box_spelled s small len =
    let a = signed_field s small (omega (arith, len)) in
    let b = signed_field (drop 4 s) (drop-bytes 4 s small) (rest_of 4 4 s 16 len (omega arith)) in
    let c = signed_field (drop 8 s) (drop-bytes 8 s small) (rest_of 8 4 s 16 len (omega arith)) in
    let d = signed_field (drop 12 s) (drop-bytes 12 s small) (rest_of 12 4 s 16 len (omega arith)) in
    (λ i. a i ++ b i ++ c i ++ d i) ∙ four_fours s len

abbrev pub IsBox : Rect → Type 0
IsBox box = IsTrue (is_rect box)

pub box_at-found : Finds box_at box_bytes IsBox
unfolding box_at
box_at-found bytes r small e =
    let sides = bind_ok _ _ r e in
    let good = bind_ok _ _ r sides.2 in
    let found = fixed-found HeaderKind.Short 16 bytes sides.0 small sides.1 in
    let spelt = box_spelled sides.0.0 found.1.1 found.1.0 in
    subst (IsFound box_bytes IsBox bytes) (ok_is (rect_of_bytes sides.0.0, sides.0.1) r good.2)
    (subst (λ text. Takes bytes text sides.0.1) (sym spelt) found.0, require_ok _ _ _ good.1)

-- ---- intervals

pub number_field : (width : ℕ) (bytes : List ℕ) → IsBytes bytes → width ≤ length bytes
    → big_endian width (big_number width bytes) ≡ take width bytes
unfolding big_endian
number_field width bytes small some = big_bytes-big_number width bytes small some

five_fields : (s : List ℕ) → length s ≡ 19
    → take 1 s ++ take 1 (drop 1 s) ++ take 1 (drop 2 s) ++ take 8 (drop 3 s) ++ take 8 (drop 11 s) ≡ s
five_fields s len =
    ap (λ t. t ++ take 1 (drop 2 s) ++ take 8 (drop 3 s) ++ take 8 (drop 11 s)) (sym (take-add 1 1 s))
    ∙ ap (λ t. t ++ take 8 (drop 3 s) ++ take 8 (drop 11 s)) (sym (take-add 2 1 s))
    ∙ ap (λ t. t ++ take 8 (drop 11 s)) (sym (take-add 3 8 s))
    ∙ sym (take-add 11 8 s)
    ∙ take_all 19 s (omega (arith, len))

interval_spelled : (s : List ℕ) → IsBytes s → length s ≡ 19 → interval_bytes (interval_of_bytes s) ≡ s
interval_spelled s small len =
    let a = number_field 1 s small (omega (arith, len)) in
    let b = number_field 1 (drop 1 s) (drop-bytes 1 s small) (rest_of 1 1 s 19 len (omega arith)) in
    let c = number_field 1 (drop 2 s) (drop-bytes 2 s small) (rest_of 2 1 s 19 len (omega arith)) in
    let d = number_field 8 (drop 3 s) (drop-bytes 3 s small) (rest_of 3 8 s 19 len (omega arith)) in
    let e = number_field 8 (drop 11 s) (drop-bytes 11 s small) (rest_of 11 8 s 19 len (omega arith)) in
    (λ i. a i ++ b i ++ c i ++ d i ++ e i) ∙ five_fields s len

interval_fits : (s : List ℕ) → IsBytes s → FitsInterval (interval_of_bytes s)
interval_fits s small = record {
  base = big_from-lt 0 1 s small;
  min = big_from-lt 0 1 (drop 1 s) (drop-bytes 1 s small);
  max = big_from-lt 0 1 (drop 2 s) (drop-bytes 2 s small);
  start = big_from-lt 0 8 (drop 3 s) (drop-bytes 3 s small);
  size = big_from-lt 0 8 (drop 11 s) (drop-bytes 11 s small);
}

abbrev pub IsIntervalOf : ℕ → ℕ → Interval × SubFile → Type 0
IsIntervalOf total end at = FitsInterval at × IsTrue (is_interval total end at)

interval_at-found : (total end : ℕ) → Finds (interval_at total end) interval_bytes (IsIntervalOf total end)
unfolding interval_at
interval_at-found total end bytes r small e =
    let field = bind_ok _ _ r e in
    let good = bind_ok _ _ r field.2 in
    let found = fixed-found HeaderKind.Short 19 bytes field.0 small field.1 in
    let spelt = interval_spelled field.0.0 found.1.1 found.1.0 in
    subst (IsFound interval_bytes (IsIntervalOf total end) bytes)
    (ok_is (interval_of_bytes field.0.0, field.0.1) r good.2) (
      subst (λ text. Takes bytes text field.0.1) (sym spelt) found.0,
      (interval_fits field.0.0 found.1.1, require_ok _ _ _ good.1),
    )

-- intervals behind their number
pub record AreIntervals (total end : ℕ) (bytes : List ℕ) (ats : List (Interval × SubFile)) (rest : List ℕ) : Type
    0 where
  pub middle : List ℕ
  pub count : Takes bytes (big_endian 1 (length ats)) middle
  pub text : Takes middle (flat_map interval_bytes ats) rest
  pub some : 1 ≤ length ats
  pub few : length ats < 256
  pub each : AllByRecursion (IsIntervalOf total end) ats

pub intervals_at-found : (total end : ℕ) (bytes : List ℕ) (r : List (Interval × SubFile) × List ℕ) → IsBytes bytes
    → intervals_at total end bytes ≡ Ok r → AreIntervals total end bytes r.0 r.1
unfolding intervals_at
intervals_at-found total end bytes r small e =
    let n = bind_ok _ _ r e in
    let some = bind_ok _ _ r n.2 in
    let count = fixed_number-found HeaderKind.Short 1 bytes n.0 small n.1 in
    let all = times-found (interval_at total end) interval_bytes (IsIntervalOf total end) (interval_at-found total end)
    n.0.0 n.0.1 r count.0.behind some.2 in
    let many = all.1.0 in
    record {
      middle = n.0.1;
      count = subst (λ k. Takes bytes (big_endian 1 k) n.0.1) (sym many) count.0;
      text = all.0;
      some = rw many (leb-true 1 n.0.0 (require_ok _ _ _ some.1));
      few = rw many count.1;
      each = all.1.1;
    }
