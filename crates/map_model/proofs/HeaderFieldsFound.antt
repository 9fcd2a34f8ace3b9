-- What is read as the flags, the optional fields, the version or the projection of a header is spelled so.
use Rattle.std.proofs.Common.{◌≡◌, ℕ, ◌^◌, ◌<◌, List, [], ◌∷◌, ◌++◌, length, take, drop, refl, sym, ◌∙◌, subst, arith}
use Rattle.std.proofs.Common.{false, Ok, Option, Some, None}
use Rattle.std.specs.Prelude.{IfSome, is_some}
use Rattle.std.proofs.lemmas.Bool.{eqb-true, not-true}
use Rattle.std.proofs.lemmas.List.{length-drop, take_all}
use Rattle.std.proofs.lemmas.Slice.Eq.{bytes_eq-Decides}
use Rattle.std.proofs.Math.Seq.{take-add}
use Rattle.byteorder.specs.Endian.{big_number}
use Rattle.byteorder.specs.Numbers.{big_from-lt}
use Rattle.mf_base.specs.Spelling.{IsBytes, string, big_endian}
use Rattle.mf_base.specs.declared.place.Place.{Place}
use Rattle.mf_base.proofs.StepLaws.{bind_ok, require_ok, ok_is}
use Rattle.map_model.specs.Layout.{optional}
use Rattle.map_model.specs.Header.{mercator_word, be_signed}
use Rattle.map_model.specs.Reader.{fixed}
use Rattle.map_model.specs.TileReading.{has_flag, IsText, IsPlaceOf32Bits}
use Rattle.map_model.specs.HeaderReading.{header_text_at, signed_32, flags_at, optional_at, version_at, projection_at}
use Rattle.map_model.specs.declared.fault.HeaderKind.{HeaderKind}
use Rattle.mf_base.proofs.ByteLaws.{drop-bytes}
use Rattle.map_model.proofs.ReaderFound.{Takes, IsFound, Finds, AreSoManyBytes, then, fixed-found, fixed_number-found}
use Rattle.map_model.proofs.ReaderFound.{where_set-found}
use Rattle.map_model.proofs.RecordsFound.{byte-found, signed_32-within}
use Rattle.map_model.proofs.HeaderPartsFound.{string_at-found, signed_field, number_field}

-- ---- flags and optional fields

pub flags_at-found : Finds flags_at (λ f. f ∷ []) (λ f. (f < 256) × (has_flag f 0x80 ≡ false))
unfolding flags_at
flags_at-found bytes r small e =
    let flags = bind_ok _ _ r e in
    let plain = bind_ok _ _ r flags.2 in
    let found = byte-found HeaderKind.Short bytes flags.0 small flags.1 in
    subst (IsFound (λ f. f ∷ []) (λ f. (f < 256) × (has_flag f 0x80 ≡ false)) bytes) (ok_is flags.0 r plain.2)
    (found.0, (found.1, not-true _ (require_ok _ _ _ plain.1)))

abbrev pub start_bytes : Place → List ℕ
start_bytes p = be_signed p.lat ++ be_signed p.lon

-- eight bytes tell a start place
record IsStart (field : Option (List ℕ)) (start : Option Place) : Type 0 where
  spelt : optional (λ f. f) field ≡ optional start_bytes start
  same : is_some start ≡ is_some field
  within : IfSome start IsPlaceOf32Bits

two_fours : (s : List ℕ) → length s ≡ 8 → take 4 s ++ take 4 (drop 4 s) ≡ s
two_fours s len = sym (take-add 4 4 s) ∙ take_all 8 s (omega (arith, len))

start_of : (field : Option (List ℕ)) → IfSome field (AreSoManyBytes 8) → (start : Option Place) × IsStart field start
start_of None h = (None, record { spelt = refl; same = refl; within = tt })
start_of (Some s) h =
    let a = signed_field s h.1 (omega (arith, h.0)) in
    let b = signed_field (drop 4 s) (drop-bytes 4 s h.1) (rw (length-drop 4 s) (omega (arith, h.0))) in (
      Some (record { lat = signed_32 s; lon = signed_32 (drop 4 s) }),
      record {
        spelt = sym ((λ i. a i ++ b i) ∙ two_fours s h.0);
        same = refl;
        within = (
          signed_32-within (big_number 4 s) (big_from-lt 0 4 s h.1),
          signed_32-within (big_number 4 (drop 4 s))
              (big_from-lt 0 4 (drop 4 s) (drop-bytes 4 s h.1)),
        );
      },
    )

-- one byte tells a zoom
record IsZoom (field : Option (List ℕ)) (zoom : Option ℕ) : Type 0 where
  spelt : optional (λ f. f) field ≡ optional (big_endian 1) zoom
  same : is_some zoom ≡ is_some field
  within : IfSome zoom (λ n. n < 256)

zoom_of : (field : Option (List ℕ)) → IfSome field (AreSoManyBytes 1) → (zoom : Option ℕ) × IsZoom field zoom
zoom_of None h = (None, record { spelt = refl; same = refl; within = tt })
zoom_of (Some s) h = (
  Some (big_number 1 s),
  record {
    spelt = sym (number_field 1 s h.1 (omega (arith, h.0)) ∙ take_all 1 s (omega (arith, h.0)));
    same = refl;
    within = big_from-lt 0 1 s h.1;
  },
)

-- the optional fields as they stand one after the other
pub record AreOptions (flags : ℕ) (bytes rest : List ℕ) : Type 0 where
  pub start : Option Place
  pub after_start : List ℕ
  pub start_text : Takes bytes (optional start_bytes start) after_start
  pub start_set : is_some start ≡ has_flag flags 0x40
  pub start_fits : IfSome start IsPlaceOf32Bits
  pub zoom : Option ℕ
  pub after_zoom : List ℕ
  pub zoom_text : Takes after_start (optional (big_endian 1) zoom) after_zoom
  pub zoom_set : is_some zoom ≡ has_flag flags 0x20
  pub zoom_fits : IfSome zoom (λ n. n < 256)
  pub language : Option (List ℕ)
  pub after_language : List ℕ
  pub language_text : Takes after_zoom (optional string language) after_language
  pub language_set : is_some language ≡ has_flag flags 0x10
  pub language_fits : IfSome language IsText
  pub comment : Option (List ℕ)
  pub after_comment : List ℕ
  pub comment_text : Takes after_language (optional string comment) after_comment
  pub comment_set : is_some comment ≡ has_flag flags 0x08
  pub comment_fits : IfSome comment IsText
  pub created_by : Option (List ℕ)
  pub created_by_text : Takes after_comment (optional string created_by) rest
  pub created_by_set : is_some created_by ≡ has_flag flags 0x04
  pub created_by_fits : IfSome created_by IsText

pub optional_at-found : (flags : ℕ) (bytes : List ℕ) (r : Unit {0} × List ℕ) → IsBytes bytes
    → optional_at flags bytes ≡ Ok r → AreOptions flags bytes r.1
unfolding optional_at
optional_at-found flags bytes r small e =
    let start = bind_ok _ _ r e in
    let zoom = bind_ok _ _ r start.2 in
    let language = bind_ok _ _ r zoom.2 in
    let comment = bind_ok _ _ r language.2 in
    let created_by = bind_ok _ _ r comment.2 in
    let a = where_set-found (fixed HeaderKind.Short 8) (λ f. f) (AreSoManyBytes 8) (fixed-found HeaderKind.Short 8)
    (has_flag flags 0x40) bytes start.0 small start.1 in
    let b = where_set-found (fixed HeaderKind.Short 1) (λ f. f) (AreSoManyBytes 1) (fixed-found HeaderKind.Short 1)
    (has_flag flags 0x20) start.0.1 zoom.0 a.0.behind zoom.1 in
    let c = where_set-found header_text_at string IsText string_at-found (has_flag flags 0x10) zoom.0.1 language.0
    b.0.behind language.1 in
    let d = where_set-found header_text_at string IsText string_at-found (has_flag flags 0x08) language.0.1 comment.0
    c.0.behind comment.1 in
    let f = where_set-found header_text_at string IsText string_at-found (has_flag flags 0x04) comment.0.1 created_by.0
    d.0.behind created_by.1 in
    let place = start_of start.0.0 a.1.0 in
    let number = zoom_of zoom.0.0 b.1.0 in
    subst (λ (q : Unit {0} × List ℕ). AreOptions flags bytes q.1) (ok_is (tt, created_by.0.1) r created_by.2)
    record {
      start = place.0;
      after_start = start.0.1;
      start_text = subst (λ text. Takes bytes text start.0.1) place.1.spelt a.0;
      start_set = place.1.same ∙ a.1.1;
      start_fits = place.1.within;
      zoom = number.0;
      after_zoom = zoom.0.1;
      zoom_text = subst (λ text. Takes start.0.1 text zoom.0.1) number.1.spelt b.0;
      zoom_set = number.1.same ∙ b.1.1;
      zoom_fits = number.1.within;
      language = language.0.0;
      after_language = language.0.1;
      language_text = c.0;
      language_set = c.1.1;
      language_fits = c.1.0;
      comment = comment.0.0;
      after_comment = comment.0.1;
      comment_text = d.0;
      comment_set = d.1.1;
      comment_fits = d.1.0;
      created_by = created_by.0.0;
      created_by_text = f.0;
      created_by_set = f.1.1;
      created_by_fits = f.1.0;
    }

-- ---- the other fields

pub version_at-found : (total : ℕ)
    → Finds (version_at total) (λ u. big_endian 4 5 ++ big_endian 8 total) (λ u. total < 2 ^ 64)
unfolding version_at
version_at-found total bytes r small e =
    let v = bind_ok _ _ r e in
    let five = bind_ok _ _ r v.2 in
    let told = bind_ok _ _ r five.2 in
    let right = bind_ok _ _ r told.2 in
    let a = fixed_number-found HeaderKind.Short 4 bytes v.0 small v.1 in
    let b = fixed_number-found HeaderKind.Short 8 v.0.1 told.0 a.0.behind told.1 in
    let is_five = eqb-true v.0.0 5 (require_ok _ _ _ five.1) in
    let is_total = eqb-true told.0.0 total (require_ok _ _ _ right.1) in
    subst (IsFound (λ (u : Unit {0}). big_endian 4 5 ++ big_endian 8 total) (λ u. total < 2 ^ 64) bytes)
    (ok_is (tt, told.0.1) r right.2) (
      then (subst (λ n. Takes bytes (big_endian 4 n) v.0.1) is_five a.0)
          (subst (λ n. Takes v.0.1 (big_endian 8 n) told.0.1) is_total b.0),
      subst (λ n. n < 2 ^ 64) is_total b.1,
    )

-- a tile size and the projection's word
pub record IsProjection (bytes rest : List ℕ) : Type 0 where
  pub tile_size : ℕ
  pub fits : tile_size < 2 ^ 16
  pub text : Takes bytes (big_endian 2 tile_size ++ string mercator_word) rest

pub projection_at-found : (bytes : List ℕ) (r : Unit {0} × List ℕ) → IsBytes bytes → projection_at bytes ≡ Ok r
    → IsProjection bytes r.1
unfolding projection_at
projection_at-found bytes r small e =
    let size = bind_ok _ _ r e in
    let word = bind_ok _ _ r size.2 in
    let right = bind_ok _ _ r word.2 in
    let a = fixed-found HeaderKind.Short 2 bytes size.0 small size.1 in
    let b = string_at-found size.0.1 word.0 a.0.behind word.1 in
    let is = (bytes_eq-Decides word.0.0 mercator_word).0 (require_ok _ _ _ right.1) in
    let spelt = number_field 2 size.0.0 a.1.1 (omega (arith, a.1.0)) ∙ take_all 2 size.0.0 (omega (arith, a.1.0)) in
    subst (λ (q : Unit {0} × List ℕ). IsProjection bytes q.1) (ok_is (tt, word.0.1) r right.2)
    record {
      tile_size = big_number 2 size.0.0;
      fits = big_from-lt 0 2 size.0.0 a.1.1;
      text = then (subst (λ text. Takes bytes text size.0.1) (sym spelt) a.0)
          (subst (λ text. Takes size.0.1 (string text) word.0.1) is b.0);
    }
