-- What the parts of a header tell is read again from their bytes.
use Rattle.std.proofs.Common.{◌≡◌, ℕ, ◌^◌, ◌<◌, ◌≤◌, List, [], ◌∷◌, ◌++◌, length, drop, refl, sym, ap, ◌∙◌, arith, true}
use Rattle.std.proofs.Common.{Ok, length-append, append_assoc, append-nil}
use Rattle.std.specs.Prelude.{flat_map, ℤ, pos, negsuc, IsTrue, leb}
use Rattle.std.specs.List.{AllByRecursion}
use Rattle.std.specs.Int.{w32, cast_signed, cast_unsigned}
use Rattle.std.proofs.lemmas.Bool.{le-ltb, le-leb, leb-true, and_parts}
use Rattle.std.proofs.lemmas.List.{drop_at, take_at}
use Rattle.std.proofs.lemmas.Int.{to_z-of_z}
use Rattle.byteorder.specs.Endian.{big_number}
use Rattle.byteorder.specs.Numbers.{big_number-reads_back}
use Rattle.mf_base.specs.Spelling.{vbe_unsigned, string, big_endian}
use Rattle.mf_base.specs.Ranges.{is_signed_32, is_latitude, is_longitude, is_rect}
use Rattle.mf_base.specs.declared.place.Rect.{Rect}
use Rattle.mf_base.specs.declared.tile.Interval.{Interval}
use Rattle.mf_base.proofs.NumberLemmas.{unsigned_front-again}
use Rattle.map_model.specs.Header.{SubFile, be_signed, box_bytes, tag_list_bytes, interval_bytes}
use Rattle.map_model.specs.Reader.{fixed}
use Rattle.map_model.specs.TileReading.{IsText}
use Rattle.map_model.specs.HeaderReading.{header_text_at, tag_name_at, tag_list_at, signed_32, rect_of_bytes, box_at}
use Rattle.map_model.specs.HeaderReading.{interval_of_bytes, is_interval, interval_at, intervals_at, IsTagName}
use Rattle.map_model.specs.HeaderReading.{AreTagNames, FitsInterval}
use Rattle.map_model.specs.declared.fault.HeaderKind.{HeaderKind}
use Rattle.mf_base.proofs.ByteLaws.{length-big_endian}
use Rattle.map_model.proofs.PlacesAgain.{Again, times-again, and-true}
use Rattle.map_model.proofs.RecordsAgain.{fixed_number-again}
use Rattle.map_model.proofs.HeaderPartsFound.{IsIntervalOf}

-- ---- strings

pub string_at-again : (text : List ℕ) → IsText text → Again header_text_at (string text) text
unfolding Again header_text_at string
string_at-again text h rest =
    ap header_text_at (append_assoc (vbe_unsigned (length text)) text rest)
    ∙ rw (
      unsigned_front-again (length text) (text ++ rest) h.0,
      drop_at (vbe_unsigned (length text)) (text ++ rest) (length (vbe_unsigned (length text))) refl,
      take_at text rest (length text) refl,
      drop_at text rest (length text) refl,
      le-leb (length text) (length (text ++ rest)) (rw (length-append text rest) (omega arith)),
      h.1,
    ) refl

tag_name_at-again : (tag : List ℕ) → IsTagName tag → Again tag_name_at (string tag) tag
unfolding Again tag_name_at
tag_name_at-again tag h rest = rw (string_at-again tag h.0 rest, h.1) refl

pub tag_list_at-again : (tags : List (List ℕ)) → AreTagNames tags → Again tag_list_at (tag_list_bytes tags) tags
unfolding Again tag_list_at
tag_list_at-again tags h rest =
    ap tag_list_at (append_assoc (big_endian 2 (length tags)) (flat_map string tags) rest)
    ∙ rw (
      fixed_number-again HeaderKind.Short 2 (length tags) h.0 (flat_map string tags ++ rest),
      times-again tag_name_at string IsTagName tag_name_at-again tags h.1 rest,
    ) refl

-- ---- fields of a fixed width

pub fixed-again : {Kind : Type 0} (short : Kind) (width : ℕ) (field : List ℕ) → length field ≡ width
    → Again (fixed short width) field field
unfolding Again
fixed-again short width field len rest =
    rw (
      le-ltb (length (field ++ rest)) width (rw (length-append field rest) (omega (arith, len))),
      take_at field rest width len,
      drop_at field rest width len,
    ) refl

-- a number behind so many bytes
number_behind : (width n k : ℕ) (front rest text : List ℕ) → n < 256 ^ width → length front ≡ k
    → text ≡ front ++ (big_endian width n ++ rest) → big_number width (drop k text) ≡ n
unfolding big_endian
number_behind width n k front rest text fits len e = ap (λ t. big_number width (drop k t)) e
    ∙ ap (big_number width) (drop_at front (big_endian width n ++ rest) k len) ∙ big_number-reads_back width n rest fits

-- a signed number of 32 bits, in four bytes
record IsFour (z : ℤ) : Type 0 where
  fits : cast_unsigned w32 z < 256 ^ 4
  back : cast_signed w32 (cast_unsigned w32 z) ≡ z

is_four : (z : ℤ) → is_signed_32 z ≡ true → IsFour z
is_four (pos n) e = let le = leb-true n 2147483647 e in
    record { fits = omega (arith, le); back = to_z-of_z w32 (pos n) (record { sfits = omega (arith, le) }) }
is_four (negsuc n) e = let le = leb-true n 2147483647 (and-true (leb n 2147483647) e) in
    record { fits = omega (arith, le); back = to_z-of_z w32 (negsuc n) (record { sfits = omega (arith, le) }) }

signed_behind : (z : ℤ) (k : ℕ) (front rest text : List ℕ) → is_signed_32 z ≡ true → length front ≡ k
    → text ≡ front ++ (be_signed z ++ rest) → signed_32 (drop k text) ≡ z
signed_behind z k front rest text h len e =
    let four = is_four z h in
    ap (cast_signed w32) (number_behind 4 (cast_unsigned w32 z) k front rest text four.fits len e) ∙ four.back

-- ---- the box

lat_fits : (z : ℤ) → is_latitude z ≡ true → is_signed_32 z ≡ true
lat_fits (pos n) e = let le = leb-true n 90000000 e in le-leb n 2147483647 (omega (arith, le))
lat_fits (negsuc n) e = let le =
    leb-true n 89999999 (and-true (leb n 89999999) e) in rw (le-leb n 2147483647 (omega (arith, le))) refl

lon_fits : (z : ℤ) → is_longitude z ≡ true → is_signed_32 z ≡ true
lon_fits (pos n) e = let le = leb-true n 180000000 e in le-leb n 2147483647 (omega (arith, le))
lon_fits (negsuc n) e = let le =
    leb-true n 179999999 (and-true (leb n 179999999) e) in rw (le-leb n 2147483647 (omega (arith, le))) refl

one_three : (a b c d : List ℕ) → a ++ b ++ c ++ d ≡ a ++ (b ++ (c ++ d))
one_three a b c d = simp append_assoc refl

three_one : (a b c d : List ℕ) → a ++ b ++ c ++ d ≡ a ++ b ++ c ++ (d ++ [])
three_one a b c d = ap (λ t. a ++ b ++ c ++ t) (sym (append-nil d))

box_again : (box : Rect) → is_rect box ≡ true → rect_of_bytes (box_bytes box) ≡ box
box_again box h =
    let f = and_parts _ _ h in
    let e = and_parts _ _ f.0 in
    let d = and_parts _ _ e.0 in
    let c = and_parts _ _ d.0 in
    let b = and_parts _ _ c.0 in
    let s = be_signed box.min_lat in
    let w = be_signed box.min_lon in
    let n = be_signed box.max_lat in
    let o = be_signed box.max_lon in
    let p = signed_behind box.min_lat 0 [] (w ++ (n ++ o)) (box_bytes box) (lat_fits box.min_lat b.0) refl
    (one_three s w n o) in
    let q = signed_behind box.min_lon 4 s (n ++ o) (box_bytes box) (lon_fits box.min_lon c.1)
    (length-big_endian 4 (cast_unsigned w32 box.min_lat)) (one_three s w n o) in
    let r = signed_behind box.max_lat 8 (s ++ w) o (box_bytes box) (lat_fits box.max_lat b.1)
    (simp (length-append, length-big_endian) refl) (append_assoc (s ++ w) n o) in
    let t = signed_behind box.max_lon 12 (s ++ w ++ n) [] (box_bytes box) (lon_fits box.max_lon d.1)
    (simp (length-append, length-big_endian) refl) (three_one s w n o) in
    λ i. record { min_lat = p i; min_lon = q i; max_lat = r i; max_lon = t i }

pub box_at-again : (box : Rect) → is_rect box ≡ true → Again box_at (box_bytes box) box
unfolding Again box_at
box_at-again box h rest =
    rw (
      fixed-again HeaderKind.Short 16 (box_bytes box) (simp (length-append, length-big_endian) refl) rest,
      ap is_rect (box_again box h) ∙ h,
      box_again box h,
    ) refl

-- ---- intervals

five_fields : (a b c d e : List ℕ) → a ++ b ++ c ++ d ++ e ≡ a ++ (b ++ (c ++ (d ++ e)))
five_fields a b c d e = simp append_assoc refl

last_three : (a b c d e : List ℕ) → a ++ b ++ c ++ d ++ e ≡ a ++ b ++ (c ++ (d ++ e))
last_three a b c d e = simp append_assoc refl

last_two : (a b c d e : List ℕ) → a ++ b ++ c ++ d ++ e ≡ a ++ b ++ c ++ (d ++ e)
last_two a b c d e = append_assoc (a ++ b ++ c) d e

last_one : (a b c d e : List ℕ) → a ++ b ++ c ++ d ++ e ≡ a ++ b ++ c ++ d ++ (e ++ [])
last_one a b c d e = ap (λ t. a ++ b ++ c ++ d ++ t) (sym (append-nil e))

interval_again : (at : Interval × SubFile) → FitsInterval at → interval_of_bytes (interval_bytes at) ≡ at
interval_again at h =
    let a = big_endian 1 at.0.base in
    let b = big_endian 1 at.0.min in
    let c = big_endian 1 at.0.max in
    let d = big_endian 8 at.1.start in
    let e = big_endian 8 at.1.size in
    let base = number_behind 1 at.0.base 0 [] (b ++ (c ++ (d ++ e))) (interval_bytes at) h.base refl
    (five_fields a b c d e) in
    let least = number_behind 1 at.0.min 1 a (c ++ (d ++ e)) (interval_bytes at) h.min (length-big_endian 1 at.0.base)
    (five_fields a b c d e) in
    let most = number_behind 1 at.0.max 2 (a ++ b) (d ++ e) (interval_bytes at) h.max
    (simp (length-append, length-big_endian) refl) (last_three a b c d e) in
    let start = number_behind 8 at.1.start 3 (a ++ b ++ c) e (interval_bytes at) h.start
    (simp (length-append, length-big_endian) refl) (last_two a b c d e) in
    let size = number_behind 8 at.1.size 11 (a ++ b ++ c ++ d) [] (interval_bytes at) h.size
    (simp (length-append, length-big_endian) refl) (last_one a b c d e) in
    λ i. (record { base = base i; min = least i; max = most i }, record { start = start i; size = size i })

interval_at-again : (total end : ℕ) (at : Interval × SubFile) → IsIntervalOf total end at
    → Again (interval_at total end) (interval_bytes at) at
unfolding Again interval_at
interval_at-again total end at h rest =
    rw (
      fixed-again HeaderKind.Short 19 (interval_bytes at) (simp (length-append, length-big_endian) refl) rest,
      ap (is_interval total end) (interval_again at h.0) ∙ h.1,
      interval_again at h.0,
    ) refl

all_intervals : (total end : ℕ) (ats : List (Interval × SubFile)) → AllByRecursion FitsInterval ats
    → AllByRecursion (λ at. IsTrue (is_interval total end at)) ats → AllByRecursion (IsIntervalOf total end) ats
all_intervals total end [] f h = tt
all_intervals total end (at ∷ ats) f h = ((f.0, h.0), all_intervals total end ats f.1 h.1)

pub intervals_at-again : (total end : ℕ) (ats : List (Interval × SubFile)) → 1 ≤ length ats → length ats < 256
    → AllByRecursion FitsInterval ats → AllByRecursion (λ at. IsTrue (is_interval total end at)) ats
    → (rest : List ℕ) → intervals_at total end (big_endian 1 (length ats) ++ (flat_map interval_bytes ats ++ rest))
    ≡ Ok (ats, rest)
unfolding Again intervals_at
intervals_at-again total end ats some few f h rest =
    rw (
      fixed_number-again HeaderKind.Short 1 (length ats) few (flat_map interval_bytes ats ++ rest),
      le-leb 1 (length ats) some,
      times-again (interval_at total end) interval_bytes (IsIntervalOf total end) (interval_at-again total end) ats
          (all_intervals total end ats f h) rest,
    ) refl
