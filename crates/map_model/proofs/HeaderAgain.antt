-- What a header tells is read again from its bytes.
use Rattle.std.proofs.Common.{◌≡◌, ℕ, ◌+◌, ◌-◌, ◌^◌, ◌<◌, ◌≤◌, List, [], ◌∷◌, ◌++◌, length, take, drop, refl, sym, ap}
use Rattle.std.proofs.Common.{◌∙◌, subst, arith, true, false, Ok, Option, Some, None, length-append, append_assoc}
use Rattle.std.proofs.Common.{append-nil}
use Rattle.std.specs.Prelude.{flat_map, zip, IfSome, is_some}
use Rattle.std.specs.Str.{is_utf8, chars, bytes_eq}
use Rattle.std.proofs.lemmas.Bool.{le-leb, eq-eqb}
use Rattle.std.proofs.lemmas.List.{drop_at, take_at, take-append-drop}
use Rattle.std.proofs.lemmas.Slice.Zip.{length-zip, firsts-zip, seconds-zip}
use lib.Utf8.{encode}
use Rattle.mf_base.specs.Spelling.{string, big_endian}
use Rattle.map_model.specs.Layout.{optional}
use Rattle.map_model.specs.Header.{HeadSettings, HeaderFields, magic_word, mercator_word, box_bytes, head_flags}
use Rattle.map_model.specs.Header.{tag_list_bytes, interval_bytes, middle_bytes, fields_bytes, header_fields_bytes}
use Rattle.map_model.specs.Reader.{fixed, where_set}
use Rattle.map_model.specs.TileReading.{has_flag, IsText}
use Rattle.map_model.specs.HeaderReading.{Header, header_text_at, intervals_at, head_at, flags_at, optional_at}
use Rattle.map_model.specs.HeaderReading.{version_at, projection_at, fields_at, header_length, fields_of, read_header}
use Rattle.map_model.specs.HeaderReading.{IsHeader, shown_header, ReadsHeader, ReadsMapHeader}
use Rattle.map_model.specs.declared.fault.HeaderKind.{HeaderKind}
use Rattle.mf_base.proofs.ByteLaws.{length-big_endian}
use Rattle.map_model.proofs.PlacesAgain.{Again}
use Rattle.map_model.proofs.RecordsAgain.{num, num-le, flag-num, has_flag-is, fixed_number-again, one_byte-again}
use Rattle.map_model.proofs.RecordsAgain.{where_set-again}
use Rattle.map_model.proofs.HeaderPartsAgain.{string_at-again, tag_list_at-again, fixed-again, box_at-again}
use Rattle.map_model.proofs.HeaderPartsAgain.{intervals_at-again}
use Rattle.map_model.proofs.HeaderFieldsFound.{start_bytes}

-- ---- flags and optional fields

flags_at-again : (flags : ℕ) (rest : List ℕ) → has_flag flags 0x80 ≡ false → flags_at (flags ∷ rest) ≡ Ok (flags, rest)
unfolding flags_at
flags_at-again flags rest plain = rw (one_byte-again HeaderKind.Short flags rest, plain) refl

-- what the flags of a header tell
record AreFlags (set : HeadSettings) (flags : ℕ) : Type 0 where
  plain : has_flag flags 0x80 ≡ false
  start : has_flag flags 0x40 ≡ is_some set.start
  zoom : has_flag flags 0x20 ≡ is_some set.start_zoom
  language : has_flag flags 0x10 ≡ is_some set.language
  comment : has_flag flags 0x08 ≡ is_some set.comment
  created_by : has_flag flags 0x04 ≡ is_some set.created_by

are_flags : (set : HeadSettings) (other : ℕ) → other < 4 → AreFlags set (head_flags set + other)
unfolding num
are_flags set other few =
    let flags = head_flags set + other in
    let a = flag-num (is_some set.start) 0x40 in
    let b = flag-num (is_some set.start_zoom) 0x20 in
    let c = flag-num (is_some set.language) 0x10 in
    let d = flag-num (is_some set.comment) 0x08 in
    let e = flag-num (is_some set.created_by) 0x04 in
    let la = num-le (is_some set.start) in
    let lb = num-le (is_some set.start_zoom) in
    let lc = num-le (is_some set.language) in
    let ld = num-le (is_some set.comment) in
    let le = num-le (is_some set.created_by) in
    record {
      plain = has_flag-is flags 0x80 false (omega (arith, a, b, c, d, e, la, lb, lc, ld, le, few));
      start = has_flag-is flags 0x40 (is_some set.start) (omega (arith, a, b, c, d, e, la, lb, lc, ld, le, few));
      zoom = has_flag-is flags 0x20 (is_some set.start_zoom) (omega (arith, a, b, c, d, e, la, lb, lc, ld, le, few));
      language = has_flag-is flags 0x10 (is_some set.language) (omega (arith, a, b, c, d, e, la, lb, lc, ld, le, few));
      comment = has_flag-is flags 0x08 (is_some set.comment) (omega (arith, a, b, c, d, e, la, lb, lc, ld, le, few));
      created_by = has_flag-is flags 0x04 (is_some set.created_by)
          (omega (arith, a, b, c, d, e, la, lb, lc, ld, le, few));
    }

-- a field of so many bytes that nothing is read from
passed : {X : Type 0} (width : ℕ) (bytes : X → List ℕ) → ((x : X) → length (bytes x) ≡ width)
    → (o : Option X) (rest : List ℕ)
    → (field : Option (List ℕ))
    × (where_set (is_some o) (fixed HeaderKind.Short width) (optional bytes o ++ rest) ≡ Ok (field, rest))
unfolding Again
passed width bytes len None rest = (None, refl)
passed width bytes len (Some x) rest =
    (Some (bytes x), rw (fixed-again HeaderKind.Short width (bytes x) (len x) rest) refl)

-- the optional fields in their order
abbrev optional_bytes : HeadSettings → List ℕ → List ℕ
optional_bytes set rest =
    optional start_bytes set.start
    ++ (optional (big_endian 1) set.start_zoom
    ++ (optional string set.language ++ (optional string set.comment ++ (optional string set.created_by ++ rest))))

optional_at-again : (set : HeadSettings) (flags : ℕ) (rest : List ℕ) → AreFlags set flags → IfSome set.language IsText
    → IfSome set.comment IsText → IfSome set.created_by IsText
    → optional_at flags (optional_bytes set rest) ≡ Ok (tt, rest)
unfolding optional_at
optional_at-again set flags rest f language comment created_by =
    let after_comment = optional string set.created_by ++ rest in
    let after_language = optional string set.comment ++ after_comment in
    let after_zoom = optional string set.language ++ after_language in
    let after_start = optional (big_endian 1) set.start_zoom ++ after_zoom in
    rw (
      f.start,
      f.zoom,
      f.language,
      f.comment,
      f.created_by,
      (passed 8 start_bytes (λ p. simp (length-append, length-big_endian) refl) set.start after_start).1,
      (passed 1 (big_endian 1) (length-big_endian 1) set.start_zoom after_zoom).1,
      where_set-again header_text_at string IsText string_at-again set.language language after_language,
      where_set-again header_text_at string IsText string_at-again set.comment comment after_comment,
      where_set-again header_text_at string IsText string_at-again set.created_by created_by rest,
    ) refl

-- ---- the other fields

version_at-again : (total : ℕ) → total < 2 ^ 64 → (rest : List ℕ)
    → version_at total (big_endian 4 5 ++ (big_endian 8 total ++ rest)) ≡ Ok (tt, rest)
unfolding version_at Again
version_at-again total known rest =
    rw (
      fixed_number-again HeaderKind.Short 4 5 (omega arith) (big_endian 8 total ++ rest),
      fixed_number-again HeaderKind.Short 8 total known rest,
      eq-eqb total total refl,
    ) refl

mercator_text : IsText mercator_word
unfolding is_utf8 chars encode
mercator_text = (omega arith, refl)

projection_at-again : (tile_size : ℕ) (rest : List ℕ)
    → projection_at (big_endian 2 tile_size ++ (string mercator_word ++ rest)) ≡ Ok (tt, rest)
unfolding projection_at Again
projection_at-again tile_size rest =
    rw (
      fixed-again HeaderKind.Short 2 (big_endian 2 tile_size) (length-big_endian 2 tile_size) (string mercator_word
          ++ rest),
      string_at-again mercator_word mercator_text rest,
    ) refl

-- ---- all fields

regroup_fields : (v t d b s w f z l c k p y n i r : List ℕ)
    → v ++ t ++ d ++ b ++ (s ++ w ++ f ++ z ++ l ++ c ++ k ++ p ++ y ++ n) ++ i ++ r ≡ v
    ++ (t ++ (d ++ (b ++ (s ++ (w ++ (f ++ (z ++ (l ++ (c ++ (k ++ (p ++ (y ++ (n ++ (i ++ r))))))))))))))
regroup_fields v t d b s w f z l c k p y n i r = simp append_assoc refl

-- the fields behind the optional ones
abbrev last_bytes : HeaderFields → List ℕ
last_bytes h = tag_list_bytes h.names.poi
    ++ (tag_list_bytes h.names.way
    ++ (big_endian 1 (length h.settings.intervals) ++ (flat_map interval_bytes (zip h.settings.intervals h.subs)
    ++ h.after)))

-- all fields, one behind the other
abbrev fields_in_order : ℕ → HeaderFields → List ℕ
fields_in_order total h =
    big_endian 4 5 ++ (big_endian 8 total ++ (big_endian 8 h.settings.date ++ (box_bytes h.bounds
    ++ (big_endian 2 h.tile_size
    ++ (string mercator_word ++ ((head_flags h.settings + h.other) ∷ optional_bytes h.settings (last_bytes h)))))))

fields_split : (total : ℕ) (h : HeaderFields) → fields_bytes total h ≡ fields_in_order total h
unfolding fields_bytes middle_bytes
fields_split total h =
    regroup_fields (big_endian 4 5) (big_endian 8 total) (big_endian 8 h.settings.date) (box_bytes h.bounds)
    (big_endian 2 h.tile_size) (string mercator_word)
    ((head_flags h.settings + h.other) ∷ optional start_bytes h.settings.start)
    (optional (big_endian 1) h.settings.start_zoom) (optional string h.settings.language)
    (optional string h.settings.comment) (optional string h.settings.created_by)
    (tag_list_bytes h.names.poi) (tag_list_bytes h.names.way) (big_endian 1 (length h.settings.intervals))
    (flat_map interval_bytes (zip h.settings.intervals h.subs)) h.after

intervals_read : (total end : ℕ) (h : HeaderFields) → IsHeader total end h
    → intervals_at total end (big_endian 1 (length h.settings.intervals)
    ++ (flat_map interval_bytes (zip h.settings.intervals h.subs) ++ h.after))
    ≡ Ok (zip h.settings.intervals h.subs, h.after)
intervals_read total end h x =
    let same = x.count.2 in
    let many : length (zip h.settings.intervals h.subs) ≡ length h.settings.intervals =
    length-zip h.settings.intervals h.subs ∙ omega (arith, same) in
    ap (λ n. intervals_at total end (big_endian 1 n ++ (flat_map interval_bytes (zip h.settings.intervals h.subs)
    ++ h.after))) (sym many)
    ∙ intervals_at-again total end (zip h.settings.intervals h.subs) (rw many x.count.0) (rw many x.count.1) x.fit
    x.intervals h.after

fields_at-again : (total end : ℕ) (h : HeaderFields) → IsHeader total end h
    → fields_at total end (fields_bytes total h) ≡ Ok (shown_header h, h.after)
unfolding fields_at Again
fields_at-again total end h x =
    let flags = are_flags h.settings h.other x.other in
    let after_flags = optional_bytes h.settings (last_bytes h) in
    let after_box = big_endian 2 h.tile_size
    ++ (string mercator_word ++ ((head_flags h.settings + h.other) ∷ after_flags)) in
    let after_way = big_endian 1 (length h.settings.intervals)
    ++ (flat_map interval_bytes (zip h.settings.intervals h.subs) ++ h.after) in
    ap (fields_at total end) (fields_split total h)
    ∙ rw (
      version_at-again total x.known (big_endian 8 h.settings.date ++ (box_bytes h.bounds ++ after_box)),
      fixed_number-again HeaderKind.Short 8 h.settings.date x.date (box_bytes h.bounds ++ after_box),
      box_at-again h.bounds x.box after_box,
      projection_at-again h.tile_size ((head_flags h.settings + h.other) ∷ after_flags),
      flags_at-again (head_flags h.settings + h.other) after_flags flags.plain,
      optional_at-again h.settings (head_flags h.settings + h.other) (last_bytes h) flags x.language x.comment
          x.created_by,
      tag_list_at-again h.names.poi x.poi (tag_list_bytes h.names.way ++ after_way),
      tag_list_at-again h.names.way x.way after_way,
      intervals_read total end h x,
      firsts-zip h.settings.intervals h.subs x.count.2,
      seconds-zip h.settings.intervals h.subs x.count.2,
    ) refl

-- ---- the header

head_of : (total n : ℕ) (word : List ℕ) → length word ≡ 20 → bytes_eq word magic_word ≡ true → n ≤ 5000000
    → 24 + n ≤ total → head_at total (word ++ (big_endian 4 n ++ [])) ≡ Ok (n, [])
unfolding head_at Again
head_of total n word len same least within =
    rw (
      fixed-again HeaderKind.Short 20 word len (big_endian 4 n ++ []),
      same,
      fixed_number-again HeaderKind.Short 4 n (omega (arith, least)) [],
      le-leb n 5000000 least,
      le-leb (24 + n) total within,
    ) refl

-- the size of the fields of a header
abbrev size_of : ℕ → HeaderFields → ℕ
size_of total h = length (fields_bytes total h)

abbrev first_24 : ℕ → List ℕ
first_24 n = magic_word ++ big_endian 4 n

length-first_24 : (n : ℕ) → length (first_24 n) ≡ 24
length-first_24 n = length-append magic_word (big_endian 4 n) ∙ ap (λ k. 20 + k) (length-big_endian 4 n)

-- the bytes of a header, and what is behind them
record IsSplit (total : ℕ) (h : HeaderFields) (bytes rest : List ℕ) : Type 0 where
  first : take 24 (bytes ++ rest) ≡ first_24 (size_of total h)
  all : take (24 + size_of total h) (bytes ++ rest) ≡ bytes
  fields : drop 24 bytes ≡ fields_bytes total h
  many : length bytes ≡ 24 + size_of total h

split : (total : ℕ) (h : HeaderFields) (bytes rest : List ℕ) → bytes ≡ header_fields_bytes total h
    → IsSplit total h bytes rest
unfolding header_fields_bytes
split total h bytes rest spelt =
    let n = size_of total h in
    let many : length bytes ≡ 24 + n =
    ap length spelt ∙ length-append (first_24 n) (fields_bytes total h) ∙ ap (λ k. k + n) (length-first_24 n) in
    record {
      first = ap (λ t. take 24 (t ++ rest)) spelt ∙ ap (take 24) (append_assoc (first_24 n) (fields_bytes total h) rest)
          ∙ take_at (first_24 n) (fields_bytes total h ++ rest) 24 (length-first_24 n);
      all = take_at bytes rest (24 + n) many;
      fields = ap (drop 24) spelt ∙ drop_at (first_24 n) (fields_bytes total h) 24 (length-first_24 n);
      many = many;
    }

header_length-spelt : (total : ℕ) (h : HeaderFields) (bytes rest : List ℕ) → IsHeader total (length bytes) h
    → IsSplit total h bytes rest → header_length total (bytes ++ rest) ≡ Ok (size_of total h)
unfolding header_length
header_length-spelt total h bytes rest x s =
    let many = s.many in
    let least = x.within.0 in
    let within = x.within.1 in
    let head = ap (λ t. head_at total (magic_word ++ t)) (sym (append-nil (big_endian 4 (size_of total h))))
    ∙ head_of total (size_of total h) magic_word refl refl (omega (arith, many, least))
    (omega (arith, many, within)) in
    rw (s.first, head) refl

fields_of-spelt : (total : ℕ) (h : HeaderFields) (bytes rest : List ℕ) → IsHeader total (length bytes) h
    → IsSplit total h bytes rest → fields_of total (size_of total h) (bytes ++ rest) ≡ Ok (shown_header h)
unfolding fields_of
fields_of-spelt total h bytes rest x s =
    rw (s.all, s.fields, fields_at-again total (24 + size_of total h) h (subst (λ end. IsHeader total end h) s.many x))
    refl

-- what spells a header is read as it, whatever follows
pub header_again : (total : ℕ) (bytes rest : List ℕ) (header : Header) → ReadsHeader total bytes header
    → read_header total (bytes ++ rest) ≡ Ok header
unfolding read_header
header_again total bytes rest header h =
    let s = split total h.0 bytes rest h.2 in
    rw (header_length-spelt total h.0 bytes rest h.1 s, fields_of-spelt total h.0 bytes rest h.1 s, h.3) refl

-- and its size is told
pub header_length_again : (total : ℕ) (bytes rest : List ℕ) (header : Header) → ReadsHeader total bytes header
    → header_length total (bytes ++ rest) ≡ Ok (length bytes - 24)
header_length_again total bytes rest header h =
    let s = split total h.0 bytes rest h.2 in
    let many = s.many in
    header_length-spelt total h.0 bytes rest h.1 s ∙ ap Ok (omega (arith, many))

pub file_again : (file : List ℕ) (header : Header) → ReadsMapHeader file header
    → read_header (length file) file ≡ Ok header
file_again file header h = ap (read_header (length file)) (sym (take-append-drop h.0 file))
    ∙ header_again (length file) (take h.0 file) (drop h.0 file) header h.1
