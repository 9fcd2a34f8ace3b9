-- What is read as a header is spelled so.
use Rattle.std.proofs.Common.{◌≡◌, ℕ, ◌+◌, ◌%◌, ◌<◌, ◌≤◌, List, [], ◌∷◌, ◌++◌, map, length, take, drop, refl, sym, ap}
use Rattle.std.proofs.Common.{◌∙◌, subst, arith, false, Result, Ok, Err, length-append}
use Rattle.std.specs.Prelude.{nat_le, IsTrue, flat_map, zip, is_some}
use Rattle.std.specs.List.{AllByRecursion}
use Rattle.std.proofs.lemmas.Bool.{leb-true, and_parts}
use Rattle.std.proofs.lemmas.List.{length-map, length-drop, length-take-le, take-take, take-append-drop}
use Rattle.std.proofs.lemmas.Slice.Eq.{bytes_eq-Decides}
use Rattle.mf_base.specs.Spelling.{IsBytes, big_endian}
use Rattle.mf_base.specs.declared.place.Rect.{Rect}
use Rattle.mf_base.specs.declared.tile.Interval.{Interval}
use Rattle.mf_base.proofs.StepLaws.{err_is_no_ok, bind_ok, require_ok, ok_is}
use Rattle.map_model.specs.Header.{HeadSettings, SubFile, HeaderFields, magic_word, head_flags, interval_bytes}
use Rattle.map_model.specs.Header.{middle_bytes, fields_bytes, header_fields_bytes}
use Rattle.map_model.specs.Reader.{with_place, fixed_number}
use Rattle.map_model.specs.TileReading.{has_flag}
use Rattle.map_model.specs.HeaderReading.{header_fault_at, Header, tag_list_at, box_at, intervals_at, head_at, flags_at}
use Rattle.map_model.specs.HeaderReading.{optional_at, version_at, projection_at, fields_at, value_alone, header_length}
use Rattle.map_model.specs.HeaderReading.{fields_of, read_header, FitsInterval, is_interval, IsHeader, shown_header}
use Rattle.map_model.specs.HeaderReading.{ReadsHeader, ReadsMapHeader}
use Rattle.map_model.specs.declared.fault.HeaderKind.{HeaderKind}
use Rattle.map_model.specs.declared.fault.HeaderFault.{HeaderFault}
use Rattle.mf_base.proofs.ByteLaws.{length-big_endian, take-bytes, drop-bytes}
use Rattle.map_model.proofs.ReaderFound.{placed_ok, none_left, Takes, then, fixed-found, fixed_number-found}
use Rattle.map_model.proofs.RecordsFound.{below_4, flag_as}
use Rattle.map_model.proofs.HeaderPartsFound.{IsIntervalOf, tag_list_at-found, box_at-found, intervals_at-found}
use Rattle.map_model.proofs.HeaderFieldsFound.{AreOptions, IsProjection, flags_at-found, optional_at-found}
use Rattle.map_model.proofs.HeaderFieldsFound.{version_at-found, projection_at-found}

-- ---- intervals and sub-files side by side

zip_of_parts : (ats : List (Interval × SubFile)) → zip (map (λ at. at.0) ats) (map (λ at. at.1) ats) ≡ ats
zip_of_parts [] = refl
zip_of_parts (at ∷ ats) = ap (λ others. at ∷ others) (zip_of_parts ats)

all_fit : (total end : ℕ) (ats : List (Interval × SubFile)) → AllByRecursion (IsIntervalOf total end) ats
    → AllByRecursion FitsInterval ats
all_fit total end [] h = tt
all_fit total end (at ∷ ats) h = (h.0.0, all_fit total end ats h.1)

all_lie : (total end : ℕ) (ats : List (Interval × SubFile)) → AllByRecursion (IsIntervalOf total end) ats
    → AllByRecursion (λ at. IsTrue (is_interval total end at)) ats
all_lie total end [] h = tt
all_lie total end (at ∷ ats) h = (h.0.1, all_lie total end ats h.1)

-- ---- the fields

abbrev header_of : Rect → ℕ → List (Interval × SubFile) → List (List ℕ) → List (List ℕ) → Header
header_of bounds date ats poi way =
    record {
      bounds = bounds;
      date = date;
      intervals = map (λ at. at.0) ats;
      subs = map (λ at. at.1) ats;
      names = record { poi = poi; way = way };
    }

-- the fields as they are read, one after the other
record FieldParts (total end : ℕ) (bytes : List ℕ) (r : Header × List ℕ) : Type 0 where
  front : Unit {0} × List ℕ
  at_front : version_at total bytes ≡ Ok front
  date : ℕ × List ℕ
  at_date : fixed_number HeaderKind.Short 8 front.1 ≡ Ok date
  box : Rect × List ℕ
  at_box : box_at date.1 ≡ Ok box
  tile : Unit {0} × List ℕ
  at_tile : projection_at box.1 ≡ Ok tile
  flags : ℕ × List ℕ
  at_flags : flags_at tile.1 ≡ Ok flags
  options : Unit {0} × List ℕ
  at_options : optional_at flags.0 flags.1 ≡ Ok options
  poi : List (List ℕ) × List ℕ
  at_poi : tag_list_at options.1 ≡ Ok poi
  way : List (List ℕ) × List ℕ
  at_way : tag_list_at poi.1 ≡ Ok way
  intervals : List (Interval × SubFile) × List ℕ
  at_intervals : intervals_at total end way.1 ≡ Ok intervals
  is : (header_of box.0 date.0 intervals.0 poi.0 way.0, intervals.1) ≡ r

field_parts : (total end : ℕ) (bytes : List ℕ) (r : Header × List ℕ) → fields_at total end bytes ≡ Ok r
    → FieldParts total end bytes r
unfolding fields_at
field_parts total end bytes r e =
    let front = bind_ok _ _ r e in
    let date = bind_ok _ _ r front.2 in
    let box = bind_ok _ _ r date.2 in
    let tile = bind_ok _ _ r box.2 in
    let flags = bind_ok _ _ r tile.2 in
    let options = bind_ok _ _ r flags.2 in
    let poi = bind_ok _ _ r options.2 in
    let way = bind_ok _ _ r poi.2 in
    let intervals = bind_ok _ _ r way.2 in
    record {
      front = front.0;
      at_front = front.1;
      date = date.0;
      at_date = date.1;
      box = box.0;
      at_box = box.1;
      tile = tile.0;
      at_tile = tile.1;
      flags = flags.0;
      at_flags = flags.1;
      options = options.0;
      at_options = options.1;
      poi = poi.0;
      at_poi = poi.1;
      way = way.0;
      at_way = way.1;
      intervals = intervals.0;
      at_intervals = intervals.1;
      is = ok_is (header_of box.0.0 date.0.0 intervals.0.0 poi.0.0 way.0.0, intervals.0.1) r intervals.2;
    }

head_flags-sum : (set : HeadSettings) (flags : ℕ) → flags < 256 → has_flag flags 0x80 ≡ false
    → is_some set.start ≡ has_flag flags 0x40 → is_some set.start_zoom ≡ has_flag flags 0x20
    → is_some set.language ≡ has_flag flags 0x10
    → is_some set.comment ≡ has_flag flags 0x08 → is_some set.created_by ≡ has_flag flags 0x04
    → head_flags set + flags % 4 ≡ flags
head_flags-sum set flags fits plain start zoom language comment created_by =
    let o = flag_as flags 0x80 false (sym plain) in
    let a = flag_as flags 0x40 (is_some set.start) start in
    let b = flag_as flags 0x20 (is_some set.start_zoom) zoom in
    let c = flag_as flags 0x10 (is_some set.language) language in
    let d = flag_as flags 0x08 (is_some set.comment) comment in
    let e = flag_as flags 0x04 (is_some set.created_by) created_by in
    omega (arith, o, a, b, c, d, e, fits)

-- what the fields tell
abbrev told_fields : (total end : ℕ) (bytes : List ℕ) (r : Header × List ℕ) → (x : FieldParts total end bytes r)
    → IsProjection x.box.1 x.tile.1 → AreOptions x.flags.0 x.flags.1 x.options.1 → HeaderFields
told_fields total end bytes r x p o = record {
  settings = record {
    date = x.date.0;
    start = o.start;
    start_zoom = o.zoom;
    language = o.language;
    comment = o.comment;
    created_by = o.created_by;
    intervals = map (λ at. at.0) x.intervals.0;
  };
  bounds = x.box.0;
  tile_size = p.tile_size;
  other = x.flags.0 % 4;
  names = record { poi = x.poi.0; way = x.way.0 };
  subs = map (λ at. at.1) x.intervals.0;
  after = x.intervals.1;
}

-- bytes that are the fields of a header of a file of so many bytes, which ends at `end`
record AreFields (total end : ℕ) (bytes : List ℕ) (header : Header) : Type 0 where
  fields : HeaderFields
  fits : IsHeader total end fields
  spelt : bytes ≡ fields_bytes total fields
  shown : header ≡ shown_header fields

fields_from : (total end : ℕ) (bytes : List ℕ) (r : Header × List ℕ) → IsBytes bytes → end ≤ 24 + 5000000 → end ≤ total
    → FieldParts total end bytes r → AreFields total end bytes r.0
unfolding fields_bytes middle_bytes
fields_from total end bytes r small least within x =
    let a = version_at-found total bytes x.front small x.at_front in
    let b = fixed_number-found HeaderKind.Short 8 x.front.1 x.date a.0.behind x.at_date in
    let c = box_at-found x.date.1 x.box b.0.behind x.at_box in
    let p = projection_at-found x.box.1 x.tile c.0.behind x.at_tile in
    let f = flags_at-found x.tile.1 x.flags p.text.behind x.at_flags in
    let o = optional_at-found x.flags.0 x.flags.1 x.options f.0.behind x.at_options in
    let g = tag_list_at-found x.options.1 x.poi o.created_by_text.behind x.at_poi in
    let w = tag_list_at-found x.poi.1 x.way g.0.behind x.at_way in
    let i = intervals_at-found total end x.way.1 x.intervals w.0.behind x.at_intervals in
    let h = told_fields total end bytes r x p o in
    let sum = head_flags-sum h.settings x.flags.0 f.1.0 f.1.1 o.start_set o.zoom_set o.language_set o.comment_set
    o.created_by_set in
    let flags = subst (λ n. Takes x.tile.1 (n ∷ []) x.flags.1) (sym sum) f.0 in
    let many = length-map x.intervals.0 (λ at. at.0) in
    let subs = length-map x.intervals.0 (λ at. at.1) in
    let zipped = zip_of_parts x.intervals.0 in
    let count = subst (λ n. Takes x.way.1 (big_endian 1 n) i.middle) (sym many) i.count in
    let options = then (then (then (then (then p.text (then flags o.start_text)) o.zoom_text) o.language_text)
    o.comment_text) o.created_by_text in
    let middle = then (then (then options g.0) w.0) count in
    let pairs = subst (λ ats. Takes i.middle (flat_map interval_bytes ats) x.intervals.1) (sym zipped) i.text in
    let all = then (then (then (then a.0 b.0) c.0) middle) pairs in
    record {
      fields = h;
      fits = record {
        within = (least, within);
        known = a.1;
        date = b.1;
        box = c.1;
        tile_size = p.fits;
        other = below_4 x.flags.0;
        start = o.start_fits;
        start_zoom = o.zoom_fits;
        language = o.language_fits;
        comment = o.comment_fits;
        created_by = o.created_by_fits;
        poi = g.1;
        way = w.1;
        count = (rw many i.some, rw many i.few, subs ∙ sym many);
        fit = subst (AllByRecursion FitsInterval) (sym zipped) (all_fit total end x.intervals.0 i.each);
        intervals = subst (AllByRecursion (λ at. IsTrue (is_interval total end at))) (sym zipped)
            (all_lie total end x.intervals.0 i.each);
      };
      spelt = all.spelt;
      shown = ap (λ (q : Header × List ℕ). q.0) (sym x.is);
    }

-- ---- the header

-- the first two fields
record IsHead (total : ℕ) (bytes : List ℕ) (n : ℕ) (rest : List ℕ) : Type 0 where
  text : Takes bytes (magic_word ++ big_endian 4 n) rest
  least : n ≤ 5000000
  within : 24 + n ≤ total

head_at-found : (total : ℕ) (bytes : List ℕ) (r : ℕ × List ℕ) → IsBytes bytes → head_at total bytes ≡ Ok r
    → IsHead total bytes r.0 r.1
unfolding head_at
head_at-found total bytes r small e =
    let word = bind_ok _ _ r e in
    let right = bind_ok _ _ r word.2 in
    let n = bind_ok _ _ r right.2 in
    let fits = bind_ok _ _ r n.2 in
    let a = fixed-found HeaderKind.Short 20 bytes word.0 small word.1 in
    let b = fixed_number-found HeaderKind.Short 4 word.0.1 n.0 a.0.behind n.1 in
    let is = (bytes_eq-Decides word.0.0 magic_word).0 (require_ok _ _ _ right.1) in
    let both = and_parts (nat_le n.0.0 5000000) (nat_le (24 + n.0.0) total) (require_ok _ _ _ fits.1) in
    subst (λ (q : ℕ × List ℕ). IsHead total bytes q.0 q.1) (ok_is n.0 r fits.2)
    record {
      text = then (subst (λ text. Takes bytes text word.0.1) is a.0) b.0;
      least = leb-true n.0.0 5000000 both.0;
      within = leb-true (24 + n.0.0) total both.1;
    }

value_alone_ok : {X : Type 0} (r : Result (X × List ℕ) HeaderFault) (x : X) → value_alone r ≡ Ok x
    → (rest : List ℕ) × (r ≡ Ok (x, rest))
value_alone_ok (Ok r) x e = (r.1, ap (λ y. Ok (y, r.1)) (ok_is r.0 x e))
value_alone_ok (Err f) x e = absurd (err_is_no_ok f x e)

-- the first 24 bytes are the word and the size
record IsStart (total : ℕ) (bytes : List ℕ) (n : ℕ) : Type 0 where
  text : take 24 bytes ≡ magic_word ++ big_endian 4 n
  least : n ≤ 5000000
  within : 24 + n ≤ total

length-magic : (n : ℕ) → length (magic_word ++ big_endian 4 n) ≡ 24
length-magic n = length-append magic_word (big_endian 4 n) ∙ ap (λ k. 20 + k) (length-big_endian 4 n)

header_length-found : (total n : ℕ) (bytes : List ℕ) → IsBytes bytes → 24 ≤ length bytes
    → header_length total bytes ≡ Ok n → IsStart total bytes n
unfolding header_length
header_length-found total n bytes small some e =
    let alone = value_alone_ok (with_place header_fault_at (length (take 24 bytes)) (head_at total (take 24 bytes))) n e
    in
    let read = placed_ok header_fault_at (length (take 24 bytes)) (head_at total (take 24 bytes)) (n, alone.0) alone.1
    in
    let head = head_at-found total (take 24 bytes) (n, alone.0) (take-bytes 24 bytes small) read in
    let all = length-take-le 24 bytes some in
    let sum = ap length head.text.spelt ∙ length-append (magic_word ++ big_endian 4 n) alone.0 in
    let none : length alone.0 ≡ 0 = omega (arith, all, sum, length-magic n) in
    record {
      text = none_left (take 24 bytes) (magic_word ++ big_endian 4 n) alone.0 head.text none;
      least = head.least;
      within = head.within;
    }

fields_of-found : (total n : ℕ) (bytes : List ℕ) (header : Header) → IsBytes bytes → IsStart total bytes n
    → fields_of total n bytes ≡ Ok header → AreFields total (24 + n) (drop 24 (take (24 + n) bytes)) header
unfolding fields_of
fields_of-found total n bytes header small start e =
    let part = drop 24 (take (24 + n) bytes) in
    let alone = value_alone_ok (with_place header_fault_at (length (take (24 + n) bytes))
    (fields_at total (24 + n) part)) header e in
    let read = placed_ok header_fault_at (length (take (24 + n) bytes)) (fields_at total (24 + n) part)
    (header, alone.0) alone.1 in
    let least = start.least in
    fields_from total (24 + n) part (header, alone.0)
    (drop-bytes 24 (take (24 + n) bytes) (take-bytes (24 + n) bytes small)) (omega (arith, least)) start.within
    (field_parts total (24 + n) part (header, alone.0) read)

reads_from : (total n : ℕ) (bytes : List ℕ) (header : Header) → 24 + n ≤ length bytes → IsStart total bytes n
    → AreFields total (24 + n) (drop 24 (take (24 + n) bytes)) header → ReadsHeader total (take (24 + n) bytes) header
unfolding header_fields_bytes
reads_from total n bytes header some start x =
    let all = length-take-le (24 + n) bytes some in
    let size : length (fields_bytes total x.fields) ≡ n =
    sym (ap length x.spelt) ∙ length-drop 24 (take (24 + n) bytes) ∙ omega (arith, all) in
    let front : take 24 (take (24 + n) bytes) ≡ magic_word ++ big_endian 4 (length (fields_bytes total x.fields)) =
    take-take 24 (24 + n) bytes (omega arith) ∙ start.text ∙ ap (λ k. magic_word ++ big_endian 4 k) (sym size) in (
      x.fields,
      subst (λ end. IsHeader total end x.fields) (sym all) x.fits,
      sym (take-append-drop 24 (take (24 + n) bytes)) ∙ (λ i. front i ++ x.spelt i),
      x.shown,
    )

-- what is read as a header is spelled so
pub header_spelled : (total n : ℕ) (bytes : List ℕ) (header : Header) → IsBytes bytes → header_length total bytes ≡ Ok n
    → 24 + n ≤ length bytes → read_header total bytes ≡ Ok header → ReadsHeader total (take (24 + n) bytes) header
unfolding read_header
header_spelled total n bytes header small told some e =
    let start = header_length-found total n bytes small (omega (arith, some)) told in
    let parts = bind_ok _ _ header e in
    let same : parts.0 ≡ n = ok_is parts.0 n (sym parts.1 ∙ told) in
    reads_from total n bytes header some start
    (fields_of-found total n bytes header small start
    (subst (λ k. fields_of total k bytes ≡ Ok header) same parts.2))

-- and of a whole file the size that it tells is within it
pub file_spelled : (file : List ℕ) (header : Header) → IsBytes file → read_header (length file) file ≡ Ok header
    → ReadsMapHeader file header
unfolding read_header header_length
file_spelled file header small e =
    let parts = bind_ok _ _ header e in
    let alone = value_alone_ok
    (with_place header_fault_at (length (take 24 file)) (head_at (length file) (take 24 file))) parts.0 parts.1 in
    let read = placed_ok header_fault_at (length (take 24 file)) (head_at (length file) (take 24 file))
    (parts.0, alone.0) alone.1 in
    let head = head_at-found (length file) (take 24 file) (parts.0, alone.0) (take-bytes 24 file small) read in
    (24 + parts.0, header_spelled (length file) parts.0 file header small parts.1 head.within e)

pub ruleset header_laws = (header_spelled, file_spelled)
