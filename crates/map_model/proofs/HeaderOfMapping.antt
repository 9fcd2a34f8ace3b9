-- The header of an accepted mapping, of settings and of a box has few bytes, and is read again: for the writer of
-- headers and for the whole map.
use Rattle.std.proofs.Common.{◌≡◌, ℕ, suc, ◌+◌, ◌*◌, ◌/◌, ◌^◌, ◌<◌, ◌≤◌, List, [], ◌∷◌, ◌++◌, map, length}
use Rattle.std.proofs.Common.{refl, sym, ap, ◌∙◌, subst, arith, length-append, true, false, Option, Some, None, inl}
use Rattle.std.proofs.Common.{inr}
use Rattle.std.specs.Prelude.{ℤ, not, ◌&&◌, ◌||◌, ◌==◌, leb, IsTrue, IfSome, zip, drop, flat_map, sum, codes}
use Rattle.std.specs.Prelude.{bytes_eq, pos, negsuc}
use Rattle.std.specs.List.{AllByRecursion, list_all}
use Rattle.std.specs.Str.{is_utf8}
use Rattle.std.proofs.lemmas.Bool.{cases_Bool, cases_lt, and_parts, leb-true, le-leb}
use Rattle.std.proofs.lemmas.List.{length-map}
use Rattle.std.proofs.lemmas.List.Sums.{sum_by-cons}
use Rattle.std.proofs.lemmas.Slice.Eq.{bytes_eq-Decides}
use Rattle.std.proofs.lemmas.Str.{IsUtf8-append, IsUtf8-from_is_utf8, is_utf8-from_IsUtf8}
use Rattle.mf_base.specs.declared.place.Place.{Place}
use Rattle.mf_base.specs.declared.place.Rect.{Rect}
use Rattle.mf_base.specs.declared.tile.Interval.{Interval}
use Rattle.mf_base.specs.declared.kind.List as which
use Rattle.mf_base.specs.Texts.{begins, has_text, is_among}
use Rattle.mf_base.specs.Spelling.{string, big_endian, vbe_unsigned}
use Rattle.mf_base.specs.Ranges.{is_rect, is_on_earth, is_latitude, is_longitude, is_signed_32}
use Rattle.mf_base.proofs.ByteLaws.{length-big_endian}
use Rattle.mf_base.proofs.OneSpelling.{vbe-small, vbe-more}
use Rattle.feature_model.specs.Mapping.{Entry, Mapping}
use Rattle.feature_model.specs.Entries.{keeps_kind_rule, IsEntry, AreEntries, IsMapping}
use Rattle.feature_model.proofs.EntryLaws.{entry_rule-is}
use Rattle.feature_model.proofs.ListLemmas.{all-map, all-weaker}
use Rattle.map_model.specs.Layout.{optional}
use Rattle.map_model.specs.Intervals.{is_zoom_range, are_intervals}
use Rattle.map_model.specs.TagLists.{entry_text, tag_lists}
use Rattle.map_model.specs.TileReading.{IsText, IsPlaceOf32Bits}
use Rattle.map_model.specs.Header.{HeadSettings, IsHeadSettings, IsShortText, SubFile, be_signed}
use Rattle.map_model.specs.Header.{middle_bytes, header_size, header_bytes, header_fields_bytes}
use Rattle.map_model.specs.Header.{written_header, sub_files}
use Rattle.map_model.specs.HeaderReading.{IsTagName, AreTagNames, FitsInterval, is_interval, IsHeader, ReadsHeader}
use Rattle.map_model.specs.HeaderReading.{shown_header}
use Rattle.map_model.proofs.Compute.{compute}
use Rattle.map_model.proofs.TileLaws.{entry-value}
use Rattle.map_model.proofs.SizeLemmas.{length-header_bytes}
use Rattle.map_model.proofs.FileLaws.{sub_files-running, length-sub_files, file_size-is}

-- ---- entries are tags of a header

no-float : (v : List ℕ) → bytes_eq v (37 ∷ 102 ∷ []) ≡ true
    → (not (begins (codes "%") v) || is_among (codes "%b" ∷ codes "%h" ∷ codes "%i" ∷ codes "%s" ∷ []) v) ≡ false
no-float v e = let is : v ≡ 37 ∷ 102 ∷ [] = (bytes_eq-Decides v (37 ∷ 102 ∷ [])).0 e in rw (is) refl

value-is_no_float : (e : Entry) → keeps_kind_rule e ≡ true → bytes_eq e.value (37 ∷ 102 ∷ []) ≡ false
unfolding keeps_kind_rule
value-is_no_float e rule =
    elim (cases_Bool (bytes_eq e.value (37 ∷ 102 ∷ []))) [
      | inl float ↦ absurd
          (cc (
            no-float e.value float,
            (and_parts (not (begins (codes "%") e.value)
                || is_among (codes "%b" ∷ codes "%h" ∷ codes "%i" ∷ codes "%s" ∷ []) e.value)
                (not (bytes_eq e.value (codes "%i") && has_text (codes ":colour") e.key)) rule).0,
          ))
      | inr other ↦ other
    ]

equals-utf8 : is_utf8 (61 ∷ []) ≡ true
unfolding compute
equals-utf8 = refl

pub entry-tag : (list : which.List) (e : Entry) → IsEntry list e
    → IsTagName (entry_text e) × (length (entry_text e) ≤ 511)
entry-tag list e is =
    let rule = entry_rule-is list e is.entry_rule in
    let key = rule.key in
    let value = rule.value in
    let long = length-append e.key (61 ∷ e.value) in
    let utf8 = is_utf8-from_IsUtf8 (e.key ++ 61 ∷ e.value)
    (IsUtf8-append e.key (61 ∷ e.value) (IsUtf8-from_is_utf8 e.key is.text.0)
    (IsUtf8-append (61 ∷ []) e.value (IsUtf8-from_is_utf8 (61 ∷ []) equals-utf8)
    (IsUtf8-from_is_utf8 e.value is.text.1))) in
    let told = entry-value e (rw (rule.no_equals) refl) in
    let kind = value-is_no_float e is.kind_rule in (
      ((omega (arith, long, key, value), utf8), ap (λ v. not (bytes_eq v (37 ∷ 102 ∷ []))) told ∙ ap not kind),
      omega (arith, long, key, value),
    )

-- what is promised of the tags of one list
record AreShortTags (tags : List (List ℕ)) : Type 0 where
  few : length tags ≤ 4096
  named : AllByRecursion IsTagName tags
  short : AllByRecursion (λ (t : List ℕ). length t ≤ 511) tags

entries-tags : (list : which.List) (entries : List Entry) → AreEntries list entries
    → AreShortTags (map entry_text entries)
entries-tags list entries are =
    let few = are.few in
    let count = length-map entries entry_text in
    record {
      few = omega (arith, few, count);
      named = all-map IsTagName entry_text entries (all-weaker (IsEntry list) (λ e. IsTagName (entry_text e)) entries
          (λ e is. (entry-tag list e is).0) are.rules);
      short = all-map (λ (t : List ℕ). length t ≤ 511) entry_text entries
          (all-weaker (IsEntry list) (λ e. length (entry_text e) ≤ 511) entries (λ e is. (entry-tag list e is).1)
          are.rules);
    }

are-names : (tags : List (List ℕ)) → AreShortTags tags → AreTagNames tags
are-names tags h = let few = h.few in (omega (arith, few), h.named)

-- ---- how many bytes a header has

-- a number below 16,384 has at most two bytes
length-two : (n : ℕ) → n < 16384 → length (vbe_unsigned n) ≤ 2
length-two n small =
    elim (cases_lt n 128) [
      | inl one ↦ rw (vbe-small 128 0 n one) (omega arith)
      | inr two ↦ rw (vbe-more 128 0 n (omega arith) two, vbe-small 128 0 (n / 128) (omega (arith, small)))
          (omega arith)
    ]

length-string : (text : List ℕ) (most : ℕ) → length text ≤ most → most < 16384 → length (string text) ≤ 2 + most
unfolding string
length-string text most le small =
    let size = length-two (length text) (omega (arith, le, small)) in
    let all = length-append (vbe_unsigned (length text)) text in
    omega (arith, le, size, all)

length-strings : (tags : List (List ℕ)) → AllByRecursion (λ (t : List ℕ). length t ≤ 511) tags
    → length (flat_map string tags) ≤ 513 * length tags
length-strings [] short = omega arith
length-strings (t ∷ tags) short =
    let here = length-string t 511 short.0 (omega arith) in
    let rest = length-strings tags short.1 in
    let all = length-append (string t) (flat_map string tags) in
    omega (arith, here, rest, all)

length-tags : (tags : List (List ℕ)) → AreShortTags tags → length (flat_map string tags) ≤ 2101248
length-tags tags h =
    let few = h.few in
    let strings = length-strings tags h.short in
    omega (arith, few, strings)

length-text : (o : Option (List ℕ)) → IfSome o IsShortText → length (optional string o) ≤ 257
length-text None short = omega arith
length-text (Some text) short = length-string text 255 short.0 (omega arith)

length-start : (o : Option Place) → length (optional (λ p. be_signed p.lat ++ be_signed p.lon) o) ≤ 8
length-start None = omega arith
length-start (Some p) = simp (length-append, length-big_endian) (omega arith)

length-zoom : (o : Option ℕ) → length (optional (big_endian 1) o) ≤ 1
length-zoom None = omega arith
length-zoom (Some n) = simp (length-big_endian) (omega arith)

-- eight intervals at most, whose zoom levels are small
record AreSmall (intervals : List Interval) : Type 0 where
  some : 1 ≤ length intervals
  few : length intervals ≤ 8
  ranges : AllByRecursion (λ (i : Interval). (i.min ≤ i.max) × (i.base ≤ 16) × (i.max ≤ 21)) intervals

ranges-of : (intervals : List Interval) → IsTrue (list_all is_zoom_range intervals)
    → AllByRecursion (λ (i : Interval). (i.min ≤ i.max) × (i.base ≤ 16) × (i.max ≤ 21)) intervals
ranges-of [] h = tt
ranges-of (i ∷ intervals) h =
    let both = and_parts (is_zoom_range i) (list_all is_zoom_range intervals) h in
    let abc = and_parts (leb i.min i.base && leb i.base i.max && leb i.base 16) (leb i.max 21) both.0 in
    let ab = and_parts (leb i.min i.base && leb i.base i.max) (leb i.base 16) abc.0 in
    let a = and_parts (leb i.min i.base) (leb i.base i.max) ab.0 in
    let low = leb-true i.min i.base a.0 in
    let high = leb-true i.base i.max a.1 in
    ((omega (arith, low, high), leb-true i.base 16 ab.1, leb-true i.max 21 abc.1), ranges-of intervals both.1)

are-small : (intervals : List Interval) → IsTrue (are_intervals intervals) → AreSmall intervals
are-small intervals h =
    let abc = and_parts (leb 1 (length intervals) && leb (length intervals) 8 && list_all is_zoom_range intervals)
    (list_all (λ at. at.1.min == suc at.0.max) (zip intervals (drop 1 intervals))) h in
    let ab = and_parts (leb 1 (length intervals) && leb (length intervals) 8) (list_all is_zoom_range intervals) abc.0
    in
    let a = and_parts (leb 1 (length intervals)) (leb (length intervals) 8) ab.0 in
    record {
      some = leb-true 1 (length intervals) a.0;
      few = leb-true (length intervals) 8 a.1;
      ranges = ranges-of intervals ab.1;
    }

pub size-small : (set : HeadSettings) (mapping : Mapping) → IsHeadSettings set → IsMapping mapping
    → header_size set (tag_lists mapping) < 4210000
unfolding header_size middle_bytes
size-small set mapping is m =
    let few = (are-small set.intervals is.intervals).few in
    let poi = length-tags (map entry_text mapping.poi) (entries-tags which.List.Poi mapping.poi m.poi) in
    let way = length-tags (map entry_text mapping.way) (entries-tags which.List.Way mapping.way m.way) in
    let start = length-start set.start in
    let zoom = length-zoom set.start_zoom in
    let language = length-text set.language is.language in
    let comment = length-text set.comment is.comment in
    let created_by = length-text set.created_by is.created_by in
    let word = length-string (codes "Mercator") 8 (omega arith) (omega arith) in
    simp (length-append, length-big_endian)
    (omega (arith, few, poi, way, start, zoom, language, comment, created_by, word))

-- ---- the header is read again

-- a place on the earth is of 32 bits
latitude-32 : (z : ℤ) → is_latitude z ≡ true → is_signed_32 z ≡ true
latitude-32 (pos n) h = let low = leb-true n 90000000 h in le-leb n 2147483647 (omega (arith, low))
latitude-32 (negsuc n) h = let low = leb-true n 89999999 (and_parts (leb n 89999999) true h).0 in
    rw (le-leb n 2147483647 (omega (arith, low))) refl

longitude-32 : (z : ℤ) → is_longitude z ≡ true → is_signed_32 z ≡ true
longitude-32 (pos n) h = let low = leb-true n 180000000 h in le-leb n 2147483647 (omega (arith, low))
longitude-32 (negsuc n) h = let low = leb-true n 179999999 (and_parts (leb n 179999999) true h).0 in
    rw (le-leb n 2147483647 (omega (arith, low))) refl

pub place-32 : (p : Place) → is_on_earth p ≡ true → IsPlaceOf32Bits p
place-32 p h = let sides =
    and_parts (is_latitude p.lat) (is_longitude p.lon) h in (latitude-32 p.lat sides.0, longitude-32 p.lon sides.1)

start-32 : (o : Option Place) → IfSome o (λ p. IsTrue (is_on_earth p)) → IfSome o IsPlaceOf32Bits
start-32 None h = tt
start-32 (Some p) h = place-32 p h

zoom-256 : (o : Option ℕ) → IfSome o (λ zoom. zoom ≤ 21) → IfSome o (λ n. n < 256)
zoom-256 None h = tt
zoom-256 (Some n) h = omega (arith, h)

text-is : (o : Option (List ℕ)) → IfSome o IsShortText → IfSome o IsText
text-is None h = tt
text-is (Some text) h = let short = h.0 in (omega (arith, short), h.1)

-- an interval whose sub-file lies in the file behind the header
record Lies (total end : ℕ) (at : Interval × SubFile) : Type 0 where
  range : (at.0.min ≤ at.0.max) × (at.0.base ≤ 16) × (at.0.max ≤ 21)
  behind : end ≤ at.1.start
  within : at.1.start + at.1.size ≤ total

subs-lie : (total end head : ℕ) (intervals : List Interval) (sizes : List ℕ) → end ≤ head → head + sum sizes ≤ total
    → length sizes ≡ length intervals
    → AllByRecursion (λ (i : Interval). (i.min ≤ i.max) × (i.base ≤ 16) × (i.max ≤ 21)) intervals
    → AllByRecursion (Lies total end) (zip intervals (sub_files head sizes))
subs-lie total end head [] sizes low high same ranges = tt
subs-lie total end head (i ∷ intervals) [] low high same ranges = absurd (omega (arith, same))
subs-lie total end head (i ∷ intervals) (size ∷ sizes) low high same ranges =
    let all = sum_by-cons (λ (n : ℕ). n) size sizes in
    subst (λ subs. AllByRecursion (Lies total end) (zip (i ∷ intervals) subs))
    (sym (sub_files-running head size sizes)) (
      record { range = ranges.0; behind = low; within = omega (arith, high, all) },
      subs-lie total end (head + size) intervals sizes (omega (arith, low)) (omega (arith, high, all))
          (omega (arith, same)) ranges.1,
    )

lies-fits : (total end : ℕ) (at : Interval × SubFile) → total < 2 ^ 64 → Lies total end at → FitsInterval at
lies-fits total end at known h =
    let range = h.range in
    let within = h.within in
    record {
      base = omega (arith, range);
      min = omega (arith, range);
      max = omega (arith, range);
      start = omega (arith, within, known);
      size = omega (arith, within, known);
    }

lies-is : (total end : ℕ) (at : Interval × SubFile) → Lies total end at → IsTrue (is_interval total end at)
lies-is total end at h =
    let range = h.range in
    rw (
      le-leb at.0.min at.0.max range.0,
      le-leb at.0.base 16 range.1,
      le-leb end at.1.start h.behind,
      le-leb (at.1.start + at.1.size) total h.within,
    ) refl

is_header : (set : HeadSettings) (mapping : Mapping) (box : Rect) (sizes : List ℕ) (end : ℕ) → IsHeadSettings set
    → IsMapping mapping → IsTrue (is_rect box) → length sizes ≡ length set.intervals
    → header_size set (tag_lists mapping) + sum sizes < 2 ^ 64 → end ≡ header_size set (tag_lists mapping)
    → IsHeader (header_size set (tag_lists mapping) + sum sizes) end
    (written_header set box (tag_lists mapping) (sub_files (header_size set (tag_lists mapping)) sizes))
unfolding written_header
is_header set mapping box sizes end is m rect same known ends =
    let head = header_size set (tag_lists mapping) in
    let small = are-small set.intervals is.intervals in
    let few = small.few in
    let low = size-small set mapping is m in
    let date = is.date in
    let count = length-sub_files head sizes in
    let lie = subs-lie (head + sum sizes) end head set.intervals sizes (omega (arith, ends)) (omega arith) same
    small.ranges in
    record {
      within = (omega (arith, ends, low), omega (arith, ends));
      known = known;
      date = omega (arith, date);
      box = rect;
      tile_size = omega arith;
      other = omega arith;
      start = start-32 set.start is.start;
      start_zoom = zoom-256 set.start_zoom is.start_zoom;
      language = text-is set.language is.language;
      comment = text-is set.comment is.comment;
      created_by = text-is set.created_by is.created_by;
      poi = are-names (map entry_text mapping.poi) (entries-tags which.List.Poi mapping.poi m.poi);
      way = are-names (map entry_text mapping.way) (entries-tags which.List.Way mapping.way m.way);
      count = (small.some, omega (arith, few), count ∙ same);
      fit = all-weaker (Lies (head + sum sizes) end) FitsInterval (zip set.intervals (sub_files head sizes))
          (λ at h. lies-fits (head + sum sizes) end at known h) lie;
      intervals = all-weaker (Lies (head + sum sizes) end) (λ at. IsTrue (is_interval (head + sum sizes) end at))
          (zip set.intervals (sub_files head sizes)) (λ at h. lies-is (head + sum sizes) end at h) lie;
    }

pub header-read : (set : HeadSettings) (mapping : Mapping) (box : Rect) (sizes : List ℕ) → IsHeadSettings set
    → IsMapping mapping → IsTrue (is_rect box) → length sizes ≡ length set.intervals
    → header_size set (tag_lists mapping) + sum sizes < 2 ^ 64
    → let subs = sub_files (header_size set (tag_lists mapping)) sizes in
    ReadsHeader (header_size set (tag_lists mapping) + sum sizes) (header_bytes set box (tag_lists mapping) subs)
    (shown_header (written_header set box (tag_lists mapping) subs))
unfolding header_bytes
header-read set mapping box sizes is m rect same known =
    let head = header_size set (tag_lists mapping) in
    let subs = sub_files head sizes in
    let size = length-header_bytes set box (tag_lists mapping) subs (length-sub_files head sizes ∙ same) in (
      written_header set box (tag_lists mapping) subs,
      is_header set mapping box sizes (length (header_bytes set box (tag_lists mapping) subs)) is m rect same known
          size,
      ap (λ total. header_fields_bytes total (written_header set box (tag_lists mapping) subs))
          (file_size-is set (tag_lists mapping) head sizes),
      refl,
    )

pub ruleset header_laws = (size-small)
