-- What words can set.
use Rattle.std.proofs.Common.{◌≡◌, ℕ, ℤ, pos, ◌≤◌, ◌<◌, ◌-◌, ◌^◌, List, true, Bool, Option, Some, None}
use Rattle.std.proofs.Common.{refl, sym, arith, IfSome}
use Rattle.std.proofs.Common.{IsTrue, length}
use Rattle.std.specs.Prelude.{nat_le, nat_eq, int_le, int_lt, option_and_then, option_map, unwrap_or, ◌&&◌}
use Rattle.std.specs.Prelude.{if◌then◌else◌}
use Rattle.std.specs.Str.{is_utf8}
use Rattle.std.proofs.lemmas.Bool.{leb-true, and_parts}
use Rattle.std.proofs.lemmas.Option.{none-some, same_Some, cond_some, option_and_then_some}
use Rattle.mf_base.specs.declared.place.Place.{Place}
use Rattle.mf_base.specs.declared.place.Rect.{Rect}
use Rattle.mf_base.specs.declared.tile.Interval.{Interval}
use Rattle.mf_base.specs.Texts.{Text, cut}
use Rattle.mf_base.specs.Ranges.{within, within_numbers, lies_within, is_latitude, is_longitude, is_on_earth, is_rect}
use Rattle.mf_base.specs.Numbers.{digits_up_to, signed_digits, whole_in, number_in, zoom_number}
use Rattle.mf_base.specs.PlaceWords.{comma, latitude, longitude, place_of, read_place, rect_between, rect_of, read_rect}
use Rattle.map_model.specs.Intervals.{are_intervals}
use Rattle.map_model.specs.IntervalWords.{kept_intervals, read_each_text, read_interval, read_intervals}
use Rattle.std.specs.List.{slice_split}
use Rattle.map_model.specs.IntervalWords.{default_intervals}
use Rattle.map_model.specs.Header.{IsHeadSettings, IsShortText}
use Rattle.feature_model.specs.Mapping.{Mapping}
use Rattle.job_words.specs.declared.usage_word.UsageWord.{UsageWord}
use Rattle.job_words.specs.declared.usage_word.UsageWord.TheVariants as which
use Rattle.job_words.specs.declared.values.MadeInput.{MadeInput}
use Rattle.job_words.specs.OptionTable.{path, default_folder, row_limit, default_rows, worker_count, default_workers}
use Rattle.job_words.specs.OptionTable.{date, head_text, input_of, made_input}
use Rattle.job_words.specs.Settings.{value_by, head_settings, JobSettings, settings, HasTexts, IsJob}
use Rattle.job_words.specs.Usage.{value_of}

-- ---- numbers

in-range : (least most : ℕ) (o : Option ℕ) (n : ℕ) → option_and_then (within_numbers least most) o ≡ Some n
    → (least ≤ n) × (n ≤ most)
in-range least most None n e = absurd (none-some n e)
in-range least most (Some m) n e =
    let kept = cond_some (nat_le least m && nat_le m most) m n e in
    let both = and_parts (nat_le least m) (nat_le m most) kept.0 in (
      omega (arith, leb-true least m both.0, kept.1),
      omega (arith, leb-true m most both.1, kept.1),
    )

pub number-range : (least most : ℕ) (text : Text) (n : ℕ) → number_in least most text ≡ Some n
    → (least ≤ n) × (n ≤ most)
unfolding number_in
number-range least most text n e = in-range least most (digits_up_to 20 text) n e

lies : (low high : ℤ) (o : Option ℤ) (z : ℤ) → option_and_then (within low high) o ≡ Some z
    → lies_within low high z ≡ true
lies low high None z e = absurd (none-some z e)
lies low high (Some m) z e =
    let kept = cond_some (lies_within low high m) m z e in rw (← kept.1) kept.0

whole-lies : (low high : ℤ) (text : Text) (z : ℤ) → whole_in low high text ≡ Some z → lies_within low high z ≡ true
unfolding whole_in
whole-lies low high text z e =
    lies low high (if int_lt low (pos 0) then signed_digits 20 text else option_map pos (digits_up_to 20 text)) z e

-- ---- places and boxes

place-earth : (lat lon : Text) (p : Place) → place_of lat lon ≡ Some p → is_on_earth p ≡ true
place-earth lat lon p e =
    option_and_then_some (λ y. option_map (λ x. record { lat = y; lon = x }) (longitude lon)) (latitude lat) p e
    (λ y at_lat inner. by_longitude y at_lat (longitude lon) refl inner)
  where
    by_longitude : (y : ℤ) → latitude lat ≡ Some y → (o : Option ℤ) → longitude lon ≡ o
        → option_map (λ (x : ℤ). record { lat = y; lon = x }) o ≡ Some p → is_on_earth p ≡ true
    by_longitude y at_lat None at_lon inner = absurd (none-some p inner)
    by_longitude y at_lat (Some x) at_lon inner =
        let made : Place = record { lat = y; lon = x } in
        rw (← same_Some made p inner, whole-lies _ _ lat y at_lat, whole-lies _ _ lon x at_lon) refl

pub read-earth : (text : Text) (p : Place) → read_place text ≡ Some p → is_on_earth p ≡ true
unfolding read_place
read-earth text p e =
    option_and_then_some (λ (q : Text × Text). place_of q.0 q.1) (cut comma text) p e
    (λ q _ inner. place-earth q.0 q.1 p inner)

six-true : (a b c d e f : Bool) → a ≡ true → b ≡ true → c ≡ true → d ≡ true → e ≡ true → f ≡ true
    → (a && b && c && d && e && f) ≡ true
six-true a b c d e f at bt ct dt et ft = rw (at, bt, ct, dt, et, ft) refl

between : (low high : Place) (r : Rect) → is_on_earth low ≡ true → is_on_earth high ≡ true
    → rect_between low high ≡ Some r → is_rect r ≡ true
between low high r low_is high_is e =
    let made : Rect = record { min_lat = low.lat; min_lon = low.lon; max_lat = high.lat; max_lon = high.lon } in
    let kept = cond_some (int_le low.lat high.lat && int_le low.lon high.lon) made r e in
    let ordered = and_parts (int_le low.lat high.lat) (int_le low.lon high.lon) kept.0 in
    let lows = and_parts (is_latitude low.lat) (is_longitude low.lon) low_is in
    let highs = and_parts (is_latitude high.lat) (is_longitude high.lon) high_is in
    rw (← kept.1)
    (six-true (is_latitude low.lat) (is_latitude high.lat) (is_longitude low.lon) (is_longitude high.lon)
    (int_le low.lat high.lat) (int_le low.lon high.lon) lows.0 highs.0 lows.1 highs.1 ordered.0 ordered.1)

rect-is : (lat lon high : Text) (r : Rect) → rect_of lat lon high ≡ Some r → is_rect r ≡ true
rect-is lat lon high r e =
    option_and_then_some (λ low. option_and_then (rect_between low) (read_place high)) (place_of lat lon) r e
    (λ low at_low inner. option_and_then_some (rect_between low) (read_place high) r inner
    (λ top at_top last. between low top r (place-earth lat lon low at_low) (read-earth high top at_top) last))

pub read-rect-is : (text : Text) (r : Rect) → read_rect text ≡ Some r → is_rect r ≡ true
unfolding read_rect
read-rect-is text r e =
    option_and_then_some (λ (p : Text × Text). option_and_then (λ (q : Text × Text). rect_of p.0 q.0 q.1)
    (cut comma p.1)) (cut comma text) r e
    (λ p _ inner. option_and_then_some (λ (q : Text × Text). rect_of p.0 q.0 q.1) (cut comma p.1) r inner
    (λ q _ last. rect-is p.0 q.0 q.1 r last))

-- ---- intervals

pub read-intervals-are : (text : Text) (all : List Interval) → read_intervals text ≡ Some all
    → are_intervals all ≡ true
unfolding read_intervals
read-intervals-are text all e =
    option_and_then_some kept_intervals (read_each_text read_interval (slice_split (nat_eq comma) text)) all e
    (λ found _ kept. let is = cond_some (are_intervals found) found all kept in rw (← is.1) is.0)

short-path : (text f : Text) → path text ≡ Some f → length f ≤ 4095
short-path text f e =
    let kept = cond_some (nat_le (length text) 4095) text f e in
    rw (← kept.1) (leb-true (length text) 4095 kept.0)

-- ---- settings

value-if : {A : Type 0} (read : Text → Option A) (P : A → Type 0) (words : List Text) (option : UsageWord)
    → ((text : Text) (v : A) → read text ≡ Some v → P v) → IfSome (value_by read words option) P
value-if {A = A} read P words option right = by_text (value_of words option)
  where
    by_value : (text : Text) (o : Option A) → read text ≡ o → IfSome o P
    by_value text None e = tt
    by_value text (Some v) e = right text v e

    by_text : (o : Option Text) → IfSome (option_and_then read o) P
    by_text None = tt
    by_text (Some text) = by_value text (read text) refl

or-default : {A : Type 0} (P : A → Type 0) (o : Option A) (default : A) → IfSome o P → P default
    → P (unwrap_or o default)
or-default P None default right kept = kept
or-default P (Some v) default right kept = right

abbrev InRange : ℕ → ℕ → ℕ → Type 0
InRange least most n = (least ≤ n) × (n ≤ most)

head-is : (words : List Text) (now : ℕ) → now < 2 ^ 63 → HasTexts (head_settings words now)
    → IsHeadSettings (head_settings words now)
head-is words now early texts = record {
  date =
      or-default (λ n. n < 2 ^ 63) (value_by date words which.Date) now
      (value-if date (λ n. n < 2 ^ 63) words which.Date
      (λ text n e. omega (arith, (number-range 0 253402300799999 text n e).1))) early;
  start = value-if read_place (λ p. IsTrue (is_on_earth p)) words which.Start read-earth;
  start_zoom =
      value-if zoom_number (λ z. z ≤ 21) words which.StartZoom (λ text n e. (number-range 0 21 text n e).1);
  language = texts.language;
  comment = texts.comment;
  created_by = texts.created_by;
  intervals =
      or-default (λ all. IsTrue (are_intervals all)) (value_by read_intervals words which.Intervals) default_intervals
      (value-if read_intervals (λ all. IsTrue (are_intervals all)) words which.Intervals read-intervals-are) refl;
}

-- What words can set, where the texts of the header are texts.
pub job-is : (words : List Text) (mapping : Mapping) (now : ℕ) → now < 2 ^ 63 → HasTexts (head_settings words now)
    → IsJob (settings words mapping now)
job-is words mapping now early texts = record {
  head = head-is words now early texts;
  bounds = value-if read_rect (λ box. IsTrue (is_rect box)) words which.Box read-rect-is;
  some_rows =
      or-default (InRange 64 16777216) (value_by row_limit words which.Rows) default_rows
      (value-if row_limit (InRange 64 16777216) words which.Rows (number-range 64 16777216)) (omega arith, omega arith);
  some_workers =
      or-default (InRange 1 64) (value_by worker_count words which.Workers) default_workers
      (value-if worker_count (InRange 1 64) words which.Workers (number-range 1 64)) (omega arith, omega arith);
  short_folder =
      or-default (λ f. length f ≤ 4095) (value_by path words which.Spill) default_folder
      (value-if path (λ f. length f ≤ 4095) words which.Spill short-path) (omega arith);
}

pub job-same : (a b : JobSettings) → a ≡ b → IsJob b → IsJob a
job-same a b same job = rw same job

-- a text of the header that was read is a text
pub short-text : {T : Type 0} (bytes : T → List ℕ) (o : Option T) (text : Text) → option_map bytes o ≡ head_text text
    → IsTrue (is_utf8 text) → IfSome o (λ t. IsShortText (bytes t))
short-text bytes None text e utf8 = tt
short-text bytes (Some t) text e utf8 =
    let kept = cond_some (nat_le (length text) 255) text (bytes t) (sym e) in
    rw (← kept.1) (leb-true (length text) 255 kept.0, utf8)

-- ---- a generated input

abbrev pub IsSize : MadeInput → Type 0
IsSize made = (1 ≤ made.size) × (made.size ≤ 1000000)

size-of : (seed size : Text) (made : MadeInput) → input_of seed size ≡ Some made → IsSize made
size-of seed size made e =
    option_and_then_some (λ s. option_map (λ n. record { seed = s; size = n }) (number_in 1 1000000 size))
    (number_in 0 (2 ^ 64 - 1) seed) made e (λ s _ inner. by_size s (number_in 1 1000000 size) refl inner)
  where
    by_size : (s : ℕ) (o : Option ℕ) → number_in 1 1000000 size ≡ o
        → option_map (λ (n : ℕ). record { seed = s; size = n }) o ≡ Some made → IsSize made
    by_size s None is inner = absurd (none-some made inner)
    by_size s (Some n) is inner =
        let whole : MadeInput = record { seed = s; size = n } in
        rw (← same_Some whole made inner) (number-range 1 1000000 size n is)

pub made-is : (text : Text) (made : MadeInput) → made_input text ≡ Some made → IsSize made
unfolding made_input
made-is text made e =
    option_and_then_some (λ (p : Text × Text). input_of p.0 p.1) (cut comma text) made e
    (λ p _ inner. size-of p.0 p.1 made inner)

pub asked-made : (words : List Text) → IfSome (value_by made_input words which.Make) IsSize
asked-made words = value-if made_input IsSize words which.Make made-is
