-- The bytes of the whole header, part by part.
use Rattle.std.proofs.Common.{◌≡◌, ℕ, ◌+◌, ◌-◌, ◌*◌, ◌≤◌, List, [], ◌∷◌, ◌++◌, length, refl, sym, ap, ◌∙◌}
use Rattle.std.proofs.Common.{arith}
use Rattle.std.proofs.Common.{append_assoc, append-nil, length-append, add-zero}
use Rattle.std.specs.Prelude.{flat_map, zip, sum_by, IsTrue}
use Rattle.mf_base.specs.Buffer.{Buffer, AppendsTo}
use Rattle.mf_base.specs.Spelling.{big_endian, string}
use Rattle.mf_base.specs.declared.place.Rect.{Rect}
use Rattle.mf_base.specs.declared.tile.Interval.{Interval}
use Rattle.map_model.specs.Intervals.{are_intervals}
use Rattle.mf_base.proofs.OneSpelling.{vbe-small}
use Rattle.mf_base.proofs.ByteLaws.{length-big_endian}
use Rattle.map_model.specs.TagLists.{TagLists}
use Rattle.map_model.specs.Layout.{optional}
use Rattle.map_model.specs.Header.{HeadSettings, SubFile, magic_word, mercator_word, head_flags, be_signed, box_bytes}
use Rattle.map_model.specs.Header.{tag_list_bytes}
use Rattle.map_model.specs.Header.{middle_bytes, interval_bytes, fields_bytes, header_fields_bytes, written_header}
use Rattle.map_model.specs.Header.{header_size, file_size, header_bytes}
use Rattle.map_model.proofs.SizeLemmas.{length-fields}
use Rattle.map_header.specs.Shown.{options_bytes, options_size, middle_size}
use Rattle.map_header.proofs.Putting.{appends-both, appends-same}

-- ---- between the box and the intervals

mercator-string : string mercator_word ≡ 8 ∷ mercator_word
unfolding string
mercator-string = ap (λ (l : List ℕ). l ++ mercator_word) (vbe-small 128 0 8 (omega arith))

-- tile size, projection and flags, the optional fields, the tags, and the number of intervals
middle-is : (set : HeadSettings) (names : TagLists) → middle_bytes 256 0 set names
    ≡ (((((big_endian 2 256 ++ (8 ∷ mercator_word)) ++ (head_flags set ∷ [])) ++ options_bytes set)
    ++ tag_list_bytes names.poi)
    ++ tag_list_bytes names.way) ++ big_endian 1 (length set.intervals)
unfolding middle_bytes
middle-is set names =
    rw (mercator-string, add-zero (head_flags set)) (
    joined (big_endian 2 256) (8 ∷ mercator_word) (head_flags set ∷ [])
    (optional (λ p. be_signed p.lat ++ be_signed p.lon) set.start)
    (optional (big_endian 1) set.start_zoom) (optional string set.language) (optional string set.comment)
    (optional string set.created_by) (tag_list_bytes names.poi) (tag_list_bytes names.way)
    (big_endian 1 (length set.intervals)))
  where
    options : (g s z l m n : List ℕ) → ((((g ++ s) ++ z) ++ l) ++ m) ++ n ≡ g ++ ((((s ++ z) ++ l) ++ m) ++ n)
    options g s z l m n = simp append_assoc refl

    front : (a g s z l m n : List ℕ)
        → ((((a ++ (g ++ s)) ++ z) ++ l) ++ m) ++ n ≡ (a ++ g) ++ ((((s ++ z) ++ l) ++ m) ++ n)
    front a g s z l m n = ap (λ (x : List ℕ). (((x ++ z) ++ l) ++ m) ++ n) (sym (append_assoc a g s))
        ∙ options (a ++ g) s z l m n

    joined : (a b g s z l m n p w i : List ℕ)
        → ((((((((a ++ b) ++ (g ++ s)) ++ z) ++ l) ++ m) ++ n) ++ p) ++ w) ++ i
        ≡ (((((a ++ b) ++ g) ++ ((((s ++ z) ++ l) ++ m) ++ n)) ++ p) ++ w) ++ i
    joined a b g s z l m n p w i = ap (λ (x : List ℕ). ((x ++ p) ++ w) ++ i) (front (a ++ b) g s z l m n)

pub puts-middle : (b0 b1 b2 b3 b4 b5 b6 b7 : Buffer) (set : HeadSettings) (names : TagLists) (flags count : ℕ)
    → flags ≡ head_flags set → count ≡ length set.intervals
    → AppendsTo b0 b1 (big_endian 2 256) → AppendsTo b1 b2 (8 ∷ mercator_word) → AppendsTo b2 b3 (flags ∷ [])
    → AppendsTo b3 b4 (options_bytes set) → AppendsTo b4 b5 (tag_list_bytes names.poi)
    → AppendsTo b5 b6 (tag_list_bytes names.way)
    → AppendsTo b6 b7 (big_endian 1 count) → AppendsTo b0 b7 (middle_bytes 256 0 set names)
puts-middle b0 b1 b2 b3 b4 b5 b6 b7 set names flags count is_flags is_count size word flag options poi way intervals =
    appends-same b0 b7 _ _ (sym (middle-is set names)) (
    appends-both b0 b6 b7 _ _ (appends-both b0 b5 b6 _ _ (appends-both b0 b4 b5 _ _ (appends-both b0 b3 b4 _ _
    (appends-both b0 b2 b3 _ _ (appends-both b0 b1 b2 _ _ size word)
    (appends-same b2 b3 _ _ (ap (λ (f : ℕ). f ∷ []) is_flags) flag))
    options) poi) way) (appends-same b6 b7 _ _ (ap (big_endian 1) is_count) intervals))

pub length-options : (set : HeadSettings) → length (options_bytes set) ≡ options_size set
length-options set =
    parts (optional (λ p. be_signed p.lat ++ be_signed p.lon) set.start) (optional (big_endian 1) set.start_zoom)
    (optional string set.language) (optional string set.comment) (optional string set.created_by)
  where
    parts : (a b c d e : List ℕ)
        → length ((((a ++ b) ++ c) ++ d) ++ e) ≡ length a + length b + length c + length d + length e
    parts a b c d e = simp length-append refl

pub length-middle : (set : HeadSettings) (names : TagLists)
    → length (middle_bytes 256 0 set names) ≡ middle_size set names
length-middle set names =
    let whole = ap length (middle-is set names)
    ∙ parts (big_endian 2 256) (8 ∷ mercator_word) (head_flags set ∷ []) (options_bytes set)
    (tag_list_bytes names.poi) (tag_list_bytes names.way) (big_endian 1 (length set.intervals)) in
    omega (arith, whole, length-options set, length-big_endian 2 256, length-big_endian 1 (length set.intervals))
  where
    parts : (a b c d e f g : List ℕ)
        → length ((((((a ++ b) ++ c) ++ d) ++ e) ++ f) ++ g)
        ≡ length a + length b + length c + length d + length e + length f + length g
    parts a b c d e f g = simp length-append refl

-- ---- the whole

pub header_size-is : (set : HeadSettings) (names : TagLists)
    → header_size set names ≡ 60 + middle_size set names + 19 * length set.intervals
unfolding header_size
header_size-is set names = omega (arith, length-middle set names)

counted : (set : HeadSettings) (box : Rect) (names : TagLists) (subs : List SubFile) (total : ℕ)
    → length subs ≡ length set.intervals
    → length (fields_bytes total (written_header set box names subs)) ≡ header_size set names - 24
unfolding header_size written_header
counted set box names subs total same =
    let fields = length-fields total (written_header set box names subs) same in
    omega (arith, fields)

header-is : (set : HeadSettings) (box : Rect) (names : TagLists) (subs : List SubFile)
    → length subs ≡ length set.intervals
    → header_bytes set box names subs
    ≡ (((((((magic_word ++ big_endian 4 (header_size set names - 24)) ++ big_endian 4 5)
    ++ big_endian 8 (file_size set names subs))
    ++ big_endian 8 set.date) ++ box_bytes box) ++ middle_bytes 256 0 set names)
    ++ flat_map interval_bytes (zip set.intervals subs))
unfolding header_bytes header_fields_bytes fields_bytes written_header
header-is set box names subs same =
    let total = file_size set names subs in
    ap (λ (n : ℕ). (magic_word ++ big_endian 4 n) ++ fields_bytes total (written_header set box names subs))
    (counted set box names subs total same)
    ∙ joined (magic_word ++ big_endian 4 (header_size set names - 24)) (big_endian 4 5) (big_endian 8 total)
    (big_endian 8 set.date) (box_bytes box)
    (middle_bytes 256 0 set names) (flat_map interval_bytes (zip set.intervals subs))
  where
    joined : (a b c d e f g : List ℕ)
        → a ++ ((((((b ++ c) ++ d) ++ e) ++ f) ++ g) ++ []) ≡ (((((a ++ b) ++ c) ++ d) ++ e) ++ f) ++ g
    joined a b c d e f g = simp (append_assoc, append-nil) refl

pub puts-header : (b0 b1 b2 b3 b4 : Buffer) (set : HeadSettings) (box : Rect) (names : TagLists) (subs : List SubFile)
    (size sizes : ℕ)
    → length subs ≡ length set.intervals → size ≡ header_size set names → sizes ≡ sum_by (λ (s : SubFile). s.size) subs
    → AppendsTo b0 b1 (magic_word ++ big_endian 4 (size - 24) ++ big_endian 4 5 ++ big_endian 8 (size + sizes)
    ++ big_endian 8 set.date)
    → AppendsTo b1 b2 (box_bytes box) → AppendsTo b2 b3 (middle_bytes 256 0 set names)
    → AppendsTo b3 b4 (flat_map interval_bytes (zip set.intervals subs))
    → AppendsTo b0 b4 (header_bytes set box names subs)
puts-header b0 b1 b2 b3 b4 set box names subs size sizes same is_size is_sizes front corners middle intervals =
    let front_of : ℕ → ℕ → List ℕ =
    λ n m. magic_word ++ big_endian 4 (n - 24) ++ big_endian 4 5 ++ big_endian 8 (n + m) ++ big_endian 8 set.date in
    appends-same b0 b4 _ _ (sym (header-is set box names subs same)) (
    appends-both b0 b3 b4 _ _ (appends-both b0 b2 b3 _ _ (appends-both b0 b1 b2 _ _
    (appends-same b0 b1 _ _ (λ i. front_of (is_size i) (is_sizes i)) front) corners) middle) intervals)

-- there is an interval
pub some_interval : (intervals : List Interval) → IsTrue (are_intervals intervals) → 1 ≤ length intervals
some_interval [] h = absurd (cc h)
some_interval (i ∷ is) h = omega arith
