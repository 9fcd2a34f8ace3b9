-- What the record of a node weighs: as many as its units are. Its texts have the bytes that its candidate tells.
use Rattle.std.proofs.Common.{◌≡◌, ◌⊎◌, inl, inr, ℕ, zero, suc, ◌+◌, ◌*◌, ◌≤◌, ◌<◌, List, [], ◌∷◌, ◌++◌, length, take}
use Rattle.std.proofs.Common.{drop, map, replicate, refl, sym, ap, ◌∙◌, arith, Option, Some, None, true, false}
use Rattle.std.specs.Prelude.{nat_eq, nat_le, unwrap_or, option_map, slice_get, slice_index_or, ◌&&◌}
use Rattle.std.specs.List.{enumerate_from, list_all}
use Rattle.std.proofs.lemmas.Bool.{cases_Bool, and_parts, leb-true, eqb-true, eq-eqb, ne_eqb}
use Rattle.std.proofs.lemmas.List.{length-append, length-take, length-drop, length-replicate}
use Rattle.mf_base.specs.Texts.{Text}
use Rattle.mf_base.specs.Ascending.{cut_rows}
use Rattle.mf_base.specs.declared.kept.Kept.{Kept as KeptRead}
use Rattle.mf_base.specs.declared.kept.KeptValue.{KeptValue}
use Rattle.mf_base.specs.declared.kept.KeptValue.TheVariants as read
use Rattle.mf_base.specs.declared.kind.EntityKind.{EntityKind}
use Rattle.mf_base.specs.declared.kind.Role.{Role}
use Rattle.mf_base.proofs.ByteLaws.{length-big_endian}
use Rattle.osm_model.specs.Entities.{Node, Entity, node, kind_of}
use Rattle.feature_model.specs.Mapping.{Mapping}
use Rattle.feature_model.specs.Choice.{Kept, Choice, choice}
use Rattle.feature_model.specs.Points.{Point, Part, place, point_of, parts_of}
use Rattle.feature_model.specs.Descriptions.{Description, description, described, entries_for, tags_of}
use Rattle.feature_model.specs.Descriptions.{texts_length, kept_text, text_size, kept_size}
use Rattle.feature_model.specs.Weights.{point_count, weight}
use Rattle.feature_model.proofs.Totals.{total, sum-total}
use Rattle.feature_model.proofs.TextSizes.{texts-by_parts}
use Rattle.mf_rows.specs.Fields.{fields_bytes, row_bytes}
use Rattle.mf_rows.specs.Units.{Unit16, point_unit, part_unit, part_units, parts_units}
use Rattle.mf_rows.specs.Heads.{kept_fields, head_unit}
use Rattle.mf_rows.specs.Records.{Record, same_slot, text_in, kept_told, description_told, place_told, geometry_told}
use Rattle.mf_rows.specs.Records.{candidate_told}
use Rattle.mf_rows.specs.RecordUnits.{AreWide, text_bytes, lengths_of, tag_sizes, is_size, units_for}
use Rattle.mf_rows.specs.RecordUnits.{head_units, text_units, drawn_units, spot_count, parts_count, unit_count}
use Rattle.mf_rows.specs.RecordUnits.{units_of}
use Rattle.mf_rows.specs.FirstUnits.{front_units}
use Rattle.mf_rows.specs.Whole.{sizes_of, with_text, AreTexts}
use Rattle.mf_rows.specs.declared.head.Head.{Head}
use Rattle.mf_rows.specs.declared.head.TextSlot.{TextSlot}
use Rattle.mf_rows.specs.declared.head.TextSlot.TheVariants.{Name, House, Reference, Tag}
use Rattle.mf_rows.specs.declared.head_units.TextLengths.{TextLengths}
use Rattle.mf_rows.proofs.Counted.{front-counted}
use Rattle.mf_rows.proofs.TextsAgain.{record-texts}
use Rattle.spill_parts.specs.Handed.{IsRecordOf}

abbrev Slotted : Type 0
Slotted = List (TextSlot × Text)

-- ---- texts by their slots

-- the first of texts that have these lengths
first-is : (t : TextSlot × Text) (texts : Slotted) (slot : TextSlot) (n : ℕ) (sizes : List (TextSlot × ℕ))
    → sizes_of (t ∷ texts) ≡ (slot, n) ∷ sizes → ◌≡◌ {A = TextSlot × ℕ} (t.0, length t.1) (slot, n)
first-is t texts slot n sizes are = ap (λ zs. unwrap_or (slice_get zs 0) (t.0, length t.1)) are

-- a text of another slot is passed over
passed : (t : TextSlot × Text) (texts : Slotted) (slot : TextSlot) → same_slot t.0 slot ≡ false
    → text_in (t ∷ texts) slot ≡ text_in texts slot
passed t texts slot other = rw other refl

-- that of the slot is found
found : (t : TextSlot × Text) (texts : Slotted) (slot : TextSlot) → same_slot t.0 slot ≡ true
    → text_in (t ∷ texts) slot ≡ Some t.1
found t texts slot same = rw same refl

-- ---- kept tags

-- the bytes of what is kept of the tag of this place
abbrev kept_one : Slotted → ℕ → KeptRead → ℕ
kept_one texts i k = text_size (kept_text (kept_told texts (i, k)).value)

-- of these tags, the first of this place
abbrev kept_bytes : Slotted → ℕ → List KeptRead → ℕ
kept_bytes texts i tags =
    total (λ (k : Kept). text_size (kept_text k.value)) (map (kept_told texts) (enumerate_from i tags))

same-one : (a b : Slotted) (i : ℕ) (k : KeptRead) → text_in a (Tag i) ≡ text_in b (Tag i)
    → kept_one a i k ≡ kept_one b i k
same-one a b i k same = by_value k.value
  where
    by_value : (v : KeptValue)
        → kept_one a i (record { tag = k.tag; value = v }) ≡ kept_one b i (record { tag = k.tag; value = v })
    by_value read.Plain = refl
    by_value (read.Byte z) = refl
    by_value (read.Short z) = refl
    by_value (read.Int z) = refl
    by_value (read.Text len) = ap (λ (o : Option Text). length (unwrap_or o [])) same

-- a text of no such tag changes nothing
same-kept : (t : TextSlot × Text) (texts : Slotted) (i : ℕ) (tags : List KeptRead)
    → ((j : ℕ) → i ≤ j → same_slot t.0 (Tag j) ≡ false) → kept_bytes (t ∷ texts) i tags ≡ kept_bytes texts i tags
same-kept t texts i [] other = refl
same-kept t texts i (k ∷ tags) other =
    let here = same-one (t ∷ texts) texts i k (passed t texts (Tag i) (other i (omega arith))) in
    let rest = same-kept t texts (i + 1) tags (λ j past. other j (omega (arith, past))) in
    omega (arith, here, rest)

-- the text of the first tag stands in front of those of the others
text-kept : (t : TextSlot × Text) (texts : Slotted) (i tag len : ℕ) (tags : List KeptRead)
    → ◌≡◌ {A = TextSlot × ℕ} (t.0, length t.1) (Tag i, len) → kept_bytes texts (i + 1) tags ≡ length (text_bytes texts)
    → kept_bytes (t ∷ texts) i (record { tag = tag; value = read.Text len } ∷ tags) ≡ length (text_bytes (t ∷ texts))
text-kept t texts i tag len tags is more =
    let slot : t.0 ≡ Tag i = ap (λ (z : TextSlot × ℕ). z.0) is in
    let this : same_slot t.0 (Tag i) ≡ true = ap (λ s. same_slot s (Tag i)) slot ∙ eq-eqb i i refl in
    let here : kept_one (t ∷ texts) i (record { tag = tag; value = read.Text len }) ≡ length t.1 =
    ap (λ (o : Option Text). length (unwrap_or o [])) (found t texts (Tag i) this) in
    let other : (j : ℕ) → i + 1 ≤ j → same_slot t.0 (Tag j) ≡ false =
    λ j past. ap (λ s. same_slot s (Tag j)) slot ∙ ne_eqb i j (λ e. omega (arith, e, past)) in
    let rest = same-kept t texts (i + 1) tags other in
    let whole = length-append t.1 (text_bytes texts) in
    omega (arith, here, rest, more, whole)

-- texts of the lengths that tags tell are all kept
all-kept : (texts : Slotted) (i : ℕ) (tags : List KeptRead) → sizes_of texts ≡ with_text (tag_sizes i tags)
    → list_all (λ (k : KeptRead). is_size k.value) tags ≡ true → kept_bytes texts i tags ≡ length (text_bytes texts)
all-kept [] i [] are fit = refl
all-kept (t ∷ texts) i [] are fit = cc
all-kept texts i (k ∷ tags) are fit =
    by_value k.value are (and_parts (is_size k.value) (list_all (λ (k : KeptRead). is_size k.value) tags) fit).0
    (λ others same. all-kept others (i + 1) tags same
    (and_parts (is_size k.value) (list_all (λ (k : KeptRead). is_size k.value) tags) fit).1)
  where
    by_text : (len : ℕ) (texts : Slotted) → sizes_of texts ≡ (Tag i, len) ∷ with_text (tag_sizes (i + 1) tags)
        → ((others : Slotted) → sizes_of others ≡ with_text (tag_sizes (i + 1) tags)
        → kept_bytes others (i + 1) tags ≡ length (text_bytes others))
        → kept_bytes texts i (record { tag = k.tag; value = read.Text len } ∷ tags) ≡ length (text_bytes texts)
    by_text len [] are more = cc
    by_text len (t ∷ texts) are more = text-kept t texts i k.tag len tags
        (first-is t texts (Tag i) len (with_text (tag_sizes (i + 1) tags)) are) (more texts (ap (drop 1) are))

    by_value : (v : KeptValue)
        → sizes_of texts ≡ with_text (tag_sizes i (record { tag = k.tag; value = v } ∷ tags)) → is_size v ≡ true
        → ((others : Slotted) → sizes_of others ≡ with_text (tag_sizes (i + 1) tags)
        → kept_bytes others (i + 1) tags ≡ length (text_bytes others))
        → kept_bytes texts i (record { tag = k.tag; value = v } ∷ tags) ≡ length (text_bytes texts)
    by_value read.Plain are fits more = omega (arith, more texts are)
    by_value (read.Byte z) are fits more = omega (arith, more texts are)
    by_value (read.Short z) are fits more = omega (arith, more texts are)
    by_value (read.Int z) are fits more = omega (arith, more texts are)
    by_value (read.Text len) are fits more =
        let some : 1 ≤ len = leb-true 1 len (and_parts (nat_le 1 len) (nat_le len 1020) fits).0 in
        let there : nat_eq len 0 ≡ false = ne_eqb len 0 (λ none. omega (arith, none, some)) in
        by_text len texts (are ∙ rw there refl) more

-- ---- the texts with names of their own

-- The texts behind that of a slot, which is there where its length is not 0.
record Behind (texts : Slotted) (n : ℕ) (sizes : List (TextSlot × ℕ)) (tags : List KeptRead) : Type 0 where
  others : Slotted
  sizes_are : sizes_of others ≡ with_text sizes
  kept : kept_bytes texts 0 tags ≡ kept_bytes others 0 tags
  long : length (text_bytes texts) ≡ n + length (text_bytes others)

behind : (texts : Slotted) (slot : TextSlot) (n : ℕ) (sizes : List (TextSlot × ℕ)) (tags : List KeptRead)
    → ((j : ℕ) → same_slot slot (Tag j) ≡ false) → sizes_of texts ≡ with_text ((slot, n) ∷ sizes)
    → Behind texts n sizes tags
behind texts slot n sizes tags other are = by_size (cases_Bool (nat_eq n 0))
  where
    by_text : (texts : Slotted) → sizes_of texts ≡ (slot, n) ∷ with_text sizes → Behind texts n sizes tags
    by_text [] are = absurd cc
    by_text (t ∷ texts) are =
        let is = first-is t texts slot n (with_text sizes) are in
        let at : t.0 ≡ slot = ap (λ (z : TextSlot × ℕ). z.0) is in
        let many : length t.1 ≡ n = ap (λ (z : TextSlot × ℕ). z.1) is in
        record {
          others = texts;
          sizes_are = ap (drop 1) are;
          kept = same-kept t texts 0 tags (λ j past. ap (λ s. same_slot s (Tag j)) at ∙ other j);
          long = omega (arith, many, length-append t.1 (text_bytes texts));
        }

    by_size : (nat_eq n 0 ≡ true) ⊎ (nat_eq n 0 ≡ false) → Behind texts n sizes tags
    by_size (inl e) = let none : n ≡ 0 = eqb-true n 0 e in
        record { others = texts; sizes_are = are ∙ rw e refl; kept = refl; long = omega (arith, none) }
    by_size (inr e) = by_text texts (are ∙ rw e refl)

size-or : (o : Option Text) → text_size o ≡ length (unwrap_or o [])
size-or None = refl
size-or (Some text) = refl

module _ (h : Head) (texts : Slotted) (are : AreTexts h texts) where
  abbrev tags : List KeptRead
  tags = h.tags.items

  abbrev size : TextSlot → ℕ
  size slot = length (unwrap_or (text_in texts slot) [])

  abbrev last : List (TextSlot × ℕ)
  last = (Reference, size Reference) ∷ tag_sizes 0 tags

  a : Behind texts (size Name) ((House, size House) ∷ last) tags
  a = behind texts Name (size Name) ((House, size House) ∷ last) tags (λ j. refl) are.sizes

  b : Behind a.others (size House) last tags
  b = behind a.others House (size House) last tags (λ j. refl) a.sizes_are

  c : Behind b.others (size Reference) (tag_sizes 0 tags) tags
  c = behind b.others Reference (size Reference) (tag_sizes 0 tags) tags (λ j. refl) b.sizes_are

  tags-fit : list_all (λ (k : KeptRead). is_size k.value) tags ≡ true
  tags-fit = (and_parts (nat_le (size Name) 1020 && nat_le (size House) 1020 && nat_le (size Reference) 1020)
      (list_all (λ (k : KeptRead). is_size k.value) tags) are.short).1

  kept-are : kept_bytes c.others 0 tags ≡ length (text_bytes c.others)
  kept-are = all-kept c.others 0 tags c.sizes_are tags-fit

  kept-sum : kept_size (map (kept_told texts) (enumerate_from 0 tags)) ≡ kept_bytes texts 0 tags
  unfolding kept_size
  kept-sum = sum-total (λ (k : Kept). text_size (kept_text k.value)) (map (kept_told texts) (enumerate_from 0 tags))

  -- the texts of a head have as many bytes as those of the description that it tells
  pub texts-told : texts_length (description_told h texts) ≡ length (text_bytes texts)
  texts-told = texts-by_parts (description_told h texts) ∙ omega (
    arith,
    size-or (text_in texts Name),
    size-or (text_in texts House),
    size-or (text_in texts Reference),
    kept-sum,
    a.kept,
    b.kept,
    c.kept,
    kept-are,
    a.long,
    b.long,
    c.long,
  )

-- ---- units of sixteen bytes

wide-put : (u : Unit16) (units : List Unit16) → length u ≡ 16 → AreWide units → AreWide (u ∷ units)
wide-put u units long wide = λ i. by_place i
  where
    by_place : (i : ℕ) → i < length (u ∷ units) → length (slice_index_or (u ∷ units) i []) ≡ 16
    by_place zero within = long
    by_place (suc i) within = wide i (omega (arith, within))

wide-none : AreWide []
wide-none = λ i within. absurd (omega (arith, within))

wide-both : (xs ys : List Unit16) → AreWide xs → AreWide ys → AreWide (xs ++ ys)
wide-both [] ys first second = second
wide-both (u ∷ xs) ys first second = wide-put u (xs ++ ys) (first 0 (omega arith))
    (wide-both xs ys (λ i within. first (suc i) (omega (arith, within))) second)

wide-map : {A : Type 0} (f : A → Unit16) → ((x : A) → length (f x) ≡ 16) → (xs : List A) → AreWide (map f xs)
wide-map f long [] = wide-none
wide-map f long (x ∷ xs) = wide-put (f x) (map f xs) (long x) (wide-map f long xs)

wide-cut : (n : ℕ) (bytes : List ℕ) → 16 * n ≤ length bytes → AreWide (cut_rows 16 n bytes)
wide-cut zero bytes enough = wide-none
wide-cut (suc n) bytes enough = wide-put (take 16 bytes) (cut_rows 16 n (drop 16 bytes))
    (omega (arith, enough, length-take 16 bytes))
    (wide-cut n (drop 16 bytes) (omega (arith, enough, length-drop 16 bytes)))

wide-texts : (bytes : List ℕ) → AreWide (text_units bytes)
wide-texts bytes =
    let n : ℕ = units_for (length bytes) in
    wide-cut n (take (16 * n) (bytes ++ replicate 16 0)) (omega (
      arith,
      length-take (16 * n) (bytes ++ replicate 16 0),
      length-append bytes (replicate 16 0),
      length-replicate {A = ℕ} 16 0,
    ))

kept-long : (k : Option KeptRead) → length (fields_bytes (kept_fields k)) ≡ 8
kept-long None = simp (length-append, length-big_endian) refl
kept-long (Some k) = simp (length-append, length-big_endian) refl

head-long : (h : Head) (texts : TextLengths) (i : ℕ) → length (head_unit h texts i) ≡ 16
unfolding head_unit
head-long h texts zero = simp (length-append, length-big_endian) refl
head-long h texts (suc zero) = simp (length-append, length-big_endian) refl
head-long h texts (suc (suc zero)) =
    simp (length-append, length-big_endian) (omega (arith, kept-long (slice_get h.tags.items 0)))
head-long h texts (suc (suc (suc n))) = omega (
  arith,
  kept-long (slice_get h.tags.items (2 * n + 1)),
  kept-long (slice_get h.tags.items (2 * n + 1 + 1)),
  length-append (fields_bytes (kept_fields (slice_get h.tags.items (2 * n + 1))))
      (fields_bytes (kept_fields (slice_get h.tags.items (2 * n + 1 + 1)))),
)

point-long : (p : Point) → length (point_unit p) ≡ 16
unfolding row_bytes
point-long p = simp (length-append, length-big_endian) refl

part-long : (role : Role) (points : ℕ) → length (part_unit role points) ≡ 16
unfolding part_unit
part-long role points = simp (length-append, length-big_endian) refl

wide-parts : (parts : List Part) → AreWide (parts_units parts)
wide-parts [] = wide-none
wide-parts (p ∷ parts) = wide-both (part_units p) (parts_units parts)
    (wide-put (part_unit p.role (length p.points)) (map point_unit p.points) (part-long p.role (length p.points))
    (wide-map point_unit point-long p.points))
    (wide-parts parts)

wide-drawn : (kind : EntityKind) (spot : Option Point) (parts : List Part) → AreWide (drawn_units kind spot parts)
wide-drawn EntityKind.Node None parts = wide-none
wide-drawn EntityKind.Node (Some p) parts = wide-put (point_unit p) [] (point-long p) wide-none
wide-drawn EntityKind.Way spot parts = wide-parts parts
wide-drawn EntityKind.Relation spot parts = wide-parts parts

-- each unit of a record has sixteen bytes
pub units-wide : (r : Record) → AreWide (units_of r)
unfolding units_of
units-wide r = wide-both (head_units r) (text_units (text_bytes r.texts) ++ drawn_units r.head.kind r.spot r.parts)
    (wide-map (head_unit r.head (lengths_of r.texts)) (head-long r.head (lengths_of r.texts))
    (0 ∷ 1 ∷ 2 ∷ 3 ∷ 4 ∷ 5 ∷ 6 ∷ 7 ∷ 8 ∷ 9 ∷ []))
    (wide-both (text_units (text_bytes r.texts)) (drawn_units r.head.kind r.spot r.parts)
    (wide-texts (text_bytes r.texts)) (wide-drawn r.head.kind r.spot r.parts))

-- ---- the record of a node

kind-of : (e : Entity) (o : Option Choice) (d : Description) → option_map (described e) o ≡ Some d → kind_of e ≡ d.kind
kind-of e None d is = cc
kind-of e (Some chosen) d is = ap (λ (o : Option Description). (unwrap_or o d).kind) is

module _ (mapping : Mapping) (n : Node) (r : Record) (is : IsRecordOf mapping (node n) r) where
  pub kind-is : r.head.kind ≡ EntityKind.Node
  unfolding description
  kind-is = sym (kind-of (node n) (choice (entries_for mapping (kind_of (node n))) (tags_of (node n)))
      (description_told r.head r.texts) is.described)

  drawn : drawn_units r.head.kind r.spot r.parts ≡ point_unit (point_of n) ∷ []
  drawn = ap (λ k. drawn_units k r.spot r.parts) kind-is
      ∙ ap (λ s. drawn_units EntityKind.Node s r.parts) is.spot_is

  pub geometry : geometry_told r.head.kind r.spot r.parts ≡ place n.place
  geometry = ap (λ k. geometry_told k r.spot r.parts) kind-is ∙ ap place_told is.spot_is

  texts-are : AreTexts r.head r.texts
  texts-are = record-texts (units_of r) r (units-wide r) is.whole

  units-many : length (units_of r) ≡ unit_count r
  unfolding units_of
  units-many =
      let spots : spot_count r.spot ≡ 1 = ap spot_count is.spot_is in
      let none : parts_count r.parts ≡ 0 = ap parts_count is.no_parts in
      let one : length (drawn_units r.head.kind r.spot r.parts) ≡ 1 = ap length drawn in
      omega (
        arith,
        spots,
        none,
        one,
        front-counted r,
        length-append (front_units r) (drawn_units r.head.kind r.spot r.parts),
      )

  weighs : weight (candidate_told r) ≡ unit_count r
  unfolding weight candidate_told
  weighs =
      let spots : spot_count r.spot ≡ 1 = ap spot_count is.spot_is in
      let none : parts_count r.parts ≡ 0 = ap parts_count is.no_parts in
      let no_parts : length (parts_of (geometry_told r.head.kind r.spot r.parts)) ≡ 0 =
      ap (λ g. length (parts_of g)) geometry in
      let one : point_count (geometry_told r.head.kind r.spot r.parts) ≡ 1 = ap point_count geometry in
      omega (arith, spots, none, no_parts, one, texts-told r.head r.texts texts-are)

  -- the record of a node weighs as many as its units are, and has just these
  pub node-weight : (weight (candidate_told r) ≡ unit_count r) × (length (units_of r) ≡ unit_count r)
  node-weight = (weighs, units-many)
