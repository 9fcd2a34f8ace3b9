-- The head and the texts of a description tell it.
use Rattle.std.proofs.Common.{◌≡◌, ◌⊎◌, inl, inr, ℕ, ◌+◌, ◌≤◌, true, false, List, [], ◌∷◌, ◌++◌}
use Rattle.std.proofs.Common.{length, map, Option, Some, None, refl, sym, ap, ◌∙◌, arith, append_assoc}
use Rattle.std.specs.Prelude.{nat_eq, nat_le, unwrap_or, IfSome}
use Rattle.std.specs.List.{AllByRecursion, enumerate_from, list_all}
use Rattle.std.proofs.lemmas.Bool.{cases_Bool, and_from, le-leb, ne_eqb, eq-eqb}
use Rattle.std.proofs.lemmas.List.{append-nil}
use Rattle.mf_base.specs.Texts.{Text}
use Rattle.mf_base.specs.declared.kept.Kept.{Kept as KeptRead}
use Rattle.feature_model.specs.Mapping as model
use Rattle.feature_model.specs.Choice.{Kept}
use Rattle.feature_model.specs.Descriptions.{Description, kept_text}
use Rattle.mf_rows.specs.Records.{same_slot, text_in, kept_told, description_told}
use Rattle.mf_rows.specs.RecordUnits.{kept_size, tag_sizes, is_size}
use Rattle.mf_rows.specs.Whole.{sizes_of, with_text, AreTexts}
use Rattle.mf_rows.specs.Described.{short_value, short_kept, head_of, slot_text, tag_texts, texts_of}
use Rattle.mf_rows.specs.Described.{IsShortText, HasShortTexts}
use Rattle.mf_rows.specs.declared.head.TextSlot.{TextSlot}
use Rattle.mf_rows.specs.declared.head.TextSlot.TheVariants.{Name, House, Reference, Tag}

-- ---- texts by their slots

-- the text of another slot is passed over
skip : (s slot : TextSlot) (o : Option Text) (rest : List (TextSlot × Text)) → same_slot s slot ≡ false
    → text_in (slot_text s o ++ rest) slot ≡ text_in rest slot
skip s slot None rest other = refl
skip s slot (Some text) rest other = rw other refl

-- that of the slot is found
here : (s : TextSlot) (o : Option Text) (rest : List (TextSlot × Text)) → same_slot s s ≡ true
    → text_in rest s ≡ None → text_in (slot_text s o ++ rest) s ≡ o
here s None rest same none = none
here s (Some text) rest same none = rw same refl

-- tags are no other slot
no-tag : (slot : TextSlot) (i : ℕ) (tags : List Kept) → ((j : ℕ) → same_slot (Tag j) slot ≡ false)
    → text_in (tag_texts i tags) slot ≡ None
no-tag slot i [] other = refl
no-tag slot i (k ∷ tags) other = skip (Tag i) slot (kept_text k.value) (tag_texts (i + 1) tags) (other i)
    ∙ no-tag slot (i + 1) tags other

-- later tags are not this one
no-later : (j i : ℕ) (tags : List Kept) → j + 1 ≤ i → text_in (tag_texts i tags) (Tag j) ≡ None
no-later j i [] past = refl
no-later j i (k ∷ tags) past = skip (Tag i) (Tag j) (kept_text k.value) (tag_texts (i + 1) tags)
    (ne_eqb i j (λ same. omega (arith, same, past))) ∙ no-later j (i + 1) tags (omega (arith, past))

-- what stands before, and has no text of the slot, changes nothing
behind : (before rest : List (TextSlot × Text)) (slot : TextSlot) → text_in before slot ≡ None
    → text_in (before ++ rest) slot ≡ text_in rest slot
behind [] rest slot none = refl
behind (t ∷ before) rest slot none = by_slot (cases_Bool (same_slot t.0 slot)) (behind before rest slot)
  where
    by_slot : (same_slot t.0 slot ≡ true) ⊎ (same_slot t.0 slot ≡ false)
        → (text_in before slot ≡ None → text_in (before ++ rest) slot ≡ text_in rest slot)
        → text_in ((t ∷ before) ++ rest) slot ≡ text_in rest slot
    by_slot (inl e) more = let no : Some t.1 ≡ None = sym (rw e refl) ∙ none in cc
    by_slot (inr e) more = rw e (more (sym (rw e refl) ∙ none))

-- ---- kept tags

value-told : (texts : List (TextSlot × Text)) (i : ℕ) (k : Kept)
    → IfSome (kept_text k.value) (λ text. text_in texts (Tag i) ≡ Some text)
    → kept_told texts (i, short_kept k) ≡ k
value-told texts i k found = by_value k.value found
  where
    by_value : (v : model.KeptValue) → IfSome (kept_text v) (λ text. text_in texts (Tag i) ≡ Some text)
        → kept_told texts (i, record { tag = k.tag; value = short_value v }) ≡ record { tag = k.tag; value = v }
    by_value model.KeptValue.plain found = refl
    by_value (model.KeptValue.byte z) found = refl
    by_value (model.KeptValue.short z) found = refl
    by_value (model.KeptValue.int z) found = refl
    by_value (model.KeptValue.text text) found =
        ap (λ o. record { tag = k.tag; value = model.KeptValue.text (unwrap_or o []) }) found

found-text : (before : List (TextSlot × Text)) (i : ℕ) (o : Option Text) (rest : List (TextSlot × Text))
    → text_in before (Tag i) ≡ None
    → IfSome o (λ text. text_in (before ++ (slot_text (Tag i) o ++ rest)) (Tag i) ≡ Some text)
found-text before i None rest none = tt
found-text before i (Some text) rest none = behind before ((Tag i, text) ∷ rest) (Tag i) none
    ∙ rw (eq-eqb i i refl) refl

none-more : (before : List (TextSlot × Text)) (i j : ℕ) (o : Option Text) → i + 1 ≤ j
    → text_in before (Tag j) ≡ None → text_in (before ++ slot_text (Tag i) o) (Tag j) ≡ None
none-more before i j o past none = behind before (slot_text (Tag i) o) (Tag j) none
    ∙ ap (λ ts. text_in ts (Tag j)) (sym (append-nil (slot_text (Tag i) o)))
    ∙ skip (Tag i) (Tag j) o [] (ne_eqb i j (λ same. omega (arith, same, past)))

tags-told : (before : List (TextSlot × Text)) (i : ℕ) (tags : List Kept)
    → ((j : ℕ) → i ≤ j → text_in before (Tag j) ≡ None)
    → map (kept_told (before ++ tag_texts i tags)) (enumerate_from i (map short_kept tags)) ≡ tags
tags-told before i [] none = refl
tags-told before i (k ∷ tags) none =
    let texts : List (TextSlot × Text) = before ++ (slot_text (Tag i) (kept_text k.value) ++ tag_texts (i + 1) tags) in
    let more : List (TextSlot × Text) = before ++ slot_text (Tag i) (kept_text k.value) in
    let same : texts ≡ more ++ tag_texts (i + 1) tags =
    sym (append_assoc before (slot_text (Tag i) (kept_text k.value)) (tag_texts (i + 1) tags)) in
    let one : kept_told texts (i, short_kept k) ≡ k =
    value-told texts i k (found-text before i (kept_text k.value) (tag_texts (i + 1) tags) (none i (omega arith))) in
    let rest : map (kept_told (more ++ tag_texts (i + 1) tags)) (enumerate_from (i + 1) (map short_kept tags)) ≡ tags =
    tags-told more (i + 1) tags (λ j past. none-more before i j (kept_text k.value) past
    (none j (omega (arith, past)))) in
    ap (λ x. x ∷ map (kept_told texts) (enumerate_from (i + 1) (map short_kept tags))) one
    ∙ ap (λ ts. k ∷ map (kept_told ts) (enumerate_from (i + 1) (map short_kept tags))) same
    ∙ ap (λ ks. k ∷ ks) rest

-- ---- a description

module _ (d : Description) where
  abbrev tags : List (TextSlot × Text)
  tags = tag_texts 0 d.choice.tags

  abbrev last : List (TextSlot × Text)
  last = slot_text Reference d.reference ++ tags

  abbrev more : List (TextSlot × Text)
  more = slot_text House d.house ++ last

  name-in : text_in (texts_of d) Name ≡ d.name
  name-in = here Name d.name more refl (skip House Name d.house last refl
      ∙ skip Reference Name d.reference tags refl ∙ no-tag Name 0 d.choice.tags (λ j. refl))

  house-in : text_in (texts_of d) House ≡ d.house
  house-in = skip Name House d.name more refl ∙ here House d.house last refl
      (skip Reference House d.reference tags refl ∙ no-tag House 0 d.choice.tags (λ j. refl))

  reference-in : text_in (texts_of d) Reference ≡ d.reference
  reference-in = skip Name Reference d.name more refl ∙ skip House Reference d.house last refl
      ∙ here Reference d.reference tags refl (no-tag Reference 0 d.choice.tags (λ j. refl))

  abbrev named : List (TextSlot × Text)
  named = slot_text Name d.name ++ (slot_text House d.house ++ slot_text Reference d.reference)

  parted : texts_of d ≡ named ++ tags
  parted = ap (λ ts. slot_text Name d.name ++ ts)
      (sym (append_assoc (slot_text House d.house) (slot_text Reference d.reference) tags))
      ∙ sym (append_assoc (slot_text Name d.name) (slot_text House d.house ++ slot_text Reference d.reference) tags)

  no-name : (j : ℕ) → text_in named (Tag j) ≡ None
  no-name j = skip Name (Tag j) d.name (slot_text House d.house ++ slot_text Reference d.reference) refl
      ∙ skip House (Tag j) d.house (slot_text Reference d.reference) refl
      ∙ ap (λ ts. text_in ts (Tag j)) (sym (append-nil (slot_text Reference d.reference)))
      ∙ skip Reference (Tag j) d.reference [] refl

  kept-in : map (kept_told (texts_of d)) (enumerate_from 0 (map short_kept d.choice.tags)) ≡ d.choice.tags
  kept-in = ap (λ ts. map (kept_told ts) (enumerate_from 0 (map short_kept d.choice.tags))) parted
      ∙ tags-told named 0 d.choice.tags (λ j past. no-name j)

  pub description-again : description_told (head_of d) (texts_of d) ≡ d
  description-again = rw (kept-in, name-in, house-in, reference-in) refl

  -- ---- their lengths

  module _ (short : HasShortTexts d) where
    size-there : (s : TextSlot) (o : Option Text) (rest : List (TextSlot × Text)) (sizes : List (TextSlot × ℕ))
        → IfSome o IsShortText → sizes_of rest ≡ with_text sizes
        → sizes_of (slot_text s o ++ rest) ≡ with_text ((s, length (unwrap_or o [])) ∷ sizes)
    size-there s None rest sizes is are = are
    size-there s (Some text) rest sizes is are =
        let some : nat_eq (length text) 0 ≡ false = ne_eqb (length text) 0 (λ none. omega (arith, none, is.0)) in
        rw some (ap (λ more. (s, length text) ∷ more) are)

    kept-size : (v : model.KeptValue) → kept_size (short_value v) ≡ length (unwrap_or (kept_text v) [])
    kept-size model.KeptValue.plain = refl
    kept-size (model.KeptValue.byte z) = refl
    kept-size (model.KeptValue.short z) = refl
    kept-size (model.KeptValue.int z) = refl
    kept-size (model.KeptValue.text text) = refl

    tags-there : (i : ℕ) (ks : List Kept)
        → AllByRecursion (λ (k : Kept). IfSome (kept_text k.value) IsShortText) ks
        → sizes_of (tag_texts i ks) ≡ with_text (tag_sizes i (map short_kept ks))
    tags-there i [] all = refl
    tags-there i (k ∷ ks) all =
        size-there (Tag i) (kept_text k.value) (tag_texts (i + 1) ks) (tag_sizes (i + 1) (map short_kept ks)) all.0
        (tags-there (i + 1) ks all.1)
        ∙ ap (λ n. with_text ((Tag i, n) ∷ tag_sizes (i + 1) (map short_kept ks))) (sym (kept-size k.value))

    abbrev tag-lengths : List (TextSlot × ℕ)
    tag-lengths = tag_sizes 0 (map short_kept d.choice.tags)

    abbrev third : Option Text → List (TextSlot × ℕ)
    third reference = (Reference, length (unwrap_or reference [])) ∷ tag-lengths

    abbrev second : Option Text → Option Text → List (TextSlot × ℕ)
    second house reference = (House, length (unwrap_or house [])) ∷ third reference

    abbrev sized : Option Text → Option Text → Option Text → List (TextSlot × ℕ)
    sized name house reference = (Name, length (unwrap_or name [])) ∷ second house reference

    sizes-are : sizes_of (texts_of d) ≡ with_text (sized d.name d.house d.reference)
    sizes-are = size-there Name d.name more (second d.house d.reference) short.name
        (size-there House d.house last (third d.reference) short.house
        (size-there Reference d.reference tags tag-lengths short.reference (tags-there 0 d.choice.tags short.tags)))

    few : (o : Option Text) → IfSome o IsShortText → nat_le (length (unwrap_or o [])) 1020 ≡ true
    few None is = refl
    few (Some text) is = le-leb (length text) 1020 is.1

    one-fits : (v : model.KeptValue) → IfSome (kept_text v) IsShortText → is_size (short_value v) ≡ true
    one-fits model.KeptValue.plain is = refl
    one-fits (model.KeptValue.byte z) is = refl
    one-fits (model.KeptValue.short z) is = refl
    one-fits (model.KeptValue.int z) is = refl
    one-fits (model.KeptValue.text text) is =
        and_from _ _ (le-leb 1 (length text) is.0) (le-leb (length text) 1020 is.1)

    all-fit : (ks : List Kept) → AllByRecursion (λ (k : Kept). IfSome (kept_text k.value) IsShortText) ks
        → list_all (λ (k : KeptRead). is_size k.value) (map short_kept ks) ≡ true
    all-fit [] all = refl
    all-fit (k ∷ ks) all = and_from _ _ (one-fits k.value all.0) (all-fit ks all.1)

    pub texts-fit : AreTexts (head_of d) (texts_of d)
    texts-fit = record {
      sizes = sizes-are ∙ ap (λ o. with_text (sized o d.house d.reference)) (sym name-in)
          ∙ ap (λ o. with_text (sized (text_in (texts_of d) Name) o d.reference)) (sym house-in)
          ∙ ap (λ o. with_text (sized (text_in (texts_of d) Name) (text_in (texts_of d) House) o)) (sym reference-in);
      short = and_from _ _ (and_from _ _ (and_from _ _
          (ap (λ o. nat_le (length (unwrap_or o [])) 1020) name-in ∙ few d.name short.name)
          (ap (λ o. nat_le (length (unwrap_or o [])) 1020) house-in ∙ few d.house short.house))
          (ap (λ o. nat_le (length (unwrap_or o [])) 1020) reference-in ∙ few d.reference short.reference))
          (all-fit d.choice.tags short.tags);
    }
