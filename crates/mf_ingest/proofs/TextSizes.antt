-- The texts of tags are those that the head tells.
use Rattle.std.proofs.Common.{◌≡◌, ◌⊎◌, inl, inr, ℕ, ◌+◌, ◌≤◌, ◌<◌, true, ◌&&◌, List, [], ◌∷◌, ◌++◌, map, length}
use Rattle.std.proofs.Common.{Option, Some, None, refl, sym, ap, ◌∙◌, subst, arith, append_assoc, get_or}
use Rattle.std.specs.Prelude.{IfSome, unwrap_or, codes, slice_get, nat_le}
use Rattle.std.specs.List.{AllByRecursion, list_all}
use Rattle.std.proofs.lemmas.Bool.{ne_eqb, le-leb}
use Rattle.std.proofs.lemmas.List.{map-append}
use Rattle.std.proofs.lemmas.Option.{slice_get_cases}
use Rattle.mf_base.specs.Texts.{Text}
use Rattle.mf_base.specs.Tags.{Tags, text_of}
use Rattle.mf_base.specs.declared.kind.EntityKind.{EntityKind}
use Rattle.mf_base.specs.declared.kept.Kept.{Kept as KeptRead}
use Rattle.feature_model.specs.Mapping.{Entry, ValueKind, KeptValue, value_kind, IsOfKind}
use Rattle.feature_model.specs.Choice.{Kept}
use Rattle.feature_model.specs.Descriptions.{reference_of, kept_text as text_kept}
use Rattle.feature_model.specs.Proper.{IsPresent, IsKept}
use Rattle.feature_model.proofs.ChoiceLaws.{text_of-present}
use Rattle.tag_mapping.specs.Choices.{value_told, kept_told}
use Rattle.mf_rows.specs.RecordUnits.{text_size, tag_sizes, kept_size, is_size}
use Rattle.mf_rows.specs.declared.head.Head.{Head}
use Rattle.mf_rows.specs.declared.head.TextSlot.{TextSlot}
use Rattle.mf_rows.specs.declared.head.TextSlot.TheVariants.{Name, House, Reference, Tag}
use Rattle.mf_rows.specs.Whole.{with_text, sizes_of, AreTexts}
use Rattle.mf_ingest.specs.Fronts.{slot_text, kept_text, kept_texts, tag_texts}
use Rattle.mf_ingest.proofs.KeptTexts.{HasItsText}
use Rattle.mf_ingest.proofs.TextSlots.{name-told, house-told, reference-told}

-- ---- one text

-- the size of a text, 0 where there is none
abbrev size : Option Text → ℕ
size text = length (unwrap_or text [])

slot-sizes : (slot : TextSlot) (text : Option Text) (rest : List (TextSlot × ℕ)) → IfSome text IsPresent
    → sizes_of (slot_text slot text) ++ with_text rest ≡ with_text ((slot, size text) ∷ rest)
slot-sizes slot None rest present = refl
slot-sizes slot (Some t) rest present = rw (ne_eqb (length t) 0 (λ e. omega (arith, present.0, e))) refl

fits : (text : Option Text) → IfSome text IsPresent → nat_le (size text) 1020 ≡ true
fits None present = refl
fits (Some t) present = le-leb (length t) 1020 present.1

reference-present : (kind : EntityKind) (tags : Tags) → IfSome (reference_of kind tags) IsPresent
reference-present EntityKind.Node tags = tt
reference-present EntityKind.Way tags = text_of-present (codes "ref") tags
reference-present EntityKind.Relation tags = text_of-present (codes "ref") tags

sizes-all : (a b c d : List (TextSlot × Text))
    → sizes_of (a ++ b ++ c ++ d) ≡ sizes_of a ++ (sizes_of b ++ (sizes_of c ++ sizes_of d))
sizes-all a b c d =
    map-append _ (a ++ b ++ c) d
    ∙ ap (λ s. s ++ sizes_of d) (map-append _ (a ++ b) c ∙ ap (λ s. s ++ sizes_of c) (map-append _ a b))
    ∙ append_assoc (sizes_of a ++ sizes_of b) (sizes_of c) (sizes_of d)
    ∙ append_assoc (sizes_of a) (sizes_of b) (sizes_of c ++ sizes_of d)

-- ---- kept tags

value-present : (kind : ValueKind) (v : KeptValue) → IsOfKind IsPresent kind v → IfSome (text_kept v) IsPresent
value-present kind KeptValue.plain is = tt
value-present kind (KeptValue.byte z) is = tt
value-present kind (KeptValue.short z) is = tt
value-present kind (KeptValue.int z) is = tt
value-present ValueKind.text (KeptValue.text t) is = is
value-present ValueKind.plain (KeptValue.text t) is = absurd is
value-present ValueKind.byte (KeptValue.text t) is = absurd is
value-present ValueKind.short (KeptValue.text t) is = absurd is
value-present ValueKind.int (KeptValue.text t) is = absurd is

pub kept-present : (entries : List Entry) (k : Kept) → IsKept entries k → IfSome (text_kept k.value) IsPresent
kept-present entries k is = by_entry (slice_get_cases entries k.tag).1
  where
    IsFitting : Entry → Type 0
    IsFitting e = IsOfKind IsPresent (value_kind e.value) k.value

    by_entry : ((e : Entry) × (k.tag < length entries) × (slice_get entries k.tag ≡ Some e)
        × (get_or entries k.tag e ≡ e)) ⊎ ((length entries ≤ k.tag) × (slice_get entries k.tag ≡ None))
        → IfSome (text_kept k.value) IsPresent
    by_entry (inl there) = value-present (value_kind there.0.value) k.value (subst (λ o. IfSome o IsFitting) there.2 is.1)
    by_entry (inr past) = absurd (omega (arith, past.0, is.0))

value-size : (v : KeptValue) → size (text_kept v) ≡ kept_size (value_told v)
value-size KeptValue.plain = refl
value-size (KeptValue.byte z) = refl
value-size (KeptValue.short z) = refl
value-size (KeptValue.int z) = refl
value-size (KeptValue.text t) = refl

value-fits : (v : KeptValue) → IfSome (text_kept v) IsPresent → is_size (value_told v) ≡ true
value-fits KeptValue.plain present = refl
value-fits (KeptValue.byte z) present = refl
value-fits (KeptValue.short z) present = refl
value-fits (KeptValue.int z) present = refl
value-fits (KeptValue.text t) present =
    rw (le-leb 1 (length t) present.0, le-leb (length t) 1020 present.1) refl

module _ (entries : List Entry) (tags : Tags) where
  abbrev pub IsSound : Kept → Type 0
  IsSound k = HasItsText entries tags k × IfSome (text_kept k.value) IsPresent

  kept-sizes : (i : ℕ) (kept : List Kept) → AllByRecursion IsSound kept
      → sizes_of (kept_texts entries tags i (map kept_told kept)) ≡ with_text (tag_sizes i (map kept_told kept))
  kept-sizes i [] all = refl
  kept-sizes i (k ∷ kept) all =
      let first : Option Text = kept_text entries tags (kept_told k) in
      let rest : List (TextSlot × ℕ) = tag_sizes (i + 1) (map kept_told kept) in
      let sized : size first ≡ kept_size (value_told k.value) = ap size all.0.0 ∙ value-size k.value in
      map-append _ (slot_text (Tag i) first) (kept_texts entries tags (i + 1) (map kept_told kept))
      ∙ ap (λ s. sizes_of (slot_text (Tag i) first) ++ s) (kept-sizes (i + 1) kept all.1)
      ∙ slot-sizes (Tag i) first rest (subst (λ o. IfSome o IsPresent) (sym all.0.0) all.0.1)
      ∙ ap (λ n. with_text ((Tag i, n) ∷ rest)) sized

  kept-fit : (kept : List Kept) → AllByRecursion IsSound kept
      → list_all (λ (k : KeptRead). is_size k.value) (map kept_told kept) ≡ true
  kept-fit [] all = refl
  kept-fit (k ∷ kept) all = rw (value-fits k.value all.0.1, kept-fit kept all.1) refl

  -- ---- all texts

  module _ (kind : EntityKind) (kept : List Kept) (all : AllByRecursion IsSound kept) (h : Head)
      (told : h.tags.items ≡ map kept_told kept) where
    abbrev name : Option Text
    name = text_of (codes "name") tags

    abbrev house : Option Text
    house = text_of (codes "addr:housenumber") tags

    abbrev reference : Option Text
    reference = reference_of kind tags

    abbrev texts : List (TextSlot × Text)
    texts = tag_texts entries kind tags (map kept_told kept)

    -- something of the lengths and the tags that are told
    same : {A : Type 0} (f : ℕ → ℕ → ℕ → List KeptRead → A)
        → f (size name) (size house) (size reference) (map kept_told kept)
        ≡ f (text_size texts Name) (text_size texts House) (text_size texts Reference) h.tags.items
    same f =
        let tags_told = map kept_told kept in
        sym (ap (λ t. f (text_size texts Name) (text_size texts House) (text_size texts Reference) t) told
        ∙ ap (λ o. f (size o) (text_size texts House) (text_size texts Reference) tags_told)
        (name-told entries kind tags tags_told)
        ∙ ap (λ o. f (size name) (size o) (text_size texts Reference) tags_told) (house-told entries kind tags tags_told)
        ∙ ap (λ o. f (size name) (size house) (size o) tags_told) (reference-told entries kind tags tags_told))

    pub texts-are : AreTexts h (tag_texts entries kind tags (map kept_told kept))
    unfolding tag_texts
    texts-are =
        let names = slot_text Name name in
        let houses = slot_text House house in
        let references = slot_text Reference reference in
        let rest : List (TextSlot × ℕ) = tag_sizes 0 (map kept_told kept) in
        let behind : List (TextSlot × ℕ) = (Reference, size reference) ∷ rest in
        record {
          sizes = sizes-all names houses references (kept_texts entries tags 0 (map kept_told kept))
              ∙ ap (λ s. sizes_of names ++ (sizes_of houses ++ (sizes_of references ++ s))) (kept-sizes 0 kept all)
              ∙ ap (λ s. sizes_of names ++ (sizes_of houses ++ s))
              (slot-sizes Reference reference rest (reference-present kind tags))
              ∙ ap (λ s. sizes_of names ++ s)
              (slot-sizes House house behind (text_of-present (codes "addr:housenumber") tags))
              ∙ slot-sizes Name name ((House, size house) ∷ behind) (text_of-present (codes "name") tags)
              ∙ same (λ n m r t. with_text ((Name, n) ∷ (House, m) ∷ (Reference, r) ∷ tag_sizes 0 t));
          short = sym (same (λ n m r t. nat_le n 1020 && nat_le m 1020 && nat_le r 1020
              && list_all (λ (k : KeptRead). is_size k.value) t))
              ∙ rw (
                fits name (text_of-present (codes "name") tags),
                fits house (text_of-present (codes "addr:housenumber") tags),
                fits reference (reference-present kind tags),
                kept-fit kept all,
              ) refl;
        }
