-- Texts are found by their slots, and tell what was described.
use Rattle.std.proofs.Common.{◌≡◌, ℕ, ◌+◌, ◌≤◌, ℤ, true, false, List, [], ◌∷◌, ◌++◌, map, Option, Some, None}
use Rattle.std.proofs.Common.{refl, sym, ap, ◌∙◌, arith, append_assoc}
use Rattle.std.specs.Prelude.{find, option_map, unwrap_or, codes}
use Rattle.std.specs.Option.{option_or}
use Rattle.std.specs.List.{AllByRecursion, enumerate_from}
use Rattle.std.proofs.lemmas.Bool.{eq-eqb, ne_eqb}
use Rattle.std.proofs.lemmas.List.Folds.{find-append}
use Rattle.mf_base.specs.Texts.{Text}
use Rattle.mf_base.specs.Tags.{Tags, text_of}
use Rattle.mf_base.specs.declared.kind.EntityKind.{EntityKind}
use Rattle.mf_base.specs.declared.kept.Kept.{Kept as KeptRead}
use Rattle.feature_model.specs.Mapping.{Entry, KeptValue}
use Rattle.feature_model.specs.Choice.{Kept, Choice as Chosen}
use Rattle.feature_model.specs.Descriptions.{Description, reference_of, kept_text as text_kept}
use Rattle.tag_mapping.specs.Choices.{value_told, kept_told, choice_told, choice_shown}
use Rattle.tag_mapping.specs.declared.choice.Choice.{Choice}
use Rattle.mf_rows.specs.Records.{same_slot, text_in, kept_told as kept_in, description_told}
use Rattle.mf_rows.specs.declared.head.TextSlot.{TextSlot}
use Rattle.mf_rows.specs.declared.head.TextSlot.TheVariants.{Name, House, Reference, Tag}
use Rattle.mf_ingest.specs.Fronts.{head_told, slot_text, kept_text, kept_texts, tag_texts}
use Rattle.mf_ingest.proofs.KeptTexts.{HasItsText}

-- ---- one slot

abbrev InSlots : Type 0
InSlots = List (TextSlot × Text)

text_in-append : (xs ys : InSlots) (slot : TextSlot)
    → text_in (xs ++ ys) slot ≡ option_or (text_in xs slot) (text_in ys slot)
text_in-append xs ys slot =
    let is_it = λ (t : TextSlot × Text). same_slot t.0 slot in
    ap (option_map (λ (t : TextSlot × Text). t.1)) (find-append is_it xs ys) ∙ mapped (find is_it xs) (find is_it ys)
  where
    mapped : (a b : Option (TextSlot × Text)) → option_map (λ (t : TextSlot × Text). t.1) (option_or a b)
        ≡ option_or (option_map (λ (t : TextSlot × Text). t.1) a) (option_map (λ (t : TextSlot × Text). t.1) b)
    mapped None b = refl
    mapped (Some t) b = refl

in-itself : (slot : TextSlot) (text : Option Text) → same_slot slot slot ≡ true → text_in (slot_text slot text) slot ≡ text
in-itself slot None same = refl
in-itself slot (Some t) same = rw same refl

in-another : (slot other : TextSlot) (text : Option Text) → same_slot slot other ≡ false
    → text_in (slot_text slot text) other ≡ None
in-another slot other None same = refl
in-another slot other (Some t) same = rw same refl

or-none : (a b : Option Text) → b ≡ None → option_or a b ≡ a
or-none None b none = none
or-none (Some t) b none = refl

-- ---- kept tags

module _ (entries : List Entry) (tags : Tags) where
  -- no kept tag from a place on has a slot that none of them has
  in-no-tag : (slot : TextSlot) (i : ℕ) (kept : List KeptRead)
      → ((j : ℕ) → i ≤ j → same_slot (Tag j) slot ≡ false) → text_in (kept_texts entries tags i kept) slot ≡ None
  in-no-tag slot i [] other = refl
  in-no-tag slot i (k ∷ kept) other =
      let first : Option Text = kept_text entries tags k in
      let later = kept_texts entries tags (i + 1) kept in
      text_in-append (slot_text (Tag i) first) later slot
      ∙ ap (λ o. option_or o (text_in later slot)) (in-another (Tag i) slot first (other i (omega arith)))
      ∙ in-no-tag slot (i + 1) kept (λ j high. other j (omega (arith, high)))

  same-value : (texts : InSlots) (i n : ℕ) (v : KeptValue) → text_in texts (Tag i) ≡ text_kept v
      → kept_in texts (i, record { tag = n; value = value_told v }) ≡ record { tag = n; value = v }
  same-value texts i n KeptValue.plain e = refl
  same-value texts i n (KeptValue.byte z) e = refl
  same-value texts i n (KeptValue.short z) e = refl
  same-value texts i n (KeptValue.int z) e = refl
  same-value texts i n (KeptValue.text t) e =
      ap (λ (o : Option Text). record { tag = n; value = KeptValue.text (unwrap_or o []) }) e

  -- the kept tags of a choice are told by their texts, behind texts that are of none of them
  tags-told : (front : InSlots) (i : ℕ) (kept : List Kept) (texts : InSlots)
      → ((j : ℕ) → i ≤ j → text_in front (Tag j) ≡ None) → AllByRecursion (HasItsText entries tags) kept
      → texts ≡ front ++ kept_texts entries tags i (map kept_told kept)
      → map (kept_in texts) (enumerate_from i (map kept_told kept)) ≡ kept
  tags-told front i [] texts none has is = refl
  tags-told front i (k ∷ kept) texts none has is =
      let first : Option Text = kept_text entries tags (kept_told k) in
      let here = slot_text (Tag i) first in
      let later = kept_texts entries tags (i + 1) (map kept_told kept) in
      let not_later : text_in later (Tag i) ≡ None =
      in-no-tag (Tag i) (i + 1) (map kept_told kept) (λ j high. ne_eqb j i (λ e. omega (arith, high, e))) in
      let found : text_in texts (Tag i) ≡ first =
      ap (λ ts. text_in ts (Tag i)) is ∙ text_in-append front (here ++ later) (Tag i)
      ∙ ap (λ o. option_or o (text_in (here ++ later) (Tag i))) (none i (omega arith))
      ∙ text_in-append here later (Tag i)
      ∙ or-none (text_in here (Tag i)) (text_in later (Tag i)) not_later
      ∙ in-itself (Tag i) first (eq-eqb i i refl) in
      let same : kept_in texts (i, kept_told k) ≡ k = same-value texts i k.tag k.value (found ∙ has.0) in
      let absent : (j : ℕ) → i + 1 ≤ j → text_in (front ++ here) (Tag j) ≡ None =
      λ j high. text_in-append front here (Tag j)
      ∙ ap (λ o. option_or o (text_in here (Tag j))) (none j (omega (arith, high)))
      ∙ in-another (Tag i) (Tag j) first (ne_eqb i j (λ e. omega (arith, high, e))) in
      let more = tags-told (front ++ here) (i + 1) kept texts absent has.1 (is ∙ sym (append_assoc front here later)) in
      rw (same, more) refl

-- ---- all texts

module _ (entries : List Entry) (kind : EntityKind) (tags : Tags) (kept : List KeptRead) where
  abbrev names : InSlots
  names = slot_text Name (text_of (codes "name") tags)

  abbrev houses : InSlots
  houses = slot_text House (text_of (codes "addr:housenumber") tags)

  abbrev references : InSlots
  references = slot_text Reference (reference_of kind tags)

  in-all : (slot : TextSlot) → text_in (tag_texts entries kind tags kept) slot
      ≡ option_or (option_or (option_or (text_in names slot) (text_in houses slot)) (text_in references slot))
      (text_in (kept_texts entries tags 0 kept) slot)
  unfolding tag_texts
  in-all slot =
      let later = kept_texts entries tags 0 kept in
      text_in-append (names ++ houses ++ references) later slot
      ∙ ap (λ o. option_or o (text_in later slot)) (text_in-append (names ++ houses) references slot
      ∙ ap (λ o. option_or o (text_in references slot)) (text_in-append names houses slot))

  pub name-told : text_in (tag_texts entries kind tags kept) Name ≡ text_of (codes "name") tags
  name-told =
      in-all Name ∙ rw (
        in-itself Name (text_of (codes "name") tags) refl,
        in-another House Name (text_of (codes "addr:housenumber") tags) refl,
        in-another Reference Name (reference_of kind tags) refl,
        in-no-tag entries tags Name 0 kept (λ j high. refl),
      )
      (by_text (text_of (codes "name") tags))
    where
      by_text : (o : Option Text) → option_or (option_or (option_or o None) None) None ≡ o
      by_text None = refl
      by_text (Some t) = refl

  pub house-told : text_in (tag_texts entries kind tags kept) House ≡ text_of (codes "addr:housenumber") tags
  house-told =
      in-all House ∙ rw (
        in-another Name House (text_of (codes "name") tags) refl,
        in-itself House (text_of (codes "addr:housenumber") tags) refl,
        in-another Reference House (reference_of kind tags) refl,
        in-no-tag entries tags House 0 kept (λ j high. refl),
      )
      (by_text (text_of (codes "addr:housenumber") tags))
    where
      by_text : (o : Option Text) → option_or (option_or (option_or None o) None) None ≡ o
      by_text None = refl
      by_text (Some t) = refl

  pub reference-told : text_in (tag_texts entries kind tags kept) Reference ≡ reference_of kind tags
  reference-told =
      in-all Reference ∙ rw (
        in-another Name Reference (text_of (codes "name") tags) refl,
        in-another House Reference (text_of (codes "addr:housenumber") tags) refl,
        in-itself Reference (reference_of kind tags) refl,
        in-no-tag entries tags Reference 0 kept (λ j high. refl),
      )
      (by_text (reference_of kind tags))
    where
      by_text : (o : Option Text) → option_or (option_or (option_or None None) o) None ≡ o
      by_text None = refl
      by_text (Some t) = refl

-- what head and texts tell is what the tags chose, with the texts of these tags
module _ (entries : List Entry) (kind : EntityKind) (id : ℕ) (tags : Tags) (height : Option ℤ) (c : Choice) (chosen : Chosen)
    (same : choice_shown c ≡ choice_told chosen) (has : AllByRecursion (HasItsText entries tags) chosen.tags) where
  abbrev pub told : Description
  told = record {
    kind = kind;
    id = id;
    choice = chosen;
    name = text_of (codes "name") tags;
    house = text_of (codes "addr:housenumber") tags;
    reference = reference_of kind tags;
    height = height;
  }

  texts-front : (kept : List KeptRead) (j : ℕ) → 0 ≤ j
      → text_in (names entries kind tags kept ++ houses entries kind tags kept ++ references entries kind tags kept) (Tag j)
      ≡ None
  texts-front kept j low =
      text_in-append (names entries kind tags kept ++ houses entries kind tags kept) (references entries kind tags kept) (Tag j)
      ∙ ap (λ o. option_or o (text_in (references entries kind tags kept) (Tag j)))
      (text_in-append (names entries kind tags kept) (houses entries kind tags kept) (Tag j))
      ∙ rw (
        in-another Name (Tag j) (text_of (codes "name") tags) refl,
        in-another House (Tag j) (text_of (codes "addr:housenumber") tags) refl,
        in-another Reference (Tag j) (reference_of kind tags) refl,
      ) refl

  pub front-told : description_told (head_told kind id height c) (tag_texts entries kind tags c.tags.items) ≡ told
  unfolding tag_texts
  front-told =
      let items : c.tags.items ≡ map kept_told chosen.tags = ap (λ t. t.tags) same in
      let texts : InSlots = tag_texts entries kind tags (map kept_told chosen.tags) in
      let kept : map (kept_in texts) (enumerate_from 0 (map kept_told chosen.tags)) ≡ chosen.tags =
      tags-told entries tags _ 0 chosen.tags texts (texts-front (map kept_told chosen.tags)) has refl in
      let zoom : c.zoom ≡ chosen.zoom = ap (λ t. t.zoom) same in
      let layer : c.layer ≡ chosen.layer = ap (λ t. t.layer) same in
      let water : c.water ≡ chosen.water = ap (λ t. t.water) same in
      let label : c.label ≡ chosen.label = ap (λ t. t.label) same in
      let coast : c.coast ≡ chosen.coast = ap (λ t. t.coast) same in
      rw (
        items,
        kept,
        zoom,
        layer,
        water,
        label,
        coast,
        name-told entries kind tags (map kept_told chosen.tags),
        house-told entries kind tags (map kept_told chosen.tags),
        reference-told entries kind tags (map kept_told chosen.tags),
      ) refl
