-- What is described of an entity.
use Rattle.std.proofs.Common.{arith, ℕ, ℤ, ◌≡◌, ◌≤◌, true, false, List, [], ◌∷◌, map, length, Option, Some, None, refl, sym, ap, ◌∙◌, subst}
use Rattle.std.specs.Prelude.{option_map, IfSome}
use Rattle.std.specs.List.{AllByRecursion}
use Rattle.std.proofs.lemmas.Option.{same_Some}
use Rattle.mf_base.specs.Tags.{Tags}
use Rattle.mf_base.specs.declared.kind.EntityKind.{EntityKind}
use Rattle.mf_base.specs.declared.kept.Kept.{Kept as KeptRead}
use Rattle.osm_model.specs.Entities.{Entity, kind_of, id_of}
use Rattle.feature_model.specs.Mapping.{Entry, Mapping}
use Rattle.feature_model.specs.Choice.{Kept, Choice as Chosen, choice, matches}
use Rattle.feature_model.specs.Descriptions.{tags_of, entries_for, may_be_shown, height_of, description}
use Rattle.feature_model.specs.Proper.{IsKept}
use Rattle.feature_model.proofs.ListLemmas.{all-weaker}
use Rattle.feature_model.proofs.ChoiceLaws.{choice-is}
use Rattle.tag_mapping.specs.Choices.{kept_told, ToldChoice, choice_told, choice_shown}
use Rattle.tag_mapping.specs.declared.choice.Choice.{Choice}
use Rattle.mf_rows.specs.FirstUnits.{IsKeptTag}
use Rattle.mf_rows.specs.declared.head.Head.{Head}
use Rattle.mf_rows.specs.FirstUnits.{IsShort, IsHead}
use Rattle.mf_rows.specs.Records.{LiesIn, texts_told, description_told}
use Rattle.mf_ingest.specs.declared.front.Described.{Described}
use Rattle.mf_rows.specs.Whole.{AreTexts}
use Rattle.mf_ingest.specs.Fronts.{front_told, IsFront, head_told, IsSpan, tag_texts, AreEntriesOf}
use Rattle.mf_ingest.proofs.KeptTexts.{HasItsText, choice-texts}
use Rattle.mf_ingest.proofs.TextSlots.{front-told}
use Rattle.mf_ingest.proofs.TextSizes.{IsSound, kept-present, texts-are}
use Rattle.mf_ingest.proofs.FrontIs.{tags-known, tags-there}

-- ---- what was chosen

-- What is answered is what the tags choose of entries.
pub record IsChosenOf (entries : List Entry) (tags : Tags) (c : Choice) : Type 0 where
  pub chosen : Chosen
  pub found : choice entries tags ≡ Some chosen
  pub same : choice_shown c ≡ choice_told chosen

pub chosen-of : (entries : List Entry) (tags : Tags) (c : Choice)
    → option_map choice_shown (Some c) ≡ option_map choice_told (choice entries tags) → IsChosenOf entries tags c
chosen-of entries tags c is = by_choice (choice entries tags) refl is
  where
    by_choice : (o : Option Chosen) → choice entries tags ≡ o → Some (choice_shown c) ≡ option_map choice_told o
        → IsChosenOf entries tags c
    by_choice None found e = absurd (cc e)
    by_choice (Some chosen) found e =
        record { chosen = chosen; found = found; same = same_Some (choice_shown c) (choice_told chosen) e }

none-chosen : (entries : List Entry) (tags : Tags) → None ≡ option_map choice_told (choice entries tags)
    → choice entries tags ≡ None
none-chosen entries tags is = by_choice (choice entries tags) is
  where
    by_choice : (o : Option Chosen) → None ≡ option_map choice_told o → o ≡ None
    by_choice None e = refl
    by_choice (Some chosen) e = absurd (cc e)

module _ (entries : List Entry) (tags : Tags) (c : Choice) (is : IsChosenOf entries tags c) where
  pub known : length entries ≤ 4096 → AllByRecursion IsKeptTag c.tags.items
  known few = tags-known entries tags c is.chosen few is.found is.same

  pub there : length entries ≤ 4096 → AreEntriesOf entries c.tags.items
  there few = tags-there entries tags c is.chosen few is.found is.same

  both : (kept : List Kept) → AllByRecursion (HasItsText entries tags) kept → AllByRecursion (IsKept entries) kept
      → AllByRecursion (IsSound entries tags) kept
  both [] texts kept = tt
  both (k ∷ ks) texts kept = ((texts.0, kept-present entries k kept.0), both ks texts.1 kept.1)

  pub texts-told : (kind : EntityKind) (h : Head) → h.tags.items ≡ c.tags.items
      → AreTexts h (tag_texts entries kind tags c.tags.items)
  texts-told kind h same =
      let items : c.tags.items ≡ map kept_told is.chosen.tags = ap (λ (t : ToldChoice). t.tags) is.same in
      subst (λ kept. AreTexts h (tag_texts entries kind tags kept)) (sym items)
      (texts-are entries tags kind is.chosen.tags
      (both is.chosen.tags (choice-texts entries tags is.chosen is.found)
      (choice-is entries tags is.chosen is.found).kept) h (same ∙ items))

-- ---- what is answered

module _ (entries : List Entry) (tags : Tags) where
  -- no entry chooses nothing
  pub nothing-chosen : length entries ≡ 0 → None ≡ option_map choice_told (choice entries tags)
  unfolding choice matches
  nothing-chosen none = by_entries entries none
    where
      by_entries : (es : List Entry) → length es ≡ 0 → None ≡ option_map choice_told (choice es tags)
      by_entries [] none = refl
      by_entries (e ∷ es) none = absurd (omega (arith, none))

  pub all-known : length entries ≤ 4096 → (r : Option Choice)
      → option_map choice_shown r ≡ option_map choice_told (choice entries tags)
      → IfSome r (λ c. AllByRecursion IsKeptTag c.tags.items)
  all-known few None is = tt
  all-known few (Some c) is = known entries tags c (chosen-of entries tags c is) few

  pub all-there : length entries ≤ 4096 → (r : Option Choice)
      → option_map choice_shown r ≡ option_map choice_told (choice entries tags)
      → IfSome r (λ c. AreEntriesOf entries c.tags.items)
  all-there few None is = tt
  all-there few (Some c) is = there entries tags c (chosen-of entries tags c is) few

-- ---- what is described

module _ (mapping : Mapping) (e : Entity) where
  abbrev entries : List Entry
  entries = entries_for mapping (kind_of e)

  pub not-shown : may_be_shown e ≡ false → None ≡ description mapping e
  unfolding description
  not-shown hidden = rw hidden refl

  pub no-choice : may_be_shown e ≡ true → None ≡ option_map choice_told (choice entries (tags_of e))
      → None ≡ description mapping e
  unfolding description
  no-choice shown none = rw (shown, none-chosen entries (tags_of e) none) refl

  pub one-choice : may_be_shown e ≡ true → (c : Choice) → IsChosenOf entries (tags_of e) c
      → Some (description_told (head_told (kind_of e) (id_of e) (height_of (kind_of e) (tags_of e)) c)
      (tag_texts entries (kind_of e) (tags_of e) c.tags.items)) ≡ description mapping e
  unfolding description
  one-choice shown c is =
      let told = front-told entries (kind_of e) (id_of e) (tags_of e) (height_of (kind_of e) (tags_of e)) c is.chosen
      is.same (choice-texts entries (tags_of e) is.chosen is.found) in
      rw (shown, is.found) (ap (λ d. Some d) told)

  -- ---- what stands in the answer

  pub chosen-there : (kind : EntityKind) (tags : Tags) (r : Option Choice) → kind ≡ kind_of e → tags ≡ tags_of e
      → option_map choice_shown r ≡ option_map choice_told (choice (entries_for mapping kind) tags)
      → option_map choice_shown r ≡ option_map choice_told (choice entries (tags_of e))
  chosen-there kind tags r kind_is tags_are is =
      is ∙ ap (λ k. option_map choice_told (choice (entries_for mapping k) tags)) kind_is
      ∙ ap (λ t. option_map choice_told (choice entries t)) tags_are

  -- a head and texts that are made of a choice
  module _ (c : Choice) (is : IsChosenOf entries (tags_of e) c) (d : Described) (kind : EntityKind) (id : ℕ)
      (height : Option ℤ) (tags : Tags) (kept : List KeptRead) (kind_is : kind ≡ kind_of e) (tags_are : tags ≡ tags_of e)
      (kept_are : kept ≡ c.tags.items) (head : d.head ≡ head_told kind id height c)
      (texts : texts_told d.texts.block.now d.texts.spans.items ≡ tag_texts (entries_for mapping kind) kind tags kept)
    where
      texts-in : texts_told d.texts.block.now d.texts.spans.items
          ≡ tag_texts entries (kind_of e) (tags_of e) c.tags.items
      texts-in = texts ∙ ap (λ k. tag_texts (entries_for mapping k) k tags kept) kind_is
          ∙ ap (λ t. tag_texts entries (kind_of e) t kept) tags_are
          ∙ ap (tag_texts entries (kind_of e) (tags_of e)) kept_are

      pub described-is : may_be_shown e ≡ true → id ≡ id_of e → height ≡ height_of kind tags
          → Some (front_told d) ≡ description mapping e
      described-is shown id_is height_is =
          ap (λ ts. Some (description_told d.head ts)) texts-in
          ∙ ap (λ h. Some (description_told h (tag_texts entries (kind_of e) (tags_of e) c.tags.items))) head_is
          ∙ one-choice shown c is
        where
          head_is : d.head ≡ head_told (kind_of e) (id_of e) (height_of (kind_of e) (tags_of e)) c
          head_is = head ∙ ap (λ h. head_told kind id h c) height_is
              ∙ ap (λ i. head_told kind i (height_of kind tags) c) id_is
              ∙ ap (λ k. head_told k (id_of e) (height_of k tags) c) kind_is
              ∙ ap (λ t. head_told (kind_of e) (id_of e) (height_of (kind_of e) t) c) tags_are

      pub front-is : IsHead d.head → length d.texts.spans.items ≤ 18
          → AllByRecursion (IsSpan (length d.texts.block.now)) d.texts.spans.items → IsFront d
      front-is head_is few spans = record {
        head_is = head_is;
        no_number = ap (λ (h : Head). h.number) head;
        no_weight = ap (λ (h : Head). h.weight) head;
        few = few;
        lies = all-weaker (IsSpan (length d.texts.block.now)) (LiesIn (length d.texts.block.now)) d.texts.spans.items
            (λ s h. h.0) spans;
        short = all-weaker (IsSpan (length d.texts.block.now)) IsShort d.texts.spans.items (λ s h. h.2) spans;
        texts_are = subst (AreTexts d.head) (sym texts-in)
            (texts-told entries (tags_of e) c is (kind_of e) d.head (ap (λ (h : Head). h.tags.items) head));
      }
