-- The head that is made of a choice is one.
use Rattle.std.proofs.Common.{◌≡◌, ◌≤◌, ◌<◌, ℤ, pos, negsuc, List, map, length, Some, None, sym}
use Rattle.std.proofs.Common.{subst, arith, ap, ◌⊎◌, inl, inr, get_or}
use Rattle.std.proofs.lemmas.Int.{ints}
use Rattle.std.proofs.lemmas.Option.{slice_get_cases}
use Rattle.std.specs.Prelude.{FitsSigned, slice_get, IfSome, IsTrue}
use Rattle.std.specs.Int.{w8, w16, w32}
use Rattle.std.specs.List.{AllByRecursion}
use Rattle.std.proofs.lemmas.Bool.{and_parts, leb-true}
use Rattle.mf_base.specs.Ranges.{lies_within}
use Rattle.mf_base.specs.Tags.{Tags}
use Rattle.feature_model.specs.Mapping.{Entry, ValueKind, KeptValue, value_kind, IsOfKind}
use Rattle.feature_model.specs.Choice.{Kept, Choice as Chosen, choice}
use Rattle.feature_model.specs.Proper.{IsPresent, IsKept}
use Rattle.feature_model.proofs.ListLemmas.{all-map, all-weaker}
use Rattle.feature_model.proofs.ChoiceLaws.{choice-is}
use Rattle.tag_mapping.specs.Choices.{value_told, kept_told, choice_told, choice_shown}
use Rattle.tag_mapping.specs.declared.choice.Choice.{Choice}
use Rattle.mf_rows.specs.FirstUnits.{IsValue, IsKeptTag}
use Rattle.mf_ingest.specs.Fronts.{AreEntriesOf}

fits-8 : (z : ℤ) → IsTrue (lies_within (negsuc 127) (pos 127) z) → FitsSigned w8 z
fits-8 (pos n) is = let most : n ≤ 127 = leb-true n 127 is in omega (arith, ints, most)
fits-8 (negsuc n) is = let least : n ≤ 127 = leb-true n 127 (and_parts _ _ is).0 in omega (arith, ints, least)

fits-16 : (z : ℤ) → IsTrue (lies_within (negsuc 32767) (pos 32767) z) → FitsSigned w16 z
fits-16 (pos n) is = let most : n ≤ 32767 = leb-true n 32767 is in omega (arith, ints, most)
fits-16 (negsuc n) is =
    let least : n ≤ 32767 = leb-true n 32767 (and_parts _ _ is).0 in omega (arith, ints, least)

fits-32 : (z : ℤ) → IsTrue (lies_within (negsuc 2147483647) (pos 2147483647) z) → FitsSigned w32 z
fits-32 (pos n) is = let most : n ≤ 2147483647 = leb-true n 2147483647 is in omega (arith, ints, most)
fits-32 (negsuc n) is =
    let least : n ≤ 2147483647 = leb-true n 2147483647 (and_parts _ _ is).0 in omega (arith, ints, least)

-- a value of a kind is one that can be told
value-is : (kind : ValueKind) (v : KeptValue) → IsOfKind IsPresent kind v → IsValue (value_told v)
value-is ValueKind.plain KeptValue.plain is = tt
value-is ValueKind.byte (KeptValue.byte z) is = fits-8 z is
value-is ValueKind.short (KeptValue.short z) is = fits-16 z is
value-is ValueKind.int (KeptValue.int z) is = fits-32 z is
value-is ValueKind.text (KeptValue.text t) is = omega (arith, is.1)
value-is _ _ is = absurd is

kept-is : (entries : List Entry) (k : Kept) → length entries ≤ 4096 → IsKept entries k → IsKeptTag (kept_told k)
kept-is entries k few is = (omega (arith, few, is.0), by_entry (slice_get_cases entries k.tag).1)
  where
    IsFitting : Entry → Type 0
    IsFitting e = IsOfKind IsPresent (value_kind e.value) k.value

    by_entry : ((e : Entry) × (k.tag < length entries) × (slice_get entries k.tag ≡ Some e)
        × (get_or entries k.tag e ≡ e)) ⊎ ((length entries ≤ k.tag) × (slice_get entries k.tag ≡ None))
        → IsValue (value_told k.value)
    by_entry (inl there) = value-is (value_kind there.0.value) k.value (subst (λ o. IfSome o IsFitting) there.2 is.1)
    by_entry (inr past) = absurd (omega (arith, past.0, is.0))

module _ (entries : List Entry) (tags : Tags) (c : Choice) (chosen : Chosen) (few : length entries ≤ 4096)
    (is : choice entries tags ≡ Some chosen) (same : choice_shown c ≡ choice_told chosen) where
  items : c.tags.items ≡ map kept_told chosen.tags
  items = ap (λ t. t.tags) same

  pub tags-known : AllByRecursion IsKeptTag c.tags.items
  tags-known = subst (AllByRecursion IsKeptTag) (sym items)
      (all-map IsKeptTag kept_told chosen.tags
      (all-weaker (IsKept entries) (λ k. IsKeptTag (kept_told k)) chosen.tags (λ k h. kept-is entries k few h)
      (choice-is entries tags chosen is).kept))

  pub tags-there : AreEntriesOf entries c.tags.items
  tags-there = subst (AreEntriesOf entries) (sym items)
      (all-map (λ k. k.tag < length entries) kept_told chosen.tags
      (all-weaker (IsKept entries) (λ k. k.tag < length entries) chosen.tags (λ k h. h.0)
      (choice-is entries tags chosen is).kept))
