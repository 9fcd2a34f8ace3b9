-- The text of a kept tag is the value that its choice keeps.
use Rattle.std.proofs.Common.{◌≡◌, ℕ, ℤ, Bool, true, false, List, [], ◌∷◌, map, Option, Some, None}
use Rattle.std.proofs.Common.{refl, ap, ◌∙◌, subst, arith}
use Rattle.std.specs.Prelude.{filter_map, slice_get, option_map, option_and_then, if◌then◌else◌}
use Rattle.std.specs.List.{AllByRecursion, enumerate_from}
use Rattle.std.proofs.lemmas.Option.{same_Some}
use Rattle.mf_base.specs.Texts.{Text}
use Rattle.mf_base.specs.Tags.{Tags, value_of, present_text, text_of}
use Rattle.feature_model.specs.Mapping.{Entry, ValueKind, KeptValue, value_kind, read_by, kept_by}
use Rattle.feature_model.specs.Choice.{Kept, Match, match_of, matches, layer_of, Choice, choice_of, choice}
use Rattle.feature_model.specs.Descriptions.{kept_text as text_kept}
use Rattle.feature_model.proofs.ListLemmas.{all-filter_map, any-all, all-map, all-take, all-numbered}
use Rattle.tag_mapping.specs.Choices.{value_told, kept_told}
use Rattle.mf_ingest.specs.Fronts.{of_text, kept_text}

-- ---- a value that was read

-- of this text, what is kept is this value
abbrev IsOf : Option Text → KeptValue → Type 0
IsOf text v = of_text (value_told v) text ≡ text_kept v

plain-is : (text : Option Text) (b : Bool) (v : KeptValue) → (if b then Some KeptValue.plain else None) ≡ Some v
    → IsOf text v
plain-is text true v e = subst (IsOf text) (same_Some KeptValue.plain v e) refl
plain-is text false v e = absurd (cc e)

number-is : (text : Option Text) (make : ℤ → KeptValue) (o : Option ℤ) (v : KeptValue)
    → ((z : ℤ) → IsOf text (make z)) → option_map make o ≡ Some v → IsOf text v
number-is text make None v fine e = absurd (cc e)
number-is text make (Some z) v fine e = subst (IsOf text) (same_Some (make z) v e) (fine z)

text-is : (o : Option Text) (v : KeptValue) → option_map KeptValue.text o ≡ Some v → IsOf o v
text-is None v e = absurd (cc e)
text-is (Some u) v e = subst (IsOf (Some u)) (same_Some (KeptValue.text u) v e) refl

read-is : (kind : ValueKind) (wanted value : Text) (v : KeptValue) → read_by kind wanted value ≡ Some v
    → IsOf (present_text value) v
read-is ValueKind.plain wanted value v e = plain-is _ _ v e
read-is ValueKind.byte wanted value v e = number-is _ KeptValue.byte _ v (λ z. refl) e
read-is ValueKind.short wanted value v e = number-is _ KeptValue.short _ v (λ z. refl) e
read-is ValueKind.int wanted value v e = number-is _ KeptValue.int _ v (λ z. refl) e
read-is ValueKind.text wanted value v e = text-is (present_text value) v e

kept-is : (entry : Entry) (tags : Tags) (v : KeptValue) → kept_by entry tags ≡ Some v
    → IsOf (text_of entry.key tags) v
unfolding kept_by text_of
kept-is entry tags v e = by_value (value_of entry.key tags) e
  where
    by_value : (o : Option Text) → option_and_then (read_by (value_kind entry.value) entry.value) o ≡ Some v
        → IsOf (option_and_then present_text o) v
    by_value None e = absurd (cc e)
    by_value (Some t) e = read-is (value_kind entry.value) entry.value t v e

-- ---- the tags of a choice

module _ (entries : List Entry) (tags : Tags) where
  -- the text of a kept tag is that of its value
  abbrev pub HasItsText : Kept → Type 0
  HasItsText k = kept_text entries tags (kept_told k) ≡ text_kept k.value

  match-text : (numbered : ℕ × Entry) (m : Match) → slice_get entries numbered.0 ≡ Some numbered.1
      → match_of tags numbered ≡ Some m → HasItsText m.kept
  match-text numbered m there e = by_value (kept_by numbered.1 tags) refl e
    where
      with_value : KeptValue → Match
      with_value value = record { kept = record { tag = numbered.0; value = value }; entry = numbered.1 }

      text_found : Option Entry → Option Text
      text_found = option_and_then (λ (e : Entry). text_of e.key tags)

      by_value : (o : Option KeptValue) → kept_by numbered.1 tags ≡ o → option_map with_value o ≡ Some m
          → HasItsText m.kept
      by_value None same h = absurd (cc h)
      by_value (Some v) same h = subst (λ (m : Match). HasItsText m.kept) (same_Some (with_value v) m h)
          (ap (λ o. of_text (value_told v) (text_found o)) there ∙ kept-is numbered.1 tags v same)

  pub choice-texts : (c : Choice) → choice entries tags ≡ Some c → AllByRecursion HasItsText c.tags
  unfolding choice matches
  choice-texts c e =
      by_matches (filter_map (match_of tags) (enumerate_from 0 entries))
      (all-filter_map (λ (p : ℕ × Entry). (slice_get entries p.0 ≡ Some p.1) × Unit {0})
      (λ (m : Match). HasItsText m.kept) (match_of tags) (enumerate_from 0 entries)
      (all-numbered (λ e. Unit {0}) entries 0 entries (any-all entries) (λ i. ap (slice_get entries) (omega arith)))
      (λ p m there h. match-text p m there.0 h)) e
    where
      by_matches : (found : List Match) → AllByRecursion (λ (m : Match). HasItsText m.kept) found
          → choice_of (layer_of tags) found ≡ Some c → AllByRecursion HasItsText c.tags
      by_matches [] good h = absurd (cc h)
      by_matches (first ∷ more) good h = subst (λ (c : Choice). AllByRecursion HasItsText c.tags) (same_Some _ c h)
          (all-take HasItsText 15 (map (λ (m : Match). m.kept) (first ∷ more))
          (all-map HasItsText (λ (m : Match). m.kept) (first ∷ more) good))
