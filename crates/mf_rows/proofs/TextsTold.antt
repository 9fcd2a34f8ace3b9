-- Texts, as they are found by their slots.
use Rattle.std.proofs.Common.{◌≡◌, ◌⊎◌, inl, inr, ℕ, ◌+◌, ◌≤◌, Bool, true, false, List, [], ◌∷◌, length, take, drop}
use Rattle.std.proofs.Common.{Option, Some, refl, sym, ap, ◌∙◌}
use Rattle.std.specs.Prelude.{find, option_map, unwrap_or}
use Rattle.std.specs.List.{AllByRecursion}
use Rattle.std.proofs.lemmas.Bool.{cases_Bool}
use Rattle.mf_base.specs.Texts.{Text}
use Rattle.mf_rows.specs.Records.{same_slot, text_in, texts_told, LiesIn}
use Rattle.mf_rows.specs.declared.head.TextSlot.{TextSlot}
use Rattle.mf_rows.specs.declared.head.TextSpan.{TextSpan}

module _ (block : List ℕ) (slot : TextSlot) where
  abbrev is_it : TextSpan → Bool
  is_it s = same_slot s.slot slot

  abbrev pub told : Option TextSpan → Option Text
  told found = option_map (λ (s : TextSpan). take s.len (drop s.start block)) found

  -- the text in a slot is that of the first span of the slot
  pub text_found : (spans : List TextSpan) → text_in (texts_told block spans) slot ≡ told (find is_it spans)
  text_found [] = refl
  text_found (s ∷ spans) = by_slot (cases_Bool (is_it s)) (text_found spans)
    where
      by_slot : (is_it s ≡ true) ⊎ (is_it s ≡ false) → text_in (texts_told block spans) slot ≡ told (find is_it spans)
          → text_in (texts_told block (s ∷ spans)) slot ≡ told (find is_it (s ∷ spans))
      by_slot (inl e) more = rw e refl
      by_slot (inr e) more = rw e more

  -- and lies in the block
  pub found_lies : (spans : List TextSpan) (s : TextSpan) → AllByRecursion (LiesIn (length block)) spans
      → find is_it spans ≡ Some s → s.start + s.len ≤ length block
  found_lies [] s all found = cc
  found_lies (first ∷ spans) s all found = by_slot (cases_Bool (is_it first)) (found_lies spans s all.1)
    where
      some_is : (a b : TextSpan) → Some a ≡ Some b → a ≡ b
      some_is a b e = ap (λ o. unwrap_or o a) e

      by_slot : (is_it first ≡ true) ⊎ (is_it first ≡ false)
          → (find is_it spans ≡ Some s → s.start + s.len ≤ length block) → s.start + s.len ≤ length block
      by_slot (inl e) more = let here : Some first ≡ Some s = sym (rw e refl) ∙ found in
          rw (← some_is first s here) all.0
      by_slot (inr e) more = let there : find is_it spans ≡ find is_it (first ∷ spans) = rw e refl in
          more (there ∙ found)
