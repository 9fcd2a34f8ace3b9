-- Texts of spans that are put one behind another.
use Rattle.std.proofs.Common.{◌≡◌, ◌≤◌, ◌<◌, ◌+◌, ℕ, List, [], ◌∷◌, ◌++◌, length, take, drop, Some, None}
use Rattle.std.proofs.Common.{refl, sym, ap, ◌∙◌, arith, false, ◌⊎◌, inl, inr}
use Rattle.std.specs.Prelude.{option_and_then, slice_range, nat_le}
use Rattle.std.specs.List.{AllByRecursion}
use Rattle.std.proofs.lemmas.Bool.{le-leb, lt-leb, and_right}
use Rattle.std.proofs.lemmas.List.{append-nil, map-append, length-take, length-drop}
use Rattle.mf_base.specs.Texts.{Text}
use Rattle.mf_base.specs.Tags.{Tags, value_of, present_text, text_of}
use Rattle.mf_rows.specs.Records.{texts_told}
use Rattle.mf_rows.specs.declared.head.TextSlot.{TextSlot}
use Rattle.mf_rows.specs.declared.head.TextSpan.{TextSpan}
use Rattle.mf_ingest.specs.Fronts.{slot_text}

module _ (block : List ℕ) (spans : List TextSpan) (slot : TextSlot) (key : Text) (tags : Tags) where
  abbrev WithText : List TextSpan → Type 0
  WithText now = texts_told block now ≡ texts_told block spans ++ slot_text slot (text_of key tags)

  with-none : text_of key tags ≡ None → WithText spans
  with-none none = sym (ap (λ o. texts_told block spans ++ slot_text slot o) none ∙ append-nil (texts_told block spans))

  -- no tag has the key
  pub put-none : value_of key tags ≡ None → WithText spans
  unfolding text_of
  put-none none = with-none (ap (option_and_then present_text) none)

  module _ (start len : ℕ) (found : Some (slice_range block start (start + len)) ≡ value_of key tags)
      (within : start + len ≤ length block) where
    abbrev text : Text
    text = slice_range block start (start + len)

    text-is : text ≡ take len (drop start block)
    text-is = ap (λ n. take n (drop start block)) (omega arith)

    text-long : length text ≡ len
    text-long = ap length text-is ∙ omega (arith, within, length-take len (drop start block), length-drop start block)

    text-of : text_of key tags ≡ present_text text
    unfolding text_of
    text-of = ap (option_and_then present_text) (sym found)

    -- the value is no text
    pub put-absent : (len ≡ 0) ⊎ (1020 < len) → WithText spans
    unfolding present_text
    put-absent out = with-none (text-of ∙ absent out)
      where
        absent : (len ≡ 0) ⊎ (1020 < len) → present_text text ≡ None
        absent (inl none) = rw (text-long, none) refl
        absent (inr long) = rw (text-long, lt-leb len 1020 long, and_right (nat_le 1 len) false refl) refl

    -- the value is a text
    pub put-text : 1 ≤ len → len ≤ 1020 → WithText (spans ++ record { slot = slot; start = start; len = len } ∷ [])
    unfolding present_text
    put-text some few =
        map-append _ spans _ ∙ ap (λ t. texts_told block spans ++ (slot, t) ∷ []) (sym text-is)
        ∙ sym (ap (λ o. texts_told block spans ++ slot_text slot o) (text-of ∙ present))
      where
        present : present_text text ≡ Some text
        present = rw (text-long, le-leb 1 len some, le-leb len 1020 few) refl

-- ---- each span

pub one-more : (P : TextSpan → Type 0) (spans : List TextSpan) (span : TextSpan) → AllByRecursion P spans → P span
    → AllByRecursion P (spans ++ span ∷ [])
one-more P [] span all here = (here, tt)
one-more P (s ∷ spans) span all here = (all.0, one-more P spans span all.1 here)
