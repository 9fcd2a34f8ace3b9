-- The index of an entry is found by its text.
use Rattle.std.proofs.Common.{◌≡◌, ◌⊎◌, ◌<◌, ◌≤◌, ℕ, zero, suc, ◌+◌, List, [], ◌∷◌, map, length, Bool, true, false}
use Rattle.std.proofs.Common.{Some, Vec, Global, refl, sym, ap, ◌∙◌, inl, inr, arith, true≢false}
use Rattle.std.specs.Prelude.{bytes_eq, slice_get, position}
use Rattle.std.specs.List.{AllByRecursion, IsDistinct, position_or_len}
use Rattle.std.proofs.lemmas.Option.{same_Some, none-some, slice_get_within}
use Rattle.std.proofs.lemmas.Bool.{cases_Bool, lt-ltb}
use Rattle.std.proofs.lemmas.List.{length-map}
use Rattle.std.proofs.lemmas.Map.Keys.{IsDistinct-head, IsDistinct-tail}
use lib.Pointwise.{bytes_decides}
use Rattle.mf_base.specs.Texts.{Text}
use Rattle.feature_model.specs.Mapping.{Entry}
use Rattle.map_model.specs.TagLists.{entry_text}
use Rattle.tag_mapping.specs.declared.entries.Traits.{Traits}
use Rattle.tag_mapping.specs.Kept.{entry_kept, IsKeptEntry}

-- the texts of kept entries
abbrev pub texts_of : List (Vec ℕ Global × Traits) → List (Vec ℕ Global)
texts_of kept = map (λ (k : Vec ℕ Global × Traits). k.0) kept

abbrev same : Vec ℕ Global → Vec ℕ Global → Bool
same a b = bytes_eq a.items b.items

one-more : (n : ℕ) → 1 + n ≡ suc n
one-more n = omega arith

-- the text at an index, where all before differ
at-index : (kept : List (Vec ℕ Global × Traits)) (text : Text) (index : ℕ) (e : Entry)
    → AllByRecursion IsKeptEntry kept → IsDistinct same (texts_of kept)
    → slice_get (map entry_kept kept) index ≡ Some e → text ≡ entry_text e
    → position_or_len (λ (k : Vec ℕ Global). bytes_eq text k.items) (texts_of kept) ≡ index
at-index [] text index e all apart here is = absurd (none-some e here)
at-index (k ∷ kept) text zero e all apart here is =
    let one : entry_kept k ≡ e = same_Some (entry_kept k) e here in
    let whole : text ≡ k.0.items = is ∙ (ap entry_text (sym one) ∙ sym all.0.text) in
    rw ((bytes_decides text k.0.items).1 whole) refl
at-index (k ∷ kept) text (suc index) e all apart here is =
    by_test (cases_Bool (bytes_eq text k.0.items))
    (at-index kept text index e all.1 (IsDistinct-tail same k.0 (texts_of kept) apart) here is)
  where
    -- an equal text further on
    further : (rest : List (Vec ℕ Global × Traits)) (i : ℕ) → AllByRecursion IsKeptEntry rest
        → AllByRecursion (λ (y : Vec ℕ Global). same k.0 y ≡ false) (texts_of rest)
        → slice_get (map entry_kept rest) i ≡ Some e → bytes_eq k.0.items (entry_text e) ≡ false
    further [] i all apart here = absurd (none-some e here)
    further (r ∷ rest) zero all apart here =
        let one : entry_kept r ≡ e = same_Some (entry_kept r) e here in
        ap (bytes_eq k.0.items) (ap entry_text (sym one) ∙ sym all.0.text) ∙ apart.0
    further (r ∷ rest) (suc i) all apart here = further rest i all.1 apart.1 here

    by_test : (bytes_eq text k.0.items ≡ true) ⊎ (bytes_eq text k.0.items ≡ false)
        → position_or_len (λ (k : Vec ℕ Global). bytes_eq text k.items) (texts_of kept) ≡ index
        → position_or_len (λ (k : Vec ℕ Global). bytes_eq text k.items) (texts_of (k ∷ kept)) ≡ suc index
    by_test (inr other) later = rw other (one-more (position_or_len (λ (k : Vec ℕ Global). bytes_eq text k.items)
        (texts_of kept)) ∙ ap suc later)
    by_test (inl equal) later =
        let whole : k.0.items ≡ entry_text e = sym ((bytes_decides text k.0.items).0 equal) ∙ is in
        let no = further kept index all.1 (IsDistinct-head same k.0 (texts_of kept) apart) here in
        absurd (true≢false (sym ((bytes_decides k.0.items (entry_text e)).1 whole) ∙ no))

-- the place of the text is the index
pub text-index : (kept : List (Vec ℕ Global × Traits)) (now : List Entry) (text : Text) (index : ℕ) (e : Entry)
    → AllByRecursion IsKeptEntry kept → map entry_kept kept ≡ now → IsDistinct same (texts_of kept)
    → slice_get now index ≡ Some e → text ≡ entry_text e
    → position (λ (k : Vec ℕ Global). bytes_eq text k.items) (texts_of kept) ≡ Some index
text-index kept now text index e all shown apart here is =
    let here_kept : slice_get (map entry_kept kept) index ≡ Some e =
    ap (λ (es : List Entry). slice_get es index) shown ∙ here in
    let place = at-index kept text index e all apart here_kept is in
    let within : index < length (texts_of kept) =
    omega (
      arith,
      slice_get_within (map entry_kept kept) index e here_kept,
      length-map kept entry_kept,
      length-map kept (λ (k : Vec ℕ Global × Traits). k.0),
    ) in
    rw (place, lt-ltb index (length (texts_of kept)) within) refl

-- the text of an entry is short
pub text-short : (kept : List (Vec ℕ Global × Traits)) (now : List Entry) (index : ℕ) (e : Entry)
    → AllByRecursion IsKeptEntry kept → map entry_kept kept ≡ now → slice_get now index ≡ Some e
    → length (entry_text e) ≤ 511
text-short kept now index e all shown here =
    short-at kept index all (ap (λ (es : List Entry). slice_get es index) shown ∙ here)
  where
    short-at : (kept : List (Vec ℕ Global × Traits)) (index : ℕ) → AllByRecursion IsKeptEntry kept
        → slice_get (map entry_kept kept) index ≡ Some e → length (entry_text e) ≤ 511
    short-at [] index all here = absurd (none-some e here)
    short-at (k ∷ kept) zero all here =
        let whole : k.0.items ≡ entry_text e = all.0.text ∙ ap entry_text (same_Some (entry_kept k) e here) in
        omega (arith, all.0.short, ap length whole)
    short-at (k ∷ kept) (suc index) all here = short-at kept index all.1 here
