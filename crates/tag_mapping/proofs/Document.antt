-- Documents and the lists that they have.
use Rattle.std.proofs.Common.{◌≡◌, ℕ, List, [], ◌∷◌, refl, true, false, Bool, Some, None, Err, codes, string_bytes}
use Rattle.std.proofs.Common.{String, Global, inl, inr, ◌⊎◌}
use Rattle.std.specs.List.{list_all}
use Rattle.std.specs.Map.{keys_of}
use Rattle.std.specs.Str.{IsUtf8, is_utf8}
use Rattle.std.proofs.lemmas.Bool.{cases_Bool}
use Rattle.std.proofs.lemmas.Str.{IsUtf8-from_is_utf8, is_utf8-from_IsUtf8}
use Rattle.toml.specs.Data.{Data, Members, get_member}
use Rattle.toml.specs.Parse.{parse_document}
use Rattle.toml.specs.View.{members_view}
use Rattle.toml.specs.declared.value.Value.{Value}
use Rattle.mf_base.specs.declared.kind.List as which
use Rattle.mf_base.specs.Texts.{Text, is_among}
use Rattle.feature_model.specs.declared.fault.MappingFault.{MappingFault}
use Rattle.feature_model.specs.Entries.{mapping_told}
use Rattle.tag_mapping.specs.File.{tables_in, told_items, lists_of, mapping_in, mapping_of}
use Rattle.tag_mapping.proofs.Tables.{all-keys}

-- the names of the lists
abbrev pub list_names : List Text
list_names = codes "poi" ∷ codes "way" ∷ []

-- whether a document has no other keys, as code sees it
abbrev pub only_lists : List (String Global × Value) → Bool
only_lists es = list_all (λ name. is_among list_names (string_bytes name)) (keys_of es)

pub lists-wrong : (es : List (String Global × Value)) → false ≡ only_lists es → None ≡ lists_of (members_view es)
unfolding lists_of
lists-wrong es wrong = rw (← all-keys (is_among list_names) es, ← wrong) refl

pub lists-poi : (es : List (String Global × Value)) → true ≡ only_lists es
    → None ≡ tables_in (get_member (codes "poi") (members_view es)) → None ≡ lists_of (members_view es)
unfolding lists_of
lists-poi es right none = rw (← all-keys (is_among list_names) es, ← right, ← none) refl

pub lists-way : (es : List (String Global × Value)) (poi : List Data) → true ≡ only_lists es
    → Some poi ≡ tables_in (get_member (codes "poi") (members_view es))
    → None ≡ tables_in (get_member (codes "way") (members_view es)) → None ≡ lists_of (members_view es)
unfolding lists_of
lists-way es poi right is none = rw (← all-keys (is_among list_names) es, ← right, ← is, ← none) refl

pub lists-both : (es : List (String Global × Value)) (poi way : List Data) → true ≡ only_lists es
    → Some poi ≡ tables_in (get_member (codes "poi") (members_view es))
    → Some way ≡ tables_in (get_member (codes "way") (members_view es)) → Some (poi, way) ≡ lists_of (members_view es)
unfolding lists_of
lists-both es poi way right is also = rw (← all-keys (is_among list_names) es, ← right, ← is, ← also) refl

pub in-lists : (top : Members) (poi way : List Data) → Some (poi, way) ≡ lists_of top
    → mapping_in top ≡ mapping_told (told_items which.List.Poi poi) (told_items which.List.Way way)
unfolding mapping_in
in-lists top poi way is = rw (← is) refl

pub in-none : (top : Members) → None ≡ lists_of top → mapping_in top ≡ Err MappingFault.Shape
unfolding mapping_in
in-none top is = rw (← is) refl

pub of-document : (bytes : List ℕ) (top : Members) → IsUtf8 bytes → parse_document bytes ≡ Some top
    → mapping_of bytes ≡ mapping_in top
unfolding mapping_of
of-document bytes top text is = rw (is_utf8-from_IsUtf8 bytes text, is) refl

pub of-none : (bytes : List ℕ) → (IsUtf8 bytes → parse_document bytes ≡ None) → mapping_of bytes ≡ Err MappingFault.Toml
unfolding mapping_of
of-none bytes none = by_test (cases_Bool (is_utf8 bytes))
  where
    by_test : (is_utf8 bytes ≡ true) ⊎ (is_utf8 bytes ≡ false) → mapping_of bytes ≡ Err MappingFault.Toml
    by_test (inl text) = rw (text, none (IsUtf8-from_is_utf8 bytes text)) refl
    by_test (inr other) = rw other refl
