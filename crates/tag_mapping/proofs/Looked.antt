-- What is chosen, when one more entry or one more tag was looked at.
use Rattle.std.proofs.Common.{◌≡◌, ◌⊎◌, ◌<◌, ◌≤◌, ℕ, ◌+◌, List, length, drop, Bool, true, false, Option, Some}
use Rattle.std.proofs.Common.{None, refl, sym, ap, ◌∙◌, inl, inr, arith, slice_set}
use Rattle.std.specs.Prelude.{option_map, slice_get, replicate, IsSome, bytes_eq}
use Rattle.std.proofs.lemmas.Bool.{cases_Bool, cases_lt}
use Rattle.std.proofs.lemmas.Option.{same_Some, none-some}
use Rattle.std.proofs.lemmas.List.{get_or_past, get_or-set_same, get_or-set_other, get_or-replicate, length-set}
use Rattle.std.proofs.lemmas.List.{length-replicate}
use lib.Pointwise.{bytes_decides}
use Rattle.mf_base.specs.Texts.{Text}
use Rattle.mf_base.specs.Tags.{Tags, value_of}
use Rattle.feature_model.specs.Mapping.{Entry, value_kind, read_by, kept_by}
use Rattle.feature_model.specs.Choice.{Match, match_of, matches, layer_of, choice_of, choice}
use Rattle.tag_mapping.specs.declared.choice.Choice.{Choice}
use Rattle.tag_mapping.specs.declared.matched.Matched.{Matched}
use Rattle.tag_mapping.specs.Choices.{ToldChoice, choice_told, choice_shown}
use Rattle.tag_mapping.specs.Choosing.{match_told, grown, is_known, known_matches, IsChosen}
use Rattle.tag_mapping.proofs.Growing.{grown-one}
use Rattle.tag_mapping.proofs.Knowing.{matches_from, known_from, IsOneMore, with_found, known-more, known-none}
use Rattle.tag_mapping.proofs.Knowing.{known-all}
use Rattle.tag_mapping.proofs.Looking.{value-here, value-later, value-none}

-- ---- one entry

one-more : (known : List Bool) (index : ℕ) → length known ≡ 4096 → index < 4096 → is_known known index ≡ false
    → IsOneMore known (slice_set known index true) index
one-more known index size within before = record {
  before = before;
  now = get_or-set_same known index true false (omega (arith, size, within));
  others = λ i other. get_or-set_other known index i true false other;
}

all-from : (entries : List Entry) (tags : Tags) → matches entries tags ≡ matches_from tags 0 entries
unfolding matches
all-from entries tags = refl

-- what is told of the choice of the matches of entries that were looked at
abbrev chosen_of : List Entry → Tags → List Bool → Option ToldChoice
chosen_of entries tags known =
    option_map choice_told (choice_of (layer_of tags) (known_matches known (matches entries tags)))

chosen-from : (entries : List Entry) (tags : Tags) (known : List Bool)
    → chosen_of entries tags known
    ≡ option_map choice_told (choice_of (layer_of tags) (known_from known tags 0 entries))
chosen-from entries tags known =
    ap (λ (ms : List Match). option_map choice_told (choice_of (layer_of tags) (known_matches known ms)))
    (all-from entries tags)

chosen-more : (entries : List Entry) (tags : Tags) (known : List Bool) (index : ℕ) (e : Entry)
    → slice_get entries index ≡ Some e → length known ≡ 4096 → index < 4096 → is_known known index ≡ false
    → chosen_of entries tags (slice_set known index true)
    ≡ option_map choice_told (choice_of (layer_of tags)
    (with_found (match_of tags (index, e)) (known_from known tags 0 entries)))
chosen-more entries tags known index e here size within before =
    chosen-from entries tags (slice_set known index true)
    ∙ ap (λ (ms : List Match). option_map choice_told (choice_of (layer_of tags) ms))
    (known-more known (slice_set known index true) tags 0 index index entries e (omega arith) here
    (one-more known index size within before))

pub looked-found : (entries : List Entry) (tags : Tags) (known : List Bool) (choice after : Option Choice) (index : ℕ)
    (e : Entry) (found : Matched) → slice_get entries index ≡ Some e → index < 4096
    → is_known known index ≡ false → IsChosen entries tags known choice
    → Some found ≡ option_map match_told (match_of tags (index, e))
    → option_map choice_shown after ≡ Some (grown (layer_of tags) found (option_map choice_shown choice))
    → IsChosen entries tags (slice_set known index true) after
looked-found entries tags known old after index e found here within before so_far matched is = record {
  size = length-set known index true ∙ so_far.size;
  chosen = by_match (match_of tags (index, e)) refl;
}
  where
    by_match : (o : Option Match) → match_of tags (index, e) ≡ o
        → option_map choice_shown after ≡ chosen_of entries tags (slice_set known index true)
    by_match None none = absurd (none-some found (sym (matched ∙ ap (option_map match_told) none)))
    by_match (Some m) some =
        let same : found ≡ match_told m = same_Some found (match_told m) (matched ∙ ap (option_map match_told) some) in
        is ∙ (ap (λ (f : Matched). Some (grown (layer_of tags) f (option_map choice_shown old))) same
        ∙ (ap (λ (t : Option ToldChoice). Some (grown (layer_of tags) (match_told m) t))
        (so_far.chosen ∙ chosen-from entries tags known)
        ∙ (sym (grown-one (layer_of tags) m (known_from known tags 0 entries))
        ∙ (ap (λ (o : Option Match). option_map choice_told (choice_of (layer_of tags)
        (with_found o (known_from known tags 0 entries)))) (sym some)
        ∙ sym (chosen-more entries tags known index e here so_far.size within before)))))

pub looked-none : (entries : List Entry) (tags : Tags) (known : List Bool) (choice : Option Choice) (index : ℕ)
    (e : Entry) → slice_get entries index ≡ Some e → index < 4096 → is_known known index ≡ false
    → IsChosen entries tags known choice → None ≡ option_map match_told (match_of tags (index, e))
    → IsChosen entries tags (slice_set known index true) choice
looked-none entries tags known old index e here within before so_far matched = record {
  size = length-set known index true ∙ so_far.size;
  chosen = by_match (match_of tags (index, e)) refl;
}
  where
    by_match : (o : Option Match) → match_of tags (index, e) ≡ o
        → option_map choice_shown old ≡ chosen_of entries tags (slice_set known index true)
    by_match (Some m) some =
        absurd (none-some (match_told m) (matched ∙ ap (option_map match_told) some))
    by_match None none = so_far.chosen ∙ (chosen-from entries tags known
        ∙ (ap (λ (o : Option Match). option_map choice_told (choice_of (layer_of tags)
        (with_found o (known_from known tags 0 entries)))) (sym none)
        ∙ sym (chosen-more entries tags known index e here so_far.size within before)))

-- ---- one tag

-- An entry that matches was looked at, or no tag so far had its key.
abbrev pub IsAhead : List Entry → Tags → List Bool → Tags → Type 0
IsAhead entries tags known left = (index : ℕ) (e : Entry) → slice_get entries index ≡ Some e
    → IsSome (kept_by e tags) → (is_known known index ≡ true) ⊎ (value_of e.key left ≡ value_of e.key tags)

pub ahead-more : (entries : List Entry) (tags left rest : Tags) (known after : List Bool) (key value : Text)
    → IsAhead entries tags known left → Some (key, value) ≡ slice_get left 0 → rest ≡ drop 1 left
    → ((i : ℕ) → is_known known i ≡ true → is_known after i ≡ true)
    → ((i : ℕ) (e : Entry) → slice_get entries i ≡ Some e → e.key ≡ key
    → IsSome (read_by (value_kind e.value) e.value value) → is_known after i ≡ true)
    → IsAhead entries tags after rest
unfolding kept_by
ahead-more entries tags left rest known after key value ahead first is keeps found index e here matches =
    by_ahead (ahead index e here matches)
  where
    by_key : value_of e.key left ≡ value_of e.key tags → (bytes_eq key e.key ≡ true) ⊎ (bytes_eq key e.key ≡ false)
        → (is_known after index ≡ true) ⊎ (value_of e.key rest ≡ value_of e.key tags)
    by_key same (inl this) =
        let own : value_of e.key tags ≡ Some value = sym same ∙ value-here e.key key value left first this in
        inl (found index e here (sym ((bytes_decides key e.key).0 this)) (rw own at matches))
    by_key same (inr other) =
        inr (ap (value_of e.key) is ∙ (sym (value-later e.key key value left first other) ∙ same))

    by_ahead : (is_known known index ≡ true) ⊎ (value_of e.key left ≡ value_of e.key tags)
        → (is_known after index ≡ true) ⊎ (value_of e.key rest ≡ value_of e.key tags)
    by_ahead (inl done) = inl (keeps index done)
    by_ahead (inr same) = by_key same (cases_Bool (bytes_eq key e.key))

-- ---- the first and the last

known-not : (i : ℕ) → is_known (replicate 4096 false) i ≡ false
known-not i = by_test (cases_lt i 4096)
  where
    by_test : (i < 4096) ⊎ (4096 ≤ i) → is_known (replicate 4096 false) i ≡ false
    by_test (inl less) = get_or-replicate 4096 i false false less
    by_test (inr past) = get_or_past (replicate 4096 false) i false (omega (arith, past, length-replicate 4096 false))

pub chosen-none : (entries : List Entry) (tags : Tags) → IsChosen entries tags (replicate 4096 false) None
chosen-none entries tags = record {
  size = length-replicate 4096 false;
  chosen = sym (chosen-from entries tags (replicate 4096 false)
      ∙ ap (λ (ms : List Match). option_map choice_told (choice_of (layer_of tags) ms))
      (known-none (replicate 4096 false) tags 0 entries known-not));
}

pub chosen-all : (entries : List Entry) (tags left : Tags) (known : List Bool) (found : Option Choice)
    → IsChosen entries tags known found → IsAhead entries tags known left → None ≡ slice_get left 0
    → option_map choice_shown found ≡ option_map choice_told (choice entries tags)
unfolding choice kept_by
chosen-all entries tags left known found so_far ahead end =
    so_far.chosen ∙ (chosen-from entries tags known
    ∙ (ap (λ (ms : List Match). option_map choice_told (choice_of (layer_of tags) ms))
    (known-all known tags 0 entries each)
    ∙ ap (λ (ms : List Match). option_map choice_told (choice_of (layer_of tags) ms)) (sym (all-from entries tags))))
  where
    each : (at : ℕ) (e : Entry) → slice_get entries at ≡ Some e → IsSome (kept_by e tags)
        → is_known known (0 + at) ≡ true
    each at e here matches = by_ahead (ahead at e here matches)
      where
        by_ahead : (is_known known at ≡ true) ⊎ (value_of e.key left ≡ value_of e.key tags)
            → is_known known (0 + at) ≡ true
        by_ahead (inl done) = ap (is_known known) (omega arith) ∙ done
        by_ahead (inr same) =
            let none : value_of e.key tags ≡ None = sym same ∙ value-none e.key left end in
            absurd (cc (rw none at matches))
