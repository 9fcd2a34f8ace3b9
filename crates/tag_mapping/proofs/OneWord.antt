-- The mapping of one word.
use Rattle.std.proofs.Common.{◌≡◌, ◌⊎◌, ℕ, ◌≤◌, [], ◌∷◌, arith, refl, sym, ap, ◌∙◌, inl, inr, true, false, ◌&&◌, not}
use Rattle.std.proofs.Common.{Option, Some, None, option_map, Ok, Err}
use Rattle.std.specs.Prelude.{nat_le, option_and_then, is_ok}
use Rattle.std.proofs.lemmas.Bool.{cases_Bool, and_right, and_parts, le-leb, leb-true}
use Rattle.std.proofs.lemmas.Option.{none-some, cond_some}
use Rattle.mf_base.specs.Ranges.{within_numbers}
use Rattle.mf_base.specs.Numbers.{digits_up_to, number_in, zoom_number}
use Rattle.mf_base.specs.declared.kind.List as which
use Rattle.mf_base.specs.Texts.{Text, has_byte, cut, cut_last}
use Rattle.mf_base.specs.Words.{equals}
use Rattle.feature_model.specs.declared.fault.MappingFault.{MappingFault}
use Rattle.feature_model.specs.Mapping.{Entry}
use Rattle.feature_model.specs.Entries.{is_short, keeps_entry_rule, keeps_kind_rule, entry_behind, entries_behind}
use Rattle.feature_model.specs.Entries.{mapping_told, told_poi, spelled_entry, at_sign, one_poi, IsTold, IsMapping}
use Rattle.feature_model.proofs.EntryLaws.{mapping_told-ok}
use Rattle.tag_mapping.specs.Shown.{of_a_zoom}
use Rattle.tag_mapping.proofs.Adding.{behind-none, behind-entry, behind-kind, behind-ok}

far_zoom : (e : Entry) → nat_le e.zoom 21 ≡ false → keeps_entry_rule which.List.Poi e ≡ false
unfolding keeps_entry_rule
far_zoom e far = rw (far, and_right (is_short e.key && not (has_byte equals e.key) && is_short e.value) false refl) refl

-- a word whose zoom level is none tells no entry that a mapping may have
pub of-a-zoom : (told : Option Entry)
    → entry_behind which.List.Poi [] (option_and_then of_a_zoom told) ≡ entry_behind which.List.Poi [] told
unfolding entry_behind
of-a-zoom None = refl
of-a-zoom (Some e) = by_zoom (cases_Bool (nat_le e.zoom 21))
  where
    by_zoom : (nat_le e.zoom 21 ≡ true) ⊎ (nat_le e.zoom 21 ≡ false)
        → entry_behind which.List.Poi [] (option_and_then of_a_zoom (Some e)) ≡ entry_behind which.List.Poi [] (Some e)
    by_zoom (inl near) = rw near refl
    by_zoom (inr far) = rw (far, far_zoom e far) refl

alone-ok : (told : Option Entry) (e : Entry) → entry_behind which.List.Poi [] told ≡ Ok e
    → mapping_told (told ∷ []) [] ≡ Ok (record { poi = e ∷ []; way = [] })
unfolding mapping_told entries_behind
alone-ok told e is = rw is refl

alone-fault : (told : Option Entry) (fault : MappingFault) → entry_behind which.List.Poi [] told ≡ Err fault
    → mapping_told (told ∷ []) [] ≡ Err fault
unfolding mapping_told entries_behind
alone-fault told fault is = rw is refl

pub word-ok : (word : Text) (e : Entry)
    → entry_behind which.List.Poi [] (option_and_then of_a_zoom (told_poi word)) ≡ Ok e
    → one_poi word ≡ Ok (record { poi = e ∷ []; way = [] })
word-ok word e is = alone-ok (told_poi word) e (sym (of-a-zoom (told_poi word)) ∙ is)

pub word-fault : (word : Text) (fault : MappingFault)
    → entry_behind which.List.Poi [] (option_and_then of_a_zoom (told_poi word)) ≡ Err fault → one_poi word ≡ Err fault
word-fault word fault is = alone-fault (told_poi word) fault (sym (of-a-zoom (told_poi word)) ∙ is)

-- what is accepted is a mapping
pub word-is : (told : Option Entry) (e : Entry) → entry_behind which.List.Poi [] told ≡ Ok e → IsTold told
    → IsMapping (record { poi = e ∷ []; way = [] })
word-is told e is text =
    (mapping_told-ok (told ∷ []) [] (record { poi = e ∷ []; way = [] }) (text, tt) tt (alone-ok told e is)).0

-- whether a word is read
pub is-poi : (word : Text) (e : Entry) → Some e ≡ option_and_then of_a_zoom (told_poi word)
    → is_ok (one_poi word) ≡ (keeps_entry_rule which.List.Poi e && keeps_kind_rule e)
is-poi word e is = by_rules (cases_Bool (keeps_entry_rule which.List.Poi e)) (cases_Bool (keeps_kind_rule e))
  where
    by_rules : (keeps_entry_rule which.List.Poi e ≡ true) ⊎ (keeps_entry_rule which.List.Poi e ≡ false)
        → (keeps_kind_rule e ≡ true) ⊎ (keeps_kind_rule e ≡ false)
        → is_ok (one_poi word) ≡ (keeps_entry_rule which.List.Poi e && keeps_kind_rule e)
    by_rules (inr rule) kinds =
        rw (
          word-fault word (MappingFault.Entry which.List.Poi 0) (ap (entry_behind which.List.Poi []) (sym is)
              ∙ behind-entry which.List.Poi [] e rule),
          rule,
        ) refl
    by_rules (inl rule) (inr kind) =
        rw (
          word-fault word (MappingFault.Kind which.List.Poi 0) (ap (entry_behind which.List.Poi []) (sym is)
              ∙ behind-kind which.List.Poi [] e rule kind),
          rule,
          kind,
        ) refl
    by_rules (inl rule) (inl kind) =
        rw (
          word-ok word e (ap (entry_behind which.List.Poi []) (sym is)
              ∙ behind-ok which.List.Poi [] e rule kind refl),
          rule,
          kind,
        ) refl

pub no-poi : (word : Text) → None ≡ option_and_then of_a_zoom (told_poi word) → false ≡ is_ok (one_poi word)
no-poi word is =
    rw (word-fault word (MappingFault.Entry which.List.Poi 0) (ap (entry_behind which.List.Poi []) (sym is)
    ∙ behind-none which.List.Poi [])) refl

-- ---- the parts of a word

abbrev pub read_word : Text → Option Entry
read_word word = option_and_then of_a_zoom (told_poi word)

pub no-equals : (word : Text) → None ≡ cut equals word → None ≡ read_word word
unfolding told_poi
no-equals word none = rw (← none) refl

pub no-at : (word key behind : Text) → Some (key, behind) ≡ cut equals word → None ≡ cut_last at_sign behind
    → None ≡ read_word word
unfolding told_poi
no-at word key behind is none = rw (← is, ← none) refl

-- an entry of a key, a value and a zoom level
abbrev pub entry-of : Text → Text → ℕ → Entry
entry-of key value zoom = record { key = key; value = value; zoom = zoom; water = false; label = false }

zoomed : (key value digits : Text)
    → option_map (entry-of key value) (zoom_number digits) ≡ option_and_then of_a_zoom (spelled_entry key value digits)
unfolding number_in
zoomed key value digits = by_number (digits_up_to 20 digits)
  where
    by_zoom : (n : ℕ) → (nat_le n 21 ≡ true) ⊎ (nat_le n 21 ≡ false)
        → option_map (entry-of key value) (within_numbers 0 21 n) ≡ of_a_zoom (entry-of key value n)
    by_zoom n (inl near) = rw (le-leb 0 n (omega arith), near) refl
    by_zoom n (inr far) = rw (le-leb 0 n (omega arith), far) refl

    by_number : (o : Option ℕ)
        → option_map (entry-of key value) (option_and_then (within_numbers 0 21) o)
        ≡ option_and_then of_a_zoom (option_map (entry-of key value) o)
    by_number None = refl
    by_number (Some n) = by_zoom n (cases_Bool (nat_le n 21))

word-parts : (word key behind value digits : Text) → Some (key, behind) ≡ cut equals word
    → Some (value, digits) ≡ cut_last at_sign behind
    → option_map (entry-of key value) (zoom_number digits) ≡ read_word word
unfolding told_poi
word-parts word key behind value digits is also = rw (← is, ← also) (zoomed key value digits)

pub no-zoom : (word key behind value digits : Text) → Some (key, behind) ≡ cut equals word
    → Some (value, digits) ≡ cut_last at_sign behind → None ≡ zoom_number digits → None ≡ read_word word
no-zoom word key behind value digits is also none = ap (option_map (entry-of key value)) none
    ∙ word-parts word key behind value digits is also

pub a-zoom : (word key behind value digits : Text) (zoom : ℕ) → Some (key, behind) ≡ cut equals word
    → Some (value, digits) ≡ cut_last at_sign behind → Some zoom ≡ zoom_number digits
    → Some (entry-of key value zoom) ≡ read_word word
a-zoom word key behind value digits zoom is also told = ap (option_map (entry-of key value)) told
    ∙ word-parts word key behind value digits is also

pub zoom-most : (digits : Text) (n : ℕ) → Some n ≡ zoom_number digits → n ≤ 21
unfolding number_in
zoom-most digits n e = by_number (digits_up_to 20 digits) (sym e)
  where
    by_number : (o : Option ℕ) → option_and_then (within_numbers 0 21) o ≡ Some n → n ≤ 21
    by_number None e = absurd (none-some n e)
    by_number (Some m) e =
        let kept = cond_some (nat_le 0 m && nat_le m 21) m n e in
        let bound = leb-true m 21 (and_parts (nat_le 0 m) (nat_le m 21) kept.0).1 in
        omega (arith, bound, kept.1)
