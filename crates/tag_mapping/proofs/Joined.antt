-- Entries and their texts `KEY=VALUE`.
use Rattle.std.proofs.Common.{◌≡◌, ◌⊎◌, ℕ, zero, suc, ◌+◌, ◌≤◌, List, [], ◌∷◌, ◌++◌, map, length, take, drop, refl, sym}
use Rattle.std.proofs.Common.{ap, ◌∙◌, subst, inl, inr, true, false, Bool, Some, Vec, Global, arith, true≢false}
use Rattle.std.proofs.Common.{length-append}
use Rattle.std.specs.Prelude.{bytes_eq, is_some, slice_get}
use Rattle.std.specs.List.{AllByRecursion}
use Rattle.std.specs.Map.{lookup}
use Rattle.indexmap.specs.IndexMap.{insert_entry}
use Rattle.std.proofs.Math.Seq.{take-append_seam, drop-append-add}
use Rattle.std.proofs.lemmas.Bool.{cases_Bool, and_parts, and_from}
use Rattle.std.proofs.lemmas.Option.{same_Some, none-some}
use lib.Pointwise.{bytes_decides}
use Rattle.mf_base.specs.Texts.{Text, has_byte, cut}
use Rattle.mf_base.specs.Words.{equals}
use Rattle.mf_base.proofs.WordLaws.{cut-at}
use Rattle.feature_model.specs.Mapping.{Entry}
use Rattle.feature_model.specs.Entries.{is_same_tag, is_there}
use Rattle.map_model.specs.TagLists.{entry_text}
use Rattle.tag_mapping.specs.declared.entries.Traits.{Traits}
use Rattle.tag_mapping.specs.Kept.{entry_kept, IsKeptEntry}

-- two texts that are equal have the same key and value
pub parts-same : (k v l w : Text) → has_byte equals k ≡ false → has_byte equals l ≡ false
    → k ++ equals ∷ v ≡ l ++ equals ∷ w → (k ≡ l) × (v ≡ w)
parts-same k v l w left right same =
    let both = same_Some (k, v) (l, w) (sym (cut-at equals k v left)
    ∙ (ap (cut equals) same ∙ cut-at equals l w right)) in
    (ap (λ (p : Text × Text). p.0) both, ap (λ (p : Text × Text). p.1) both)

-- the test of the texts is that of the tags
pub same-text : (kept : Vec ℕ Global × Traits) (e : Entry) → IsKeptEntry kept → has_byte equals e.key ≡ false
    → bytes_eq (entry_text e) kept.0.items ≡ is_same_tag (entry_kept kept) e
same-text kept e is plain = by_test (cases_Bool (bytes_eq (entry_text e) kept.0.items))
  where
    f : Entry
    f = entry_kept kept

    apart : bytes_eq (entry_text e) kept.0.items ≡ false → (is_same_tag f e ≡ true) ⊎ (is_same_tag f e ≡ false)
        → is_same_tag f e ≡ false
    apart other (inr differs) = differs
    apart other (inl holds) =
        let parts = and_parts (bytes_eq f.key e.key) (bytes_eq f.value e.value) holds in
        let key : f.key ≡ e.key = (bytes_decides f.key e.key).0 parts.0 in
        let value : f.value ≡ e.value = (bytes_decides f.value e.value).0 parts.1 in
        let whole : entry_text e ≡ kept.0.items = rw (← key, ← value) (sym is.text) in
        absurd (true≢false (sym ((bytes_decides (entry_text e) kept.0.items).1 whole) ∙ other))

    by_test : (bytes_eq (entry_text e) kept.0.items ≡ true) ⊎ (bytes_eq (entry_text e) kept.0.items ≡ false)
        → bytes_eq (entry_text e) kept.0.items ≡ is_same_tag f e
    by_test (inl same) =
        let whole : entry_text f ≡ entry_text e = sym is.text
        ∙ sym ((bytes_decides (entry_text e) kept.0.items).0 same) in
        let parts = parts-same f.key f.value e.key e.value is.plain plain whole in
        same ∙ sym (and_from (bytes_eq f.key e.key) (bytes_eq f.value e.value) ((bytes_decides f.key e.key).1 parts.0)
        ((bytes_decides f.value e.value).1 parts.1))
    by_test (inr other) = other ∙ sym (apart other (cases_Bool (is_same_tag f e)))

-- looking for a text is looking for the tag
pub there : (kept : List (Vec ℕ Global × Traits)) (e : Entry) → AllByRecursion IsKeptEntry kept
    → has_byte equals e.key ≡ false
    → is_some (lookup (λ (k : Vec ℕ Global). bytes_eq (entry_text e) k.items) kept) ≡ is_there (map entry_kept kept) e
there [] e all plain = refl
there (k ∷ kept) e all plain =
    by_test (bytes_eq (entry_text e) k.0.items) (same-text k e all.0 plain) refl (there kept e all.1 plain)
  where
    by_test : (b : Bool) → bytes_eq (entry_text e) k.0.items ≡ is_same_tag (entry_kept k) e
        → bytes_eq (entry_text e) k.0.items ≡ b
        → is_some (lookup (λ (k : Vec ℕ Global). bytes_eq (entry_text e) k.items) kept)
        ≡ is_there (map entry_kept kept) e
        → is_some (lookup (λ (k : Vec ℕ Global). bytes_eq (entry_text e) k.items) (k ∷ kept))
        ≡ is_there (map entry_kept (k ∷ kept)) e
    by_test true same is later = rw (← same, is) refl
    by_test false same is later = rw (← same, is) later

-- ---- an entry that was told is kept

front : (key value : Text) → take (length key) (key ++ equals ∷ value) ≡ key
front key value = take-append_seam key (equals ∷ value)

back : (key value : Text) → drop (length key + 1) (key ++ equals ∷ value) ≡ value
back key value = drop-append-add key (equals ∷ value) 1

-- the text and the traits of an entry
abbrev pub kept-of : Vec ℕ Global → Entry → Vec ℕ Global × Traits
kept-of text e = (text, record { key_size = length e.key; zoom = e.zoom; water = e.water; label = e.label })

pub kept-entry : (text : Vec ℕ Global) (e : Entry) → text.items ≡ entry_text e → entry_kept (kept-of text e) ≡ e
kept-entry text e whole = rw (whole, front e.key e.value, back e.key e.value) refl

pub kept-is : (text : Vec ℕ Global) (e : Entry) → text.items ≡ entry_text e → has_byte equals e.key ≡ false
    → length e.key ≤ 255 → length e.value ≤ 255 → IsKeptEntry (kept-of text e)
kept-is text e whole plain short_key short_value =
    let size : length text.items ≡ length e.key + suc (length e.value) = ap length whole
    ∙ length-append e.key (equals ∷ e.value) in
    record {
      text = whole ∙ ap entry_text (sym (kept-entry text e whole));
      plain = subst (λ (x : Entry). has_byte equals x.key ≡ false) (sym (kept-entry text e whole)) plain;
      within = omega (arith, size);
      short = omega (arith, size, short_key, short_value);
    }

all-more : (kept : List (Vec ℕ Global × Traits)) (one : Vec ℕ Global × Traits) → AllByRecursion IsKeptEntry kept
    → IsKeptEntry one → AllByRecursion IsKeptEntry (kept ++ one ∷ [])
all-more [] one all is = (is, tt)
all-more (k ∷ kept) one all is = (all.0, all-more kept one all.1 is)

map-more : (kept : List (Vec ℕ Global × Traits)) (one : Vec ℕ Global × Traits)
    → map entry_kept (kept ++ one ∷ []) ≡ map entry_kept kept ++ entry_kept one ∷ []
map-more [] one = refl
map-more (k ∷ kept) one = ap (λ (es : List Entry). entry_kept k ∷ es) (map-more kept one)

pub kept-more : (kept : List (Vec ℕ Global × Traits)) (text : Vec ℕ Global) (e : Entry)
    → AllByRecursion IsKeptEntry kept → text.items ≡ entry_text e → has_byte equals e.key ≡ false → length e.key ≤ 255
    → length e.value ≤ 255
    → AllByRecursion IsKeptEntry (kept ++ kept-of text e ∷ [])
    × (map entry_kept (kept ++ kept-of text e ∷ []) ≡ map entry_kept kept ++ e ∷ [])
kept-more kept text e all whole plain short_key short_value = (
  all-more kept (kept-of text e) all (kept-is text e whole plain short_key short_value),
  map-more kept (kept-of text e) ∙ ap (λ (x : Entry). map entry_kept kept ++ x ∷ []) (kept-entry text e whole),
)

-- ---- an entry at a place

pub entry-at : (kept : List (Vec ℕ Global × Traits)) (at : ℕ) (one : Vec ℕ Global × Traits)
    → Some one ≡ slice_get kept at → AllByRecursion IsKeptEntry kept
    → (Some (entry_kept one) ≡ slice_get (map entry_kept kept) at) × IsKeptEntry one
entry-at [] at one e all = absurd (none-some one (sym e))
entry-at (k ∷ kept) zero one e all = let same : one ≡ k = same_Some one k e in
    (ap (λ (x : Vec ℕ Global × Traits). Some (entry_kept x)) same, subst IsKeptEntry (sym same) all.0)
entry-at (k ∷ kept) (suc at) one e all = entry-at kept at one e all.1

-- ---- looking for a text and putting one, as the map says it

pub there-text : (kept : List (Vec ℕ Global × Traits)) (now : List Entry) (text : Text) (e : Entry)
    → AllByRecursion IsKeptEntry kept → map entry_kept kept ≡ now → text ≡ entry_text e → has_byte equals e.key ≡ false
    → is_some (lookup (λ (k : Vec ℕ Global). bytes_eq text k.items) kept) ≡ is_there now e
there-text kept now text e all same whole plain =
    rw whole (there kept e all plain ∙ ap (λ (es : List Entry). is_there es e) same)

insert-new : (kept : List (Vec ℕ Global × Traits)) (text : Vec ℕ Global) (traits : Traits)
    → is_some (lookup (λ (k : Vec ℕ Global). bytes_eq text.items k.items) kept) ≡ false
    → insert_entry (λ (a b : Vec ℕ Global). bytes_eq a.items b.items) kept text traits ≡ kept ++ (text, traits) ∷ []
insert-new [] text traits none = refl
insert-new (k ∷ kept) text traits none =
    by_test (cases_Bool (bytes_eq text.items k.0.items)) (insert-new kept text traits)
  where
    by_test : (bytes_eq text.items k.0.items ≡ true) ⊎ (bytes_eq text.items k.0.items ≡ false)
        → (is_some (lookup (λ (k : Vec ℕ Global). bytes_eq text.items k.items) kept) ≡ false
        → insert_entry (λ (a b : Vec ℕ Global). bytes_eq a.items b.items) kept text traits ≡ kept ++ (text, traits)
        ∷ [])
        → insert_entry (λ (a b : Vec ℕ Global). bytes_eq a.items b.items) (k ∷ kept) text traits ≡ k
        ∷ (kept ++ (text, traits) ∷ [])
    by_test (inl same) later = absurd (true≢false (rw same at none))
    by_test (inr other) later = rw other (ap (λ (ks : List (Vec ℕ Global × Traits)). k ∷ ks) (later (rw other at none)))

-- the entries after a new one was put
pub put-new : (kept after : List (Vec ℕ Global × Traits)) (now : List Entry) (text : Vec ℕ Global) (e : Entry)
    → AllByRecursion IsKeptEntry kept → map entry_kept kept ≡ now
    → after ≡ insert_entry (λ (a b : Vec ℕ Global). bytes_eq a.items b.items) kept text (kept-of text e).1
    → text.items ≡ entry_text e → has_byte equals e.key ≡ false
    → length e.key ≤ 255 → length e.value ≤ 255 → is_there now e ≡ false
    → AllByRecursion IsKeptEntry after × (map entry_kept after ≡ now ++ e ∷ [])
put-new kept after now text e all same is whole plain short_key short_value new =
    let none : is_some (lookup (λ (k : Vec ℕ Global). bytes_eq text.items k.items) kept) ≡ false =
    there-text kept now text.items e all same whole plain ∙ new in
    let ended : after ≡ kept ++ kept-of text e ∷ [] = is ∙ insert-new kept text (kept-of text e).1 none in
    let more = kept-more kept text e all whole plain short_key short_value in (
      subst (AllByRecursion IsKeptEntry) (sym ended) more.0,
      ap (map entry_kept) ended
          ∙ (more.1 ∙ ap (λ (es : List Entry). es ++ e ∷ []) same),
    )
