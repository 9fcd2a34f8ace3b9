-- What tags choose is proper.
use Rattle.std.proofs.Common.{◌≡◌, ◌⊎◌, ℕ, zero, suc, ◌+◌, ◌<◌, ◌≤◌, min, List, [], ◌∷◌, map, length, take, Bool, true}
use Rattle.std.proofs.Common.{false, ◌&&◌, Option, Some, None, ℤ, pos, negsuc, refl, sym, ap, subst, inl, inr, arith}
use Rattle.std.specs.Prelude.{◌==◌, filter_map, fold, nat_le, option_map, option_and_then, unwrap_or, codes}
use Rattle.std.specs.Prelude.{if◌then◌else◌, IfSome, slice_get, IsTrue}
use Rattle.std.specs.Int.{int_min, int_max}
use Rattle.std.specs.List.{AllByRecursion, enumerate_from, cons_option}
use Rattle.std.proofs.Math.Bool.{or-true}
use Rattle.std.proofs.lemmas.Bool.{cases_Bool, cases_lt, le-leb, lt-ltb, le-ltb, leb-true, eq-eqb, and_parts}
use Rattle.std.proofs.lemmas.List.{length-take}
use Rattle.std.proofs.lemmas.Option.{same_Some, slice_get_within}
use Rattle.mf_base.specs.Texts.{Text}
use Rattle.mf_base.specs.Tags.{Tags, value_of, present_text, text_of}
use Rattle.mf_base.specs.Numbers.{whole_number}
use Rattle.mf_base.specs.Ranges.{within, lies_within}
use Rattle.feature_model.specs.Mapping.{IsOfKind, Entry, ValueKind, KeptValue, value_kind, read_by, kept_by}
use Rattle.feature_model.specs.Choice.{Kept, Match, match_of, matches, layer_of, Choice, choice_of, choice}
use Rattle.feature_model.specs.Proper.{IsPresent, IsKept, AreRising, has_zoom, IsLayer}
use Rattle.feature_model.proofs.ListLemmas.{all-filter_map, any-all, all-map, all-take, all-weaker, all-numbered}

-- Texts.

pub present_text-is : (t u : Text) → present_text t ≡ Some u → IsPresent u
unfolding present_text
present_text-is t u e = by_test (cases_Bool (nat_le 1 (length t) && nat_le (length t) 1020))
  where
    by_test : ((nat_le 1 (length t) && nat_le (length t) 1020) ≡ true)
        ⊎ ((nat_le 1 (length t) && nat_le (length t) 1020) ≡ false) → IsPresent u
    by_test (inl good) =
        let bounds = and_parts (nat_le 1 (length t)) (nat_le (length t) 1020) good in
        subst IsPresent (same_Some t u (rw good at e)) (
          leb-true 1 (length t) bounds.0,
          leb-true (length t) 1020 bounds.1,
        )
    by_test (inr bad) = absurd (cc (rw bad at e))

pub text_of-present : (key : Text) (tags : Tags) → IfSome (text_of key tags) IsPresent
unfolding text_of
text_of-present key tags = by_value (value_of key tags)
  where
    by_text : (t : Text) (o : Option Text) → present_text t ≡ o → IfSome o IsPresent
    by_text t None e = tt
    by_text t (Some u) e = present_text-is t u e

    by_value : (o : Option Text) → IfSome (option_and_then present_text o) IsPresent
    by_value None = tt
    by_value (Some t) = by_text t (present_text t) refl

-- Values of a kind.

plain_is : (b : Bool) (v : KeptValue) → (if b then Some KeptValue.plain else None) ≡ Some v
    → IsOfKind IsPresent ValueKind.plain v
plain_is true v e = subst (IsOfKind IsPresent ValueKind.plain) (same_Some KeptValue.plain v e) tt
plain_is false v e = absurd (cc e)

within-is : (low high z found : ℤ) → within low high z ≡ Some found → IsTrue (lies_within low high found)
within-is low high z found e = by_test (cases_Bool (lies_within low high z))
  where
    by_test : (lies_within low high z ≡ true) ⊎ (lies_within low high z ≡ false) → IsTrue (lies_within low high found)
    by_test (inl good) = subst (λ f. IsTrue (lies_within low high f)) (same_Some z found (rw good at e)) good
    by_test (inr bad) = absurd (cc (rw bad at e))

number_is : (kind : ValueKind) (make : ℤ → KeptValue) (low high : ℤ) (o : Option ℤ) (v : KeptValue)
    → ((z : ℤ) → IsTrue (lies_within low high z) → IsOfKind IsPresent kind (make z))
    → option_map make (option_and_then (within low high) o) ≡ Some v → IsOfKind IsPresent kind v
number_is kind make low high None v fine e = absurd (cc e)
number_is kind make low high (Some z) v fine e = by_value (within low high z) refl e
  where
    by_value : (found : Option ℤ) → within low high z ≡ found → option_map make found ≡ Some v
        → IsOfKind IsPresent kind v
    by_value None same e = absurd (cc e)
    by_value (Some f) same e =
        subst (IsOfKind IsPresent kind) (same_Some (make f) v e) (fine f (within-is low high z f same))

text_is : (t : Text) (o : Option Text) (v : KeptValue) → present_text t ≡ o → option_map KeptValue.text o ≡ Some v
    → IsOfKind IsPresent ValueKind.text v
text_is t None v same e = absurd (cc e)
text_is t (Some u) v same e =
    subst (IsOfKind IsPresent ValueKind.text) (same_Some (KeptValue.text u) v e) (present_text-is t u same)

read_by-is : (kind : ValueKind) (wanted value : Text) (v : KeptValue) → read_by kind wanted value ≡ Some v
    → IsOfKind IsPresent kind v
read_by-is ValueKind.plain wanted value v e = plain_is _ v e
read_by-is ValueKind.byte wanted value v e =
    number_is ValueKind.byte KeptValue.byte (negsuc 127) (pos 127) (whole_number value) v (λ z h. h) e
read_by-is ValueKind.short wanted value v e =
    number_is ValueKind.short KeptValue.short (negsuc 32767) (pos 32767) (whole_number value) v (λ z h. h) e
read_by-is ValueKind.int wanted value v e =
    number_is ValueKind.int KeptValue.int (negsuc 2147483647) (pos 2147483647) (whole_number value) v (λ z h. h) e
read_by-is ValueKind.text wanted value v e = text_is value (present_text value) v refl e

kept_by-is : (entry : Entry) (tags : Tags) (v : KeptValue) → kept_by entry tags ≡ Some v
    → IsOfKind IsPresent (value_kind entry.value) v
unfolding kept_by
kept_by-is entry tags v e = by_value (value_of entry.key tags) e
  where
    by_value : (o : Option Text) → option_and_then (read_by (value_kind entry.value) entry.value) o ≡ Some v
        → IsOfKind IsPresent (value_kind entry.value) v
    by_value None e = absurd (cc e)
    by_value (Some t) e = read_by-is (value_kind entry.value) entry.value t v e

-- Matches.

-- a match has the id and the entry of its number, and a value of the entry's kind
record IsMatch (tags : Tags) (numbered : ℕ × Entry) (m : Match) : Type 0 where
  id : numbered.0 ≡ m.kept.tag
  entry : numbered.1 ≡ m.entry
  value : IsOfKind IsPresent (value_kind numbered.1.value) m.kept.value

match_of-is : (tags : Tags) (numbered : ℕ × Entry) (m : Match) → match_of tags numbered ≡ Some m
    → IsMatch tags numbered m
match_of-is tags numbered m e = by_value (kept_by numbered.1 tags) refl e
  where
    with_value : KeptValue → Match
    with_value value = record { kept = record { tag = numbered.0; value = value }; entry = numbered.1 }

    by_value : (o : Option KeptValue) → kept_by numbered.1 tags ≡ o → option_map with_value o ≡ Some m
        → IsMatch tags numbered m
    by_value None same e = absurd (cc e)
    by_value (Some v) same e =
        subst (IsMatch tags numbered) (same_Some (with_value v) m e)
        (record { id = refl; entry = refl; value = kept_by-is numbered.1 tags v same })

-- what is promised of a match: it is kept, and its entry passes what all entries pass
abbrev pub IsGood : (Entry → Type 0) → List Entry → Match → Type 0
IsGood P entries m = IsKept entries m.kept × P m.entry

match_of-good : (P : Entry → Type 0) (entries : List Entry) (tags : Tags) (numbered : ℕ × Entry) (m : Match)
    → (slice_get entries numbered.0 ≡ Some numbered.1) × P numbered.1 → match_of tags numbered ≡ Some m
    → IsGood P entries m
match_of-good P entries tags numbered m there e =
    let is = match_of-is tags numbered m e in
    let low = slice_get_within entries numbered.0 numbered.1 there.0 in
    let kinds : IfSome (slice_get entries numbered.0)
    (λ (e : Entry). IsOfKind IsPresent (value_kind e.value) m.kept.value) =
    subst (λ (o : Option Entry). IfSome o (λ (e : Entry). IsOfKind IsPresent (value_kind e.value) m.kept.value))
    (sym there.0) is.value in (
      subst (λ n. (n < length entries)
          × IfSome (slice_get entries n) (λ (e : Entry). IsOfKind IsPresent (value_kind e.value) m.kept.value)) is.id
          (low, kinds),
      subst P is.entry there.1,
    )

matches-good : (P : Entry → Type 0) (entries : List Entry) (tags : Tags) → AllByRecursion P entries
    → AllByRecursion (IsGood P entries) (matches entries tags)
unfolding matches
matches-good P entries tags all =
    all-filter_map (λ (p : ℕ × Entry). (slice_get entries p.0 ≡ Some p.1) × P p.1) (IsGood P entries) (match_of tags)
    (enumerate_from 0 entries)
    (all-numbered P entries 0 entries all (λ i. ap (slice_get entries) (omega arith)))
    (λ p m there e. match_of-good P entries tags p m there e)

-- ids rise, and none is below a number
abbrev pub RisesFrom : ℕ → List Match → Type 0
RisesFrom n found = AllByRecursion (λ (m : Match). n ≤ m.kept.tag) found × AreRising (map (λ (m : Match). m.kept) found)

later-all : (n k : ℕ) (found : List Match) → k ≤ n → AllByRecursion (λ (m : Match). n ≤ m.kept.tag) found
    → AllByRecursion (λ (m : Match). k ≤ m.kept.tag) found
later-all n k [] low all = tt
later-all n k (m ∷ found) low all = (omega (arith, low, all.0), later-all n k found low all.1)

above-all : (n k : ℕ) (found : List Match) → k < n → AllByRecursion (λ (m : Match). n ≤ m.kept.tag) found
    → AllByRecursion (λ (later : Kept). k < later.tag) (map (λ (m : Match). m.kept) found)
above-all n k [] low all = tt
above-all n k (m ∷ found) low all = (omega (arith, low, all.0), above-all n k found low all.1)

rising-from : (tags : Tags) (n : ℕ) (entries : List Entry)
    → RisesFrom n (filter_map (match_of tags) (enumerate_from n entries))
rising-from tags n [] = (tt, tt)
rising-from tags n (e ∷ entries) = by_match (match_of tags (n, e)) refl (rising-from tags (n + 1) entries)
  where
    others : List Match
    others = filter_map (match_of tags) (enumerate_from (n + 1) entries)

    by_match : (o : Option Match) → match_of tags (n, e) ≡ o → RisesFrom (n + 1) others
        → RisesFrom n (cons_option (match_of tags (n, e)) others)
    by_match None same more =
        subst (λ o. RisesFrom n (cons_option o others)) (sym same) (
          later-all (n + 1) n others (omega arith) more.0,
          more.1,
        )
    by_match (Some m) same more =
        let is = match_of-is tags (n, e) m same in
        let id : n ≡ m.kept.tag = is.id in
        subst (λ o. RisesFrom n (cons_option o others)) (sym same) (
          (omega (arith, id), later-all (n + 1) n others (omega arith) more.0),
          (above-all (n + 1) m.kept.tag others (omega (arith, id)) more.0, more.1),
        )

take-rising : (n : ℕ) (kept : List Kept) → AreRising kept → AreRising (take n kept)
take-rising zero kept h = tt
take-rising (suc n) [] h = tt
take-rising (suc n) (k ∷ kept) h = (all-take (λ (later : Kept). k.tag < later.tag) n kept h.0, take-rising n kept h.1)

-- Layers and zoom levels.

clamp-is : (z : ℤ) → IsLayer (int_max (negsuc 4) (int_min (pos 5) z))
clamp-is (pos n) = by_size (cases_lt n 5)
  where
    by_size : (n < 5) ⊎ (5 ≤ n) → IsLayer (int_max (negsuc 4) (int_min (pos 5) (pos n)))
    by_size (inl low) = rw (lt-ltb n 5 low) (le-leb n 5 (omega (arith, low)))
    by_size (inr high) = rw (le-ltb n 5 high) refl
clamp-is (negsuc n) = by_size (cases_lt 4 n)
  where
    by_size : (4 < n) ⊎ (n ≤ 4) → IsLayer (int_max (negsuc 4) (int_min (pos 5) (negsuc n)))
    by_size (inl low) = rw (lt-ltb 4 n low) refl
    by_size (inr high) = rw (le-ltb 4 n high) (rw (le-leb n 4 high) refl)

layer_of-is : (tags : Tags) → IsLayer (layer_of tags)
unfolding layer_of
layer_of-is tags = clamp-is (unwrap_or (option_and_then whole_number (value_of (codes "layer") tags)) (pos 0))

min-of-both : (P : ℕ → Type 0) (a b : ℕ) → P a → P b → P (min a b)
min-of-both P a b pa pb = elim (cases_lt a b) as (λ c. P (min a b)) [
  | inl low ↦ subst P (sym (min-left low)) pa
  | inr high ↦ subst P (sym (min-right high)) pb
]
  where
    min-left : a < b → min a b ≡ a
    min-left low = omega arith

    min-right : b ≤ a → min a b ≡ b
    min-right high = omega arith

-- what holds of all zoom levels holds of their least
fold-of-all : (P : ℕ → Type 0) (z : ℕ) (more : List Match) → P z → AllByRecursion (λ (m : Match). P m.entry.zoom) more
    → P (fold (λ least (m : Match). min least m.entry.zoom) z more)
fold-of-all P z [] here all = here
fold-of-all P z (m ∷ more) here all =
    fold-of-all P (min z m.entry.zoom) more (min-of-both P z m.entry.zoom here all.0) all.1

-- each entry has the zoom level of one of them
all-have-zooms : (entries : List Entry) → AllByRecursion (λ (e : Entry). has_zoom entries e.zoom ≡ true) entries
all-have-zooms [] = tt
all-have-zooms (e ∷ entries) = (
  rw (eq-eqb e.zoom e.zoom refl) refl,
  all-weaker (λ (later : Entry). has_zoom entries later.zoom ≡ true)
      (λ (later : Entry). has_zoom (e ∷ entries) later.zoom ≡ true) entries
      (λ later h. rw h (or-true (e.zoom == later.zoom))) (all-have-zooms entries),
)

-- Choices.

-- what is promised of a choice
pub record IsChoice (entries : List Entry) (c : Choice) : Type 0 where
  pub some : 1 ≤ length c.tags
  pub few : length c.tags ≤ 15
  pub kept : AllByRecursion (IsKept entries) c.tags
  pub rising : AreRising c.tags
  pub zoom : has_zoom entries c.zoom ≡ true
  pub layer : IsLayer c.layer

choice_of-is : (entries : List Entry) (layer : ℤ) (found : List Match) (c : Choice) → IsLayer layer
    → ((P : Entry → Type 0) → AllByRecursion P entries → AllByRecursion (IsGood P entries) found)
    → AreRising (map (λ (m : Match). m.kept) found) → choice_of layer found ≡ Some c → IsChoice entries c
choice_of-is entries layer [] c fine good rising e = absurd (cc e)
choice_of-is entries layer (first ∷ more) c fine good rising e =
    let tags : List Kept = map (λ (m : Match). m.kept) (first ∷ more) in
    let HasItsZoom : Entry → Type 0 = λ e. has_zoom entries e.zoom ≡ true in
    let found : AllByRecursion (IsGood HasItsZoom entries) (first ∷ more) = good HasItsZoom (all-have-zooms entries) in
    let all = all-weaker (λ (m : Match). IsKept entries m.kept × Unit {0}) (λ (m : Match). IsKept entries m.kept)
    (first ∷ more) (λ m h. h.0) (good (λ e. Unit {0}) (any-all entries)) in
    subst (IsChoice entries) (same_Some _ c e) record {
      some = omega arith;
      few = omega (arith, length-take 15 tags);
      kept = all-take (IsKept entries) 15 tags (all-map (IsKept entries) (λ (m : Match). m.kept) (first ∷ more) all);
      rising = take-rising 15 tags rising;
      zoom = fold-of-all (λ z. has_zoom entries z ≡ true) first.entry.zoom more found.0.1
          (all-weaker (IsGood HasItsZoom entries) (λ (m : Match). has_zoom entries m.entry.zoom ≡ true) more
          (λ m h. h.1) found.1);
      layer = fine;
    }

pub choice-is : (entries : List Entry) (tags : Tags) (c : Choice) → choice entries tags ≡ Some c → IsChoice entries c
unfolding choice matches
choice-is entries tags c e =
    choice_of-is entries (layer_of tags) (matches entries tags) c (layer_of-is tags)
    (λ P all. matches-good P entries tags all) (rising-from tags 0 entries).1 e
