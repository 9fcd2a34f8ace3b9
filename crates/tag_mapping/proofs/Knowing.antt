-- The matches of entries that were looked at, when one more was.
use Rattle.std.proofs.Common.{◌≡◌, ◌⊎◌, ◌≢◌, ◌<◌, ◌≤◌, ℕ, zero, suc, ◌+◌, List, [], ◌∷◌, Bool, true, false}
use Rattle.std.proofs.Common.{Option, Some, None, refl, sym, ap, ◌∙◌, subst, inl, inr, arith}
use Rattle.std.specs.Prelude.{nat_lt, filter_map, option_map, slice_get, IsSome}
use Rattle.std.specs.List.{enumerate_from}
use Rattle.std.proofs.lemmas.Bool.{cases_Bool, lt-ltb, le-ltb}
use Rattle.std.proofs.lemmas.Option.{same_Some, none-some}
use Rattle.mf_base.specs.Tags.{Tags}
use Rattle.feature_model.specs.Mapping.{Entry, KeptValue, kept_by}
use Rattle.feature_model.specs.Choice.{Match, match_of}
use Rattle.tag_mapping.specs.Choosing.{is_known, known_matches}
use Rattle.tag_mapping.proofs.Growing.{with_one}

-- the matches of entries that are numbered from here
abbrev pub matches_from : Tags → ℕ → List Entry → List Match
matches_from tags n es = filter_map (match_of tags) (enumerate_from n es)

-- those that were looked at
abbrev pub known_from : List Bool → Tags → ℕ → List Entry → List Match
known_from known tags n es = known_matches known (matches_from tags n es)

-- a match has the number of its entry
pub match-number : (tags : Tags) (n : ℕ) (e : Entry) (m : Match) → match_of tags (n, e) ≡ Some m → m.kept.tag ≡ n
match-number tags n e m is = by_value (kept_by e tags) is
  where
    by_value : (o : Option KeptValue)
        → option_map (λ value. record { kept = record { tag = n; value = value }; entry = e }) o ≡ Some m
        → m.kept.tag ≡ n
    by_value None is = absurd (none-some m is)
    by_value (Some value) is = sym (ap (λ (x : Match). x.kept.tag) (same_Some _ m is))

-- the first of the matches, where its entry was looked at and where not
known-match : (known : List Bool) (tags : Tags) (n : ℕ) (x : Entry) (xs : List Entry) (m : Match)
    → match_of tags (n, x) ≡ Some m → is_known known n ≡ true
    → known_from known tags n (x ∷ xs) ≡ m ∷ known_from known tags (n + 1) xs
known-match known tags n x xs m is here =
    let tag : is_known known m.kept.tag ≡ true = ap (is_known known) (match-number tags n x m is) ∙ here in
    rw (is, tag) refl

unknown-match : (known : List Bool) (tags : Tags) (n : ℕ) (x : Entry) (xs : List Entry) (m : Match)
    → match_of tags (n, x) ≡ Some m → is_known known n ≡ false
    → known_from known tags n (x ∷ xs) ≡ known_from known tags (n + 1) xs
unknown-match known tags n x xs m is here =
    let tag : is_known known m.kept.tag ≡ false = ap (is_known known) (match-number tags n x m is) ∙ here in
    rw (is, tag) refl

no-match : (known : List Bool) (tags : Tags) (n : ℕ) (x : Entry) (xs : List Entry) → match_of tags (n, x) ≡ None
    → known_from known tags n (x ∷ xs) ≡ known_from known tags (n + 1) xs
no-match known tags n x xs is = rw is refl

-- ---- what is the same from here on

pub known-same : (known after : List Bool) (tags : Tags) (n : ℕ) (es : List Entry)
    → ((i : ℕ) → n ≤ i → is_known after i ≡ is_known known i)
    → known_from after tags n es ≡ known_from known tags n es
known-same known after tags n [] same = refl
known-same known after tags n (x ∷ xs) same =
    by_match (match_of tags (n, x)) refl (cases_Bool (is_known known n))
    (known-same known after tags (n + 1) xs (λ i more. same i (omega (arith, more))))
  where
    by_match : (o : Option Match) → match_of tags (n, x) ≡ o
        → (is_known known n ≡ true) ⊎ (is_known known n ≡ false)
        → known_from after tags (n + 1) xs ≡ known_from known tags (n + 1) xs
        → known_from after tags n (x ∷ xs) ≡ known_from known tags n (x ∷ xs)
    by_match None is here more = no-match after tags n x xs is ∙ (more ∙ sym (no-match known tags n x xs is))
    by_match (Some m) is (inl here) more = known-match after tags n x xs m is (same n (omega arith) ∙ here)
        ∙ (ap (λ (ms : List Match). m ∷ ms) more ∙ sym (known-match known tags n x xs m is here))
    by_match (Some m) is (inr other) more = unknown-match after tags n x xs m is (same n (omega arith) ∙ other)
        ∙ (more ∙ sym (unknown-match known tags n x xs m is other))

-- a match before all of these comes first
before-all : (known : List Bool) (tags : Tags) (n : ℕ) (es : List Entry) (m : Match) → m.kept.tag < n
    → with_one m (known_from known tags n es) ≡ m ∷ known_from known tags n es
before-all known tags n [] m less = refl
before-all known tags n (x ∷ xs) m less =
    by_match (match_of tags (n, x)) refl (cases_Bool (is_known known n))
    (before-all known tags (n + 1) xs m (omega (arith, less)))
  where
    by_match : (o : Option Match) → match_of tags (n, x) ≡ o
        → (is_known known n ≡ true) ⊎ (is_known known n ≡ false)
        → with_one m (known_from known tags (n + 1) xs) ≡ m ∷ known_from known tags (n + 1) xs
        → with_one m (known_from known tags n (x ∷ xs)) ≡ m ∷ known_from known tags n (x ∷ xs)
    by_match None is here more =
        subst (λ (ms : List Match). with_one m ms ≡ m ∷ ms) (sym (no-match known tags n x xs is)) more
    by_match (Some y) is (inr other) more =
        subst (λ (ms : List Match). with_one m ms ≡ m ∷ ms) (sym (unknown-match known tags n x xs y is other)) more
    by_match (Some y) is (inl here) more =
        let first : nat_lt m.kept.tag y.kept.tag ≡ true =
        lt-ltb m.kept.tag y.kept.tag (omega (arith, less, match-number tags n x y is)) in
        subst (λ (ms : List Match). with_one m ms ≡ m ∷ ms) (sym (known-match known tags n x xs y is here))
        (rw first refl)

-- ---- one more entry is looked at

-- with one more, where it matches
abbrev pub with_found : Option Match → List Match → List Match
with_found None ms = ms
with_found (Some m) ms = with_one m ms

-- the entry with this index is now known, and nothing else has changed
pub record IsOneMore (known after : List Bool) (index : ℕ) : Type 0 where
  pub before : is_known known index ≡ false
  pub now : is_known after index ≡ true
  pub others : (i : ℕ) → i ≢ index → is_known after i ≡ is_known known i

-- a match that comes later goes behind this one
behind-one : (found : Option Match) (y : Match) (ms : List Match) (tags : Tags) (n index : ℕ) (e : Entry)
    → match_of tags (index, e) ≡ found → y.kept.tag < index
    → with_found found (y ∷ ms) ≡ y ∷ with_found found ms
behind-one None y ms tags n index e is less = refl
behind-one (Some m) y ms tags n index e is less =
    let other : nat_lt m.kept.tag y.kept.tag ≡ false =
    le-ltb m.kept.tag y.kept.tag (omega (arith, less, match-number tags index e m is)) in
    rw other refl

pub known-more : (known after : List Bool) (tags : Tags) (n at index : ℕ) (es : List Entry) (e : Entry)
    → index ≡ n + at → slice_get es at ≡ Some e → IsOneMore known after index
    → known_from after tags n es ≡ with_found (match_of tags (index, e)) (known_from known tags n es)
known-more known after tags n at index [] e here is more = absurd (none-some e is)
known-more known after tags n zero index (x ∷ xs) e here is more =
    by_match (match_of tags (n, x)) refl
    (known-same known after tags (n + 1) xs (λ i later. more.others i (λ same. omega (arith, later, here, same))))
  where
    first : index ≡ n
    first = omega (arith, here)

    as_first : match_of tags (index, e) ≡ match_of tags (n, x)
    as_first = ap (λ (i : ℕ). match_of tags (i, e)) first
        ∙ ap (λ (y : Entry). match_of tags (n, y)) (sym (same_Some x e is))

    by_match : (o : Option Match) → match_of tags (n, x) ≡ o
        → known_from after tags (n + 1) xs ≡ known_from known tags (n + 1) xs
        → known_from after tags n (x ∷ xs) ≡ with_found (match_of tags (index, e)) (known_from known tags n (x ∷ xs))
    by_match None found rest = no-match after tags n x xs found ∙ (rest ∙ (sym (no-match known tags n x xs found)
        ∙ ap (λ (o : Option Match). with_found o (known_from known tags n (x ∷ xs))) (sym (as_first ∙ found))))
    by_match (Some m) found rest =
        known-match after tags n x xs m found (subst (λ i. is_known after i ≡ true) first more.now)
        ∙ (ap (λ (ms : List Match). m ∷ ms) rest
        ∙ (sym (before-all known tags (n + 1) xs m (omega (arith, match-number tags n x m found)))
        ∙ (ap (with_one m)
        (sym (unknown-match known tags n x xs m found (subst (λ i. is_known known i ≡ false) first more.before)))
        ∙ ap (λ (o : Option Match). with_found o (known_from known tags n (x ∷ xs))) (sym (as_first ∙ found)))))
known-more known after tags n (suc at) index (x ∷ xs) e here is more =
    by_match (match_of tags (n, x)) refl (cases_Bool (is_known known n))
    (known-more known after tags (n + 1) at index xs e (omega (arith, here)) is more)
  where
    same : is_known after n ≡ is_known known n
    same = more.others n (λ e. omega (arith, here, e))

    by_match : (o : Option Match) → match_of tags (n, x) ≡ o
        → (is_known known n ≡ true) ⊎ (is_known known n ≡ false)
        → known_from after tags (n + 1) xs
        ≡ with_found (match_of tags (index, e)) (known_from known tags (n + 1) xs)
        → known_from after tags n (x ∷ xs) ≡ with_found (match_of tags (index, e)) (known_from known tags n (x ∷ xs))
    by_match None found known_here rest = no-match after tags n x xs found
        ∙ (rest ∙ ap (with_found (match_of tags (index, e))) (sym (no-match known tags n x xs found)))
    by_match (Some y) found (inr other) rest = unknown-match after tags n x xs y found (same ∙ other)
        ∙ (rest ∙ ap (with_found (match_of tags (index, e))) (sym (unknown-match known tags n x xs y found other)))
    by_match (Some y) found (inl known_here) rest = known-match after tags n x xs y found (same ∙ known_here)
        ∙ (ap (λ (ms : List Match). y ∷ ms) rest
        ∙ (sym (behind-one (match_of tags (index, e)) y (known_from known tags (n + 1) xs) tags n index e refl
        (omega (arith, here, match-number tags n x y found)))
        ∙ ap (with_found (match_of tags (index, e))) (sym (known-match known tags n x xs y found known_here))))

-- ---- none, and all

pub known-none : (known : List Bool) (tags : Tags) (n : ℕ) (es : List Entry)
    → ((i : ℕ) → is_known known i ≡ false) → known_from known tags n es ≡ []
known-none known tags n [] none = refl
known-none known tags n (x ∷ xs) none =
    by_match (match_of tags (n, x)) refl (known-none known tags (n + 1) xs none)
  where
    by_match : (o : Option Match) → match_of tags (n, x) ≡ o → known_from known tags (n + 1) xs ≡ []
        → known_from known tags n (x ∷ xs) ≡ []
    by_match None is rest = no-match known tags n x xs is ∙ rest
    by_match (Some m) is rest = unknown-match known tags n x xs m is (none n) ∙ rest

pub known-all : (known : List Bool) (tags : Tags) (n : ℕ) (es : List Entry)
    → ((at : ℕ) (e : Entry) → slice_get es at ≡ Some e → IsSome (kept_by e tags) → is_known known (n + at) ≡ true)
    → known_from known tags n es ≡ matches_from tags n es
known-all known tags n [] all = refl
known-all known tags n (x ∷ xs) all =
    by_value (kept_by x tags) refl
    (known-all known tags (n + 1) xs
    (λ at e here matches. ap (is_known known) (omega arith) ∙ all (suc at) e here matches))
  where
    by_value : (o : Option KeptValue) → kept_by x tags ≡ o
        → known_from known tags (n + 1) xs ≡ matches_from tags (n + 1) xs
        → known_from known tags n (x ∷ xs) ≡ matches_from tags n (x ∷ xs)
    by_value None is rest = rw is rest
    by_value (Some value) is rest =
        let here : is_known known n ≡ true =
        ap (is_known known) (omega arith) ∙ all 0 x refl (rw is refl) in
        rw (is, here)
        (ap (λ (ms : List Match). record { kept = record { tag = n; value = value }; entry = x } ∷ ms) rest)
