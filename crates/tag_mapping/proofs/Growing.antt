-- A choice with one more match, among matches in the order of their ids.
use Rattle.std.proofs.Common.{◌≡◌, ◌⊎◌, ℕ, zero, suc, min, List, [], ◌∷◌, map, take, Bool, true, false, Some, ℤ, refl}
use Rattle.std.proofs.Common.{sym, ap, ◌∙◌, inl, inr, arith}
use Rattle.std.specs.Prelude.{◌||◌, nat_lt, fold, option_map, if◌then◌else◌}
use Rattle.std.specs.List.{list_any}
use Rattle.std.proofs.lemmas.Bool.{cases_Bool}
use Rattle.std.proofs.lemmas.List.{take-map}
use Rattle.mf_base.specs.declared.kept.Kept.{Kept}
use Rattle.feature_model.specs.Choice.{Match, choice_of, is_coast}
use Rattle.tag_mapping.specs.Choices.{kept_told, ToldChoice, choice_told}
use Rattle.tag_mapping.specs.Choosing.{match_told, with_kept, with_match, grown}

-- matches with one more, in the order of their ids
abbrev pub with_one : Match → List Match → List Match
with_one m [] = m ∷ []
with_one m (x ∷ xs) = if nat_lt m.kept.tag x.kept.tag then m ∷ x ∷ xs else x ∷ with_one m xs

-- ---- what is kept

abbrev kept_of : List Match → List Kept
kept_of xs = map (λ (m : Match). kept_told m.kept) xs

kept-one : (m : Match) (xs : List Match) → kept_of (with_one m xs) ≡ with_kept (kept_told m.kept) (kept_of xs)
kept-one m [] = refl
kept-one m (x ∷ xs) = by_test (cases_Bool (nat_lt m.kept.tag x.kept.tag)) (kept-one m xs)
  where
    by_test : (nat_lt m.kept.tag x.kept.tag ≡ true) ⊎ (nat_lt m.kept.tag x.kept.tag ≡ false)
        → kept_of (with_one m xs) ≡ with_kept (kept_told m.kept) (kept_of xs)
        → kept_of (with_one m (x ∷ xs)) ≡ with_kept (kept_told m.kept) (kept_of (x ∷ xs))
    by_test (inl less) more = rw less refl
    by_test (inr other) more = rw other (ap (λ (ks : List Kept). kept_told x.kept ∷ ks) more)

-- taking a shorter front after a longer one
take-front : (n : ℕ) (k : Kept) (ks : List Kept) → take n (k ∷ take n ks) ≡ take n (k ∷ ks)
take-front zero k ks = refl
take-front (suc n) k ks = ap (λ (x : List Kept). k ∷ x) (again n ks)
  where
    again : (n : ℕ) (ks : List Kept) → take n (take (suc n) ks) ≡ take n ks
    again zero ks = refl
    again (suc n) [] = refl
    again (suc n) (k ∷ ks) = ap (λ (x : List Kept). k ∷ x) (again n ks)

-- what was dropped before is dropped after
take-kept : (n : ℕ) (kept : Kept) (ks : List Kept) → take n (with_kept kept (take n ks)) ≡ take n (with_kept kept ks)
take-kept zero kept ks = refl
take-kept (suc n) kept [] = refl
take-kept (suc n) kept (k ∷ ks) = by_test (cases_Bool (nat_lt kept.tag k.tag)) (take-kept n kept ks)
  where
    by_test : (nat_lt kept.tag k.tag ≡ true) ⊎ (nat_lt kept.tag k.tag ≡ false)
        → take n (with_kept kept (take n ks)) ≡ take n (with_kept kept ks)
        → take (suc n) (with_kept kept (take (suc n) (k ∷ ks))) ≡ take (suc n) (with_kept kept (k ∷ ks))
    by_test (inl less) more = rw less (ap (λ (x : List Kept). kept ∷ x) (take-front n k ks))
    by_test (inr other) more = rw other (ap (λ (x : List Kept). k ∷ x) more)

-- the kept tags of a choice
tags-told : (xs : List Match) → map kept_told (take 15 (map (λ (m : Match). m.kept) xs)) ≡ take 15 (kept_of xs)
tags-told xs = sym (take-map kept_told 15 (map (λ (m : Match). m.kept) xs)) ∙ ap (take 15) (map-twice xs)
  where
    map-twice : (xs : List Match) → map kept_told (map (λ (m : Match). m.kept) xs) ≡ kept_of xs
    map-twice [] = refl
    map-twice (x ∷ xs) = ap (λ (ks : List Kept). kept_told x.kept ∷ ks) (map-twice xs)

tags-one : (m : Match) (xs : List Match)
    → map kept_told (take 15 (map (λ (m : Match). m.kept) (with_one m xs)))
    ≡ take 15 (with_kept (kept_told m.kept) (map kept_told (take 15 (map (λ (m : Match). m.kept) xs))))
tags-one m xs = tags-told (with_one m xs) ∙ (ap (take 15) (kept-one m xs)
    ∙ (sym (take-kept 15 (kept_told m.kept) (kept_of xs))
    ∙ ap (λ (ks : List Kept). take 15 (with_kept (kept_told m.kept) ks)) (sym (tags-told xs))))

-- ---- the least zoom level

abbrev least : ℕ → List Match → ℕ
least from xs = fold (λ least (m : Match). min least m.entry.zoom) from xs

least-more : (a b : ℕ) (xs : List Match) → least (min a b) xs ≡ min (least b xs) a
least-more a b [] = omega arith
least-more a b (x ∷ xs) =
    let turned : min (min a b) x.entry.zoom ≡ min a (min b x.entry.zoom) = omega arith in
    ap (λ (z : ℕ). least z xs) turned ∙ least-more a (min b x.entry.zoom) xs

least-one : (a : ℕ) (m : Match) (xs : List Match) → least a (with_one m xs) ≡ min (least a xs) m.entry.zoom
least-one a m [] = refl
least-one a m (x ∷ xs) =
    by_test (cases_Bool (nat_lt m.kept.tag x.kept.tag)) (least-one (min a x.entry.zoom) m xs)
  where
    by_test : (nat_lt m.kept.tag x.kept.tag ≡ true) ⊎ (nat_lt m.kept.tag x.kept.tag ≡ false)
        → least (min a x.entry.zoom) (with_one m xs) ≡ min (least (min a x.entry.zoom) xs) m.entry.zoom
        → least a (with_one m (x ∷ xs)) ≡ min (least a (x ∷ xs)) m.entry.zoom
    by_test (inl less) more =
        let turned : min (min a m.entry.zoom) x.entry.zoom ≡ min m.entry.zoom (min a x.entry.zoom) = omega arith in
        rw less (ap (λ (z : ℕ). least z xs) turned ∙ least-more m.entry.zoom (min a x.entry.zoom) xs)
    by_test (inr other) more = rw other more

-- ---- marks

or-turned : (a b c : Bool) → (a || (b || c)) ≡ ((b || c) || a)
or-turned true true c = refl
or-turned true false true = refl
or-turned true false false = refl
or-turned false true c = refl
or-turned false false true = refl
or-turned false false false = refl

or-inside : (a b c : Bool) → (a || (b || c)) ≡ ((a || b) || c)
or-inside true b c = refl
or-inside false b c = refl

or-none : (a : Bool) → (a || false) ≡ a
or-none true = refl
or-none false = refl

any-one : (p : Match → Bool) (m : Match) (xs : List Match) → list_any p (with_one m xs) ≡ (list_any p xs || p m)
any-one p m [] = or-none (p m)
any-one p m (x ∷ xs) = by_test (cases_Bool (nat_lt m.kept.tag x.kept.tag)) (any-one p m xs)
  where
    by_test : (nat_lt m.kept.tag x.kept.tag ≡ true) ⊎ (nat_lt m.kept.tag x.kept.tag ≡ false)
        → list_any p (with_one m xs) ≡ (list_any p xs || p m)
        → list_any p (with_one m (x ∷ xs)) ≡ (list_any p (x ∷ xs) || p m)
    by_test (inl less) more = rw less (or-turned (p m) (p x) (list_any p xs))
    by_test (inr other) more = rw other (ap (λ (b : Bool). p x || b) more ∙ or-inside (p x) (list_any p xs) (p m))

-- ---- the choice

-- what is told of a choice of these, which have this least zoom level
abbrev told : ℤ → List Match → ℕ → ToldChoice
told layer xs zoom = record {
  tags = map kept_told (take 15 (map (λ (m : Match). m.kept) xs));
  zoom = zoom;
  layer = layer;
  water = list_any (λ (m : Match). m.entry.water) xs;
  label = list_any (λ (m : Match). m.entry.label) xs;
  coast = list_any (λ (m : Match). is_coast m.entry) xs;
}

told-one : (layer : ℤ) (m : Match) (xs : List Match) (before after : ℕ) → after ≡ min before m.entry.zoom
    → told layer (with_one m xs) after ≡ with_match (match_told m) (told layer xs before)
told-one layer m xs before after zoom = rw (
  tags-one m xs,
  zoom,
  any-one (λ (m : Match). m.entry.water) m xs,
  any-one (λ (m : Match). m.entry.label) m xs,
  any-one (λ (m : Match). is_coast m.entry) m xs,
) refl

pub grown-one : (layer : ℤ) (m : Match) (xs : List Match)
    → option_map choice_told (choice_of layer (with_one m xs))
    ≡ Some (grown layer (match_told m) (option_map choice_told (choice_of layer xs)))
grown-one layer m [] = rw (or-none m.entry.water, or-none m.entry.label, or-none (is_coast m.entry)) refl
grown-one layer m (x ∷ xs) = by_test (cases_Bool (nat_lt m.kept.tag x.kept.tag))
  where
    by_test : (nat_lt m.kept.tag x.kept.tag ≡ true) ⊎ (nat_lt m.kept.tag x.kept.tag ≡ false)
        → option_map choice_told (choice_of layer (with_one m (x ∷ xs)))
        ≡ Some (grown layer (match_told m) (option_map choice_told (choice_of layer (x ∷ xs))))
    by_test (inl less) =
        let one = told-one layer m (x ∷ xs) (least x.entry.zoom xs) (least m.entry.zoom (x ∷ xs))
        (least-more m.entry.zoom x.entry.zoom xs) in
        rw less (ap (λ (t : ToldChoice). Some t) (rw less at one))
    by_test (inr other) =
        let one = told-one layer m (x ∷ xs) (least x.entry.zoom xs) (least x.entry.zoom (with_one m xs))
        (least-one x.entry.zoom m xs) in
        rw other (ap (λ (t : ToldChoice). Some t) (rw other at one))
