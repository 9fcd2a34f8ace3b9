-- Features that stand in the order of a tile are in that order: for the encoder of a tile, whose members stand so.
use Rattle.std.proofs.Common.{◌≡◌, ℕ, zero, suc, ◌+◌, ◌-◌, ◌<◌, ◌≤◌, List, [], ◌∷◌, ◌++◌, refl, sym, ap, ◌∙◌}
use Rattle.std.proofs.Common.{arith, inl, inr, true, false}
use Rattle.std.specs.Prelude.{filter, flat_map, ◌==◌}
use Rattle.std.specs.List.{range_with_len, AllByRecursion}
use Rattle.std.proofs.lemmas.Bool.{cases_Bool, cases_lt, eq-eqb, ne_eqb, not-true}
use Rattle.mf_base.proofs.Pairs.{EachPair, each_pair}
use Rattle.mf_base.specs.declared.tile.Interval.{Interval}
use Rattle.feature_model.specs.Features.{Feature}
use Rattle.feature_model.proofs.Rising.{all-imp, all-filter, all-passes, rises-filter, rises-imp}
use Rattle.map_model.specs.Intervals.{raised_zoom}
use Rattle.map_model.specs.Members.{is_poi, is_way, class_of, by_zoom, in_tile_order, StandsBefore}
use Rattle.map_model.specs.Members.{StandInOrder}

-- ---- lists that go by a key

module _ {X : Type 0} (key : X → ℕ) where
  -- the items of each key from a on
  by_key : ℕ → ℕ → List X → List X
  by_key a n xs = flat_map (λ z. filter (λ x. key x == z) xs) (range_with_len a n)

  by_key-nil : (a n : ℕ) → by_key a n [] ≡ []
  unfolding by_key
  by_key-nil a zero = refl
  by_key-nil a (suc n) = by_key-nil (a + 1) n

  -- an item of a key below all of these is of none of them
  by_key-past : (a n : ℕ) (x : X) (xs : List X) → key x < a → by_key a n (x ∷ xs) ≡ by_key a n xs
  unfolding by_key
  by_key-past a zero x xs low = refl
  by_key-past a (suc n) x xs low =
      rw (ne_eqb (key x) a (λ e. omega (arith, e, low)), by_key-past (a + 1) n x xs (omega (arith, low))) refl

  -- no item has a key below that of the first
  none-below : (z : ℕ) (xs : List X) → AllByRecursion (λ x. z < key x) xs → filter (λ x. key x == z) xs ≡ []
  none-below z [] all = refl
  none-below z (x ∷ xs) all = let far =
      all.0 in rw (ne_eqb (key x) z (λ e. omega (arith, e, far)), none-below z xs all.1) refl

  above : (z : ℕ) (y : X) (xs : List X) → z < key y → AllByRecursion (λ x. key y ≤ key x) xs
      → AllByRecursion (λ x. z < key x) xs
  above z y [] low all = tt
  above z y (x ∷ xs) low all = let far = all.0 in (omega (arith, low, far), above z y xs low all.1)

  -- the first item comes first, where none has a smaller key
  by_key-first : (a n : ℕ) (x : X) (xs : List X) → a ≤ key x → key x < a + n → AllByRecursion (λ y. key x ≤ key y) xs
      → by_key a n (x ∷ xs) ≡ x ∷ by_key a n xs
  unfolding by_key
  by_key-first a zero x xs low high all = absurd (omega (arith, low, high))
  by_key-first a (suc n) x xs low high all =
      elim (cases_lt a (key x)) [
        | inl lt ↦ rw (ne_eqb (key x) a (λ e. omega (arith, e, lt)), none-below a xs (above a x xs lt all))
            (by_key-first (a + 1) n x xs (omega (arith, lt)) (omega (arith, high)) all)
        | inr ge ↦ rw (eq-eqb (key x) a (omega (arith, low, ge)), by_key-past (a + 1) n x xs (omega (arith, ge))) refl
      ]

  -- items by rising keys are by their keys
  by_key-rising : (a n : ℕ) (xs : List X) → AllByRecursion (λ x. (a ≤ key x) × (key x < a + n)) xs
      → EachPair (λ x y. key x ≤ key y) xs → by_key a n xs ≡ xs
  by_key-rising a n [] all pairs = by_key-nil a n
  by_key-rising a n (x ∷ xs) all pairs =
      by_key-first a n x xs all.0.0 all.0.1 pairs.0 ∙ ap (λ ys. x ∷ ys) (by_key-rising a n xs all.1 pairs.1)

-- ---- POIs before ways

class-poi : (f : Feature) → is_poi f ≡ true → class_of f ≡ 0
class-poi f e = rw (e) refl

class-way : (f : Feature) → is_poi f ≡ false → class_of f ≡ 1
class-way f e = rw (e) refl

no-poi : (interval : Interval) (f g : Feature) → is_poi f ≡ false → is_poi g ≡ true → StandsBefore interval f g → ⊥
no-poi interval f g way poi (inl less) = let a = class-way f way in let b = class-poi g poi in omega (arith, a, b, less)
no-poi interval f g way poi (inr same) = let a = class-way f way in let b = class-poi g poi in let e =
    same.0 in omega (arith, a, b, e)

ways-alone : (interval : Interval) (f : Feature) (fs : List Feature) → is_poi f ≡ false
    → AllByRecursion (StandsBefore interval f) fs → (filter is_poi fs ≡ []) × (filter is_way fs ≡ fs)
ways-alone interval f [] way all = (refl, refl)
ways-alone interval f (g ∷ fs) way all =
    elim (cases_Bool (is_poi g)) [
      | inl poi ↦ absurd (no-poi interval f g way poi all.0)
      | inr also ↦ let others =
          ways-alone interval f fs way all.1 in (rw (also) others.0, rw (also) (ap (λ gs. g ∷ gs) others.1))
    ]

two-classes : (interval : Interval) (fs : List Feature) → EachPair (StandsBefore interval) fs
    → filter is_poi fs ++ filter is_way fs ≡ fs
two-classes interval [] pairs = refl
two-classes interval (f ∷ fs) pairs =
    elim (cases_Bool (is_poi f)) [
      | inl poi ↦ rw (poi) (ap (λ gs. f ∷ gs) (two-classes interval fs pairs.1))
      | inr way ↦ let others = ways-alone interval f fs way pairs.0 in rw (way, others.0, others.1) refl
    ]

-- ---- one class by zoom

-- the features of a class that stand in order are by zoom
class-by_zoom : (interval : Interval) (class : ℕ) (fs : List Feature) → interval.min ≤ interval.max
    → AllByRecursion (λ f. class_of f ≡ class) fs
    → AllByRecursion (λ f. f.zoom ≤ interval.max) fs → EachPair (StandsBefore interval) fs → by_zoom interval fs ≡ fs
unfolding by_key
class-by_zoom interval class fs range same zooms_are pairs =
    by_key-rising (λ (f : Feature). raised_zoom interval f.zoom) interval.min (suc interval.max - interval.min) fs
    (all-imp (λ f. f.zoom ≤ interval.max) (λ f. (interval.min ≤ raised_zoom interval f.zoom)
    × (raised_zoom interval f.zoom < interval.min + (suc interval.max - interval.min)))
    (λ f h. (omega arith, omega (arith, h, range))) fs zooms_are)
    (rises-imp (λ f. class_of f ≡ class) (StandsBefore interval) (λ f g. raised_zoom interval f.zoom
    ≤ raised_zoom interval g.zoom) step fs same pairs)
  where
    step : (f g : Feature) → class_of f ≡ class → class_of g ≡ class → StandsBefore interval f g
        → raised_zoom interval f.zoom ≤ raised_zoom interval g.zoom
    step f g a b (inl less) = absurd (omega (arith, a, b, less))
    step f g a b (inr h) = h.1

pub stand-in_order : (interval : Interval) (fs : List Feature) → interval.min ≤ interval.max → StandInOrder interval fs
    → fs ≡ in_tile_order interval fs
unfolding in_tile_order
stand-in_order interval fs range h =
    sym (two-classes interval fs pairs)
    ∙ (λ i. sym (class-by_zoom interval 0 (filter is_poi fs) range pois
    (all-filter (λ f. f.zoom ≤ interval.max) is_poi fs h.zooms)
    (rises-filter (StandsBefore interval) is_poi fs pairs)) i
    ++ sym (class-by_zoom interval 1 (filter is_way fs) range ways
    (all-filter (λ f. f.zoom ≤ interval.max) is_way fs h.zooms)
    (rises-filter (StandsBefore interval) is_way fs pairs)) i)
  where
    pairs : EachPair (StandsBefore interval) fs
    pairs = each_pair (StandsBefore interval) fs h.pairs

    pois : AllByRecursion (λ f. class_of f ≡ 0) (filter is_poi fs)
    pois = all-imp (λ f. is_poi f ≡ true) (λ f. class_of f ≡ 0) class-poi (filter is_poi fs) (all-passes is_poi fs)

    ways : AllByRecursion (λ f. class_of f ≡ 1) (filter is_way fs)
    ways = all-imp (λ f. is_way f ≡ true) (λ f. class_of f ≡ 1) (λ f e. class-way f (not-true (is_poi f) e))
        (filter is_way fs) (all-passes is_way fs)

pub ruleset order_laws = (stand-in_order)
