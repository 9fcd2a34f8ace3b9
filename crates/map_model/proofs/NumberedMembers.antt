-- The things that show the members of a tile: whose they are, how often each stands there, and that they rise. For
-- whatever goes over tiles by numbers or records.
use Rattle.std.proofs.Common.{◌≡◌, ℕ, suc, ◌+◌, ◌-◌, ◌<◌, ◌≤◌, List, [], ◌∷◌, ◌++◌, map, refl, sym, ap, ◌∙◌, arith}
use Rattle.std.proofs.Common.{true, false, inl, inr}
use Rattle.std.specs.Prelude.{Bool, cond, not, ◌==◌, filter, flat_map, leb}
use Rattle.std.specs.List.{AllByRecursion, enumerate_from}
use Rattle.std.proofs.lemmas.Bool.{false≢true, leb-true, eqb-true, and_parts}
use Rattle.std.proofs.lemmas.List.{map-append}
use Rattle.mf_base.specs.declared.tile.Interval.{Interval}
use Rattle.mf_base.specs.declared.tile.TilePlace.{TilePlace}
use Rattle.mf_base.proofs.Pairs.{EachPair}
use Rattle.feature_model.specs.Features.{Feature}
use Rattle.map_model.specs.Rectangles.{rect_of}
use Rattle.map_model.specs.TileRects.{meets}
use Rattle.map_model.specs.Intervals.{raised_zoom, zooms}
use Rattle.map_model.specs.Members.{is_poi, is_way, class_of, of_zoom, by_zoom, in_tile_order, in_tile, members}
use Rattle.map_model.specs.NumberedMembers.{KeyBelow, is_in_tile, of_zoom_by, by_zoom_by, in_tile_order_by, members_by}
use Rattle.map_model.specs.NumberedMembers.{numbered_members}
use Rattle.feature_model.proofs.Totals.{total, total-append, total-flat_map, total-same, total-add, total-swap}
use Rattle.feature_model.proofs.Totals.{total-filter, total-one}
use Rattle.feature_model.proofs.Rising.{all-append, all-flat_map, all-filter, all-passes, all-imp, all-both}
use Rattle.feature_model.proofs.Rising.{rises-append, rises-filter, rises-flat_map, rises-imp, rises-range}

map-filter : {X Y : Type 0} (f : X → Y) (p : Y → Bool) (xs : List X)
    → map f (filter (λ x. p (f x)) xs) ≡ filter p (map f xs)
map-filter f p [] = refl
map-filter {X} {Y} f p (x ∷ xs) = by_test (p (f x)) (map-filter f p xs)
  where
    by_test : (b : Bool) → map f (filter (λ x. p (f x)) xs) ≡ filter p (map f xs)
        → map f (cond b (x ∷ filter (λ x. p (f x)) xs) (filter (λ x. p (f x)) xs))
        ≡ cond b (f x ∷ filter p (map f xs)) (filter p (map f xs))
    by_test true more = ap (λ ys. f x ∷ ys) more
    by_test false more = more

-- each record has one of the interval's zoom levels
one_zoom : (v zoom : ℕ) (interval : Interval) → interval.min ≤ interval.max → zoom ≤ interval.max
    → total (λ z. cond (raised_zoom interval zoom == z) v 0) (zooms interval) ≡ v
one_zoom v zoom interval range le =
    total-one v (raised_zoom interval zoom) interval.min (suc interval.max - interval.min) (omega arith) (omega arith)

abbrev number_of : Bool → ℕ
number_of poi = cond poi 0 1

by_poi : (b : Bool) → b ≡ true → number_of b ≡ 0
by_poi true e = refl
by_poi false e = absurd (false≢true e)

by_way : (b : Bool) → not b ≡ true → number_of b ≡ 1
by_way true e = absurd (false≢true e)
by_way false e = refl

module _ {R : Type 0} (shown : R → Feature) (number : R → ℕ) where
  zooms-shown : (interval : Interval) (records : List R) (some : List ℕ)
      → map shown (flat_map (λ zoom. of_zoom_by shown interval zoom records) some)
      ≡ flat_map (λ zoom. of_zoom interval zoom (map shown records)) some
  zooms-shown interval records [] = refl
  zooms-shown interval records (zoom ∷ some) =
      map-append shown (of_zoom_by shown interval zoom records)
      (flat_map (λ zoom. of_zoom_by shown interval zoom records) some)
      ∙ (λ i. map-filter shown (λ f. raised_zoom interval f.zoom == zoom) records i
      ++ zooms-shown interval records some i)

  -- Without their numbers they are the members of the tile.
  pub members-shown : (records : List R) (tile : TilePlace)
      → map shown (members_by shown records tile) ≡ members (map shown records) tile
  unfolding members in_tile_order in_tile members_by in_tile_order_by
  members-shown records tile =
      map-append shown (by_zoom_by shown tile.interval (filter (λ r. is_poi (shown r)) here))
      (by_zoom_by shown tile.interval (filter (λ r. is_way (shown r)) here))
      ∙ (λ i. (zooms-shown tile.interval (filter (λ r. is_poi (shown r)) here) (zooms tile.interval)
      ∙ ap (by_zoom tile.interval) (map-filter shown is_poi here ∙ ap (filter is_poi) there)) i
      ++ (zooms-shown tile.interval (filter (λ r. is_way (shown r)) here) (zooms tile.interval)
      ∙ ap (by_zoom tile.interval) (map-filter shown is_way here ∙ ap (filter is_way) there)) i)
    where
      here : List R
      here = filter (λ r. is_in_tile tile (shown r)) records

      there : map shown here ≡ filter (is_in_tile tile) (map shown records)
      there = map-filter shown (is_in_tile tile) records

  -- ---- how often each stands there

  by_zoom-total : (f : R → ℕ) (interval : Interval) (records : List R)
      → total f (by_zoom_by shown interval records)
      ≡ total (λ r. total (λ z. cond (raised_zoom interval (shown r).zoom == z) (f r) 0) (zooms interval)) records
  by_zoom-total f interval records =
      total-flat_map f (λ zoom. of_zoom_by shown interval zoom records) (zooms interval)
      ∙ total-same (λ zoom. total f (of_zoom_by shown interval zoom records))
      (λ zoom. total (λ r. cond (raised_zoom interval (shown r).zoom == zoom) (f r) 0) records)
      (λ zoom. total-filter f (λ r. raised_zoom interval (shown r).zoom == zoom) records) (zooms interval)
      ∙ total-swap (λ zoom r. cond (raised_zoom interval (shown r).zoom == zoom) (f r) 0) (zooms interval) records

  -- A tile has each record that is in it once, and no other.
  pub members-total : (f : R → ℕ) (records : List R) (tile : TilePlace) → tile.interval.min ≤ tile.interval.max
      → total f (members_by shown records tile) ≡ total (λ r. cond (is_in_tile tile (shown r)) (f r) 0) records
  unfolding members_by in_tile_order_by
  members-total f records tile range =
      total-append f (by_zoom_by shown tile.interval (filter poi here))
      (by_zoom_by shown tile.interval (filter way here))
      ∙ (λ i. (by_zoom-total f tile.interval (filter poi here) ∙ part poi) i
      + (by_zoom-total f tile.interval (filter way here) ∙ part way) i)
      ∙ sym (total-add (λ r. cond (inside r) (cond (poi r) (levels r) 0) 0)
      (λ r. cond (inside r) (cond (way r) (levels r) 0) 0) records)
      ∙ total-same (λ r. cond (inside r) (cond (poi r) (levels r) 0) 0 + cond (inside r) (cond (way r) (levels r) 0) 0)
      (λ r. cond (inside r) (f r) 0) each records
    where
      inside : R → Bool
      inside r = is_in_tile tile (shown r)

      poi : R → Bool
      poi r = is_poi (shown r)

      way : R → Bool
      way r = is_way (shown r)

      here : List R
      here = filter inside records

      levels : R → ℕ
      levels r = total (λ z. cond (raised_zoom tile.interval (shown r).zoom == z) (f r) 0) (zooms tile.interval)

      part : (p : R → Bool)
          → total levels (filter p here) ≡ total (λ r. cond (inside r) (cond (p r) (levels r) 0) 0) records
      part p = total-filter levels p here ∙ total-filter (λ r. cond (p r) (levels r) 0) inside records

      by_tests : (r : R) (b c : Bool) → (b ≡ true → levels r ≡ f r)
          → cond b (cond c (levels r) 0) 0 + cond b (cond (not c) (levels r) 0) 0 ≡ cond b (f r) 0
      by_tests r true true e = omega (arith, e refl)
      by_tests r true false e = omega (arith, e refl)
      by_tests r false c e = refl

      each : (r : R) → cond (inside r) (cond (poi r) (levels r) 0) 0 + cond (inside r) (cond (way r) (levels r) 0) 0
          ≡ cond (inside r) (f r) 0
      each r =
          by_tests r (inside r) (poi r)
          (λ e. one_zoom (f r) (shown r).zoom tile.interval range
          (leb-true (shown r).zoom tile.interval.max
          (and_parts (leb (shown r).zoom tile.interval.max)
          (meets (rect_of (shown r)) tile.interval.base tile.x tile.y) e).0))

  -- ---- that they rise

  -- the key of a member within its tile
  abbrev pub member_key : Interval → R → List ℕ
  member_key interval r = class_of (shown r) ∷ raised_zoom interval (shown r).zoom ∷ number r ∷ []

  abbrev pub MemberBelow : Interval → R → R → Type 0
  MemberBelow interval r s = KeyBelow (member_key interval r) (member_key interval s)

  abbrev pub NumberBelow : R → R → Type 0
  NumberBelow r s = number r < number s

  by_zoom-rises : (interval : Interval) (class : ℕ) (records : List R)
      → AllByRecursion (λ r. class_of (shown r) ≡ class) records → EachPair NumberBelow records
      → EachPair (MemberBelow interval) (by_zoom_by shown interval records)
  by_zoom-rises interval class records all up =
      rises-flat_map (IsLevel) (λ z z'. z < z') (MemberBelow interval) (λ zoom. of_zoom_by shown interval zoom records)
      step of each (zooms interval) (rises-range interval.min (suc interval.max - interval.min))
    where
      IsLevel : ℕ → R → Type 0
      IsLevel zoom r = (class_of (shown r) ≡ class) × (raised_zoom interval (shown r).zoom ≡ zoom)

      step : (z z' : ℕ) (r s : R) → z < z' → IsLevel z r → IsLevel z' s → MemberBelow interval r s
      step z z' r s lt h k = inr (h.0 ∙ sym k.0, inl (omega (arith, lt, h.1, k.1)))

      of : (zoom : ℕ) → AllByRecursion (IsLevel zoom) (of_zoom_by shown interval zoom records)
      of zoom =
          all-both (λ r. class_of (shown r) ≡ class) (λ r. raised_zoom interval (shown r).zoom ≡ zoom)
          (of_zoom_by shown interval zoom records)
          (all-filter (λ r. class_of (shown r) ≡ class) (λ r. raised_zoom interval (shown r).zoom == zoom) records all)
          (all-imp (λ r. (raised_zoom interval (shown r).zoom == zoom) ≡ true) (λ r. raised_zoom interval (shown r).zoom
          ≡ zoom)
          (λ r e. eqb-true (raised_zoom interval (shown r).zoom) zoom e) (of_zoom_by shown interval zoom records)
          (all-passes (λ r. raised_zoom interval (shown r).zoom == zoom) records))

      each : (zoom : ℕ) → EachPair (MemberBelow interval) (of_zoom_by shown interval zoom records)
      each zoom =
          rises-imp (IsLevel zoom) NumberBelow (MemberBelow interval)
          (λ r s h k lt. inr (h.0 ∙ sym k.0, inr (h.1 ∙ sym k.1, inl lt))) (of_zoom_by shown interval zoom records)
          (of zoom) (rises-filter NumberBelow (λ r. raised_zoom interval (shown r).zoom == zoom) records up)

  of_class : (class : ℕ) (interval : Interval) (records : List R)
      → AllByRecursion (λ r. class_of (shown r) ≡ class) records
      → AllByRecursion (λ r. class_of (shown r) ≡ class) (by_zoom_by shown interval records)
  of_class class interval records all =
      every (zooms interval)
    where
      every : (some : List ℕ)
          → AllByRecursion (λ r. class_of (shown r) ≡ class) (flat_map (λ zoom. of_zoom_by shown interval zoom records)
          some)
      every some = all-flat_map (λ r. class_of (shown r) ≡ class) (λ zoom. of_zoom_by shown interval zoom records) some
          (levels some)
        where
          levels : (some : List ℕ)
              → AllByRecursion
              (λ zoom. AllByRecursion (λ r. class_of (shown r) ≡ class) (of_zoom_by shown interval zoom records)) some
          levels [] = tt
          levels (zoom ∷ some) = (
            all-filter (λ r. class_of (shown r) ≡ class) (λ r. raised_zoom interval (shown r).zoom == zoom) records
                all,
            levels some,
          )

  -- Members rise by class, effective zoom and number, where the records' numbers rise.
  pub members-rise : (records : List R) (tile : TilePlace) → EachPair NumberBelow records
      → EachPair (MemberBelow tile.interval) (members_by shown records tile)
  unfolding members_by in_tile_order_by
  members-rise records tile up =
      rises-append (MemberBelow tile.interval) (by_zoom_by shown tile.interval pois)
      (by_zoom_by shown tile.interval ways)
      (by_zoom-rises tile.interval 0 pois pois_are (rises-filter NumberBelow (λ r. is_poi (shown r)) here up_here))
      (by_zoom-rises tile.interval 1 ways ways_are (rises-filter NumberBelow (λ r. is_way (shown r)) here up_here))
      (all-imp (λ r. class_of (shown r) ≡ 0)
      (λ r. AllByRecursion (MemberBelow tile.interval r) (by_zoom_by shown tile.interval ways))
      (λ r h. all-imp (λ s. class_of (shown s) ≡ 1) (MemberBelow tile.interval r) (λ s k. inl (omega (arith, h, k)))
      (by_zoom_by shown tile.interval ways) (of_class 1 tile.interval ways ways_are))
      (by_zoom_by shown tile.interval pois) (of_class 0 tile.interval pois pois_are))
    where
      here : List R
      here = filter (λ r. is_in_tile tile (shown r)) records

      pois : List R
      pois = filter (λ r. is_poi (shown r)) here

      ways : List R
      ways = filter (λ r. is_way (shown r)) here

      up_here : EachPair NumberBelow here
      up_here = rises-filter NumberBelow (λ r. is_in_tile tile (shown r)) records up

      pois_are : AllByRecursion (λ r. class_of (shown r) ≡ 0) pois
      pois_are = all-imp (λ r. is_poi (shown r) ≡ true) (λ r. class_of (shown r) ≡ 0)
          (λ r e. by_poi (is_poi (shown r)) e) pois (all-passes (λ r. is_poi (shown r)) here)

      ways_are : AllByRecursion (λ r. class_of (shown r) ≡ 1) ways
      ways_are = all-imp (λ r. is_way (shown r) ≡ true) (λ r. class_of (shown r) ≡ 1)
          (λ r e. by_way (is_poi (shown r)) e) ways (all-passes (λ r. is_way (shown r)) here)

  -- ---- what holds of them

  zooms-all : (P : R → Type 0) (interval : Interval) (records : List R) → AllByRecursion P records → (some : List ℕ)
      → AllByRecursion (λ zoom. AllByRecursion P (of_zoom_by shown interval zoom records)) some
  zooms-all P interval records all [] = tt
  zooms-all P interval records all (zoom ∷ some) = (
    all-filter P (λ r. raised_zoom interval (shown r).zoom == zoom) records all,
    zooms-all P interval records all some,
  )

  by_zoom-all : (P : R → Type 0) (interval : Interval) (records : List R) → AllByRecursion P records
      → AllByRecursion P (by_zoom_by shown interval records)
  by_zoom-all P interval records all =
      all-flat_map P (λ zoom. of_zoom_by shown interval zoom records) (zooms interval)
      (zooms-all P interval records all (zooms interval))

  -- What holds of all records holds of the members, and they are in the tile.
  pub members-all : (P : R → Type 0) (records : List R) (tile : TilePlace) → AllByRecursion P records
      → AllByRecursion (λ r. P r × (is_in_tile tile (shown r) ≡ true)) (members_by shown records tile)
  unfolding members_by in_tile_order_by
  members-all P records tile all =
      all-append IsIn (by_zoom_by shown tile.interval (filter (λ r. is_poi (shown r)) here))
      (by_zoom_by shown tile.interval (filter (λ r. is_way (shown r)) here))
      (by_zoom-all IsIn tile.interval (filter (λ r. is_poi (shown r)) here)
      (all-filter IsIn (λ r. is_poi (shown r)) here all_here))
      (by_zoom-all IsIn tile.interval (filter (λ r. is_way (shown r)) here)
      (all-filter IsIn (λ r. is_way (shown r)) here all_here))
    where
      IsIn : R → Type 0
      IsIn r = P r × (is_in_tile tile (shown r) ≡ true)

      here : List R
      here = filter (λ r. is_in_tile tile (shown r)) records

      all_here : AllByRecursion IsIn here
      all_here = all-both P (λ r. is_in_tile tile (shown r) ≡ true) here
          (all-filter P (λ r. is_in_tile tile (shown r)) records all)
          (all-passes (λ r. is_in_tile tile (shown r)) records)

items-numbered : {X : Type 0} (n : ℕ) (xs : List X) → map (λ (p : ℕ × X). p.1) (enumerate_from n xs) ≡ xs
items-numbered n [] = refl
items-numbered n (x ∷ xs) = ap (λ ys. x ∷ ys) (items-numbered (n + 1) xs)

pub numbered_members-shown : (features : List Feature) (tile : TilePlace)
    → map (λ (p : ℕ × Feature). p.1) (numbered_members features tile) ≡ members features tile
numbered_members-shown features tile =
    members-shown (λ (p : ℕ × Feature). p.1) (λ p. p.0) (enumerate_from 0 features) tile
    ∙ ap (λ fs. members fs tile) (items-numbered 0 features)

pub ruleset number_laws = (numbered_members-shown)
