-- The zoom table, while members are counted and while it is put.
use Rattle.std.proofs.Common.{◌≡◌, ℕ, zero, suc, ◌+◌, ◌-◌, ◌≤◌, ◌<◌, List, [], ◌∷◌, ◌++◌, length, refl, sym}
use Rattle.std.proofs.Common.{ap}
use Rattle.std.proofs.Common.{◌∙◌, arith, Some, Bool, true, false, drop, get_or, inl, inr}
use Rattle.std.proofs.Common.{append_assoc, subst}
use Rattle.std.specs.Prelude.{filter, flat_map, slice_get, cond, ◌==◌, slice_set}
use Rattle.std.specs.List.{range_with_len}
use Rattle.std.proofs.lemmas.Bool.{cases_eq, eq-eqb, ne_eqb}
use Rattle.std.proofs.lemmas.List.{get_or-set_same, get_or-set_other, length-set}
use Rattle.mf_base.specs.Buffer.{Buffer, AppendsTo, HasRoom}
use Rattle.mf_base.specs.Spelling.{vbe_unsigned}
use Rattle.mf_base.specs.declared.tile.Interval.{Interval}
use Rattle.feature_model.specs.Features.{Feature}
use Rattle.feature_model.proofs.Totals.{total, count-total}
use Rattle.map_model.specs.Members.{is_poi, is_way}
use Rattle.map_model.specs.Intervals.{raised_zoom}
use Rattle.mf_rows.specs.Records.{Record, candidate_told}
use Rattle.mf_rows.specs.declared.head.Head.{Head}
use Rattle.mf_rows.specs.Shapes.{feature_told}
use Rattle.tile_body.specs.Tables.{AreCounts, one_more, counted_if, level_bytes, levels_bytes}
use Rattle.tile_body.specs.Tiles.{features_told, count_at, counts_at, table_bytes}
use Rattle.tile_body.proofs.Classes.{drop-next}
use Rattle.way_delta.proofs.Writing.{Completes, completes-part, completes-more, completes-all, completes-front}

-- ---- counting

-- how many of some features are of a class and a zoom level, as a total
abbrev at_zoom : (Feature → Bool) → Interval → ℕ → Feature → ℕ
at_zoom class interval z f = cond (class f) (cond (raised_zoom interval f.zoom == z) 1 0) 0

count-is : (class : Feature → Bool) (interval : Interval) (z : ℕ) (fs : List Feature)
    → count_at class interval z fs ≡ total (at_zoom class interval z) fs
count-is class interval z fs =
    count-total (λ g. raised_zoom interval g.zoom == z) (filter class fs) ∙ by_class fs
  where
    by_class : (fs : List Feature)
        → total (λ (g : Feature). cond (raised_zoom interval g.zoom == z) 1 0) (filter class fs)
        ≡ total (at_zoom class interval z) fs
    by_class [] = refl
    by_class (f ∷ fs) = by_test (class f) (by_class fs)
      where
        by_test : (b : Bool)
            → total (λ (g : Feature). cond (raised_zoom interval g.zoom == z) 1 0) (filter class fs)
            ≡ total (at_zoom class interval z) fs
            → total (λ (g : Feature). cond (raised_zoom interval g.zoom == z) 1 0)
            (cond b (f ∷ filter class fs) (filter class fs))
            ≡ cond b (cond (raised_zoom interval f.zoom == z) 1 0) 0 + total (at_zoom class interval z) fs
        by_test true more = omega (arith, more)
        by_test false more = omega (arith, more)

-- What is counted and what is left to be counted are the numbers of all.
pub record CountsSoFar (class : Feature → Bool) (interval : Interval) (records : List Record) (i : ℕ)
    (counts : List ℕ) : Type 0 where
  pub wide : length counts ≡ 22
  pub sum : (z : ℕ) → z < 22 → get_or counts z 0 + count_at class interval z (features_told (drop i records))
      ≡ count_at class interval z (features_told records)
  pub few : (z : ℕ) → get_or counts z 0 ≤ i

one_more-at : (counts : List ℕ) (zoom z : ℕ) → zoom < length counts
    → get_or (one_more counts zoom) z 0 ≡ get_or counts z 0 + cond (zoom == z) 1 0
one_more-at counts zoom z within =
    elim (cases_eq zoom z) [
      | inl same ↦
          let here = get_or-set_same counts zoom (get_or counts zoom 0 + 1) 0 within in
          rw (eq-eqb zoom z same) (ap (λ k. get_or (one_more counts zoom) k 0) (sym same) ∙ here
          ∙ ap (λ k. get_or counts k 0 + 1) same)
      | inr other ↦
          let here = get_or-set_other counts zoom z (get_or counts zoom 0 + 1) 0 (λ e. other (sym e)) in
          rw (ne_eqb zoom z other) (omega (arith, here))
    ]

count-next : (class : Feature → Bool) (interval : Interval) (z : ℕ) (records : List Record) (i : ℕ) (r : Record)
    → Some r ≡ slice_get records i → count_at class interval z (features_told (drop i records))
    ≡ at_zoom class interval z (feature_told r) + count_at class interval z (features_told (drop (i + 1) records))
count-next class interval z records i r is =
    let all = ap (λ rs. count_at class interval z (features_told rs)) (drop-next records i r is) in
    let front = count-is class interval z (features_told (r ∷ drop (i + 1) records)) in
    let rest = count-is class interval z (features_told (drop (i + 1) records)) in
    omega (arith, all, front, rest)

at_most_one : (b : Bool) → cond b 1 0 ≤ 1
at_most_one true = omega arith
at_most_one false = omega arith

pub counts-more : (class : Feature → Bool) (interval : Interval) (records : List Record) (i : ℕ) (r : Record)
    (counts next : List ℕ) → Some r ≡ slice_get records i → (feature_told r).zoom ≤ interval.max
    → interval.min ≤ interval.max → interval.max ≤ 21
    → next ≡ counted_if (class (feature_told r)) counts (raised_zoom interval (feature_told r).zoom)
    → CountsSoFar class interval records i counts → CountsSoFar class interval records (i + 1) next
counts-more class interval records i r counts next is low range top e h =
    subst (CountsSoFar class interval records (i + 1)) (sym e) (by_class (class (feature_told r)) refl)
  where
    within : raised_zoom interval (feature_told r).zoom < length counts
    within = let wide = h.wide in omega (arith, wide, low, range, top)

    by_class : (b : Bool) → class (feature_told r) ≡ b
        → CountsSoFar class interval records (i + 1)
        (cond b (one_more counts (raised_zoom interval (feature_told r).zoom)) counts)
    by_class true is_of = record {
      wide = length-set counts (raised_zoom interval (feature_told r).zoom)
          (get_or counts (raised_zoom interval (feature_told r).zoom) 0 + 1) ∙ h.wide;
      sum = λ z small.
          let sum = h.sum z small in
          let here = one_more-at counts (raised_zoom interval (feature_told r).zoom) z within in
          let all = count-next class interval z records i r is in
          let one = ap {B = ℕ} (λ b. cond b (cond (raised_zoom interval (feature_told r).zoom == z) 1 0) 0) is_of in
          omega (arith, sum, here, all, one);
      few = λ z.
          let few = h.few z in
          let here = one_more-at counts (raised_zoom interval (feature_told r).zoom) z within in
          let one = at_most_one (raised_zoom interval (feature_told r).zoom == z) in
          omega (arith, few, here, one);
    }
    by_class false is_of = record {
      wide = h.wide;
      sum = λ z small.
          let sum = h.sum z small in
          let all = count-next class interval z records i r is in
          let one = ap {B = ℕ} (λ b. cond b (cond (raised_zoom interval (feature_told r).zoom == z) 1 0) 0) is_of in
          omega (arith, sum, all, one);
      few = λ z. let few = h.few z in omega (arith, few);
    }

pub counts-record : (class : Feature → Bool) (interval : Interval) (records : List Record) (i : ℕ) (r : Record)
    (head : Head) (belongs : Bool) (counts next : List ℕ) → Some r ≡ slice_get records i → head ≡ r.head
    → class (feature_told r) ≡ belongs → r.head.zoom ≤ interval.max → interval.min ≤ interval.max
    → interval.max ≤ 21 → next ≡ counted_if belongs counts (raised_zoom interval head.zoom)
    → CountsSoFar class interval records i counts → CountsSoFar class interval records (i + 1) next
unfolding feature_told candidate_told
counts-record class interval records i r head belongs counts next is same is_of low range top e h =
    counts-more class interval records i r counts next is low range top
    (e ∙ ap (λ (one : Head). counted_if belongs counts (raised_zoom interval one.zoom)) same
    ∙ ap (λ b. counted_if b counts (raised_zoom interval r.head.zoom)) (sym is_of)) h

-- one more is counted, or is not
pub counted-yes : (belongs : Bool) (counts : List ℕ) (zoom level : ℕ) → belongs ≡ true → level ≡ zoom
    → slice_set counts level (get_or counts level 0 + 1) ≡ counted_if belongs counts zoom
counted-yes belongs counts zoom level is e =
    ap (one_more counts) e ∙ ap (λ b. counted_if b counts zoom) (sym is)

pub counted-no : (belongs : Bool) (counts : List ℕ) (zoom : ℕ) → belongs ≡ false
    → counts ≡ counted_if belongs counts zoom
counted-no belongs counts zoom is = ap (λ b. counted_if b counts zoom) (sym is)

-- ---- putting

module _ (pois ways : List ℕ) (interval : Interval) where
  -- the numbers of the zoom levels from this one on
  pub from_level : ℕ → List ℕ
  from_level zoom = flat_map (level_bytes pois ways) (range_with_len zoom (suc interval.max - zoom))

  from-next : (zoom : ℕ) → zoom ≤ interval.max
      → from_level zoom
      ≡ vbe_unsigned (get_or pois zoom 0) ++ (vbe_unsigned (get_or ways zoom 0) ++ from_level (zoom + 1))
  unfolding from_level
  from-next zoom low =
      let n : suc interval.max - zoom ≡ suc (interval.max - zoom) = omega (arith, low) in
      let m : interval.max - zoom ≡ suc interval.max - (zoom + 1) = omega (arith, low) in
      ap (λ k. flat_map (level_bytes pois ways) (range_with_len zoom k)) n
      ∙ ap (λ k. level_bytes pois ways zoom ++ flat_map (level_bytes pois ways) (range_with_len (zoom + 1) k)) m
      ∙ append_assoc (vbe_unsigned (get_or pois zoom 0)) (vbe_unsigned (get_or ways zoom 0))
      (flat_map (level_bytes pois ways) (range_with_len (zoom + 1) (suc interval.max - (zoom + 1))))

-- What is still to be put of the zoom levels completes them.
pub record PutsLevels (now first : Buffer) (pois ways : List ℕ) (interval : Interval) (zoom : ℕ) : Type 0 where
  pub completes : Completes now first (from_level pois ways interval zoom) (levels_bytes pois ways interval)
  pub within : zoom ≤ suc interval.max

pub levels-none : (first : Buffer) (pois ways : List ℕ) (interval : Interval) → interval.min ≤ interval.max
    → PutsLevels first first pois ways interval interval.min
unfolding levels_bytes from_level
levels-none first pois ways interval range = record {
  completes = record { bytes = refl; capacity = refl };
  within = omega (arith, range);
}

module _ (now first : Buffer) (pois ways : List ℕ) (interval : Interval) (zoom : ℕ) (low : zoom ≤ interval.max)
    (h : PutsLevels now first pois ways interval zoom) where
  pub first-room : HasRoom first (length (levels_bytes pois ways interval) + 10) → HasRoom now 10
  first-room room =
      let front = completes-front now first (from_level pois ways interval zoom)
      (vbe_unsigned (get_or pois zoom 0))
      (vbe_unsigned (get_or ways zoom 0) ++ from_level pois ways interval (zoom + 1))
      (levels_bytes pois ways interval) 10 (from-next pois ways interval zoom low) h.completes room in
      omega (arith, front)

  middle : (next : Buffer) → AppendsTo now next (vbe_unsigned (get_or pois zoom 0))
      → Completes next first (vbe_unsigned (get_or ways zoom 0) ++ from_level pois ways interval (zoom + 1))
      (levels_bytes pois ways interval)
  middle next put =
      completes-part now next first (from_level pois ways interval zoom) (vbe_unsigned (get_or pois zoom 0))
      (vbe_unsigned (get_or ways zoom 0) ++ from_level pois ways interval (zoom + 1))
      (levels_bytes pois ways interval) (from-next pois ways interval zoom low) h.completes put

  pub second-room : (next : Buffer) → AppendsTo now next (vbe_unsigned (get_or pois zoom 0))
      → HasRoom first (length (levels_bytes pois ways interval) + 10) → HasRoom next 10
  second-room next put room =
      let front = completes-front next first
      (vbe_unsigned (get_or ways zoom 0) ++ from_level pois ways interval (zoom + 1))
      (vbe_unsigned (get_or ways zoom 0)) (from_level pois ways interval (zoom + 1))
      (levels_bytes pois ways interval) 10 refl (middle next put) room in
      omega (arith, front)

  pub levels-more : (next last : Buffer) → AppendsTo now next (vbe_unsigned (get_or pois zoom 0))
      → AppendsTo next last (vbe_unsigned (get_or ways zoom 0))
      → PutsLevels last first pois ways interval (zoom + 1)
  levels-more next last one two = record {
    completes = completes-more next last first (vbe_unsigned (get_or ways zoom 0))
        (from_level pois ways interval (zoom + 1)) (levels_bytes pois ways interval) (middle next one) two;
    within = omega (arith, low);
  }

pub levels-all : (now first : Buffer) (pois ways : List ℕ) (interval : Interval) (zoom : ℕ) → interval.max < zoom
    → PutsLevels now first pois ways interval zoom → AppendsTo first now (levels_bytes pois ways interval)
unfolding from_level
levels-all now first pois ways interval zoom past h =
    let none : suc interval.max - zoom ≡ 0 = omega (arith, past) in
    completes-all now first (from_level pois ways interval zoom) (levels_bytes pois ways interval)
    (ap (λ k. flat_map (level_bytes pois ways) (range_with_len zoom k)) none) h.completes

-- the numbers that were counted are those of the table
module _ (interval : Interval) (fs : List Feature) (pois ways : List ℕ) where
  same-levels : AreCounts is_poi interval fs pois → AreCounts is_way interval fs ways → (a n : ℕ) → a + n ≤ 22
      → flat_map (level_bytes pois ways) (range_with_len a n) ≡ flat_map (counts_at interval fs) (range_with_len a n)
  same-levels p w a zero within = refl
  same-levels p w a (suc n) within =
      λ i. (vbe_unsigned (p a (omega (arith, within)) i) ++ vbe_unsigned (w a (omega (arith, within)) i))
      ++ same-levels p w (a + 1) n (omega (arith, within)) i

  pub table-is : interval.min ≤ interval.max → interval.max ≤ 21 → AreCounts is_poi interval fs pois
      → AreCounts is_way interval fs ways → levels_bytes pois ways interval ≡ table_bytes interval fs
  unfolding levels_bytes table_bytes
  table-is range top p w =
      same-levels p w interval.min (suc interval.max - interval.min) (omega (arith, range, top))
