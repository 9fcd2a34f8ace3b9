-- A feature is put in one interval after another.
use Rattle.std.proofs.Common.{◌≡◌, ℕ, zero, suc, ◌+◌, ◌≤◌, ◌<◌, List, [], ◌∷◌, ◌++◌, length, drop, get_or}
use Rattle.std.proofs.Common.{refl, sym, ap, subst, ◌∙◌, arith}
use Rattle.std.specs.Prelude.{IsTrue, leb, ◌&&◌, ◌==◌, zip}
use Rattle.std.specs.List.{list_all}
use Rattle.std.proofs.lemmas.Bool.{leb-true, and_parts}
use Rattle.map_model.specs.Intervals.{is_zoom_range, are_intervals}
use Rattle.std.proofs.lemmas.List.{append-nil}
use Rattle.mf_base.specs.declared.place.Rect.{Rect}
use Rattle.mf_base.specs.declared.tile.Interval.{Interval}
use Rattle.mf_edge.specs.Spill.{SpillState}
use Rattle.mf_rows.specs.Units.{Unit16}
use Rattle.mf_rows.specs.declared.head.Head.{Head}
use Rattle.mf_rows.specs.declared.kinds.TileRow.{TileRow}
use Rattle.spill_parts.specs.Parts.{Part}
use Rattle.tile_spread.specs.Spread.{head_rows}
use Rattle.tile_spread.specs.Pass.{heads_from}
use Rattle.tile_spread.proofs.Putting.{IsPutting}

drop-next : {X : Type 0} (xs : List X) (i : ℕ) (d : X) → i < length xs → drop i xs ≡ get_or xs i d ∷ drop (suc i) xs
drop-next [] i d lt = absurd (omega (arith, lt))
drop-next (x ∷ xs) zero d lt = refl
drop-next (x ∷ xs) (suc i) d lt = drop-next xs i d (omega (arith, lt))

drop-none : {X : Type 0} (xs : List X) (i : ℕ) → length xs ≤ i → drop i xs ≡ []
drop-none [] zero le = refl
drop-none [] (suc i) le = refl
drop-none (x ∷ xs) zero le = absurd (omega (arith, le))
drop-none (x ∷ xs) (suc i) le = drop-none xs i (omega (arith, le))

-- ---- what holds of all intervals

low-bases : (intervals : List Interval) → IsTrue (list_all is_zoom_range intervals) → (i : ℕ) (d : Interval)
    → i < length intervals → (get_or intervals i d).base ≤ 16
low-bases [] h i d lt = absurd (omega (arith, lt))
low-bases (at ∷ intervals) h zero d lt =
    let both = and_parts (is_zoom_range at) (list_all is_zoom_range intervals) h in
    let abc = and_parts (leb at.min at.base && leb at.base at.max && leb at.base 16) (leb at.max 21) both.0 in
    let ab = and_parts (leb at.min at.base && leb at.base at.max) (leb at.base 16) abc.0 in
    leb-true at.base 16 ab.1
low-bases (at ∷ intervals) h (suc i) d lt =
    let both = and_parts (is_zoom_range at) (list_all is_zoom_range intervals) h in
    low-bases intervals both.1 i d (omega (arith, lt))

module _ (intervals : List Interval) (are : IsTrue (are_intervals intervals)) where
  three : IsTrue (leb 1 (length intervals) && leb (length intervals) 8 && list_all is_zoom_range intervals)
  three = (and_parts (leb 1 (length intervals) && leb (length intervals) 8 && list_all is_zoom_range intervals)
      (list_all (λ at. at.1.min == suc at.0.max) (zip intervals (drop 1 intervals))) are).0

  -- the base zoom of each is small
  pub base-small : (i : ℕ) (d : Interval) → i < length intervals → (get_or intervals i d).base ≤ 16
  base-small = low-bases intervals
      (and_parts (leb 1 (length intervals) && leb (length intervals) 8) (list_all is_zoom_range intervals) three).1

  -- and they are few
  pub few-intervals : length intervals ≤ 8
  few-intervals = let two = and_parts (leb 1 (length intervals) && leb (length intervals) 8)
      (list_all is_zoom_range intervals) three in
      leb-true (length intervals) 8 (and_parts (leb 1 (length intervals)) (leb (length intervals) 8) two.0).1

-- ---- what is left to put

module _ (box rect : Rect) (head : Head) (units : List Unit16) (intervals : List Interval) where
  -- what is left from an interval on
  abbrev pub heads_left : ℕ → List TileRow
  heads_left i = heads_from box rect head units i (drop i intervals)

  heads-next : (i : ℕ) (d : Interval) → i < length intervals
      → heads_left i ≡ head_rows box rect i (get_or intervals i d) head units ++ heads_left (i + 1)
  heads-next i d lt =
      ap (heads_from box rect head units i) (drop-next intervals i d lt)
      ∙ ap (λ j. head_rows box rect i (get_or intervals i d) head units
      ++ heads_from box rect head units (i + 1) (drop j intervals)) {x = suc i} {y = i + 1} (omega arith)

  pub split-heads : {all : List TileRow} {w w_now : Part TileRow} {s s_now : SpillState} (i : ℕ) (d : Interval)
      → i < length intervals → IsPutting all (heads_left i) w w_now s s_now
      → IsPutting all (head_rows box rect i (get_or intervals i d) head units ++ heads_left (i + 1)) w w_now s s_now
  split-heads {all} {w} {w_now} {s} {s_now} i d lt was =
      subst (λ rows. IsPutting all rows w w_now s s_now) (heads-next i d lt) was

  -- nothing is left
  pub heads-all : (i : ℕ) (now all : List TileRow) → length intervals ≤ i → now ++ heads_left i ≡ all → now ≡ all
  heads-all i now all le was =
      sym (ap (λ left. now ++ heads_from box rect head units i left) (drop-none intervals i le) ∙ append-nil now)
      ∙ was
