-- The rows of all tiles: from the first on, and none behind the last.
use Rattle.std.proofs.Common.{◌≡◌, ℕ, List, [], ◌∷◌, ◌++◌, length, true, None, Some, IsTrue, refl, sym, ◌∙◌, subst}
use Rattle.std.specs.Prelude.{nat_le, ◌&&◌, ◌==◌, suc, zip, drop, Option}
use Rattle.std.specs.List.{AllByRecursion, list_all}
use Rattle.std.proofs.Common.{rules}
use Rattle.std.specs.Prelude.{Result, Ok, Err, IfOk, OnOk}
use Rattle.std.proofs.lemmas.Bool.{and_parts}
use Rattle.std.proofs.lemmas.List.{append-nil}
use Rattle.mf_base.specs.declared.place.Rect.{Rect}
use Rattle.mf_base.specs.declared.tile.Interval.{Interval}
use Rattle.mf_base.specs.declared.tile.TilePlace.{TilePlace}
use Rattle.mf_edge.specs.Spill.{SpillState}
use Rattle.feature_model.specs.Features.{Feature}
use Rattle.feature_model.specs.declared.fault.LimitFault.{LimitFault}
use Rattle.map_model.specs.Header.{HeadSettings}
use Rattle.map_model.specs.Intervals.{is_zoom_range, are_intervals}
use Rattle.map_model.specs.MapFile.{all_tiles}
use Rattle.mf_rows.specs.declared.kinds.TileRow.{TileRow}
use Rattle.spill_parts.specs.Join.{rest_of}
use Rattle.spill_parts.specs.Shaped.{Spelled}
use Rattle.tile_rows.specs.TileRows.{rows_of_tiles}
use Rattle.mf_layout.specs.AllLaid.{LayAll, tiles_from}
use Rattle.mf_layout.specs.Laying.{AreToLay, tiles_fault}
use Rattle.mf_layout.specs.declared.laid.Laid.{Laid}
use Rattle.mf_layout.specs.declared.sub_files.SubFileSize.{SubFileSize}

-- the tiles of a map are those of its intervals
pub tiles-all : (set : HeadSettings) (box : Rect) → tiles_from box 0 set.intervals ++ [] ≡ all_tiles set box
unfolding all_tiles
tiles-all set box = append-nil (tiles_from box 0 set.intervals)

pub all-are : (set : HeadSettings) (box : Rect) → tiles_from box 0 set.intervals ≡ all_tiles set box
unfolding all_tiles
all-are set box = refl

-- each interval of a map is a range of zoom levels, and there are at most eight
ranges-of : (intervals : List Interval) → IsTrue (list_all is_zoom_range intervals)
    → AllByRecursion (λ (i : Interval). IsTrue (is_zoom_range i)) intervals
ranges-of [] h = tt
ranges-of (i ∷ intervals) h =
    let both = and_parts (is_zoom_range i) (list_all is_zoom_range intervals) h in
    (both.0, ranges-of intervals both.1)

pub ranges-all : (intervals : List Interval) → IsTrue (are_intervals intervals)
    → AllByRecursion (λ (i : Interval). IsTrue (is_zoom_range i)) intervals
ranges-all intervals h =
    let abc = and_parts (nat_le 1 (length intervals) && nat_le (length intervals) 8 && list_all is_zoom_range intervals)
    (list_all (λ at. at.1.min == suc at.0.max) (zip intervals (drop 1 intervals))) h in
    let ab = and_parts (nat_le 1 (length intervals) && nat_le (length intervals) 8) (list_all is_zoom_range intervals) abc.0
    in
    ranges-of intervals ab.1

-- no row is left behind the last tile
none-of : (list : List Spelled) → rows_of_tiles list [] ≡ []
unfolding rows_of_tiles
none-of list = refl

none-held : (held : Option TileRow) (left : List TileRow) → rest_of held left ≡ [] → held ≡ None
none-held None left e = refl
none-held (Some row) left e = search (e, rules)

pub none-left : (limit : ℕ) (list : List Spelled) (held : Option TileRow) (left : List TileRow)
    → AreToLay limit list [] (rest_of held left) → held ≡ None
none-left limit list held left to_lay = none-held held left (to_lay.left.rows_are ∙ none-of list)

-- the rows that are left before, as a store that tells its bytes has them, and those that are left now
pub lay-moved : (limit : ℕ) (box : Rect) (index : ℕ) (intervals : List Interval)
    (left left1 left_now left_now1 : List TileRow) (sizes sizes1 sizes_now : List SubFileSize) (laid laid_now : Laid)
    (a a1 b : SpillState) → (a.tells ≡ true → left1 ≡ left) → left_now1 ≡ left_now → sizes1 ≡ sizes → a1 ≡ a
    → LayAll limit box index intervals left1 left_now1 sizes1 sizes_now laid laid_now a1 b
    → LayAll limit box index intervals left left_now sizes sizes_now laid laid_now a b
lay-moved limit box index intervals left left1 left_now left_now1 sizes sizes1 sizes_now laid laid_now a a1 b e f s same
    lays =
    let at_sizes = subst (λ z. LayAll limit box index intervals left1 left_now1 z sizes_now laid laid_now a1 b) s lays in
    let at_left = subst (λ z. LayAll limit box index intervals left1 z sizes sizes_now laid laid_now a1 b) f at_sizes in
    let here = subst (λ z. LayAll limit box index intervals left1 left_now sizes sizes_now laid laid_now z b) same at_left
    in
    record {
      all = here.all;
      places_are = here.places_are;
      sizes_are = here.sizes_are;
      laid_are = here.laid_are;
      told = λ told list later to_lay. here.told told list later
          (subst (λ rows. AreToLay limit list (tiles_from box index intervals ++ later) rows) (sym (e told)) to_lay);
    }

-- what holds of a value holds of a result that can be this value alone
pub ok-map : {A E : Type 0} {a : A} (Holds : A → Type 0) (r : Result A E) → IfOk r (λ (x : A). x ≡ a) → Holds a
    → IfOk r Holds
ok-map Holds (Ok x) is held = subst Holds (sym is) held
ok-map Holds (Err e) is held = tt

-- what follows from what holds of a value
pub ok-then : {A E : Type 0} {P Q : A → Type 0} (r : Result A E) → ((x : A) → P x → Q x) → IfOk r P → IfOk r Q
ok-then (Ok x) then holds = then x holds
ok-then (Err e) then holds = tt

pub ok-both : {A E : Type 0} {P Q : A → Type 0} {R : Type 0} (r : Result A E) → ((x : A) → P x → R → Q x) → IfOk r P
    → OnOk r R → IfOk r Q
ok-both (Ok x) then holds also = then x holds also
ok-both (Err e) then holds also = tt

-- the first of all tiles over the limit, as the intervals have them
pub tiles-from : (limit : ℕ) (set : HeadSettings) (box : Rect) (features : List Feature) (f : LimitFault)
    → tiles_fault limit features (all_tiles set box) ≡ Some f
    → tiles_fault limit features (tiles_from box 0 set.intervals) ≡ Some f
tiles-from limit set box features f over =
    subst (λ (ts : List TilePlace). tiles_fault limit features ts ≡ Some f) (sym (all-are set box)) over
