-- A reader of the ordered rows takes them member by member and tile by tile.
use Rattle.std.proofs.Common.{◌≡◌, ℕ, List, [], ◌∷◌, ◌++◌, refl, sym, ap, ◌∙◌, subst, arith, true, false}
use Rattle.std.proofs.Common.{inl, inr, append_assoc}
use Rattle.std.specs.Prelude.{flat_map, ◌==◌, ◌&&◌, IsTrue, AllPairs}
use Rattle.std.specs.List.{enumerate_from, AllByRecursion}
use Rattle.std.proofs.lemmas.List.{append-nil}
use Rattle.std.proofs.lemmas.Bool.{and_parts, eqb-true, eq-eqb, false≢true}
use Rattle.mf_base.specs.declared.place.Rect.{Rect}
use Rattle.mf_base.specs.declared.tile.TilePlace.{TilePlace}
use Rattle.mf_base.proofs.Pairs.{EachPair, each_pair, all_pairs}
use Rattle.feature_model.proofs.Rising.{all-flat_map, all-map, all-from, all-imp, rises-after}
use Rattle.map_model.specs.Header.{HeadSettings}
use Rattle.map_model.specs.MapFile.{all_tiles}
use Rattle.map_model.specs.NumberedMembers.{TileBelow, members_by}
use Rattle.map_model.proofs.AllTiles.{tiles-rise}
use Rattle.mf_rows.specs.Units.{Unit16}
use Rattle.mf_rows.specs.declared.kinds.ShapeRow.{ShapeRow}
use Rattle.mf_rows.specs.declared.kinds.TileRow.{TileRow}
use Rattle.spill_parts.specs.Shaped.{Spelled, shape_row_of, shape_rows}
use Rattle.unit_rows.specs.Runs.{BeginsRecord}
use Rattle.unit_rows.proofs.RunsOf.{rows_at}
use Rattle.tile_rows.specs.TileRows.{shown, unit_row, member_rows, tile_rows, rows_of_tiles}
use Rattle.tile_rows.specs.Reading.{is_row_of, rows_from, BeginsMember, BeginsFeature}
use Rattle.tile_rows.proofs.RecordRuns.{cons-head, HasFirst, has-first, begin-rows, run}

-- the rows of a member come before those that follow it
member-next : (list : List Spelled) (tile : TilePlace) (s : Spelled) (more : List Spelled) (later : List TilePlace)
    → rows_from list tile (s ∷ more) later ≡ member_rows tile s ++ rows_from list tile more later
member-next list tile s more later =
    append_assoc (member_rows tile s) (flat_map (member_rows tile) more) (rows_of_tiles list later)

-- so its first row is the next
member-first : (list : List Spelled) (tile : TilePlace) (s : Spelled) (more : List Spelled) (later : List TilePlace)
    (h : HasFirst (unit_row tile) s) → rows_from list tile (s ∷ more) later
    ≡ unit_row tile s 0 h.first ∷ (rows_at (unit_row tile s) 1 h.others ++ rows_from list tile more later)
unfolding member_rows
member-first list tile s more later h = member-next list tile s more later
    ∙ ap (λ (rows : List TileRow). rows ++ rows_from list tile more later) h.rows_are

begin-tiles : (list : List Spelled) (tiles : List TilePlace)
    → BeginsRecord (λ (r : TileRow). r.place) (rows_of_tiles list tiles)
unfolding rows_of_tiles tile_rows member_rows
begin-tiles list [] = tt
begin-tiles list (t ∷ tiles) =
    begin-rows (unit_row t) (λ (r : TileRow). r.place) (λ s n u. refl) (members_by shown list t)
    (flat_map (tile_rows list) tiles) (begin-tiles list tiles)

-- a unit of a feature as a row of shapes
abbrev shape_row : Spelled → ℕ → Unit16 → ShapeRow
shape_row s place unit = shape_row_of s.told.head.number (place, unit)

-- ---- whose a row is

own-tile : (tile : TilePlace) (s : Spelled) (place : ℕ) (unit : Unit16)
    → is_row_of tile (unit_row tile s place unit) ≡ true
own-tile tile s place unit =
    rw (eq-eqb tile.index tile.index refl, eq-eqb tile.y tile.y refl, eq-eqb tile.x tile.x refl) refl

apart : (t u : TilePlace) → u.index ≡ t.index → u.y ≡ t.y → u.x ≡ t.x → TileBelow t u → ⊥
apart t u index y x (inl lt) = omega (arith, index, lt)
apart t u index y x (inr (same, inl lt)) = omega (arith, y, lt)
apart t u index y x (inr (same, inr (line, inl lt))) = omega (arith, x, lt)
apart t u index y x (inr (same, inr (line, inr (column, none)))) = none

other-tile : (t u : TilePlace) (s : Spelled) (place : ℕ) (unit : Unit16) → TileBelow t u
    → is_row_of t (unit_row u s place unit) ≡ true → ⊥
other-tile t u s place unit below h =
    let both = and_parts (u.index == t.index && u.y == t.y) (u.x == t.x) h in
    let front = and_parts (u.index == t.index) (u.y == t.y) both.0 in
    apart t u (eqb-true u.index t.index front.0) (eqb-true u.y t.y front.1) (eqb-true u.x t.x both.1) below

-- The rows of later tiles are of other tiles.
later-apart : (list : List Spelled) (tile : TilePlace) (later : List TilePlace)
    → AllByRecursion (TileBelow tile) later
    → AllByRecursion (λ row. is_row_of tile row ≡ true → ⊥) (rows_of_tiles list later)
unfolding rows_of_tiles tile_rows member_rows
later-apart list tile later below =
    all-flat_map (λ row. is_row_of tile row ≡ true → ⊥) (tile_rows list) later
    (all-imp (TileBelow tile) (λ u. AllByRecursion (λ row. is_row_of tile row ≡ true → ⊥) (tile_rows list u))
    of_tile later below)
  where
    of_member : (u : TilePlace) → TileBelow tile u → (s : Spelled)
        → AllByRecursion (λ row. is_row_of tile row ≡ true → ⊥) (member_rows u s)
    of_member u h s =
        all-map (λ row. is_row_of tile row ≡ true → ⊥) (λ (at : ℕ × Unit16). unit_row u s at.0 at.1)
        (enumerate_from 0 s.units)
        (all-from (λ at. is_row_of tile (unit_row u s at.0 at.1) ≡ true → ⊥)
        (λ at. other-tile tile u s at.0 at.1 h) (enumerate_from 0 s.units))

    of_tile : (u : TilePlace) → TileBelow tile u
        → AllByRecursion (λ row. is_row_of tile row ≡ true → ⊥) (tile_rows list u)
    of_tile u h =
        all-flat_map (λ row. is_row_of tile row ≡ true → ⊥) (member_rows u) (members_by shown list u)
        (all-from (λ s. AllByRecursion (λ row. is_row_of tile row ≡ true → ⊥) (member_rows u s)) (of_member u h)
        (members_by shown list u))

-- ---- the steps of a reader

pub tiles-later : (set : HeadSettings) (box : Rect) (before : List TilePlace) (tile : TilePlace)
    (later : List TilePlace) → all_tiles set box ≡ before ++ tile ∷ later → AllPairs TileBelow (tile ∷ later)
tiles-later set box before tile later e = all_pairs TileBelow (tile ∷ later)
    (rises-after TileBelow before (tile ∷ later) (subst (EachPair TileBelow) e (tiles-rise set box)))

pub at_tile : (list : List Spelled) (tile : TilePlace) (later : List TilePlace)
    → rows_of_tiles list (tile ∷ later) ≡ rows_from list tile (members_by shown list tile) later
unfolding rows_of_tiles tile_rows
at_tile list tile later = refl

pub past_tile : (list : List Spelled) (tile : TilePlace) (later : List TilePlace)
    → rows_from list tile [] later ≡ rows_of_tiles list later
past_tile list tile later = refl

-- A row of the tile begins the next member.
pub row-begins : (list : List Spelled) (tile : TilePlace) (rest : List Spelled) (later : List TilePlace)
    (row : TileRow) (left : List TileRow) → AllPairs TileBelow (tile ∷ later)
    → row ∷ left ≡ rows_from list tile rest later → IsTrue (is_row_of tile row)
    → BeginsMember list tile rest later row left
unfolding member_rows
row-begins list tile [] later row left below e of =
    absurd ((subst (AllByRecursion (λ row. is_row_of tile row ≡ true → ⊥)) (sym e)
    (later-apart list tile later (each_pair TileBelow (tile ∷ later) below).0)).0 of)
row-begins list tile (s ∷ more) later row left below e of =
    let told = run (unit_row tile) (λ (r : TileRow). r.place) (λ s n u. refl) (λ (r : TileRow). r.unit)
    (λ s n u. refl) s (rows_from list tile more later) row left
    (begin-rows (unit_row tile) (λ (r : TileRow). r.place) (λ s n u. refl) more (rows_of_tiles list later)
    (begin-tiles list later)) (e ∙ member-next list tile s more later) in
    record { member = s; more = more; rest_are = refl; units_are = told.0; left_are = told.1 }

-- A row of another tile comes behind the last member.
pub tile-ends : (list : List Spelled) (tile : TilePlace) (rest : List Spelled) (later : List TilePlace)
    (row : TileRow) (left : List TileRow) → row ∷ left ≡ rows_from list tile rest later
    → is_row_of tile row ≡ false → rest ≡ []
tile-ends list tile [] later row left e off = refl
tile-ends list tile (s ∷ more) later row left e off =
    let h = has-first (unit_row tile) s in
    let first : row ≡ unit_row tile s 0 h.first = cons-head (e ∙ member-first list tile s more later h) in
    absurd (false≢true (sym off ∙ ap (is_row_of tile) first ∙ own-tile tile s 0 h.first))

-- So does the end of the rows.
pub rows-end : (list : List Spelled) (tile : TilePlace) (rest : List Spelled) (later : List TilePlace)
    → [] ≡ rows_from list tile rest later → rest ≡ []
rows-end list tile [] later e = refl
rows-end list tile (s ∷ more) later e =
    let none = e ∙ member-first list tile s more later (has-first (unit_row tile) s) in absurd (cc none)

-- ---- the rows of features

-- The rows of features, taken feature by feature.
pub feature-begins : (list : List Spelled) (row : ShapeRow) (left : List ShapeRow)
    → row ∷ left ≡ flat_map shape_rows list → BeginsFeature list row left
feature-begins [] row left e = absurd (cc e)
feature-begins (s ∷ more) row left e =
    let told = run shape_row (λ (r : ShapeRow). r.place) (λ s n u. refl) (λ (r : ShapeRow). r.unit) (λ s n u. refl) s
    (flat_map shape_rows more) row left begins e in
    record { feature = s; more = more; list_is = refl; units_are = told.0; left_are = told.1 }
  where
    begins : BeginsRecord (λ (r : ShapeRow). r.place) (flat_map shape_rows more)
    begins = subst (BeginsRecord (λ (r : ShapeRow). r.place)) (append-nil (flat_map shape_rows more))
        (begin-rows shape_row (λ (r : ShapeRow). r.place) (λ s n u. refl) more [] tt)

pub features-end : (list : List Spelled) → [] ≡ flat_map shape_rows list → list ≡ []
features-end [] e = refl
features-end (s ∷ more) e =
    let none = e ∙ ap (λ (rows : List ShapeRow). rows ++ flat_map shape_rows more) (has-first shape_row s).rows_are in
    absurd (cc none)
