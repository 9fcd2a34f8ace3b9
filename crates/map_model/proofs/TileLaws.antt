-- The tiles of a rectangle by their places, the tiles of two rectangles, and the texts of entries.
use Rattle.std.proofs.Common.{◌≡◌, ℕ, zero, suc, ◌+◌, ◌-◌, ◌*◌, ◌<◌, ◌≤◌, List, [], ◌∷◌, ◌++◌, map, length, refl, sym}
use Rattle.std.proofs.Common.{ap, ◌∙◌, arith, true, false, Some, None, length-append}
use Rattle.std.specs.Prelude.{Bool, not, ◌&&◌, ◌==◌, max, min, cond, IsTrue, flat_map, slice_get, leb, ◌↔◌}
use Rattle.std.specs.List.{range_with_len, position_or_len}
use Rattle.std.proofs.lemmas.Option.{cond_some}
use Rattle.std.proofs.lemmas.Bool.{le-leb, leb-true, ne_eqb, eqb-false, and_parts, or_parts, not-true}
use Rattle.std.proofs.lemmas.List.{length-map, take_at}
use Rattle.std.proofs.Math.Seq.{drop-append-add}
use Rattle.std.proofs.lemmas.List.FromFn.{length-range_with_len}
use Rattle.mf_base.specs.declared.tile.TileRect.{TileRect}
use Rattle.mf_base.specs.Texts.{Text, has_byte}
use Rattle.feature_model.specs.Mapping.{Entry}
use Rattle.map_model.specs.TileRects.{has_tile, common, tiles_of, entry_place, tile_count}
use Rattle.map_model.specs.TagLists.{entry_text, tag_key, tag_value}

-- ---- lists

get-left : {X : Type 0} (xs ys : List X) (i : ℕ) → i < length xs → slice_get (xs ++ ys) i ≡ slice_get xs i
get-left [] ys i lt = absurd (omega (arith, lt))
get-left (x ∷ xs) ys zero lt = refl
get-left (x ∷ xs) ys (suc i) lt = get-left xs ys i (omega (arith, lt))

get-right : {X : Type 0} (xs ys : List X) (i : ℕ) → slice_get (xs ++ ys) (length xs + i) ≡ slice_get ys i
get-right [] ys i = ap (slice_get ys) (omega arith)
get-right (x ∷ xs) ys i = ap (slice_get (x ∷ (xs ++ ys))) {y = suc (length xs + i)} (omega arith) ∙ get-right xs ys i

-- ---- tiles of a rectangle

row_of : ℕ → ℕ → ℕ → List (ℕ × ℕ)
row_of a width y = map (λ x. (x, y)) (range_with_len a width)

row-length : (a width y : ℕ) → length (row_of a width y) ≡ width
unfolding row_of
row-length a width y = length-map (range_with_len a width) (λ x. (x, y)) ∙ length-range_with_len a width

row-get : (a width y j : ℕ) → j < width → slice_get (row_of a width y) j ≡ Some (a + j, y)
unfolding row_of
row-get a zero y j lt = absurd (omega (arith, lt))
row-get a (suc width) y zero lt = ap (λ n. Some (n, y)) (omega arith)
row-get a (suc width) y (suc j) lt = row-get (a + 1) width y j (omega (arith, lt)) ∙ ap (λ n. Some (n, y)) (omega arith)

grid : ℕ → ℕ → ℕ → ℕ → List (ℕ × ℕ)
grid a width b height = flat_map (row_of a width) (range_with_len b height)

grid-length : (a width b height : ℕ) → length (grid a width b height) ≡ width * height
unfolding grid
grid-length a width b zero = omega arith
grid-length a width b (suc height) =
    let here = row-length a width b in
    let rest = grid-length a width (b + 1) height in
    length-append (row_of a width b) (grid a width (b + 1) height) ∙ omega (arith, here, rest)

grid-get : (a width b height i j : ℕ) → i < height → j < width
    → slice_get (grid a width b height) (i * width + j) ≡ Some (a + j, b + i)
unfolding grid
grid-get a width b zero i j li lj = absurd (omega (arith, li))
grid-get a width b (suc height) zero j li lj =
    get-left (row_of a width b) (grid a width (b + 1) height) (0 * width + j) (let e = row-length a width b in
    omega (arith, e, lj))
    ∙ ap (slice_get (row_of a width b)) (omega arith) ∙ row-get a width b j lj ∙ ap (λ n. Some (a + j, n)) (omega arith)
grid-get a width b (suc height) (suc i) j li lj =
    ap (slice_get (grid a width b (suc height))) (let e = row-length a width b in omega (arith, e))
    ∙ get-right (row_of a width b) (grid a width (b + 1) height) (i * width + j)
    ∙ grid-get a width (b + 1) height i j (omega (arith, li)) lj
    ∙ ap (λ n. Some (a + j, n)) (omega arith)

pub tiles-length : (t : TileRect) → length (tiles_of t) ≡ tile_count t
unfolding tiles_of grid row_of
tiles-length t = grid-length t.first_x (suc t.last_x - t.first_x) t.first_y (suc t.last_y - t.first_y)

-- a tile lies in a rectangle
record In (t : TileRect) (x y : ℕ) : Type 0 where
  west : t.first_x ≤ x
  east : x ≤ t.last_x
  north : t.first_y ≤ y
  south : y ≤ t.last_y

within : (t : TileRect) (x y : ℕ) → IsTrue (has_tile t x y) → In t x y
within t x y h =
    let abc = and_parts (leb t.first_x x && leb x t.last_x && leb t.first_y y) (leb y t.last_y) h in
    let ab = and_parts (leb t.first_x x && leb x t.last_x) (leb t.first_y y) abc.0 in
    let a = and_parts (leb t.first_x x) (leb x t.last_x) ab.0 in
    record {
      west = leb-true t.first_x x a.0;
      east = leb-true x t.last_x a.1;
      north = leb-true t.first_y y ab.1;
      south = leb-true y t.last_y abc.1;
    }

lies : (t : TileRect) (x y : ℕ) → In t x y → IsTrue (has_tile t x y)
lies t x y h = rw (
  le-leb t.first_x x h.west,
  le-leb x t.last_x h.east,
  le-leb t.first_y y h.north,
  le-leb y t.last_y h.south,
) refl

pub tile-at_place : (t : TileRect) (x y : ℕ) → IsTrue (has_tile t x y)
    → slice_get (tiles_of t) (entry_place t x y) ≡ Some (x, y)
unfolding tiles_of grid row_of
tile-at_place t x y h =
    let is = within t x y h in
    let west = is.west in
    let east = is.east in
    let north = is.north in
    let south = is.south in
    grid-get t.first_x (suc t.last_x - t.first_x) t.first_y (suc t.last_y - t.first_y) (y - t.first_y) (x - t.first_x)
    (omega (arith, north, south)) (omega (arith, west, east))
    ∙ (λ i. Some (column i, line i))
  where
    column : t.first_x + (x - t.first_x) ≡ x
    column = let west = (within t x y h).west in omega (arith, west)

    line : t.first_y + (y - t.first_y) ≡ y
    line = let north = (within t x y h).north in omega (arith, north)

-- ---- tiles of two rectangles

abbrev both_of : TileRect → TileRect → TileRect
both_of a b = record {
  z = a.z;
  first_x = max a.first_x b.first_x;
  last_x = min a.last_x b.last_x;
  first_y = max a.first_y b.first_y;
  last_y = min a.last_y b.last_y;
}

not_picked : (test : Bool) (r : TileRect) → cond test (Some r) None ≡ None → test ≡ false
not_picked true r e = absurd (cc e)
not_picked false r e = refl

both-parts : (a b : TileRect) (x y : ℕ) → In (both_of a b) x y → In a x y × In b x y
both-parts a b x y h =
    let west = h.west in
    let east = h.east in
    let north = h.north in
    let south = h.south in (
      record {
        west = omega (arith, west);
        east = omega (arith, east);
        north = omega (arith, north);
        south = omega (arith, south);
      },
      record {
        west = omega (arith, west);
        east = omega (arith, east);
        north = omega (arith, north);
        south = omega (arith, south);
      },
    )

parts-both : (a b : TileRect) (x y : ℕ) → In a x y → In b x y → In (both_of a b) x y
parts-both a b x y h k =
    let hw = h.west in
    let he = h.east in
    let hn = h.north in
    let hs = h.south in
    let kw = k.west in
    let ke = k.east in
    let kn = k.north in
    let ks = k.south in
    record {
      west = omega (arith, hw, kw);
      east = omega (arith, he, ke);
      north = omega (arith, hn, kn);
      south = omega (arith, hs, ks);
    }

pub common-both : (a b t : TileRect) → common a b ≡ Some t → (x y : ℕ) → IsTrue (has_tile t x y)
    ↔ (IsTrue (has_tile a x y) × IsTrue (has_tile b x y))
unfolding common
common-both a b t e x y =
    let is = (cond_some (leb (both_of a b).first_x (both_of a b).last_x
    && leb (both_of a b).first_y (both_of a b).last_y) (both_of a b) t e).1 in (
      (λ h. let parts = both-parts a b x y (within (both_of a b) x y (rw (sym is) at h)) in
          (lies a x y parts.0, lies b x y parts.1)),
      (λ h. rw (sym is) (lies (both_of a b) x y (parts-both a b x y (within a x y h.0) (within b x y h.1)))),
    )

pub common-some : (a b t : TileRect) → common a b ≡ Some t → IsTrue (has_tile t t.first_x t.first_y)
unfolding common
common-some a b t e =
    let is = cond_some (leb (both_of a b).first_x (both_of a b).last_x
    && leb (both_of a b).first_y (both_of a b).last_y) (both_of a b) t e in
    let sides = and_parts (leb (both_of a b).first_x (both_of a b).last_x)
    (leb (both_of a b).first_y (both_of a b).last_y) is.0 in
    let wide = leb-true (both_of a b).first_x (both_of a b).last_x sides.0 in
    let high = leb-true (both_of a b).first_y (both_of a b).last_y sides.1 in
    rw (sym is.1) (lies (both_of a b) (both_of a b).first_x (both_of a b).first_y
    (record { west = omega arith; east = wide; north = omega arith; south = high }))

pub common-none : (a b : TileRect) → common a b ≡ None → (x y : ℕ) → IsTrue (has_tile a x y) → IsTrue (has_tile b x y)
    → ⊥
unfolding common
common-none a b e x y h k =
    let is = parts-both a b x y (within a x y h) (within b x y k) in
    let west = is.west in
    let east = is.east in
    let north = is.north in
    let south = is.south in
    let none = not_picked (leb (both_of a b).first_x (both_of a b).last_x
    && leb (both_of a b).first_y (both_of a b).last_y) (both_of a b) e in
    absurd (cc (none, some (omega (arith, west, east)) (omega (arith, north, south))))
  where
    some : (both_of a b).first_x ≤ (both_of a b).last_x → (both_of a b).first_y ≤ (both_of a b).last_y
        → (leb (both_of a b).first_x (both_of a b).last_x && leb (both_of a b).first_y (both_of a b).last_y) ≡ true
    some wide high =
        rw (
          le-leb (both_of a b).first_x (both_of a b).last_x wide,
          le-leb (both_of a b).first_y (both_of a b).last_y
              high,
        ) refl

pub ruleset tile_laws = (tiles-length, tile-at_place, common-some, common-none)

-- ---- texts of entries

first_equals : (key value : Text) → has_byte 61 key ≡ false
    → position_or_len (λ b. b == 61) (key ++ 61 ∷ value) ≡ length key
first_equals [] value none = refl
first_equals (k ∷ key) value none =
    let parts = or_parts (61 == k) (has_byte 61 key) none in
    rw (ne_eqb k 61 (λ same. eqb-false 61 k parts.0 (sym same)), first_equals key value parts.1) (omega arith)

pub entry-key : (e : Entry) → IsTrue (not (has_byte 61 e.key)) → tag_key (entry_text e) ≡ e.key
entry-key e none =
    rw (first_equals e.key e.value (not-true (has_byte 61 e.key) none))
    (take_at e.key (61 ∷ e.value) (length e.key) refl)

pub entry-value : (e : Entry) → IsTrue (not (has_byte 61 e.key)) → tag_value (entry_text e) ≡ e.value
entry-value e none =
    rw (first_equals e.key e.value (not-true (has_byte 61 e.key) none)) (drop-append-add e.key (61 ∷ e.value) 1)

pub ruleset entry_laws = (entry-key, entry-value)
