-- What is written of a tile's members is a tile that a reader takes.
use Rattle.std.proofs.Common.{◌≡◌, ℕ, zero, suc, ◌+◌, ◌-◌, ◌<◌, ◌≤◌, List, [], ◌∷◌, ◌++◌, map, refl, sym, ap, ◌∙◌}
use Rattle.std.proofs.Common.{arith, inl, inr, true, false, append-nil}
use Rattle.std.specs.Prelude.{Bool, count_by, filter, flat_map, zip, ◌==◌, cond}
use Rattle.std.proofs.lemmas.Bool.{cases_Bool, eqb-true, cases_lt, ne_eqb}
use Rattle.std.specs.List.{range_with_len}
use Rattle.std.proofs.lemmas.List.{length-map, map-append}
use Rattle.std.proofs.lemmas.List.Sums.{length-filter}
use Rattle.std.proofs.lemmas.List.Elements.{filter-append}
use Rattle.std.proofs.lemmas.List.Folds.{flat_map-map}
use Rattle.std.proofs.lemmas.Simd.{map-map}
use Rattle.std.proofs.lemmas.Grind.{flat_map-append}
use Rattle.mf_base.specs.Spelling.{vbe_unsigned}
use Rattle.mf_base.specs.declared.place.Place.{Place}
use Rattle.mf_base.specs.declared.tile.Interval.{Interval}
use Rattle.mf_base.specs.declared.tile.TilePlace.{TilePlace}
use Rattle.feature_model.specs.Features.{Feature}
use Rattle.map_model.specs.Members.{is_poi, is_way, of_zoom, by_zoom, in_tile_order, in_tile, members}
use Rattle.map_model.specs.Intervals.{raised_zoom, zooms}
use Rattle.map_model.specs.Bitmap.{sub_tile_bits}
use Rattle.map_model.specs.Layout.{Level, sized, level_count_bytes, levels_bytes, poi_fields_bytes, way_fields_bytes}
use Rattle.map_model.specs.TileBytes.{poi_fields, poi_bytes, way_fields, way_bytes, tile_corner, tile_bytes}
use Rattle.map_model.specs.TileBytes.{written_level, written_levels}
use Rattle.map_model.specs.Listed.{Listed, poi, way, shown_poi, shown_way, shown_levels, listed}
use Rattle.map_model.specs.TagLists.{TagLists}

-- ---- lists

pub flat_map_ext : {A B : Type 0} (f g : A → List B) → ((x : A) → f x ≡ g x) → (xs : List A)
    → flat_map f xs ≡ flat_map g xs
flat_map_ext f g e [] = refl
flat_map_ext f g e (x ∷ xs) = λ i. e x i ++ flat_map_ext f g e xs i

map-flat_map : {A B C : Type 0} (g : B → C) (f : A → List B) (xs : List A)
    → map g (flat_map f xs) ≡ flat_map (λ x. map g (f x)) xs
map-flat_map g f [] = refl
map-flat_map g f (x ∷ xs) = map-append g (f x) (flat_map f xs) ∙ ap (λ l. map g (f x) ++ l) (map-flat_map g f xs)

flat_map-flat_map : {A B C : Type 0} (g : B → List C) (f : A → List B) (xs : List A)
    → flat_map g (flat_map f xs) ≡ flat_map (λ x. flat_map g (f x)) xs
flat_map-flat_map g f [] = refl
flat_map-flat_map g f (x ∷ xs) =
    flat_map-append g (f x) (flat_map f xs) ∙ ap (λ l. flat_map g (f x) ++ l) (flat_map-flat_map g f xs)

filter-flat_map : {A B : Type 0} (p : B → Bool) (f : A → List B) (xs : List A)
    → filter p (flat_map f xs) ≡ flat_map (λ x. filter p (f x)) xs
filter-flat_map p f [] = refl
filter-flat_map p f (x ∷ xs) =
    filter-append p (f x) (flat_map f xs) ∙ ap (λ l. filter p (f x) ++ l) (filter-flat_map p f xs)

filter-hit : {X : Type 0} (p : X → Bool) (x : X) (xs : List X) → p x ≡ true → filter p (x ∷ xs) ≡ x ∷ filter p xs
filter-hit p x xs e = ap (λ b. cond b (x ∷ filter p xs) (filter p xs)) e

filter-miss : {X : Type 0} (p : X → Bool) (x : X) (xs : List X) → p x ≡ false → filter p (x ∷ xs) ≡ filter p xs
filter-miss p x xs e = ap (λ b. cond b (x ∷ filter p xs) (filter p xs)) e

filter-comm : {X : Type 0} (p q : X → Bool) (xs : List X) → filter p (filter q xs) ≡ filter q (filter p xs)
filter-comm p q [] = refl
filter-comm p q (x ∷ xs) =
    elim (cases_Bool (p x)) [
      | inl pe ↦ elim (cases_Bool (q x)) [
        | inl qe ↦ rw (
          filter-hit q x xs qe,
          filter-hit p x xs pe,
          filter-hit p x (filter q xs) pe,
          filter-hit q x (filter p xs) qe,
          filter-comm p q xs,
        ) refl
        | inr qe ↦ rw (filter-miss q x xs qe, filter-hit p x xs pe, filter-miss q x (filter p xs) qe)
            (filter-comm p q xs)
      ]
      | inr pe ↦ elim (cases_Bool (q x)) [
        | inl qe ↦ rw (filter-hit q x xs qe, filter-miss p x xs pe, filter-miss p x (filter q xs) pe)
            (filter-comm p q xs)
        | inr qe ↦ rw (filter-miss q x xs qe, filter-miss p x xs pe) (filter-comm p q xs)
      ]
    ]

filter-idem : {X : Type 0} (p : X → Bool) (xs : List X) → filter p (filter p xs) ≡ filter p xs
filter-idem p [] = refl
filter-idem p (x ∷ xs) =
    elim (cases_Bool (p x)) [
      | inl e ↦ rw (filter-hit p x xs e, filter-hit p x (filter p xs) e, filter-idem p xs) refl
      | inr e ↦ rw (filter-miss p x xs e) (filter-idem p xs)
    ]

filter-none : {X : Type 0} (p q : X → Bool) → ((x : X) → q x ≡ true → p x ≡ false) → (xs : List X)
    → filter p (filter q xs) ≡ []
filter-none p q apart [] = refl
filter-none p q apart (x ∷ xs) =
    elim (cases_Bool (q x)) [
      | inl e ↦ rw (filter-hit q x xs e, filter-miss p x (filter q xs) (apart x e)) (filter-none p q apart xs)
      | inr e ↦ rw (filter-miss q x xs e) (filter-none p q apart xs)
    ]

pub flat_map_nothing : {A B : Type 0} (xs : List A) → flat_map {X = A} {A = B} (λ x. []) xs ≡ []
flat_map_nothing [] = refl
flat_map_nothing (x ∷ xs) = flat_map_nothing xs

-- ---- members in order

filter-by_zoom : (p : Feature → Bool) (interval : Interval) (fs : List Feature)
    → filter p (by_zoom interval fs) ≡ by_zoom interval (filter p fs)
filter-by_zoom p interval fs =
    filter-flat_map p (λ z. of_zoom interval z fs) (zooms interval)
    ∙ flat_map_ext (λ z. filter p (of_zoom interval z fs)) (λ z. of_zoom interval z (filter p fs))
    (λ z. filter-comm p (λ f. raised_zoom interval f.zoom == z) fs) (zooms interval)

pub by_zoom-nil : (interval : Interval) → by_zoom interval [] ≡ []
by_zoom-nil interval = flat_map_nothing (zooms interval)

way_is_no_poi : (f : Feature) → is_way f ≡ true → is_poi f ≡ false
way_is_no_poi f e = elim (cases_Bool (is_poi f)) [ inl yes' ↦ cc (yes', e) | inr below ↦ below ]

poi_is_no_way : (f : Feature) → is_poi f ≡ true → is_way f ≡ false
poi_is_no_way f e = rw e refl

-- of members in order, the POIs are by zoom, and so are the ways
pois-in_tile_order : (interval : Interval) (fs : List Feature)
    → filter is_poi (in_tile_order interval fs) ≡ by_zoom interval (filter is_poi fs)
unfolding in_tile_order
pois-in_tile_order interval fs =
    filter-append is_poi (by_zoom interval (filter is_poi fs)) (by_zoom interval (filter is_way fs))
    ∙ rw (
      filter-by_zoom is_poi interval (filter is_poi fs),
      filter-by_zoom is_poi interval (filter is_way fs),
      filter-idem is_poi fs,
      filter-none is_poi is_way way_is_no_poi fs,
      by_zoom-nil interval,
    )
    (append-nil (by_zoom interval (filter is_poi fs)))

ways-in_tile_order : (interval : Interval) (fs : List Feature)
    → filter is_way (in_tile_order interval fs) ≡ by_zoom interval (filter is_way fs)
unfolding in_tile_order
ways-in_tile_order interval fs =
    filter-append is_way (by_zoom interval (filter is_poi fs)) (by_zoom interval (filter is_way fs))
    ∙ rw (
      filter-by_zoom is_way interval (filter is_poi fs),
      filter-by_zoom is_way interval (filter is_way fs),
      filter-idem is_way fs,
      filter-none is_way is_poi poi_is_no_way fs,
      by_zoom-nil interval,
    ) refl

-- ---- bytes

-- how a tile's members stand in it
record InOrder (interval : Interval) (fs : List Feature) : Type 0 where
  pois : filter is_poi fs ≡ by_zoom interval (filter is_poi fs)
  ways : filter is_way fs ≡ by_zoom interval (filter is_way fs)
  whole : fs ≡ by_zoom interval (filter is_poi fs) ++ by_zoom interval (filter is_way fs)

in_order-parts : (interval : Interval) (fs : List Feature) → fs ≡ in_tile_order interval fs → InOrder interval fs
unfolding in_tile_order
in_order-parts interval fs e = record {
  pois = ap (filter is_poi) e ∙ pois-in_tile_order interval fs;
  ways = ap (filter is_way) e ∙ ways-in_tile_order interval fs;
  whole = e;
}

abbrev zoom_count : Interval → ℕ → List Feature → ℕ
zoom_count interval zoom features = count_by (λ g. raised_zoom interval g.zoom == zoom) features

abbrev zoom_table : Interval → List Feature → List ℕ
zoom_table interval fs =
    flat_map (λ zoom. vbe_unsigned (zoom_count interval zoom (filter is_poi fs))
    ++ vbe_unsigned (zoom_count interval zoom (filter is_way fs))) (zooms interval)

abbrev flat_bytes : Place → TilePlace → List Feature → List ℕ
flat_bytes corner tile fs = zoom_table tile.interval fs ++ sized (flat_map (poi_bytes corner) (filter is_poi fs))
    ++ flat_map (λ g. way_bytes corner (sub_tile_bits g tile) g) (filter is_way fs)

counts-level : (corner : Place) (tile : TilePlace) (fs : List Feature) (z : ℕ)
    → level_count_bytes (written_level corner tile fs z) ≡ vbe_unsigned (zoom_count tile.interval z (filter is_poi fs))
    ++ vbe_unsigned (zoom_count tile.interval z (filter is_way fs))
unfolding written_level
counts-level corner tile fs z =
    let same : Feature → Bool = λ f. raised_zoom tile.interval f.zoom == z in
    let p = length-map (filter same (filter is_poi fs)) poi_fields ∙ length-filter same (filter is_poi fs) in
    let w = length-map (filter same (filter is_way fs)) (λ f. way_fields corner (sub_tile_bits f tile) f)
    ∙ length-filter same (filter is_way fs) in
    λ i. vbe_unsigned (p i) ++ vbe_unsigned (w i)

pois-level : (corner : Place) (tile : TilePlace) (fs : List Feature) (z : ℕ)
    → flat_map (poi_fields_bytes corner) (written_level corner tile fs z).pois
    ≡ flat_map (poi_bytes corner) (of_zoom tile.interval z (filter is_poi fs))
unfolding written_level poi_bytes
pois-level corner tile fs z =
    flat_map-map (poi_fields_bytes corner) poi_fields (of_zoom tile.interval z (filter is_poi fs))

ways-level : (corner : Place) (tile : TilePlace) (fs : List Feature) (z : ℕ)
    → flat_map (way_fields_bytes corner) (written_level corner tile fs z).ways
    ≡ flat_map (λ f. way_bytes corner (sub_tile_bits f tile) f) (of_zoom tile.interval z (filter is_way fs))
unfolding written_level way_bytes
ways-level corner tile fs z =
    flat_map-map (way_fields_bytes corner) (λ f. way_fields corner (sub_tile_bits f tile) f)
    (of_zoom tile.interval z (filter is_way fs))

module _ (corner : Place) (tile : TilePlace) (fs : List Feature) (h : InOrder tile.interval fs) where
  level : ℕ → Level
  level z = written_level corner tile fs z

  table-levels : flat_map level_count_bytes (map level (zooms tile.interval)) ≡ zoom_table tile.interval fs
  unfolding level
  table-levels =
      flat_map-map level_count_bytes (written_level corner tile fs) (zooms tile.interval)
      ∙ flat_map_ext (λ z. level_count_bytes (written_level corner tile fs z))
      (λ z. vbe_unsigned (zoom_count tile.interval z (filter is_poi fs))
      ++ vbe_unsigned (zoom_count tile.interval z (filter is_way fs))) (counts-level corner tile fs)
      (zooms tile.interval)

  pois-levels : flat_map (λ l. flat_map (poi_fields_bytes corner) l.pois) (map level (zooms tile.interval))
      ≡ flat_map (poi_bytes corner) (filter is_poi fs)
  unfolding level
  pois-levels =
      flat_map-map (λ (l : Level). flat_map (poi_fields_bytes corner) l.pois) (written_level corner tile fs)
      (zooms tile.interval)
      ∙ flat_map_ext (λ z. flat_map (poi_fields_bytes corner) (written_level corner tile fs z).pois)
      (λ z. flat_map (poi_bytes corner) (of_zoom tile.interval z (filter is_poi fs))) (pois-level corner tile fs)
      (zooms tile.interval)
      ∙ sym (flat_map-flat_map (poi_bytes corner) (λ z. of_zoom tile.interval z (filter is_poi fs))
      (zooms tile.interval))
      ∙ ap (flat_map (poi_bytes corner)) (sym h.pois)

  ways-levels : flat_map (λ l. flat_map (way_fields_bytes corner) l.ways) (map level (zooms tile.interval))
      ≡ flat_map (λ f. way_bytes corner (sub_tile_bits f tile) f) (filter is_way fs)
  unfolding level
  ways-levels =
      flat_map-map (λ (l : Level). flat_map (way_fields_bytes corner) l.ways) (written_level corner tile fs)
      (zooms tile.interval)
      ∙ flat_map_ext (λ z. flat_map (way_fields_bytes corner) (written_level corner tile fs z).ways)
      (λ z. flat_map (λ f. way_bytes corner (sub_tile_bits f tile) f) (of_zoom tile.interval z (filter is_way fs)))
      (ways-level corner tile fs) (zooms tile.interval)
      ∙ sym (flat_map-flat_map (λ f. way_bytes corner (sub_tile_bits f tile) f)
      (λ z. of_zoom tile.interval z (filter is_way fs)) (zooms tile.interval))
      ∙ ap (flat_map (λ f. way_bytes corner (sub_tile_bits f tile) f)) (sym h.ways)

  bytes-levels : levels_bytes corner (map level (zooms tile.interval)) ≡ flat_bytes corner tile fs
  unfolding levels_bytes level
  bytes-levels = λ i. table-levels i ++ sized (pois-levels i) ++ ways-levels i

-- ---- records

zip-map : {A B : Type 0} (f : A → B) (xs : List A) → zip xs (map f xs) ≡ map (λ x. (x, f x)) xs
zip-map f [] = refl
zip-map f (x ∷ xs) = λ i. (x, f x) ∷ zip-map f xs i

listed-poi : (tags : TagLists) (tile : TilePlace) (f : Feature) → is_poi f ≡ true
    → listed tags tile f ≡ poi (shown_poi tags.poi (raised_zoom tile.interval f.zoom) (poi_fields f))
unfolding listed
listed-poi tags tile f e =
    ap (λ b. cond b (poi (shown_poi tags.poi (raised_zoom tile.interval f.zoom) (poi_fields f)))
    (way (shown_way tags.way (raised_zoom tile.interval f.zoom)
    (way_fields (tile_corner tile) (sub_tile_bits f tile) f)))) e

listed-way : (tags : TagLists) (tile : TilePlace) (f : Feature) → is_poi f ≡ false
    → listed tags tile f
    ≡ way (shown_way tags.way (raised_zoom tile.interval f.zoom)
    (way_fields (tile_corner tile) (sub_tile_bits f tile) f))
unfolding listed
listed-way tags tile f e =
    ap (λ b. cond b (poi (shown_poi tags.poi (raised_zoom tile.interval f.zoom) (poi_fields f)))
    (way (shown_way tags.way (raised_zoom tile.interval f.zoom)
    (way_fields (tile_corner tile) (sub_tile_bits f tile) f)))) e

-- features of one kind and one zoom, shown with that zoom
module _ (tags : TagLists) (tile : TilePlace) (kind : Feature → Bool) (at_zoom : ℕ → Feature → Listed)
    (agrees : (f : Feature) → kind f ≡ true → at_zoom (raised_zoom tile.interval f.zoom) f ≡ listed tags tile f)
    (z : ℕ) where
  same_zoom : Feature → Bool
  same_zoom f = raised_zoom tile.interval f.zoom == z

  one : (f : Feature) → kind f ≡ true → same_zoom f ≡ true → at_zoom z f ≡ listed tags tile f
  unfolding same_zoom
  one f e k = ap (λ n. at_zoom n f) (sym (eqb-true (raised_zoom tile.interval f.zoom) z k)) ∙ agrees f e

  pass : (xs : List Feature)
      → map (at_zoom z) (filter kind (filter same_zoom xs)) ≡ map (listed tags tile) (filter kind (filter same_zoom xs))
  pass [] = refl
  pass (x ∷ xs) =
      elim (cases_Bool (same_zoom x)) [
        | inl hit ↦ rw (filter-hit same_zoom x xs hit)
            (elim (cases_Bool (kind x)) [
              | inl right ↦ rw (filter-hit kind x (filter same_zoom xs) right) (λ i. one x right hit i ∷ pass xs i)
              | inr wrong ↦ rw (filter-miss kind x (filter same_zoom xs) wrong) (pass xs)
            ])
        | inr miss ↦ rw (filter-miss same_zoom x xs miss) (pass xs)
      ]

  shown-kind : (fs : List Feature)
      → map (at_zoom z) (of_zoom tile.interval z (filter kind fs))
      ≡ map (listed tags tile) (of_zoom tile.interval z (filter kind fs))
  unfolding same_zoom
  shown-kind fs =
      ap (map (at_zoom z)) (filter-comm same_zoom kind fs) ∙ pass fs
      ∙ ap (map (listed tags tile)) (sym (filter-comm same_zoom kind fs))

poi_at : TagLists → ℕ → Feature → Listed
poi_at tags z f = poi (shown_poi tags.poi z (poi_fields f))

way_at : TagLists → TilePlace → ℕ → Feature → Listed
way_at tags tile z f = way (shown_way tags.way z (way_fields (tile_corner tile) (sub_tile_bits f tile) f))

module _ (tags : TagLists) (tile : TilePlace) (fs : List Feature) where
  pois-shown : flat_map (λ at. map (λ p. poi (shown_poi tags.poi at.0 p)) at.1.pois)
      (zip (zooms tile.interval) (written_levels tile fs))
      ≡ map (listed tags tile) (by_zoom tile.interval (filter is_poi fs))
  unfolding written_levels written_level poi_at
  pois-shown =
      ap (flat_map (λ (at : ℕ × Level). map (λ p. poi (shown_poi tags.poi at.0 p)) at.1.pois))
      (zip-map (written_level (tile_corner tile) tile fs) (zooms tile.interval))
      ∙ flat_map-map (λ (at : ℕ × Level). map (λ p. poi (shown_poi tags.poi at.0 p)) at.1.pois)
      (λ z. (z, written_level (tile_corner tile) tile fs z)) (zooms tile.interval)
      ∙ flat_map_ext (λ z. map (λ p. poi (shown_poi tags.poi z p))
      (map poi_fields (of_zoom tile.interval z (filter is_poi fs))))
      (λ z. map (listed tags tile) (of_zoom tile.interval z (filter is_poi fs)))
      (λ z. map-map (λ p. poi (shown_poi tags.poi z p)) poi_fields (of_zoom tile.interval z (filter is_poi fs))
      ∙ shown-kind tags tile is_poi (poi_at tags) (λ f e. sym (listed-poi tags tile f e)) z fs)
      (zooms tile.interval)
      ∙ sym (map-flat_map (listed tags tile) (λ z. of_zoom tile.interval z (filter is_poi fs)) (zooms tile.interval))

  ways-shown : flat_map (λ at. map (λ w. way (shown_way tags.way at.0 w)) at.1.ways)
      (zip (zooms tile.interval) (written_levels tile fs))
      ≡ map (listed tags tile) (by_zoom tile.interval (filter is_way fs))
  unfolding written_levels written_level way_at
  ways-shown =
      ap (flat_map (λ (at : ℕ × Level). map (λ w. way (shown_way tags.way at.0 w)) at.1.ways))
      (zip-map (written_level (tile_corner tile) tile fs) (zooms tile.interval))
      ∙ flat_map-map (λ (at : ℕ × Level). map (λ w. way (shown_way tags.way at.0 w)) at.1.ways)
      (λ z. (z, written_level (tile_corner tile) tile fs z)) (zooms tile.interval)
      ∙ flat_map_ext (λ z. map (λ w. way (shown_way tags.way z w))
      (map (λ f. way_fields (tile_corner tile) (sub_tile_bits f tile) f)
      (of_zoom tile.interval z (filter is_way fs))))
      (λ z. map (listed tags tile) (of_zoom tile.interval z (filter is_way fs)))
      (λ z. map-map (λ w. way (shown_way tags.way z w)) (λ f. way_fields (tile_corner tile) (sub_tile_bits f tile) f)
      (of_zoom tile.interval z (filter is_way fs))
      ∙ shown-kind tags tile is_way (way_at tags tile) (λ f e. sym (listed-way tags tile f (way_is_no_poi f e))) z
      fs) (zooms tile.interval)
      ∙ sym (map-flat_map (listed tags tile) (λ z. of_zoom tile.interval z (filter is_way fs)) (zooms tile.interval))

  shown-levels : shown_levels tags tile.interval (written_levels tile fs)
      ≡ map (listed tags tile) (in_tile_order tile.interval fs)
  unfolding shown_levels in_tile_order
  shown-levels = (λ i. pois-shown i ++ ways-shown i)
      ∙ sym (map-append (listed tags tile) (by_zoom tile.interval (filter is_poi fs))
      (by_zoom tile.interval (filter is_way fs)))

-- what is written of members in order tells their records
pub levels-shown : (tags : TagLists) (tile : TilePlace) (fs : List Feature) → fs ≡ in_tile_order tile.interval fs
    → shown_levels tags tile.interval (written_levels tile fs) ≡ map (listed tags tile) fs
levels-shown tags tile fs e = shown-levels tags tile fs ∙ ap (map (listed tags tile)) (sym e)

-- the bytes of members in order: the zoom table, the first-way offset, the POIs, the ways
pub tile_bytes-flat : (tile : TilePlace) (f : Feature) (fs : List Feature)
    → f ∷ fs ≡ in_tile_order tile.interval (f ∷ fs)
    → tile_bytes tile (f ∷ fs)
    ≡ flat_map (λ zoom.
    vbe_unsigned (count_by (λ g. raised_zoom tile.interval g.zoom == zoom) (filter is_poi (f ∷ fs)))
    ++ vbe_unsigned (count_by (λ g. raised_zoom tile.interval g.zoom == zoom) (filter is_way (f ∷ fs))))
    (zooms tile.interval)
    ++ sized (flat_map (poi_bytes (tile_corner tile)) (filter is_poi (f ∷ fs)))
    ++ flat_map (λ g. way_bytes (tile_corner tile) (sub_tile_bits g tile) g) (filter is_way (f ∷ fs))
unfolding tile_bytes written_levels level
tile_bytes-flat tile f fs e = bytes-levels (tile_corner tile) tile (f ∷ fs) (in_order-parts tile.interval (f ∷ fs) e)

-- ---- members are in order

flat_map_range : {B : Type 0} (f g : ℕ → List B) (n a : ℕ) → ((z : ℕ) → a ≤ z → z < a + n → f z ≡ g z)
    → flat_map f (range_with_len a n) ≡ flat_map g (range_with_len a n)
flat_map_range f g zero a e = refl
flat_map_range f g (suc n) a e =
    λ i. e a (omega arith) (omega arith) i
    ++ flat_map_range f g n (a + 1) (λ z low high. e z (omega (arith, low)) (omega (arith, high))) i

module _ (interval : Interval) (xs : List Feature) (z : ℕ) where
  same : ℕ → Feature → Bool
  same k f = raised_zoom interval f.zoom == k

  apart : (k : ℕ) → (z ≡ k → ⊥) → (f : Feature) → same k f ≡ true → same z f ≡ false
  unfolding same
  apart k differ f e =
      ne_eqb (raised_zoom interval f.zoom) z (λ h. differ (sym h ∙ eqb-true (raised_zoom interval f.zoom) k e))

  miss : (n a : ℕ) → z < a → flat_map (λ k. of_zoom interval z (of_zoom interval k xs)) (range_with_len a n) ≡ []
  unfolding same
  miss zero a below = refl
  miss (suc n) a below =
      rw (filter-none (same z) (same a) (apart a (λ e. omega (arith, e, below))) xs)
      (miss n (a + 1) (omega (arith, below)))

  pick : (n a : ℕ) → a ≤ z → z < a + n
      → flat_map (λ k. of_zoom interval z (of_zoom interval k xs)) (range_with_len a n) ≡ of_zoom interval z xs
  unfolding same
  pick zero a low high = absurd (omega (arith, low, high))
  pick (suc n) a low high =
      elim (cases_lt a z) [
        | inl lt ↦ rw (filter-none (same z) (same a) (apart a (λ e. omega (arith, e, lt))) xs)
            (pick n (a + 1) (omega (arith, lt)) (omega (arith, high)))
        | inr ge ↦
            let e : z ≡ a = omega (arith, low, ge) in
            rw (miss n (a + 1) (omega (arith, e))) (append-nil (of_zoom interval z (of_zoom interval a xs))
            ∙ ap (λ k. of_zoom interval z (of_zoom interval k xs)) (sym e) ∙ filter-idem (same z) xs)
      ]

by_zoom-idem : (interval : Interval) (xs : List Feature) → by_zoom interval (by_zoom interval xs) ≡ by_zoom interval xs
by_zoom-idem interval xs =
    flat_map_range (λ z. of_zoom interval z (by_zoom interval xs)) (λ z. of_zoom interval z xs)
    (suc interval.max - interval.min) interval.min
    (λ z low high. filter-flat_map (λ f. raised_zoom interval f.zoom == z) (λ k. of_zoom interval k xs) (zooms interval)
    ∙ pick interval xs z (suc interval.max - interval.min) interval.min low high)

pub in_order-idem : (interval : Interval) (fs : List Feature)
    → in_tile_order interval (in_tile_order interval fs) ≡ in_tile_order interval fs
unfolding in_tile_order
in_order-idem interval fs =
    λ i. (ap (by_zoom interval) (pois-in_tile_order interval fs) ∙ by_zoom-idem interval (filter is_poi fs)) i
    ++ (ap (by_zoom interval) (ways-in_tile_order interval fs) ∙ by_zoom-idem interval (filter is_way fs)) i

-- the members of a tile stand in order
pub members-in_tile_order : (features : List Feature) (tile : TilePlace)
    → members features tile ≡ in_tile_order tile.interval (members features tile)
unfolding members
members-in_tile_order features tile = sym (in_order-idem tile.interval (in_tile tile features))

pub ruleset level_laws = (tile_bytes-flat, levels-shown, members-in_tile_order)
