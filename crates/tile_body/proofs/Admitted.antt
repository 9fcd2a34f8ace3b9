-- What is tested of a record: its head and texts, and the sides of its rectangle.
use Rattle.std.proofs.Common.{◌≡◌, ℕ, ◌+◌, ◌-◌, ◌^◌, ◌≤◌, ◌<◌, List, [], ◌∷◌, map, refl, sym, ap, ◌∙◌, subst, arith, length}
use Rattle.std.proofs.Common.{Option, Some, None, Bool, true, false, inl, inr, ℤ, pos, negsuc, ◌++◌, drop, get_or}
use Rattle.std.specs.Prelude.{IfSome, IsTrue, ◌&&◌, nat_lt, int_le, ◌≤ℤ◌, fold}
use Rattle.std.specs.Prelude.{flat_map}
use Rattle.std.specs.Prelude.{FitsSigned, unwrap_or}
use Rattle.std.specs.Int.{w32}
use Rattle.std.specs.List.{AllByRecursion, enumerate_from}
use Rattle.std.proofs.lemmas.Bool.{cases_Bool, and_parts, and_from, le-leb, leb-true, lt-ltb, ltb-true}
use Rattle.std.proofs.lemmas.Int.{ints, clamps}
use Rattle.std.proofs.lemmas.List.{drop_more, drop_all}
use Rattle.mf_base.specs.Texts.{Text}
use Rattle.mf_base.specs.Ranges.{lies_within, is_latitude, is_longitude, is_on_earth, is_rect, is_signed_32}
use Rattle.mf_base.specs.declared.kept.Kept.{Kept as KeptRead}
use Rattle.mf_base.specs.declared.kept.KeptValue.{KeptValue}
use Rattle.mf_base.specs.declared.kept.KeptValue.TheVariants as read
use Rattle.mf_base.specs.declared.place.Place.{Place}
use Rattle.mf_base.specs.declared.place.Rect.{Rect}
use Rattle.feature_model.specs.Inside.{Ring}
use Rattle.feature_model.specs.Features.{Shape, Block}
use Rattle.feature_model.specs.Proper.{AllPlaces}
use Rattle.feature_model.specs.Descriptions.{kept_text}
use Rattle.map_model.specs.Rectangles.{places_of_shape, rect_of_places, rect_of}
use Rattle.map_model.specs.Room.{IsShort, IsKeptShort}
use Rattle.tile_assign.specs.GrowingRects.{around, with_place}
use Rattle.tile_assign.proofs.OnEarth.{from_first}
use Rattle.mf_rows.specs.Heads.{height_number}
use Rattle.mf_rows.specs.FirstUnits.{IsHead}
use Rattle.mf_rows.specs.Records.{Record, text_in, kept_told}
use Rattle.mf_rows.specs.Shapes.{shape_told, feature_told}
use Rattle.mf_rows.specs.declared.head.TextSlot.{TextSlot}
use Rattle.mf_rows.specs.declared.head.TextSlot.TheVariants.{Name, House, Reference, Tag}
use Rattle.tile_body.specs.Members.{IsSpelled}
use Rattle.tile_body.specs.Tested.{is_short, has_short_text, are_short_from, are_kept_short, may_be_spelled}
use Rattle.tile_body.specs.Tested.{has_near_sides}

-- ---- texts

short-is : (o : Option Text) → is_short o ≡ true → IfSome o IsShort
short-is None e = tt
short-is (Some text) e = leb-true (length text) 1020 e

is-short : (o : Option Text) → IfSome o IsShort → is_short o ≡ true
is-short None short = refl
is-short (Some text) short = le-leb (length text) 1020 short

-- ---- kept tags

module _ (texts : List (TextSlot × Text)) where
  value-short : (at : ℕ) (tag : ℕ) (v : KeptValue) → has_short_text texts at v ≡ true
      → IfSome (kept_text (kept_told texts (at, record { tag = tag; value = v })).value) IsShort
  value-short at tag read.Plain e = tt
  value-short at tag (read.Byte z) e = tt
  value-short at tag (read.Short z) e = tt
  value-short at tag (read.Int z) e = tt
  value-short at tag (read.Text len) e = leb-true (length (unwrap_or (text_in texts (Tag at)) [])) 1020 e

  short-value : (at : ℕ) (tag : ℕ) (v : KeptValue)
      → IfSome (kept_text (kept_told texts (at, record { tag = tag; value = v })).value) IsShort
      → has_short_text texts at v ≡ true
  short-value at tag read.Plain short = refl
  short-value at tag (read.Byte z) short = refl
  short-value at tag (read.Short z) short = refl
  short-value at tag (read.Int z) short = refl
  short-value at tag (read.Text len) short =
      le-leb (length (unwrap_or (text_in texts (Tag at)) [])) 1020 short

  kept-are : (at : ℕ) (tags : List KeptRead) → are_short_from texts at tags ≡ true
      → AllByRecursion IsKeptShort (map (kept_told texts) (enumerate_from at tags))
  unfolding are_short_from
  kept-are at [] e = tt
  kept-are at (k ∷ tags) e =
      let both = and_parts _ (are_short_from texts (at + 1) tags) e in
      let here = and_parts (nat_lt k.tag 4096) (has_short_text texts at k.value) both.0 in
      ((ltb-true k.tag 4096 here.0, value-short at k.tag k.value here.1), kept-are (at + 1) tags both.1)

  are-kept : (at : ℕ) (tags : List KeptRead)
      → AllByRecursion IsKeptShort (map (kept_told texts) (enumerate_from at tags))
      → are_short_from texts at tags ≡ true
  unfolding are_short_from
  are-kept at [] all = refl
  are-kept at (k ∷ tags) all =
      let here = all.0 in
      and_from _ _ (and_from _ _ (lt-ltb k.tag 4096 here.0) (short-value at k.tag k.value here.1))
      (are-kept (at + 1) tags all.1)

  -- while they are tested
  short-next : (tags : List KeptRead) (at : ℕ) (d : KeptRead) → at < length tags
      → are_short_from texts at (drop at tags)
      ≡ ((nat_lt (get_or tags at d).tag 4096 && has_short_text texts at (get_or tags at d).value)
      && are_short_from texts (at + 1) (drop (at + 1) tags))
  unfolding are_short_from
  short-next tags at d low = ap (are_short_from texts at) (drop_more tags at d low)

  pub all-so_far : (tags : List KeptRead) (at : ℕ) → Type 0
  all-so_far tags at = are_short_from texts at (drop at tags) ≡ are_short_from texts 0 tags

  pub so_far-none : (tags : List KeptRead) → all-so_far tags 0
  unfolding all-so_far
  so_far-none tags = refl

  pub so_far-more : (tags : List KeptRead) (at : ℕ) (d : KeptRead) → at < length tags
      → (nat_lt (get_or tags at d).tag 4096 && has_short_text texts at (get_or tags at d).value) ≡ true
      → all-so_far tags at → all-so_far tags (at + 1)
  unfolding all-so_far
  so_far-more tags at d low is h =
      sym (short-next tags at d low ∙ ap (λ b. b && are_short_from texts (at + 1) (drop (at + 1) tags)) is) ∙ h

  pub so_far-not : (tags : List KeptRead) (at : ℕ) (d : KeptRead) → at < length tags
      → (nat_lt (get_or tags at d).tag 4096 && has_short_text texts at (get_or tags at d).value) ≡ false
      → all-so_far tags at → false ≡ are_short_from texts 0 tags
  unfolding all-so_far
  so_far-not tags at d low is h =
      sym (short-next tags at d low ∙ ap (λ b. b && are_short_from texts (at + 1) (drop (at + 1) tags)) is) ∙ h

  pub so_far-all : (tags : List KeptRead) (at : ℕ) → length tags ≤ at → all-so_far tags at
      → true ≡ are_short_from texts 0 tags
  unfolding all-so_far are_short_from
  so_far-all tags at end h = sym (ap (are_short_from texts at) (drop_all at tags end)) ∙ h

-- ---- heads

le_of : (a b : ℤ) → int_le a b ≡ true → a ≤ℤ b
le_of a b e = omega (arith, ints, e)

le_is : (a b : ℤ) → a ≤ℤ b → int_le a b ≡ true
le_is a b le = elim (cases_Bool (int_le a b)) [ inl is ↦ is | inr above ↦ absurd (omega (arith, ints, le, above)) ]

height-fits : (o : Option ℤ) → FitsSigned w32 (height_number o) → IfSome o (λ z. IsTrue (is_signed_32 z))
height-fits None fits = tt
height-fits (Some (pos n)) fits =
    let low = fits.sfits in
    and_from _ _ (le_is (negsuc (2 ^ 31 - 1)) (pos n) (omega (arith, ints)))
    (le_is (pos n) (pos (2 ^ 31 - 1)) (omega (arith, ints, low)))
height-fits (Some (negsuc n)) fits =
    let low = fits.sfits in
    and_from _ _ (le_is (negsuc (2 ^ 31 - 1)) (negsuc n) (omega (arith, ints, low)))
    (le_is (negsuc n) (pos (2 ^ 31 - 1)) (omega (arith, ints)))

pub spelled-is : (r : Record) → IsHead r.head → may_be_spelled r ≡ true → IsSpelled r
spelled-is r h e =
    let a = and_parts _ (is_short (text_in r.texts Reference)) e in
    let b = and_parts _ (is_short (text_in r.texts House)) a.0 in
    let c = and_parts _ (is_short (text_in r.texts Name)) b.0 in
    let d = and_parts (lies_within (negsuc 4) (pos 5) r.head.layer) (are_kept_short r) c.0 in
    record {
      layer = d.0;
      height = height-fits r.head.height h.height;
      few = h.few;
      kept = kept-are r.texts 0 r.head.tags.items d.1;
      name = short-is _ c.1;
      house = short-is _ b.1;
      reference = short-is _ a.1;
    }

pub is-spelled : (r : Record) → IsSpelled r → may_be_spelled r ≡ true
is-spelled r s =
    and_from _ _ (and_from _ _ (and_from _ _ (and_from _ _ s.layer (are-kept r.texts 0 r.head.tags.items s.kept))
    (is-short _ s.name)) (is-short _ s.house)) (is-short _ s.reference)

-- ---- places

-- No side is beyond the earth.
record HasSides (r : Rect) : Type 0 where
  south : negsuc 89999999 ≤ℤ r.min_lat
  north : r.max_lat ≤ℤ pos 90000000
  west : negsuc 179999999 ≤ℤ r.min_lon
  east : r.max_lon ≤ℤ pos 180000000

sides-of : (r : Rect) → has_near_sides r ≡ true → HasSides r
sides-of r e =
    let a = and_parts _ (int_le r.max_lon (pos 180000000)) e in
    let b = and_parts _ (int_le (negsuc 179999999) r.min_lon) a.0 in
    let c = and_parts (int_le (negsuc 89999999) r.min_lat) (int_le r.max_lat (pos 90000000)) b.0 in
    record {
      south = le_of (negsuc 89999999) r.min_lat c.0;
      north = le_of r.max_lat (pos 90000000) c.1;
      west = le_of (negsuc 179999999) r.min_lon b.1;
      east = le_of r.max_lon (pos 180000000) a.1;
    }

rect-sides : (r : Rect) → is_rect r ≡ true → has_near_sides r ≡ true
rect-sides r e =
    let a = and_parts _ (int_le r.min_lon r.max_lon) e in
    let b = and_parts _ (int_le r.min_lat r.max_lat) a.0 in
    let c = and_parts _ (is_longitude r.max_lon) b.0 in
    let d = and_parts _ (is_longitude r.min_lon) c.0 in
    let f = and_parts (is_latitude r.min_lat) (is_latitude r.max_lat) d.0 in
    let south = and_parts (int_le (negsuc 89999999) r.min_lat) (int_le r.min_lat (pos 90000000)) f.0 in
    let north = and_parts (int_le (negsuc 89999999) r.max_lat) (int_le r.max_lat (pos 90000000)) f.1 in
    let west = and_parts (int_le (negsuc 179999999) r.min_lon) (int_le r.min_lon (pos 180000000)) d.1 in
    let east = and_parts (int_le (negsuc 179999999) r.max_lon) (int_le r.max_lon (pos 180000000)) c.1 in
    and_from _ _ (and_from _ _ (and_from _ _ south.0 north.1) west.0) east.1

on-earth : (p : Place) → negsuc 89999999 ≤ℤ p.lat → p.lat ≤ℤ pos 90000000 → negsuc 179999999 ≤ℤ p.lon
    → p.lon ≤ℤ pos 180000000 → IsTrue (is_on_earth p)
on-earth p south north west east =
    and_from _ _ (and_from _ _ (le_is (negsuc 89999999) p.lat south) (le_is p.lat (pos 90000000) north))
    (and_from _ _ (le_is (negsuc 179999999) p.lon west) (le_is p.lon (pos 180000000) east))

near-is : (r : Rect) (p : Place) → HasSides (with_place r p) → HasSides r × IsTrue (is_on_earth p)
near-is r p s =
    let s1 = s.south in
    let s2 = s.north in
    let s3 = s.west in
    let s4 = s.east in (
      record {
        south = omega (arith, ints, clamps, s1);
        north = omega (arith, ints, clamps, s2);
        west = omega (arith, ints, clamps, s3);
        east = omega (arith, ints, clamps, s4);
      },
      on-earth p (omega (arith, ints, clamps, s1)) (omega (arith, ints, clamps, s2))
          (omega (arith, ints, clamps, s3)) (omega (arith, ints, clamps, s4)),
    )

abbrev AreNear : Ring → Type 0
AreNear ps = AllByRecursion (λ p. IsTrue (is_on_earth p)) ps

all-near : (r : Rect) (ps : Ring) → HasSides (fold with_place r ps) → HasSides r × AreNear ps
all-near r [] s = (s, tt)
all-near r (p ∷ ps) s =
    let rest = all-near (with_place r p) ps s in
    let here = near-is r p rest.0 in
    (here.0, (here.1, rest.1))

places-near : (ps : Ring) → has_near_sides (rect_of_places ps) ≡ true → AreNear ps
places-near [] e = tt
places-near (p ∷ ps) e =
    let all = all-near (around p) ps (sides-of _ (subst (λ (a : Rect). has_near_sides a ≡ true) (from_first p ps) e)) in
    let s = all.0 in
    (on-earth p s.south s.north s.west s.east, all.1)

split : {A : Type 0} (P : A → Type 0) (xs ys : List A) → AllByRecursion P (xs ++ ys)
    → AllByRecursion P xs × AllByRecursion P ys
split P [] ys all = (tt, all)
split P (x ∷ xs) ys all = let rest = split P xs ys all.1 in ((all.0, rest.0), rest.1)

rings-near : (rings : Block) → AreNear (flat_map (λ ring. ring) rings)
    → AllByRecursion (λ (ring : Ring). AreNear ring) rings
rings-near [] all = tt
rings-near (ring ∷ rings) all =
    let both = split (λ p. IsTrue (is_on_earth p)) ring (flat_map (λ ring. ring) rings) all in
    (both.0, rings-near rings both.1)

blocks-near : (found : List Block) → AreNear (flat_map (λ rings. flat_map (λ ring. ring) rings) found)
    → AllByRecursion (λ (block : Block). AllByRecursion (λ (ring : Ring). AreNear ring) block) found
blocks-near [] all = tt
blocks-near (block ∷ found) all =
    let both = split (λ p. IsTrue (is_on_earth p)) (flat_map (λ ring. ring) block)
    (flat_map (λ rings. flat_map (λ ring. ring) rings) found) all in
    (rings-near block both.0, blocks-near found both.1)

shape-near : (shape : Shape) → AreNear (places_of_shape shape) → AllPlaces (λ p. IsTrue (is_on_earth p)) shape
shape-near (Shape.point p) all = all.0
shape-near (Shape.blocks found) all = blocks-near found all

-- where a feature's rectangle has no side beyond the earth, its places are on it
pub lies-near : (r : Record) (rect : Rect) (b : Bool) → rect ≡ rect_of (feature_told r) → b ≡ has_near_sides rect
    → IsTrue b → AllPlaces (λ p. IsTrue (is_on_earth p)) (shape_told r)
unfolding feature_told
lies-near r rect b is tested e =
    shape-near (shape_told r) (places-near (places_of_shape (shape_told r))
    (subst (λ (a : Rect). has_near_sides a ≡ true) is (sym tested ∙ e)))

pub near-lies : (r : Record) (rect : Rect) (b : Bool) → b ≡ has_near_sides rect
    → (AllPlaces (λ p. IsTrue (is_on_earth p)) (shape_told r) → IsTrue (is_rect rect))
    → AllPlaces (λ p. IsTrue (is_on_earth p)) (shape_told r) → IsTrue b
near-lies r rect b tested earth all = tested ∙ rect-sides rect (earth all)
