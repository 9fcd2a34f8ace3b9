-- Places of stored coordinates and boxes of headers are on the earth, in microdegrees: laws on accepted inputs cite
-- this.
use Rattle.std.proofs.Common.{◌≡◌, ◌∙◌, ℕ, zero, suc, ◌*◌, ◌-◌, ◌/◌, ◌<◌, ◌≤◌, List, [], ◌∷◌, refl, sym, ap, arith}
use Rattle.std.proofs.Common.{true, Result, Ok, Err, Option, Some, None, ℤ, pos, negsuc}
use Rattle.std.specs.Prelude.{nat_abs, neg_ℤ, int_le, filter_map, slice_get, unwrap_or}
use Rattle.std.specs.List.{cons_option, list_all}
use Rattle.std.proofs.lemmas.Bool.{false≢true, le-leb, leb-true, and_parts}
use Rattle.std.proofs.lemmas.Option.{none-some, same_Some}
use Rattle.mf_base.specs.declared.place.Rect.{Rect}
use Rattle.mf_base.specs.Ranges.{lies_within, is_latitude, is_longitude, is_on_earth, is_rect}
use Rattle.mf_base.specs.Steps.{◌>>=◌, require, told_as, answer_of}
use Rattle.mf_base.proofs.StepLaws.{err_is_no_ok, bind_ok, require_ok, ok_is}
use Rattle.osm_model.specs.declared.faults.BlockFault.{BlockFault}
use Rattle.osm_model.specs.declared.faults.BlockFault.TheVariants.{Wire, BadBox, RequiredFeature}
use Rattle.osm_model.specs.declared.numbers.TheConstants.{BBOX_LEFT, BBOX_RIGHT, BBOX_TOP, BBOX_BOTTOM}
use Rattle.osm_model.specs.declared.numbers.TheConstants.{HEADER_BLOCK_BBOX, HEADER_BLOCK_REQUIRED_FEATURES}
use Rattle.osm_model.specs.declared.tables.TheConstants.{HEADER_BBOX, HEADER_BLOCK}
use Rattle.osm_model.specs.Wire.{Field}
use Rattle.osm_model.specs.Tables.{message, once_of, bytes_of}
use Rattle.osm_model.specs.declared.limits.TheConstants.{LATITUDE_LIMIT, LONGITUDE_LIMIT}
use Rattle.osm_model.specs.Frames.{Content, header, primitive, unread, Frame}
use Rattle.osm_model.specs.Blocks.{BlockHead, keeps_limit, micro, lat_nano, lon_nano, is_coordinate, place_of}
use Rattle.osm_model.specs.Blocks.{are_sides, side, is_known_feature, box_in, box_where, header_box}
use Rattle.osm_model.specs.Input.{content_box, good_frames, input_box}

-- ---- microdegrees of nanodegrees

neg-within : (k q : ℕ) → 0 < k → q ≤ k → lies_within (negsuc (k - 1)) (pos k) (neg_ℤ (pos q)) ≡ true
neg-within k zero some le = le-leb 0 k (omega (arith, le))
neg-within k (suc q) some le = rw (le-leb q (k - 1) (omega (arith, some, le))) refl

micro-within : (k : ℕ) (z : ℤ) → 0 < k → nat_abs z ≤ 1000 * k → lies_within (negsuc (k - 1)) (pos k) (micro z) ≡ true
micro-within k (pos m) some le = le-leb (m / 1000) k (omega (arith, le))
micro-within k (negsuc m) some le = neg-within k (suc m / 1000) some (omega (arith, le))

neg-rises : (p q : ℕ) → q ≤ p → int_le (neg_ℤ (pos p)) (neg_ℤ (pos q)) ≡ true
neg-rises zero zero le = refl
neg-rises zero (suc q) le = absurd (omega (arith, le))
neg-rises (suc p) zero le = refl
neg-rises (suc p) (suc q) le = le-leb q p (omega (arith, le))

neg-below : (p n : ℕ) → int_le (neg_ℤ (pos p)) (pos n) ≡ true
neg-below zero n = le-leb 0 n (omega arith)
neg-below (suc p) n = refl

micro-rises : (a b : ℤ) → int_le a b ≡ true → int_le (micro a) (micro b) ≡ true
micro-rises (pos m) (pos n) e = let le = leb-true m n e in le-leb (m / 1000) (n / 1000) (omega (arith, le))
micro-rises (pos m) (negsuc n) e = absurd (false≢true e)
micro-rises (negsuc m) (pos n) e = neg-below (suc m / 1000) (n / 1000)
micro-rises (negsuc m) (negsuc n) e = let le = leb-true n m e in
    neg-rises (suc m / 1000) (suc n / 1000) (omega (arith, le))

latitude-is : (nano : ℤ) → keeps_limit LATITUDE_LIMIT nano ≡ true → is_latitude (micro nano) ≡ true
latitude-is nano e = let near = leb-true (nat_abs nano) LATITUDE_LIMIT e in
    micro-within 90000000 nano (omega arith) (omega (arith, near))

longitude-is : (nano : ℤ) → keeps_limit LONGITUDE_LIMIT nano ≡ true → is_longitude (micro nano) ≡ true
longitude-is nano e = let near = leb-true (nat_abs nano) LONGITUDE_LIMIT e in
    micro-within 180000000 nano (omega arith) (omega (arith, near))

pub place-on_earth : (head : BlockHead) (lat lon : ℤ) → is_coordinate head lat lon ≡ true
    → is_on_earth (place_of head lat lon) ≡ true
unfolding place_of
place-on_earth head lat lon e =
    let near = and_parts (keeps_limit LATITUDE_LIMIT (lat_nano head lat))
    (keeps_limit LONGITUDE_LIMIT (lon_nano head lon)) e in
    rw (latitude-is (lat_nano head lat) near.0, longitude-is (lon_nano head lon) near.1) refl

-- ---- boxes

sides-rect : (left right top bottom : ℤ) → are_sides left right top bottom ≡ true
    → is_rect (record { min_lat = micro bottom; min_lon = micro left; max_lat = micro top; max_lon = micro right })
    ≡ true
sides-rect left right top bottom e =
    let p5 = and_parts _ (int_le bottom top) e in
    let p4 = and_parts _ (int_le left right) p5.0 in
    let p3 = and_parts _ (keeps_limit LATITUDE_LIMIT bottom) p4.0 in
    let p2 = and_parts _ (keeps_limit LATITUDE_LIMIT top) p3.0 in
    let p1 = and_parts (keeps_limit LONGITUDE_LIMIT left) (keeps_limit LONGITUDE_LIMIT right) p2.0 in
    rw (
      latitude-is bottom p3.1,
      latitude-is top p2.1,
      longitude-is left p1.0,
      longitude-is right p1.1,
      micro-rises bottom top p5.1,
      micro-rises left right p4.1,
    ) refl

-- four steps with an answer, and what follows them
four_ok : {A B F : Type 0} (p q r s : Result A F) (next : A → A → A → A → Result B F) (y : B)
    → (p >>= λ a. q >>= λ b. r >>= λ c. s >>= λ d. next a b c d) ≡ Ok y
    → (a : A) × (b : A) × (c : A) × (d : A) × (next a b c d ≡ Ok y)
four_ok (Ok a) (Ok b) (Ok c) (Ok d) next y e = (a, b, c, d, e)
four_ok (Ok a) (Ok b) (Ok c) (Err f) next y e = absurd (err_is_no_ok f y e)
four_ok (Ok a) (Ok b) (Err f) s next y e = absurd (err_is_no_ok f y e)
four_ok (Ok a) (Err f) r s next y e = absurd (err_is_no_ok f y e)
four_ok (Err f) q r s next y e = absurd (err_is_no_ok f y e)

abbrev rect_of : ℤ → ℤ → ℤ → ℤ → Rect
rect_of left right top bottom =
    record { min_lat = micro bottom; min_lon = micro left; max_lat = micro top; max_lon = micro right }

abbrev rect_from : ℤ → ℤ → ℤ → ℤ → Result Rect BlockFault
rect_from left right top bottom =
    require (are_sides left right top bottom) BadBox >>= λ _. Ok (rect_of left right top bottom)

abbrev sides_from : List Field → Result Rect BlockFault
sides_from fs =
    side BBOX_LEFT fs >>= λ left. side BBOX_RIGHT fs >>= λ right. side BBOX_TOP fs >>= λ top. side BBOX_BOTTOM fs
    >>= λ bottom. rect_from left right top bottom

box-from : (bytes : List ℕ) → box_in bytes ≡ (told_as Wire (message HEADER_BBOX bytes) >>= sides_from)
unfolding box_in
box-from bytes = refl

box-rect : (bytes : List ℕ) (box : Rect) → box_in bytes ≡ Ok box → is_rect box ≡ true
box-rect bytes box e =
    let (fs, read, r1) = bind_ok (told_as Wire (message HEADER_BBOX bytes)) sides_from box (sym (box-from bytes) ∙ e) in
    let (left, right, top, bottom, r2) =
    four_ok (side BBOX_LEFT fs) (side BBOX_RIGHT fs) (side BBOX_TOP fs) (side BBOX_BOTTOM fs) rect_from box r1 in
    let (u, are, last) =
    bind_ok (require (are_sides left right top bottom) BadBox) (λ _. Ok (rect_of left right top bottom)) box r2 in
    ap is_rect (sym (ok_is (rect_of left right top bottom) box last))
    ∙ sides-rect left right top bottom (require_ok (are_sides left right top bottom) BadBox u are)

where-rect : (o : Option (List ℕ)) (box : Rect) → box_where o ≡ Ok (Some box) → is_rect box ≡ true
where-rect None box e = absurd (none-some box (ok_is _ _ e))
where-rect (Some bytes) box e =
    let (found, is, last) = bind_ok (box_in bytes) (λ b. Ok (Some b)) (Some box) e in
    box-rect bytes box (is ∙ ap Ok (same_Some found box (ok_is (Some found) (Some box) last)))

abbrev known_from : List Field → Option Rect → Result (Option Rect) BlockFault
known_from fs box =
    require (list_all is_known_feature (bytes_of HEADER_BLOCK_REQUIRED_FEATURES fs)) RequiredFeature >>= λ _. Ok box

abbrev boxes_from : List Field → Result (Option Rect) BlockFault
boxes_from fs = box_where (once_of HEADER_BLOCK_BBOX fs) >>= known_from fs

header-from : (raw : List ℕ) → header_box raw ≡ (told_as Wire (message HEADER_BLOCK raw) >>= boxes_from)
unfolding header_box
header-from raw = refl

pub header-rect : (raw : List ℕ) (box : Rect) → header_box raw ≡ Ok (Some box) → is_rect box ≡ true
header-rect raw box e =
    let (fs, read, r1) =
    bind_ok (told_as Wire (message HEADER_BLOCK raw)) boxes_from (Some box) (sym (header-from raw) ∙ e) in
    let (found, is, r2) = bind_ok (box_where (once_of HEADER_BLOCK_BBOX fs)) (known_from fs) (Some box) r1 in
    let (u, known, last) =
    bind_ok (require (list_all is_known_feature (bytes_of HEADER_BLOCK_REQUIRED_FEATURES fs)) RequiredFeature)
    (λ _. Ok found) (Some box) r2 in
    where-rect (once_of HEADER_BLOCK_BBOX fs) box (is ∙ last)

answer-rect : (r : Result (Option Rect) BlockFault) (raw : List ℕ) (box : Rect) → header_box raw ≡ r
    → unwrap_or (answer_of r) None ≡ Some box → is_rect box ≡ true
answer-rect (Ok found) raw box is e = header-rect raw box (is ∙ ap Ok e)
answer-rect (Err fault) raw box is e = absurd (none-some box e)

content-rect : (c : Content) (box : Rect) → content_box c ≡ Some box → is_rect box ≡ true
content-rect (header raw) box e = answer-rect (header_box raw) raw box refl e
content-rect (primitive raw) box e = absurd (none-some box e)
content-rect (unread type) box e = absurd (none-some box e)

first-rect : (fs : List Frame) (box : Rect)
    → slice_get (filter_map (λ (f : Frame). content_box f.content) fs) 0 ≡ Some box → is_rect box ≡ true
first-rect [] box e = absurd (none-some box e)
first-rect (f ∷ fs) box e = go (first-rect fs box) (content_box f.content) refl
  where
    go : (slice_get (filter_map (λ (g : Frame). content_box g.content) fs) 0 ≡ Some box → is_rect box ≡ true)
        → (o : Option Rect) → content_box f.content ≡ o → is_rect box ≡ true
    go later None is =
        later (ap (λ o. slice_get (cons_option o (filter_map (λ (g : Frame). content_box g.content) fs)) 0) (sym is)
        ∙ e)
    go later (Some found) is =
        content-rect f.content box (is
        ∙ ap (λ o. slice_get (cons_option o (filter_map (λ (g : Frame). content_box g.content) fs)) 0) (sym is) ∙ e)

pub input-rect : (bytes : List ℕ) (box : Rect) → input_box bytes ≡ Some box → is_rect box ≡ true
unfolding input_box
input-rect bytes box e = first-rect (good_frames bytes) box e
