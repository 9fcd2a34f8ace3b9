-- What is read of a block, step by step.
use Rattle.std.proofs.Common.{◌≡◌, ◌∙◌, ℕ, List, true, false, Option, Result, Ok, Err, refl, arith}
use Rattle.std.specs.Prelude.{ℤ, int_le, nat_abs}
use Rattle.std.specs.List.{list_all}
use Rattle.std.proofs.lemmas.Bool.{and_parts, leb-true, le-leb}
use Rattle.std.proofs.lemmas.Str.{is_utf8-from_IsUtf8, IsUtf8-from_is_utf8}
use Rattle.std.specs.Prelude.{unwrap_or}
use Rattle.mf_base.specs.declared.place.Rect.{Rect}
use Rattle.osm_model.specs.declared.numbers.TheConstants.{HEADER_BLOCK_BBOX, HEADER_BLOCK_REQUIRED_FEATURES, BBOX_LEFT}
use Rattle.osm_model.specs.declared.numbers.TheConstants.{BBOX_RIGHT, BBOX_TOP, BBOX_BOTTOM, BLOCK_GRANULARITY}
use Rattle.osm_model.specs.declared.numbers.TheConstants.{BLOCK_LAT_OFFSET, BLOCK_LON_OFFSET}
use Rattle.osm_model.specs.Wire.{int64}
use Rattle.pbf_block.specs.Header.{sides_box, box_of, are_kept}
use Rattle.osm_model.specs.declared.limits.TheConstants.{LONGITUDE_LIMIT, LATITUDE_LIMIT}
use Rattle.osm_model.specs.declared.tables.TheConstants.{HEADER_BLOCK, HEADER_BBOX, PRIMITIVE_BLOCK}
use Rattle.osm_model.specs.declared.faults.BlockFault.{BlockFault}
use Rattle.osm_model.specs.declared.faults.BlockFault.TheVariants as block_faults
use Rattle.osm_model.specs.declared.faults.MessageFault.{MessageFault}
use Rattle.osm_model.specs.Wire.{Field}
use Rattle.osm_model.specs.Tables.{message, number_of, once_of, bytes_of}
use Rattle.osm_model.specs.Blocks.{keeps_limit, micro, box_in, box_where, header_box, block_head, is_known_feature}

-- ---- sides

pub keeps-latitude : (z : ℤ) → keeps_limit LATITUDE_LIMIT z ≡ true → keeps_limit LONGITUDE_LIMIT z ≡ true
keeps-latitude z e = le-leb (nat_abs z) LONGITUDE_LIMIT (omega (arith, leb-true (nat_abs z) LATITUDE_LIMIT e))

-- sides on the earth keep the greater limit
pub record KeepLimits (left right top bottom : ℤ) : Type 0 where
  pub left_kept : keeps_limit LONGITUDE_LIMIT left ≡ true
  pub right_kept : keeps_limit LONGITUDE_LIMIT right ≡ true
  pub top_kept : keeps_limit LONGITUDE_LIMIT top ≡ true
  pub bottom_kept : keeps_limit LONGITUDE_LIMIT bottom ≡ true

pub sides-kept : (left right top bottom : ℤ) → are_kept left right top bottom ≡ true → KeepLimits left right top bottom
sides-kept left right top bottom e =
    let b = and_parts _ _ e in
    let t = and_parts _ _ b.0 in
    let r = and_parts _ _ t.0 in
    record {
      left_kept = r.0;
      right_kept = r.1;
      top_kept = keeps-latitude top t.1;
      bottom_kept =
          keeps-latitude bottom b.1;
    }

pub box-ok : (left right top bottom l r t o a b c d : ℤ) → l ≡ left → r ≡ right → t ≡ top → o ≡ bottom
    → are_kept l r t o ≡ true → int_le l r ≡ true → int_le o t ≡ true → a ≡ micro o → b ≡ micro l → c ≡ micro t
    → d ≡ micro r
    → Ok (record { min_lat = a; min_lon = b; max_lat = c; max_lon = d }) ≡ box_of left right top bottom
box-ok left right top bottom l r t o a b c d is_l is_r is_t is_o kept across up is_a is_b is_c is_d =
    rw (← is_l, ← is_r, ← is_t, ← is_o, kept, across, up, is_a, is_b, is_c, is_d) refl

pub box-far : (left right top bottom l r t o : ℤ) → l ≡ left → r ≡ right → t ≡ top → o ≡ bottom
    → are_kept l r t o ≡ false → Err block_faults.BadBox ≡ box_of left right top bottom
box-far left right top bottom l r t o is_l is_r is_t is_o kept = rw (← is_l, ← is_r, ← is_t, ← is_o, kept) refl

pub box-crossed : (left right top bottom l r t o : ℤ) → l ≡ left → r ≡ right → t ≡ top → o ≡ bottom
    → are_kept l r t o ≡ true → int_le l r ≡ false → Err block_faults.BadBox ≡ box_of left right top bottom
box-crossed left right top bottom l r t o is_l is_r is_t is_o kept across =
    rw (← is_l, ← is_r, ← is_t, ← is_o, kept, across) refl

pub box-upside_down : (left right top bottom l r t o : ℤ) → l ≡ left → r ≡ right → t ≡ top → o ≡ bottom
    → are_kept l r t o ≡ true → int_le l r ≡ true → int_le o t ≡ false
    → Err block_faults.BadBox ≡ box_of left right top bottom
box-upside_down left right top bottom l r t o is_l is_r is_t is_o kept across up =
    rw (← is_l, ← is_r, ← is_t, ← is_o, kept, across, up) refl

-- ---- messages

pub ruleset text_steps = (is_utf8-from_IsUtf8)

pub head-refused : (raw : List ℕ) (fault : MessageFault) → message PRIMITIVE_BLOCK raw ≡ Err fault
    → Err (block_faults.Wire fault) ≡ block_head raw
unfolding block_head
head-refused raw fault e = rw (e, block_head) refl

pub head-is : (raw : List ℕ) (fs : List Field) (g lat lon : Option ℕ) (a b c : ℤ)
    → message PRIMITIVE_BLOCK raw ≡ Ok fs → g ≡ number_of BLOCK_GRANULARITY fs → lat ≡ number_of BLOCK_LAT_OFFSET fs
    → lon ≡ number_of BLOCK_LON_OFFSET fs
    → a ≡ int64 (unwrap_or g 100) → b ≡ int64 (unwrap_or lat 0) → c ≡ int64 (unwrap_or lon 0)
    → Ok (record { granularity = a; lat_offset = b; lon_offset = c }) ≡ block_head raw
unfolding block_head
head-is raw fs g lat lon a b c e is_g is_lat is_lon is_a is_b is_c =
    rw (e, is_a, is_b, is_c, is_g, is_lat, is_lon, block_head) refl

pub box-refused : (bytes : List ℕ) (fault : MessageFault) → message HEADER_BBOX bytes ≡ Err fault
    → Err (block_faults.Wire fault) ≡ box_in bytes
unfolding box_in
box-refused bytes fault e = rw (e, box_in) refl

pub box-is : (bytes : List ℕ) (fs : List Field) (left right top bottom : Option ℕ) (r : Result Rect BlockFault)
    → message HEADER_BBOX bytes ≡ Ok fs
    → left ≡ number_of BBOX_LEFT fs → right ≡ number_of BBOX_RIGHT fs → top ≡ number_of BBOX_TOP fs
    → bottom ≡ number_of BBOX_BOTTOM fs → r ≡ sides_box left right top bottom → r ≡ box_in bytes
unfolding box_in
box-is bytes fs left right top bottom r e is_l is_r is_t is_b told = told ∙ rw (e, is_l, is_r, is_t, is_b, box_in) refl

pub header-refused : (raw : List ℕ) (fault : MessageFault) → message HEADER_BLOCK raw ≡ Err fault
    → Err (block_faults.Wire fault) ≡ header_box raw
unfolding header_box
header-refused raw fault e = rw (e, header_box) refl

pub header-no_box : (raw : List ℕ) (fs : List Field) (fault : BlockFault) → message HEADER_BLOCK raw ≡ Ok fs
    → Err fault ≡ box_where (once_of HEADER_BLOCK_BBOX fs) → Err fault ≡ header_box raw
unfolding header_box
header-no_box raw fs fault e box = rw (e, ← box, header_box) refl

pub header-known : (raw : List ℕ) (fs : List Field) (rect : Option Rect) → message HEADER_BLOCK raw ≡ Ok fs
    → Ok rect ≡ box_where (once_of HEADER_BLOCK_BBOX fs)
    → true ≡ list_all is_known_feature (bytes_of HEADER_BLOCK_REQUIRED_FEATURES fs) → Ok rect ≡ header_box raw
unfolding header_box
header-known raw fs rect e box known = rw (e, ← box, ← known, header_box) refl

pub header-unknown : (raw : List ℕ) (fs : List Field) (rect : Option Rect) → message HEADER_BLOCK raw ≡ Ok fs
    → Ok rect ≡ box_where (once_of HEADER_BLOCK_BBOX fs)
    → false ≡ list_all is_known_feature (bytes_of HEADER_BLOCK_REQUIRED_FEATURES fs)
    → Err block_faults.RequiredFeature ≡ header_box raw
unfolding header_box
header-unknown raw fs rect e box known = rw (e, ← box, ← known, header_box) refl
