-- The place of stored numbers.
use Rattle.std.proofs.Common.{◌≡◌, ◌∙◌, ◌≤◌, ◌*◌, ◌^◌, ℕ, ℤ, pos, negsuc}
use Rattle.std.proofs.Common.{◌+ℤ◌, ◌*ℤ◌, FitsSigned, to_z, of_z, refl, ap, sym, arith}
use Rattle.std.proofs.Common.{true, false, Ok, Err, Result}
use Rattle.std.specs.Prelude.{unsigned_abs}
use Rattle.std.specs.Int.{w64}
use Rattle.std.proofs.lemmas.Int.{fits_signed_mul, to_z-of_z, ints, unsigned_abs-mul}
use mir.Syntax.{w128}
use Rattle.std.proofs.Common.{Bool}
use Rattle.mf_base.specs.Steps.{◌>>=◌, require}
use Rattle.mf_base.proofs.StepLaws.{ok_is, err_is_no_ok}
use Rattle.mf_base.specs.declared.place.Place.{Place}
use Rattle.osm_model.specs.declared.limits.TheConstants.{LATITUDE_LIMIT, LONGITUDE_LIMIT}
use Rattle.osm_model.specs.declared.faults.EntityFault.{EntityFault}
use Rattle.osm_model.specs.declared.faults.EntityFault.TheVariants.{Coordinate}
use Rattle.osm_model.specs.Blocks.{BlockHead, keeps_limit, nano, lat_nano, lon_nano, micro, place_of}
use Rattle.pbf_block.proofs.BlockReads.{keeps-latitude}
use Rattle.osm_entity.specs.Place.{checked_nano, checked_place}

abs_fits : (z : ℤ) → FitsSigned w64 z → unsigned_abs z ≤ 2 ^ 63
abs_fits (pos n) f = omega (arith, ints, f)
abs_fits (negsuc n) f = omega (arith, ints, f)

product : (g s : ℤ) → FitsSigned w64 g → FitsSigned w64 s → unsigned_abs (g *ℤ s) ≤ 2 ^ 126
product g s f h = rw (unsigned_abs-mul g s) (times (unsigned_abs g) (unsigned_abs s) (abs_fits g f) (abs_fits s h))
  where
    times : (a b : ℕ) → a ≤ 2 ^ 63 → b ≤ 2 ^ 63 → a * b ≤ 2 ^ 126
    times a b x y = grind arith

sum_fits : (o p : ℤ) → FitsSigned w64 o → unsigned_abs p ≤ 2 ^ 126 → FitsSigned w128 (o +ℤ p)
sum_fits o (pos n) f h = omega (arith, ints, f, h)
sum_fits o (negsuc n) f h = omega (arith, ints, f, h)

widened : (z : ℤ) → FitsSigned w64 z → FitsSigned w128 z
widened z f = omega (arith, ints, f)

-- numbers of 64 bits, as they are kept in 128
abbrev kept : ℤ → ℤ
kept z = to_z w128 (of_z w128 z)

same : (z : ℤ) → FitsSigned w64 z → kept z ≡ z
same z f = to_z-of_z w128 z (widened z f)

product_kept : (g s : ℤ) → FitsSigned w64 g → FitsSigned w64 s → kept (kept g *ℤ kept s) ≡ g *ℤ s
product_kept g s f h =
    ap (λ z. kept (z *ℤ kept s)) (same g f) ∙ ap (λ z. kept (g *ℤ z)) (same s h)
    ∙ to_z-of_z w128 (g *ℤ s) (fits_signed_mul w128 g s (2 ^ 63) (2 ^ 63) (abs_fits g f) (abs_fits s h) (omega arith))

sum_kept : (o g s : ℤ) → FitsSigned w64 o → FitsSigned w64 g → FitsSigned w64 s
    → kept o +ℤ kept (kept g *ℤ kept s) ≡ o +ℤ g *ℤ s
sum_kept o g s e f h = ap (λ z. z +ℤ kept (kept g *ℤ kept s)) (same o e) ∙ ap (λ z. o +ℤ z) (product_kept g s f h)

-- a number of 64 bits, as it is passed
abbrev read : ℤ → ℤ
read z = to_z w64 (of_z w64 z)

pub nano_fits : (o g s a b c : ℤ) → FitsSigned w64 o → FitsSigned w64 g → FitsSigned w64 s
    → a ≡ read o → b ≡ read g → c ≡ read s
    → FitsSigned w128 (kept a +ℤ kept (kept b *ℤ kept c))
nano_fits o g s a b c e f h is_o is_g is_s =
    rw (is_o, is_g, is_s, to_z-of_z w64 o e, to_z-of_z w64 g f, to_z-of_z w64 s h, sum_kept o g s e f h)
    (sum_fits o (g *ℤ s) e (product g s f h))

pub nano_is : (o g s a b c : ℤ) → FitsSigned w64 o → FitsSigned w64 g → FitsSigned w64 s
    → a ≡ read o → b ≡ read g → c ≡ read s
    → kept (kept a +ℤ kept (kept b *ℤ kept c)) ≡ o +ℤ g *ℤ s
nano_is o g s a b c e f h is_o is_g is_s =
    rw (is_o, is_g, is_s, to_z-of_z w64 o e, to_z-of_z w64 g f, to_z-of_z w64 s h, sum_kept o g s e f h)
    (to_z-of_z w128 (o +ℤ g *ℤ s) (sum_fits o (g *ℤ s) e (product g s f h)))

-- ---- nanodegrees that keep a limit

err_is : (f g : EntityFault) → ◌≡◌ {A = Result ℤ EntityFault} (Err f) (Err g) → f ≡ g
err_is f g e = cc

nano_told : (limit : ℕ) (z a : ℤ) (keeps : Bool) → (require keeps Coordinate >>= λ u. Ok z) ≡ Ok a
    → (keeps ≡ true) × (a ≡ z)
nano_told limit z a true e = (refl, sym (ok_is z a e))
nano_told limit z a false e = absurd (err_is_no_ok _ _ e)

pub nano_kept : (limit : ℕ) (z a : ℤ) → checked_nano limit z ≡ Ok a → (keeps_limit limit z ≡ true) × (a ≡ z)
nano_kept limit z a e = nano_told limit z a (keeps_limit limit z) e

nano_refused : (z : ℤ) (fault : EntityFault) (keeps : Bool) → (require keeps Coordinate >>= λ u. Ok z) ≡ Err fault
    → (keeps ≡ false) × (fault ≡ Coordinate)
nano_refused z fault true e = absurd (err_is_no_ok _ _ (sym e))
nano_refused z fault false e = (refl, sym (err_is Coordinate fault e))

pub place-far_lat : (head : BlockHead) (lat lon : ℤ) (fault : EntityFault)
    → checked_nano LATITUDE_LIMIT (lat_nano head lat) ≡ Err fault → Err fault ≡ checked_place head lat lon
place-far_lat head lat lon fault e =
    let (far, is) = nano_refused (lat_nano head lat) fault (keeps_limit LATITUDE_LIMIT (lat_nano head lat)) e in
    rw (is, far) refl

pub place-far_lon : (head : BlockHead) (lat lon a : ℤ) (fault : EntityFault)
    → checked_nano LATITUDE_LIMIT (lat_nano head lat) ≡ Ok a
    → checked_nano LONGITUDE_LIMIT (lon_nano head lon) ≡ Err fault → Err fault ≡ checked_place head lat lon
place-far_lon head lat lon a fault d e =
    let (near, same) = nano_kept LATITUDE_LIMIT (lat_nano head lat) a d in
    let (far, is) = nano_refused (lon_nano head lon) fault (keeps_limit LONGITUDE_LIMIT (lon_nano head lon)) e in
    rw (is, near, far) refl

pub place-is : (head : BlockHead) (lat lon a b x y : ℤ)
    → checked_nano LATITUDE_LIMIT (lat_nano head lat) ≡ Ok a
    → checked_nano LONGITUDE_LIMIT (lon_nano head lon) ≡ Ok b → x ≡ micro a → y ≡ micro b
    → Ok (record { lat = x; lon = y }) ≡ checked_place head lat lon
unfolding place_of
place-is head lat lon a b x y d e is_x is_y =
    let (near, is_a) = nano_kept LATITUDE_LIMIT (lat_nano head lat) a d in
    let (far, is_b) = nano_kept LONGITUDE_LIMIT (lon_nano head lon) b e in
    rw (is_x, is_y, is_a, is_b, near, far, place_of) refl

-- ---- nanodegrees of numbers as they are passed

pub nano_read : (limit : ℕ) (o g s : ℤ) (r : Result ℤ EntityFault) → FitsSigned w64 o → FitsSigned w64 g
    → FitsSigned w64 s → r ≡ checked_nano limit (nano (read o) (read g) (read s)) → r ≡ checked_nano limit (nano o g s)
nano_read limit o g s r e f h is =
    is ∙ rw (to_z-of_z w64 o e, to_z-of_z w64 g f, to_z-of_z w64 s h) refl

pub lat-kept : (z a : ℤ) → FitsSigned w64 a → checked_nano LATITUDE_LIMIT z ≡ Ok a
    → keeps_limit LONGITUDE_LIMIT (read a) ≡ true
lat-kept z a f e =
    rw (to_z-of_z w64 a f) (let (near, is) = nano_kept LATITUDE_LIMIT z a e in
    rw is (keeps-latitude z near))

pub lon-kept : (z a : ℤ) → FitsSigned w64 a → checked_nano LONGITUDE_LIMIT z ≡ Ok a
    → keeps_limit LONGITUDE_LIMIT (read a) ≡ true
lon-kept z a f e =
    rw (to_z-of_z w64 a f) (let (near, is) = nano_kept LONGITUDE_LIMIT z a e in rw is near)

pub place_read : (head : BlockHead) (lat lon : ℤ) (r : Result Place EntityFault) → FitsSigned w64 lat
    → FitsSigned w64 lon → r ≡ checked_place head (read lat) (read lon) → r ≡ checked_place head lat lon
place_read head lat lon r f h is = is ∙ rw (to_z-of_z w64 lat f, to_z-of_z w64 lon h) refl
