-- What is read as a number, a text, a place or a ring is spelled so.
use Rattle.std.proofs.Common.{◌≡◌, Ok, ℕ, zero, suc, ◌-◌, ◌^◌, ◌<◌, ◌≤◌, List, [], ◌∷◌, length, take, drop, refl, sym}
use Rattle.std.proofs.Common.{ap, ◌∙◌, subst, arith, true, false}
use Rattle.std.specs.Prelude.{Bool, flat_map, ℤ, neg_ℤ, ◌+ℤ◌, ◌-ℤ◌, IsTrue, nat_abs}
use Rattle.std.specs.List.{AllByRecursion}
use Rattle.std.specs.Str.{is_utf8}
use Rattle.std.proofs.lemmas.Bool.{leb-true}
use Rattle.std.proofs.lemmas.List.{length-take-le}
use Rattle.std.proofs.Math.IntN.{+ℤ_comm, +ℤ_assoc, +ℤ-neg_ℤ_cancel, neg_ℤ-+ℤ}
use Rattle.mf_base.specs.Spelling.{IsBytes, vbe_unsigned, vbe_signed, string}
use Rattle.mf_base.specs.NumberReading.{unsigned_front, signed_front}
use Rattle.mf_base.specs.declared.place.Place.{Place}
use Rattle.mf_base.specs.Ranges.{is_signed_32}
use Rattle.mf_base.proofs.StepLaws.{bind_ok, require_ok, told_ok, ok_is}
use Rattle.mf_base.proofs.NumberLemmas.{vbe_unsigned-only, unsigned_front-found, signed_front-found, vbe_signed-only}
use Rattle.feature_model.specs.Inside.{Ring}
use Rattle.map_model.specs.Rectangles.{origin}
use Rattle.map_model.specs.Layout.{step, step_bytes, steps_from, ring_bytes, block_bytes}
use Rattle.map_model.specs.Reader.{with_rest}
use Rattle.map_model.specs.TileReading.{number, signed, count_from, tile_text_at, ranged, place_from, moved}
use Rattle.map_model.specs.TileReading.{places_after, ring_at, block_at, IsText, IsPlaceOf32Bits, IsToldRing}
use Rattle.map_model.specs.TileReading.{IsToldBlock}
use Rattle.map_model.proofs.ReaderFound.{Takes, IsFound, Finds, nothing, taken, then, with_rest_ok, front, times-found}
use Rattle.map_model.proofs.PlacesAgain.{after_first, coordinates-split}

-- an unsigned number, whatever its fault is told as
pub unsigned-found : (bytes : List ℕ) (r : ℕ × List ℕ) → IsBytes bytes → with_rest bytes (unsigned_front bytes) ≡ Ok r
    → IsFound vbe_unsigned (λ n. n < 2 ^ 63) bytes r
unsigned-found bytes r small e =
    let size = with_rest_ok bytes (unsigned_front bytes) r e in
    let found = unsigned_front-found bytes r.0 size.0 small size.1 in (
      front size.0 bytes (vbe_unsigned r.0) r.1 small (vbe_unsigned-only r.0 (take size.0 bytes) found.spelled) size.2,
      found.fits,
    )

pub number-found : Finds number vbe_unsigned (λ n. n < 2 ^ 63)
unfolding number
number-found bytes r small e = unsigned-found bytes r small (told_ok _ _ r e)

pub signed-found : Finds signed vbe_signed (λ z. nat_abs z < 2 ^ 63)
unfolding signed
signed-found bytes r small e =
    let size = with_rest_ok bytes (signed_front bytes) r (told_ok _ _ r e) in
    let found = signed_front-found bytes r.0 size.0 small size.1 in (
      front size.0 bytes (vbe_signed r.0) r.1 small (vbe_signed-only r.0 (take size.0 bytes) found.spelled) size.2,
      found.fits,
    )

pub count_from-found : (few : ℕ) → Finds (count_from few) vbe_unsigned (λ n. (few ≤ n) × (n < 2 ^ 63))
unfolding count_from
count_from-found few bytes r small e =
    let n = bind_ok _ _ r e in
    let enough = bind_ok _ _ r n.2 in
    let found = number-found bytes n.0 small n.1 in
    subst (IsFound vbe_unsigned (λ n. (few ≤ n) × (n < 2 ^ 63)) bytes) (ok_is n.0 r enough.2)
    (found.0, (leb-true few n.0.0 (require_ok _ _ _ enough.1), found.1))

-- a text of these bytes behind its length
pub text_found : (bytes : List ℕ) (n : ℕ × List ℕ) → Takes bytes (vbe_unsigned n.0) n.1 → n.0 < 2 ^ 63
    → n.0 ≤ length n.1 → IsTrue (is_utf8 (take n.0 n.1)) → IsFound string IsText bytes (take n.0 n.1, drop n.0 n.1)
unfolding string
text_found bytes n front fits whole good =
    let len = length-take-le n.0 n.1 whole in
    let told = subst (λ k. Takes bytes (vbe_unsigned k) n.1) (sym len) front in
    (then told (taken n.0 n.1 front.behind), (rw len fits, good))

pub text_at-found : Finds tile_text_at string IsText
unfolding tile_text_at
text_at-found bytes r small e =
    let n = bind_ok _ _ r e in
    let whole = bind_ok _ _ r n.2 in
    let good = bind_ok _ _ r whole.2 in
    let found = number-found bytes n.0 small n.1 in
    subst (IsFound string IsText bytes) (ok_is (take n.0.0 n.0.1, drop n.0.0 n.0.1) r good.2)
    (text_found bytes n.0 found.0 found.1 (leb-true n.0.0 (length n.0.1) (require_ok _ _ _ whole.1))
    (require_ok _ _ _ good.1))

-- ---- places

-- what was added is taken away
added : (base d : ℤ) → base +ℤ d -ℤ base ≡ d
added base d = ap (λ z. z -ℤ base) (+ℤ_comm base d) ∙ +ℤ-neg_ℤ_cancel d base

abbrev pub IsSigned32 : ℤ → Type 0
IsSigned32 z = IsTrue (is_signed_32 z)

pub ranged-found : (base : ℤ) → Finds (ranged base) (λ z. vbe_signed (z -ℤ base)) IsSigned32
unfolding ranged
ranged-found base bytes r small e =
    let d = bind_ok _ _ r e in
    let fits = bind_ok _ _ r d.2 in
    let found = signed-found bytes d.0 small d.1 in
    subst (IsFound (λ z. vbe_signed (z -ℤ base)) IsSigned32 bytes) (ok_is (base +ℤ d.0.0, d.0.1) r fits.2)
    (subst (λ z. Takes bytes (vbe_signed z) d.0.1) (sym (added base d.0.0)) found.0, require_ok _ _ _ fits.1)

pub place_from-found : (base : Place) → Finds (place_from base) (λ p. step_bytes (step base p)) IsPlaceOf32Bits
unfolding place_from
place_from-found base bytes r small e =
    let lat = bind_ok _ _ r e in
    let lon = bind_ok _ _ r lat.2 in
    let a = ranged-found base.lat bytes lat.0 small lat.1 in
    let b = ranged-found base.lon lat.0.1 lon.0 a.0.behind lon.1 in
    subst (IsFound (λ p. step_bytes (step base p)) IsPlaceOf32Bits bytes)
    (ok_is (record { lat = lat.0.0; lon = lon.0.0 }, lon.0.1) r lon.2) (then a.0 b.0, (a.1, b.1))

-- ---- rings

-- how far z is from what stands l behind b
less_both : (b l z : ℤ) → z -ℤ (b +ℤ l) ≡ z -ℤ b -ℤ l
less_both b l z = ap (λ k. z +ℤ k) (neg_ℤ-+ℤ b l) ∙ sym (+ℤ_assoc z (neg_ℤ b) (neg_ℤ l))

step-moved : (before last p : Place) → step (moved before last) p ≡ step last (step before p)
step-moved before last p i =
    record { lat = less_both before.lat last.lat p.lat i; lon = less_both before.lon last.lon p.lon i }

-- places behind one, the bytes that tell them, and how many they are
abbrev pub AreSoMany : ℕ → Ring → Type 0
AreSoMany n ps = (length ps ≡ n) × AllByRecursion IsPlaceOf32Bits ps

single_found : (n : ℕ) (before last : Place)
    → Finds (places_after false n before last) (λ ps. flat_map step_bytes (steps_from before ps)) (AreSoMany n)
unfolding places_after
single_found zero before last bytes r small e =
    subst (IsFound (λ ps. flat_map step_bytes (steps_from before ps)) (AreSoMany zero) bytes) (ok_is ([], bytes) r e)
    (nothing bytes small, (refl, tt))
single_found (suc n) before last bytes r small e =
    let p = bind_ok _ _ r e in
    let others = bind_ok _ _ r p.2 in
    let x = place_from-found before bytes p.0 small p.1 in
    let xs = single_found n p.0.0 (step before p.0.0) p.0.1 others.0 x.0.behind others.1 in
    subst (IsFound (λ ps. flat_map step_bytes (steps_from before ps)) (AreSoMany (suc n)) bytes)
    (ok_is (p.0.0 ∷ others.0.0, others.0.1) r others.2)
    (then x.0 xs.0, (ap suc xs.1.0, (x.1, xs.1.1)))

double_found : (n : ℕ) (before last : Place)
    → Finds (places_after true n before last) (λ ps. flat_map step_bytes (steps_from last (steps_from before ps)))
    (AreSoMany n)
unfolding places_after
double_found zero before last bytes r small e =
    subst (IsFound (λ ps. flat_map step_bytes (steps_from last (steps_from before ps))) (AreSoMany zero) bytes)
    (ok_is ([], bytes) r e) (nothing bytes small, (refl, tt))
double_found (suc n) before last bytes r small e =
    let p = bind_ok _ _ r e in
    let others = bind_ok _ _ r p.2 in
    let x = place_from-found (moved before last) bytes p.0 small p.1 in
    let spelt = subst (λ s. Takes bytes (step_bytes s) p.0.1) (step-moved before last p.0.0) x.0 in
    let xs = double_found n p.0.0 (step before p.0.0) p.0.1 others.0 x.0.behind others.1 in
    subst (IsFound (λ ps. flat_map step_bytes (steps_from last (steps_from before ps))) (AreSoMany (suc n)) bytes)
    (ok_is (p.0.0 ∷ others.0.0, others.0.1) r others.2)
    (then spelt xs.0, (ap suc xs.1.0, (x.1, xs.1.1)))

places_after-found : (double : Bool) (n : ℕ) (first : Place)
    → Finds (places_after double n first origin) (after_first double first) (AreSoMany n)
unfolding after_first
places_after-found true n first bytes r small e = double_found n first origin bytes r small e
places_after-found false n first bytes r small e = single_found n first origin bytes r small e

pub ring_at-found : (corner : Place) (double : Bool)
    → Finds (ring_at corner double) (ring_bytes corner double) IsToldRing
unfolding ring_at ring_bytes
ring_at-found corner double bytes r small e =
    let n = bind_ok _ _ r e in
    let first = bind_ok _ _ r n.2 in
    let others = bind_ok _ _ r first.2 in
    let count = count_from-found 2 bytes n.0 small n.1 in
    let p = place_from-found corner n.0.1 first.0 count.0.behind first.1 in
    let ps = places_after-found double (n.0.0 - 1) first.0.0 first.0.1 others.0 p.0.behind others.1 in
    let ring = first.0.0 ∷ others.0.0 in
    let two = count.1.0 in
    let many : length ring ≡ n.0.0 = omega (arith, two, ps.1.0) in
    let told = subst (λ k. Takes bytes (vbe_unsigned k) n.0.1) (sym many) count.0 in
    let places = subst (λ text. Takes n.0.1 text others.0.1)
    (sym (coordinates-split corner double first.0.0 others.0.0)) (then p.0 ps.0) in
    subst (IsFound (ring_bytes corner double) IsToldRing bytes) (ok_is (ring, others.0.1) r others.2) (
      then told places,
      (rw many two, rw many count.1.1, (p.1, ps.1.1)),
    )

pub block_at-found : (corner : Place) (double : Bool)
    → Finds (block_at corner double) (block_bytes corner double) IsToldBlock
unfolding block_at block_bytes
block_at-found corner double bytes r small e =
    let n = bind_ok _ _ r e in
    let count = count_from-found 1 bytes n.0 small n.1 in
    let rings = times-found (ring_at corner double) (ring_bytes corner double) IsToldRing (ring_at-found corner double)
    n.0.0 n.0.1 r count.0.behind n.2 in
    let told = subst (λ k. Takes bytes (vbe_unsigned k) n.0.1) (sym rings.1.0) count.0 in
    (then told rings.0, (rw rings.1.0 count.1.0, rw rings.1.0 count.1.1, rings.1.1))
