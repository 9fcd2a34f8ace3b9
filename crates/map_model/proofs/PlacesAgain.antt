-- What a tile tells is read again from its bytes.
use Rattle.std.proofs.Common.{◌≡◌, ℕ, suc, ◌+◌, ◌-◌, ◌^◌, ◌<◌, ◌≤◌, List, [], ◌∷◌, ◌++◌, length, refl, ap, ◌∙◌, arith}
use Rattle.std.proofs.Common.{inl, inr, true, false, length-append, append_assoc}
use Rattle.std.specs.Prelude.{Bool, ◌&&◌, flat_map, cond, ℤ, pos, negsuc, neg_ℤ, nat_abs, ◌+ℤ◌, ◌-ℤ◌, nat_lt, Ok, leb}
use Rattle.std.proofs.lemmas.Bool.{cases_lt, lt-ltb, le-ltb, le-leb, leb-true}
use Rattle.std.proofs.lemmas.List.{drop_at, take_at}
use Rattle.std.proofs.Math.IntN.{+ℤ_assoc}
use Rattle.std.specs.List.{AllByRecursion}
use Rattle.std.proofs.Math.Numerals.{sub-one}
use Rattle.mf_base.specs.Spelling.{vbe_unsigned, vbe_signed, string}
use Rattle.mf_base.proofs.NumberLemmas.{unsigned_front-again, signed_front-again}
use Rattle.mf_base.specs.declared.place.Place.{Place}
use Rattle.mf_base.specs.Ranges.{is_signed_32}
use Rattle.feature_model.specs.Features.{Block}
use Rattle.feature_model.specs.Inside.{Ring}
use Rattle.mf_base.proofs.SignLaws.{nat_abs-neg, plus_difference}
use Rattle.map_model.specs.Rectangles.{origin}
use Rattle.map_model.specs.Layout.{step, step_bytes, steps_from, ring_steps, coordinate_bytes, ring_bytes, block_bytes}
use Rattle.map_model.specs.Reader.{Read, times}
use Rattle.map_model.specs.TileReading.{number, signed, count_from, tile_text_at, ranged, place_from, moved}
use Rattle.map_model.specs.TileReading.{places_after, ring_at, block_at, IsText, IsPlaceOf32Bits, IsToldRing}
use Rattle.map_model.specs.TileReading.{IsToldBlock}

-- a reader reads x from these bytes, whatever follows them
unfoldable pub Again : {Kind X : Type 0} → (List ℕ → Read Kind X) → List ℕ → X → Type 0
Again read bytes x = (rest : List ℕ) → read (bytes ++ rest) ≡ Ok (x, rest)

pub number-again : (n : ℕ) → n < 2 ^ 63 → Again number (vbe_unsigned n) n
unfolding Again number
number-again n fits rest =
    rw (unsigned_front-again n rest fits, drop_at (vbe_unsigned n) rest (length (vbe_unsigned n)) refl) refl

pub signed-again : (z : ℤ) → nat_abs z < 2 ^ 63 → Again signed (vbe_signed z) z
unfolding Again signed
signed-again z fits rest =
    rw (signed_front-again z rest fits, drop_at (vbe_signed z) rest (length (vbe_signed z)) refl) refl

pub count_from-again : (few n : ℕ) → few ≤ n → n < 2 ^ 63 → Again (count_from few) (vbe_unsigned n) n
unfolding Again count_from
count_from-again few n enough fits rest = rw (number-again n fits rest, le-leb few n enough) refl

pub text_at-again : (text : List ℕ) → IsText text → Again tile_text_at (string text) text
unfolding Again tile_text_at string
text_at-again text h rest =
    ap tile_text_at (append_assoc (vbe_unsigned (length text)) text rest)
    ∙ rw (
      number-again (length text) h.0 (text ++ rest),
      take_at text rest (length text) refl,
      drop_at text rest (length text) refl,
      le-leb (length text) (length (text ++ rest)) (rw (length-append text rest) (omega arith)),
      h.1,
    ) refl

-- ---- ranges

pub and-true : (b : Bool) → b && true ≡ true → b ≡ true
and-true true e = refl
and-true false e = e

pub nat_abs-in_32 : (z : ℤ) → is_signed_32 z ≡ true → nat_abs z ≤ 2 ^ 31
nat_abs-in_32 (pos n) e = let le = leb-true n 2147483647 e in omega (arith, le)
nat_abs-in_32 (negsuc n) e = let le = leb-true n 2147483647 (and-true (leb n 2147483647) e) in omega (arith, le)

nat_abs-sub : (a b : ℕ) → nat_abs (cond (nat_lt a (suc b)) (negsuc (suc b - suc a)) (pos (a - suc b))) ≤ a + suc b
nat_abs-sub a b = elim (cases_lt a (suc b)) [
  | inl lt ↦ rw (lt-ltb a (suc b) lt) (omega (arith, lt))
  | inr ge ↦ rw (le-ltb a (suc b) ge) (omega arith)
]

nat_abs-sum : (m k : ℤ) → nat_abs (m +ℤ k) ≤ nat_abs m + nat_abs k
nat_abs-sum (pos a) (pos b) = omega arith
nat_abs-sum (pos a) (negsuc b) = nat_abs-sub a b
nat_abs-sum (negsuc a) (pos b) = let le = nat_abs-sub b a in omega (arith, le)
nat_abs-sum (negsuc a) (negsuc b) = omega arith

pub nat_abs-step : (a b : ℤ) → is_signed_32 a ≡ true → is_signed_32 b ≡ true → nat_abs (b -ℤ a) < 2 ^ 63
nat_abs-step a b ha hb =
    let le = nat_abs-sum b (neg_ℤ a) in
    let neg = nat_abs-neg a in
    let la = nat_abs-in_32 a ha in
    let lb = nat_abs-in_32 b hb in
    omega (arith, le, neg, la, lb)

pub ranged-again : (base z : ℤ) → is_signed_32 base ≡ true → is_signed_32 z ≡ true
    → Again (ranged base) (vbe_signed (z -ℤ base)) z
unfolding Again ranged
ranged-again base z hb hz rest =
    rw (signed-again (z -ℤ base) (nat_abs-step base z hb hz) rest, plus_difference base z, hz) refl

pub place_from-again : (base p : Place) → IsPlaceOf32Bits base → IsPlaceOf32Bits p
    → Again (place_from base) (step_bytes (step base p)) p
unfolding Again place_from
place_from-again base p hb hp rest =
    ap (place_from base) (append_assoc (vbe_signed (p.lat -ℤ base.lat)) (vbe_signed (p.lon -ℤ base.lon)) rest)
    ∙ rw (
      ranged-again base.lat p.lat hb.0 hp.0 (vbe_signed (p.lon -ℤ base.lon) ++ rest),
      ranged-again base.lon p.lon hb.1 hp.1 rest,
    ) refl

-- ---- rings

ranged-by : (base d z : ℤ) → base +ℤ d ≡ z → nat_abs d < 2 ^ 63 → is_signed_32 z ≡ true
    → Again (ranged base) (vbe_signed d) z
unfolding Again ranged
ranged-by base d z e fits hz rest = rw (signed-again d fits rest, e, hz) refl

-- a step between places in range
record IsStep (s : Place) : Type 0 where
  lat : nat_abs s.lat ≤ 2 ^ 32
  lon : nat_abs s.lon ≤ 2 ^ 32

origin-step : IsStep origin
origin-step = record { lat = omega arith; lon = omega arith }

near : (a b : ℤ) → is_signed_32 a ≡ true → is_signed_32 b ≡ true → nat_abs (b -ℤ a) ≤ 2 ^ 32
near a b ha hb =
    let le = nat_abs-sum b (neg_ℤ a) in
    let neg = nat_abs-neg a in
    let la = nat_abs-in_32 a ha in
    let lb = nat_abs-in_32 b hb in
    omega (arith, le, neg, la, lb)

step-step : (a b : Place) → IsPlaceOf32Bits a → IsPlaceOf32Bits b → IsStep (step a b)
step-step a b ha hb = record { lat = near a.lat b.lat ha.0 hb.0; lon = near a.lon b.lon ha.1 hb.1 }

second_step : (l d : ℤ) → nat_abs l ≤ 2 ^ 32 → nat_abs d ≤ 2 ^ 32 → nat_abs (d -ℤ l) < 2 ^ 63
second_step l d hl hd =
    let le = nat_abs-sum d (neg_ℤ l) in
    let neg = nat_abs-neg l in
    omega (arith, le, neg, hl, hd)

forth : (b l z : ℤ) → b +ℤ l +ℤ (z -ℤ b -ℤ l) ≡ z
forth b l z = +ℤ_assoc b l (z -ℤ b -ℤ l) ∙ ap (λ k. b +ℤ k) (plus_difference l (z -ℤ b)) ∙ plus_difference b z

place_from-twice : (before last p : Place) → IsPlaceOf32Bits before → IsStep last → IsPlaceOf32Bits p
    → Again (place_from (moved before last)) (step_bytes (step last (step before p))) p
unfolding Again place_from
place_from-twice before last p hb hl hp rest =
    ap (place_from (moved before last)) (append_assoc (vbe_signed (p.lat -ℤ before.lat -ℤ last.lat))
    (vbe_signed (p.lon -ℤ before.lon -ℤ last.lon)) rest)
    ∙ rw (
      ranged-by (before.lat +ℤ last.lat) (p.lat -ℤ before.lat -ℤ last.lat) p.lat (forth before.lat last.lat p.lat)
          (second_step last.lat (p.lat -ℤ before.lat) hl.lat (near before.lat p.lat hb.0 hp.0)) hp.0
          (vbe_signed (p.lon -ℤ before.lon -ℤ last.lon) ++ rest),
      ranged-by (before.lon +ℤ last.lon) (p.lon -ℤ before.lon -ℤ last.lon) p.lon (forth before.lon last.lon p.lon)
          (second_step last.lon (p.lon -ℤ before.lon) hl.lon (near before.lon p.lon hb.1 hp.1)) hp.1 rest,
    ) refl

single_after : (ps : Ring) (before last : Place) → IsPlaceOf32Bits before → AllByRecursion IsPlaceOf32Bits ps
    → Again (places_after false (length ps) before last) (flat_map step_bytes (steps_from before ps)) ps
unfolding Again places_after
single_after [] before last hb h rest = refl
single_after (p ∷ ps) before last hb h rest =
    ap (places_after false (suc (length ps)) before last)
    (append_assoc (step_bytes (step before p)) (flat_map step_bytes (steps_from p ps)) rest)
    ∙ rw (
      place_from-again before p hb h.0 (flat_map step_bytes (steps_from p ps) ++ rest),
      single_after ps p (step before p) h.0 h.1 rest,
    ) refl

double_after : (ps : Ring) (before last : Place) → IsPlaceOf32Bits before → IsStep last
    → AllByRecursion IsPlaceOf32Bits ps
    → Again (places_after true (length ps) before last) (flat_map step_bytes (steps_from last (steps_from before ps)))
    ps
unfolding Again places_after
double_after [] before last hb hl h rest = refl
double_after (p ∷ ps) before last hb hl h rest =
    ap (places_after true (suc (length ps)) before last)
    (append_assoc (step_bytes (step last (step before p)))
    (flat_map step_bytes (steps_from (step before p) (steps_from p ps))) rest)
    ∙ rw (
      place_from-twice before last p hb hl h.0 (flat_map step_bytes (steps_from (step before p) (steps_from p ps))
          ++ rest),
      double_after ps p (step before p) h.0 (step-step before p hb h.0) h.1 rest,
    ) refl

-- what stands after the first place of a ring
unfoldable pub after_first : Bool → Place → Ring → List ℕ
after_first true first ps = flat_map step_bytes (steps_from origin (steps_from first ps))
after_first false first ps = flat_map step_bytes (steps_from first ps)

pub coordinates-split : (corner : Place) (double : Bool) (first : Place) (ps : Ring)
    → coordinate_bytes corner double (first ∷ ps) ≡ step_bytes (step corner first) ++ after_first double first ps
unfolding coordinate_bytes ring_steps after_first
coordinates-split corner true first ps = refl
coordinates-split corner false first ps = refl

places_after-again : (double : Bool) (ps : Ring) (first : Place) → IsPlaceOf32Bits first
    → AllByRecursion IsPlaceOf32Bits ps
    → Again (places_after double (length ps) first origin) (after_first double first ps) ps
unfolding Again after_first
places_after-again true ps first hf h = double_after ps first origin hf origin-step h
places_after-again false ps first hf h = single_after ps first origin hf h

pub ring_at-again : (corner : Place) (double : Bool) (ring : Ring) → IsPlaceOf32Bits corner → IsToldRing ring
    → Again (ring_at corner double) (ring_bytes corner double ring) ring
unfolding Again ring_at ring_bytes
ring_at-again corner double [] hc h rest = absurd (let two = h.0 in omega (arith, two))
ring_at-again corner double (first ∷ ps) hc h rest =
    ap (ring_at corner double)
    (ap (λ c. vbe_unsigned (suc (length ps)) ++ c ++ rest) (coordinates-split corner double first ps)
    ∙ append_assoc (vbe_unsigned (suc (length ps))) (step_bytes (step corner first) ++ after_first double first ps)
    rest ∙ ap (λ c. vbe_unsigned (suc (length ps)) ++ c)
    (append_assoc (step_bytes (step corner first)) (after_first double first ps) rest))
    ∙ rw (
      count_from-again 2 (suc (length ps)) h.0 h.1 (step_bytes (step corner first)
          ++ (after_first double first ps ++ rest)),
      place_from-again corner first hc h.2.0 (after_first double first ps ++ rest),
      sub-one (suc (length ps)),
      places_after-again double ps first h.2.0 h.2.1 rest,
    ) refl

-- as often as there are things to read
pub times-again : {Kind X : Type 0} (read : List ℕ → Read Kind X) (bytes : X → List ℕ) (Fits : X → Type 0)
    → ((x : X) → Fits x → Again read (bytes x) x) → (xs : List X) → AllByRecursion Fits xs
    → Again (times (length xs) read) (flat_map bytes xs) xs
unfolding Again times
times-again read bytes Fits again [] h rest = refl
times-again read bytes Fits again (x ∷ xs) h rest =
    ap (times (suc (length xs)) read) (append_assoc (bytes x) (flat_map bytes xs) rest)
    ∙ rw (again x h.0 (flat_map bytes xs ++ rest), times-again read bytes Fits again xs h.1 rest) refl

pub block_at-again : (corner : Place) (double : Bool) (rings : Block) → IsPlaceOf32Bits corner → IsToldBlock rings
    → Again (block_at corner double) (block_bytes corner double rings) rings
unfolding Again block_at block_bytes
block_at-again corner double rings hc h rest =
    ap (block_at corner double) (append_assoc (vbe_unsigned (length rings)) (flat_map (ring_bytes corner double) rings)
    rest)
    ∙ rw (
      count_from-again 1 (length rings) h.0 h.1 (flat_map (ring_bytes corner double) rings ++ rest),
      times-again (ring_at corner double) (ring_bytes corner double) IsToldRing
          (λ ring hr. ring_at-again corner double ring hc hr) rings h.2 rest,
    ) refl
