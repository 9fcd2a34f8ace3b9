-- The places of a ring, step by step.
use Rattle.std.proofs.Common.{◌≡◌, ℕ, ◌+◌, ◌*◌, ◌≤◌, ◌^◌, List, [], ◌∷◌, ◌++◌, length, refl, sym, ap, ◌∙◌, arith}
use Rattle.std.proofs.Common.{length-append, Some, None, Bool, true, false}
use Rattle.std.specs.Prelude.{flat_map, if◌then◌else◌, drop, pos}
use Rattle.mf_base.specs.Buffer.{Buffer, AppendsTo, HasRoom}
use Rattle.mf_base.specs.declared.place.Place.{Place}
use Rattle.feature_model.specs.Points.{Point}
use Rattle.map_model.specs.Layout.{step, step_bytes, ring_steps, coordinate_bytes}
use Rattle.way_delta.specs.declared.steps.Step.{Step}
use Rattle.way_delta.specs.Steps.{shown, IsStepBelow}
use Rattle.way_delta.specs.Rings.{ring_told, later_steps, later_bytes, ring_size, later_size}
use Rattle.way_delta.proofs.Lists.{point_of, first_point, next-point, no-point}
use Rattle.way_delta.proofs.Writing.{Completes, completes-part, completes-all, completes-front}

-- the bytes of the places behind one, where the step to that one was the last
abbrev pub still : Bool → Place → Place → List Point → List ℕ
still double before last points = flat_map step_bytes (later_steps double before last (ring_told points))

-- what is written of a step behind another
abbrev pub written_of : Bool → Place → Place → Place
written_of double last s = if double then step last s else s

still-more : (double : Bool) (before last : Place) (p : Point) (points : List Point)
    → still double before last (p ∷ points)
    ≡ step_bytes (written_of double last (step before p.place)) ++ still double p.place (step before p.place) points
still-more true before last p points = refl
still-more false before last p points = refl

still-none : (double : Bool) (before last : Place) (points : List Point) → points ≡ []
    → still double before last points ≡ []
still-none true before last points none = ap (still true before last) none
still-none false before last points none = ap (still false before last) none

-- the front of what is still to be written is what is written of the next step
pub still-next : (double : Bool) (before : Place) (last s w : Step) (points more : List Point) (found : ℕ × Place)
    → Some found ≡ first_point points → more ≡ drop 1 points → shown s ≡ step before found.1
    → shown w ≡ written_of double (shown last) (shown s)
    → still double before (shown last) points ≡ step_bytes (shown w) ++ still double found.1 (shown s) more
still-next double before last s w points more found is rest step_is written_is =
    ap (still double before (shown last)) (next-point points more found is rest)
    ∙ still-more double before (shown last) (point_of found) more
    ∙ (λ i. step_bytes (written_of double (shown last) (sym step_is i)) ++ still double found.1 (sym step_is i) more)
    ∙ ap (λ q. step_bytes q ++ still double found.1 (shown s) more) (sym written_is)

-- ---- putting

-- What is still to be put of places completes them, and the last step is small.
pub record PutsPlaces (now first : Buffer) (double : Bool) (before : Place) (last : Step) (points : List Point)
    (all : List ℕ) : Type 0 where
  pub completes : Completes now first (still double before (shown last) points) all
  pub small : IsStepBelow (2 ^ 33) last

-- no step yet
abbrev pub no_step : Step
no_step = record { lat = pos 0; lon = pos 0 }

pub puts-none : (first : Buffer) (double : Bool) (before : Place) (points : List Point)
    → PutsPlaces first first double before no_step points (later_bytes double before (ring_told points))
unfolding later_bytes
puts-none first double before points = record {
  completes = record { bytes = refl; capacity = refl };
  small = (omega arith, omega arith);
}

pub puts-room : (now first : Buffer) (double : Bool) (before : Place) (last s w : Step) (points more : List Point)
    (found : ℕ × Place) (all : List ℕ) → Some found ≡ first_point points → more ≡ drop 1 points
    → shown s ≡ step before found.1 → shown w ≡ written_of double (shown last) (shown s)
    → PutsPlaces now first double before last points all → HasRoom first (length all + 10)
    → HasRoom now (length (step_bytes (shown w)) + 10)
puts-room now first double before last s w points more found all is rest step_is written_is h room =
    completes-front now first (still double before (shown last) points) (step_bytes (shown w))
    (still double found.1 (shown s) more) all 10
    (still-next double before last s w points more found is rest step_is written_is) h.completes room

pub puts-more : (now next first : Buffer) (double : Bool) (before : Place) (last s w : Step)
    (points more : List Point) (found : ℕ × Place) (all : List ℕ) → Some found ≡ first_point points
    → more ≡ drop 1 points → shown s ≡ step before found.1 → shown w ≡ written_of double (shown last) (shown s)
    → IsStepBelow (2 ^ 33) s → AppendsTo now next (step_bytes (shown w))
    → PutsPlaces now first double before last points all → PutsPlaces next first double found.1 s more all
puts-more now next first double before last s w points more found all is rest step_is written_is small put h = record {
  completes = completes-part now next first (still double before (shown last) points) (step_bytes (shown w))
      (still double found.1 (shown s) more) all
      (still-next double before last s w points more found is rest step_is written_is) h.completes put;
  small = small;
}

pub puts-all : (now first : Buffer) (double : Bool) (before : Place) (last : Step) (points : List Point)
    (all : List ℕ) → None ≡ first_point points → PutsPlaces now first double before last points all
    → AppendsTo first now all
puts-all now first double before last points all none h =
    completes-all now first (still double before (shown last) points) all
    (still-none double before (shown last) points (no-point points none)) h.completes

-- the places of a ring are the first and those behind it
pub coordinates-more : (corner : Place) (double : Bool) (p : Point) (points : List Point)
    → coordinate_bytes corner double (ring_told (p ∷ points))
    ≡ step_bytes (step corner p.place) ++ later_bytes double p.place (ring_told points)
unfolding coordinate_bytes ring_steps later_bytes
coordinates-more corner true p points = refl
coordinates-more corner false p points = refl

pub coordinates-none : (corner : Place) (double : Bool) (points : List Point) → points ≡ []
    → coordinate_bytes corner double (ring_told points) ≡ []
unfolding coordinate_bytes ring_steps
coordinates-none corner true points none = ap (λ l. coordinate_bytes corner true (ring_told l)) none
coordinates-none corner false points none = ap (λ l. coordinate_bytes corner false (ring_told l)) none

pub coordinates-next : (corner : Place) (double : Bool) (s : Step) (points more : List Point) (found : ℕ × Place)
    → Some found ≡ first_point points → more ≡ drop 1 points → shown s ≡ step corner found.1
    → coordinate_bytes corner double (ring_told points)
    ≡ step_bytes (shown s) ++ later_bytes double found.1 (ring_told more)
coordinates-next corner double s points more found is rest step_is =
    ap (λ l. coordinate_bytes corner double (ring_told l)) (next-point points more found is rest)
    ∙ coordinates-more corner double (point_of found) more
    ∙ ap (λ q. step_bytes q ++ later_bytes double found.1 (ring_told more)) (sym step_is)

-- ---- measuring

-- What is measured and what is still to be measured is the size of all.
pub record Measures (single double : ℕ) (before : Place) (last : Step) (points all : List Point) (first : Place)
    : Type 0 where
  pub single_size : single + length (still false before (shown last) points) ≡ later_size false first all
  pub double_size : double + length (still true before (shown last) points) ≡ later_size true first all
  pub single_most : single + 20 * length points ≤ 20 * length all
  pub double_most : double + 20 * length points ≤ 20 * length all
  pub small : IsStepBelow (2 ^ 33) last

pub measures-none : (first : Place) (points : List Point) → Measures 0 0 first no_step points points first
unfolding later_bytes
measures-none first points = record {
  single_size =
      let e : length (still false first (shown no_step) points) ≡ later_size false first points = refl in
      omega (arith, e);
  double_size =
      let e : length (still true first (shown no_step) points) ≡ later_size true first points = refl in
      omega (arith, e);
  single_most = omega arith;
  double_most = omega arith;
  small = (omega arith, omega arith);
}

pub measures-more : (single double a b : ℕ) (before first : Place) (last s w : Step) (points more all : List Point)
    (found : ℕ × Place) → Some found ≡ first_point points → more ≡ drop 1 points
    → shown s ≡ step before found.1 → shown w ≡ step (shown last) (shown s)
    → a ≡ length (step_bytes (shown s)) → a ≤ 20 → b ≡ length (step_bytes (shown w)) → b ≤ 20
    → IsStepBelow (2 ^ 33) s → Measures single double before last points all first
    → Measures (single + a) (double + b) found.1 s more all first
measures-more single double a b before first last s w points more all found is rest step_is written_is one most two
    high small h =
    let single_is = ap length (still-next false before last s s points more found is rest step_is refl)
    ∙ length-append (step_bytes (shown s)) (still false found.1 (shown s) more) in
    let double_is = ap length (still-next true before last s w points more found is rest step_is written_is)
    ∙ length-append (step_bytes (shown w)) (still true found.1 (shown s) more) in
    let count = ap length (next-point points more found is rest) in
    let h1 = h.single_size in
    let h2 = h.double_size in
    let h3 = h.single_most in
    let h4 = h.double_most in
    record {
      single_size = omega (arith, h1, single_is, one);
      double_size = omega (arith, h2, double_is, two);
      single_most = omega (arith, h3, count, most);
      double_most = omega (arith, h4, count, high);
      small = small;
    }

-- one size of both
pub record Measured (single double : ℕ) (points : List Point) (first : Place) : Type 0 where
  pub single_is : single ≡ later_size false first points
  pub double_is : double ≡ later_size true first points
  pub most : (single ≤ 20 * length points) × (double ≤ 20 * length points)

pub measures-all : (single double : ℕ) (before first : Place) (last : Step) (points all : List Point)
    → None ≡ first_point points → Measures single double before last points all first
    → Measured single double all first
measures-all single double before first last points all none h =
    let a = ap length (still-none false before (shown last) points (no-point points none)) in
    let b = ap length (still-none true before (shown last) points (no-point points none)) in
    let h1 = h.single_size in
    let h2 = h.double_size in
    let h3 = h.single_most in
    let h4 = h.double_most in
    record {
      single_is = omega (arith, a, h1);
      double_is = omega (arith, b, h2);
      most = (omega (arith, h3), omega (arith, h4));
    }

-- the size of a ring is that of its first place and of those behind it
pub ring_size-next : (corner : Place) (double : Bool) (s : Step) (points more : List Point) (found : ℕ × Place)
    (a b : ℕ) → Some found ≡ first_point points → more ≡ drop 1 points → shown s ≡ step corner found.1
    → a ≡ length (step_bytes (shown s)) → b ≡ later_size double found.1 more
    → a + b ≡ ring_size corner double points
ring_size-next corner double s points more found a b is rest step_is one two =
    let all = ap length (coordinates-next corner double s points more found is rest step_is)
    ∙ length-append (step_bytes (shown s)) (later_bytes double found.1 (ring_told more)) in
    omega (arith, all, one, two)

pub ring_size-none : (corner : Place) (double : Bool) (points : List Point) → None ≡ first_point points
    → 0 ≡ ring_size corner double points
ring_size-none corner double points none =
    sym (ap length (coordinates-none corner double points (no-point points none)))
