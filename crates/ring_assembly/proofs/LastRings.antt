-- Rings that are laid, from the last to the first.
use Rattle.std.proofs.Common.{◌≡◌, ◌⊎◌, inl, inr, ℕ, ◌+◌, ◌-◌, ◌^◌, ◌<◌, ◌≤◌, Bool, true, false, List, [], ◌∷◌, ◌++◌}
use Rattle.std.proofs.Common.{length, take, drop, Option, Some, None, refl, sym, ap, ◌∙◌, arith, append_assoc, append-nil, subst}
use Rattle.std.specs.Prelude.{if◌then◌else◌, IfSome, slice_get}
use Rattle.std.proofs.lemmas.Option.{none-some, same_Some}
use Rattle.std.specs.List.{AllByRecursion, position_from}
use Rattle.std.proofs.lemmas.List.{length-append, take_at, drop_at, flat_map_more, same_from_push}
use Rattle.std.proofs.lemmas.Iterator.Adapters.{position_from-zero}
use Rattle.byteorder.specs.Endian.{big_number}
use Rattle.byteorder.specs.Numbers.{big_number-reads_back}
use Rattle.mf_base.specs.Spelling.{big_endian}
use Rattle.mf_base.specs.declared.place.Place.{Place}
use Rattle.feature_model.specs.Points.{Point}
use Rattle.feature_model.specs.Blocks.{places, begins_inside, home}
use Rattle.feature_model.specs.Inside.{inside}
use Rattle.mf_rows.specs.Units.{Unit16, point_in}
use Rattle.ring_assembly.specs.Marked.{points_in}
use Rattle.ring_assembly.specs.Laid.{LaidRing, home_number, foot_row, ring_rows, all_rows, points_of, HasHome, AreRowsOf}
use Rattle.ring_assembly.specs.Laid.{AreRings}

-- ---- the last row of a ring

home-small : (home : Option ℕ) → IfSome home (λ n. n < 2 ^ 32) → home_number home < 2 ^ 64
home-small None fits = omega arith
home-small (Some n) fits = omega (arith, fits)

pub home-told : (home : Option ℕ) (points : ℕ) (row : Unit16) → IfSome home (λ n. n < 2 ^ 32)
    → row ≡ foot_row home points → big_number 8 (take 8 row) ≡ home_number home
unfolding foot_row big_endian
home-told home points row fits is =
    ap (λ (r : Unit16). big_number 8 (take 8 r)) is
    ∙ big_number-reads_back 8 (home_number home) [] (home-small home fits)

pub points-told : (home : Option ℕ) (points : ℕ) (row : Unit16) → points < 2 ^ 64 → row ≡ foot_row home points
    → big_number 8 (drop 8 row) ≡ points
unfolding foot_row big_endian
points-told home points row few is =
    ap (λ (r : Unit16). big_number 8 (drop 8 r)) is ∙ big_number-reads_back 8 points [] few

-- ---- rings from the last on

pub rows-push : (before : List LaidRing) (r : LaidRing) → all_rows (before ++ r ∷ []) ≡ all_rows before ++ ring_rows r
rows-push before r = sym (flat_map_more ring_rows [] before r)

all-front : {A : Type 0} (P : A → Type 0) (xs : List A) (x : A) → AllByRecursion P (xs ++ x ∷ [])
    → AllByRecursion P xs × P x
all-front P [] x all = (tt, all.0)
all-front P (y ∷ xs) x all = let more = all-front P xs x all.1 in ((all.0, more.0), more.1)

-- rings are none, or there is a last one
pub record HasLast (rings : List LaidRing) : Type 0 where
  pub before : List LaidRing
  pub ring : LaidRing
  pub is : rings ≡ before ++ ring ∷ []

pub last-or_none : (rings : List LaidRing) → (rings ≡ []) ⊎ HasLast rings
last-or_none [] = inl refl
last-or_none (r ∷ rings) = by_rest (last-or_none rings)
  where
    by_rest : (rings ≡ []) ⊎ HasLast rings → (r ∷ rings ≡ []) ⊎ HasLast (r ∷ rings)
    by_rest (inl none) = inr (record { before = []; ring = r; is = ap (λ rs. r ∷ rs) none })
    by_rest (inr l) = inr (record { before = r ∷ l.before; ring = l.ring; is = ap (λ rs. r ∷ rs) l.is })

-- rings that have rows have a last one
pub has-last : (rings : List LaidRing) (rows : List Unit16) → AreRowsOf rings rows → 0 < length rows → HasLast rings
has-last rings rows are some = of_case (last-or_none rings)
  where
    of_case : (rings ≡ []) ⊎ HasLast rings → HasLast rings
    of_case (inl none) =
        absurd (omega (arith, some, ap length are.rows_are, ap (λ (rs : List LaidRing). length (all_rows rs)) none))
    of_case (inr l) = l

-- what stands before the last row, where rows are those of rings with a last one
module _ (before : List LaidRing) (r : LaidRing) (rows rest : List Unit16) (row : Unit16)
    (are : AreRowsOf (before ++ r ∷ []) rows) (last : rows ≡ rest ++ row ∷ []) where
  split : rest ++ row ∷ [] ≡ (all_rows before ++ r.units) ++ foot_row r.home (length r.units) ∷ []
  split = sym last ∙ are.rows_are ∙ rows-push before r
      ∙ sym (append_assoc (all_rows before) r.units (foot_row r.home (length r.units) ∷ []))

  pub rest-is : rest ≡ all_rows before ++ r.units
  rest-is = (same_from_push rest (all_rows before ++ r.units) row (foot_row r.home (length r.units)) split).0

  pub foot-is : row ≡ foot_row r.home (length r.units)
  foot-is = (same_from_push rest (all_rows before ++ r.units) row (foot_row r.home (length r.units)) split).1

  pub home-fits : HasHome r
  home-fits = (all-front HasHome before r are.homes).1

  module _ (points : ℕ) (told : points ≡ length r.units) where
    pub fits : points ≤ length rest
    fits = omega (arith, told, ap length rest-is, length-append (all_rows before) r.units)

    at : length (all_rows before) ≡ length rest - points
    at = omega (arith, told, ap length rest-is, length-append (all_rows before) r.units)

    pub units-are : drop (length rest - points) rest ≡ r.units
    units-are = ap (drop (length rest - points)) rest-is
        ∙ drop_at (all_rows before) r.units (length rest - points) at

    pub before-are : AreRowsOf before (take (length rest - points) rest)
    before-are = record {
      rows_are = ap (take (length rest - points)) rest-is
          ∙ take_at (all_rows before) r.units (length rest - points) at;
      homes = (all-front HasHome before r are.homes).0;
    }

-- the last ring of rows, where its last row is read
module _ (rows rest : List Unit16) (row : Unit16) (last : rows ≡ rest ++ row ∷ []) (few : length rows < 2 ^ 64)
    (home : Option ℕ) (points : ℕ)
    (told : (h : Option ℕ) (p : ℕ) → IfSome h (λ n. n < 2 ^ 32) → p < 2 ^ 64 → row ≡ foot_row h p
    → (home ≡ h) × (points ≡ p)) where
  module _ (before : List LaidRing) (r : LaidRing) (are : AreRowsOf (before ++ r ∷ []) rows) where
    foot-told : (home ≡ r.home) × (points ≡ length r.units)
    foot-told = told r.home (length r.units) (home-fits before r rows rest row are last)
        (omega (
          arith,
          few,
          ap length last,
          length-append rest (row ∷ []),
          ap length (rest-is before r rows rest row are last),
          length-append (all_rows before) r.units,
        )) (foot-is before r rows rest row are last)

    pub ring-home : home ≡ r.home
    ring-home = foot-told.0

    pub ring-points : drop (length rest - points) rest ≡ r.units
    ring-points = units-are before r rows rest row are last points foot-told.1

    pub ring-before : AreRowsOf before (take (length rest - points) rest)
    ring-before = before-are before r rows rest row are last points foot-told.1

    ring-fits : points ≤ length rest
    ring-fits = fits before r rows rest row are last points foot-told.1

  module _ (rings : AreRings rows) where
    l : HasLast rings.0
    l = has-last rings.0 rows rings.1 (omega (arith, ap length last, length-append rest (row ∷ [])))

    are-last : AreRowsOf (l.before ++ l.ring ∷ []) rows
    are-last = subst (λ (rs : List LaidRing). AreRowsOf rs rows) l.is rings.1

    pub last-room : points ≤ length rest
    last-room = ring-fits l.before l.ring are-last

    pub last-rest : AreRings (take (length rest - points) rest)
    last-rest = (l.before, ring-before l.before l.ring are-last)

-- rows of no rings
pub no-rings : (rings : List LaidRing) → AreRowsOf rings [] → rings ≡ []
no-rings [] are = refl
no-rings (r ∷ rings) are = absurd (omega (
  arith,
  ap length are.rows_are,
  length-append (ring_rows r) (all_rows rings),
  length-append r.units (foot_row r.home (length r.units) ∷ []),
))

-- ---- the first outer ring around a place

-- the test of an outer ring
abbrev pub is_around : Place → LaidRing → Bool
is_around p r = inside (places (points_in r.units) ∷ []) p

-- one ring before those that were looked at
pub position-before : (p : Place) (n : ℕ) (r : LaidRing) (done : List LaidRing) (around : Bool)
    → around ≡ is_around p r
    → (if around then Some n else position_from (is_around p) (n + 1) done) ≡ position_from (is_around p) n (r ∷ done)
position-before p n r done around is =
    ap (λ b. if b then Some n else position_from (is_around p) (n + 1) done) is

home-from : (n : ℕ) (outer : List LaidRing) (q : Point) (ring : List Point)
    → position_from (is_around q.place) n outer ≡ position_from (λ o. begins_inside o (q ∷ ring)) n (points_of outer)
home-from n [] q ring = refl
home-from n (o ∷ outer) q ring = by_test (is_around q.place o) (home-from (n + 1) outer q ring)
  where
    by_test : (b : Bool)
        → position_from (is_around q.place) (n + 1) outer
        ≡ position_from (λ o. begins_inside o (q ∷ ring)) (n + 1) (points_of outer)
        → (if b then Some n else position_from (is_around q.place) (n + 1) outer)
        ≡ (if b then Some n else position_from (λ o. begins_inside o (q ∷ ring)) (n + 1) (points_of outer))
    by_test true more = refl
    by_test false more = more

-- the home of a ring is the first outer ring around its first place
pub home-is : (outer : List LaidRing) (q : Point) (ring : List Point)
    → position_from (is_around q.place) 0 outer ≡ home (points_of outer) (q ∷ ring)
home-is outer q ring =
    home-from 0 outer q ring ∙ sym (position_from-zero (λ o. begins_inside o (q ∷ ring)) (points_of outer))

none-from : (n : ℕ) (outer : List (List Point)) → None ≡ position_from (λ o. begins_inside o []) n outer
none-from n [] = refl
none-from n (o ∷ outer) = none-from (n + 1) outer

-- a ring without points has none
pub home-none : (outer : List (List Point)) → None ≡ home outer []
home-none outer = none-from 0 outer ∙ sym (position_from-zero (λ o. begins_inside o []) outer)

-- ---- the outer rings that were looked at

-- what is known of outer rings of which these are left: the home among the others
abbrev pub AreLeft : List LaidRing → Place → List Unit16 → ℕ → Option ℕ → Type 0
AreLeft laid p left number home = (todo : List LaidRing) × (done : List LaidRing) × (laid ≡ todo ++ done)
    × AreRowsOf todo left × (number ≡ length todo) × (home ≡ position_from (is_around p) number done)

pub none-seen : (laid : List LaidRing) (p : Place) (rows : List Unit16) (number : ℕ) → AreRowsOf laid rows
    → number ≡ length laid → AreLeft laid p rows number None
none-seen laid p rows number are count = (laid, [], sym (append-nil laid), are, count, refl)

pub all-seen : (laid : List LaidRing) (p : Place) (number : ℕ) (home : Option ℕ) → AreLeft laid p [] number home
    → home ≡ position_from (is_around p) 0 laid
all-seen laid p number home (todo, done, is, are, count, found) =
    let none : todo ≡ [] = no-rings todo are in
    found ∙ ap (λ (n : ℕ). position_from (is_around p) n done) (count ∙ ap length none)
    ∙ ap (position_from (is_around p) 0) (ap (λ (rs : List LaidRing). rs ++ done) (sym none) ∙ sym is)

module _ (laid : List LaidRing) (p : Place) (left before : List Unit16) (number : ℕ) (home : Option ℕ)
    (now : AreLeft laid p left number home) (less : length before < length left) where
  m : HasLast now.0
  m = has-last now.0 left now.3 (omega (arith, less))

  counts : number ≡ length m.before + 1
  counts = now.4 ∙ ap length m.is ∙ length-append m.before (m.ring ∷ [])

  -- one is left at least
  pub some-left : 1 ≤ number
  some-left = omega (arith, counts)

  -- one more is looked at
  pub seen-more : (points : List Unit16) (around : Bool) (next : Option ℕ)
      → ((todo : List LaidRing) (r : LaidRing) → AreRowsOf (todo ++ r ∷ []) left
      → (points ≡ r.units) × AreRowsOf todo before)
      → around ≡ inside (places (points_in points) ∷ []) p
      → next ≡ (if around then Some (number - 1) else home) → AreLeft laid p before (number - 1) next
  seen-more points around next told test nearer =
      let last = told m.before m.ring (subst (λ (rs : List LaidRing). AreRowsOf rs left) m.is now.3) in
      let tests : around ≡ is_around p m.ring = test ∙ ap (λ us. inside (places (points_in us) ∷ []) p) last.0 in
      let back : number ≡ number - 1 + 1 = omega (arith, counts) in (
        m.before,
        m.ring ∷ now.1,
        now.2 ∙ ap (λ (rs : List LaidRing). rs ++ now.1) m.is ∙ append_assoc m.before (m.ring ∷ []) now.1,
        last.1,
        omega (arith, counts),
        nearer
            ∙ ap (λ h. if around then Some (number - 1) else h) (now.5
            ∙ ap (λ (n : ℕ). position_from (is_around p) n now.1) back)
            ∙ position-before p (number - 1) m.ring now.1 around tests,
      )

-- the home of a ring with a first point, and of one without
pub home-first : (laid : List LaidRing) (points : List Unit16) (u : Unit16) (p : Place) → Some u ≡ slice_get points 0
    → p ≡ (point_in u).place → position_from (is_around p) 0 laid ≡ home (points_of laid) (points_in points)
home-first laid [] u p is place = absurd (none-some u (sym is))
home-first laid (x ∷ points) u p is place =
    ap (λ q. position_from (is_around q) 0 laid)
    (place ∙ ap (λ (v : Unit16). (point_in v).place) (same_Some u x is))
    ∙ home-is laid (point_in x) (points_in points)

pub home-empty : (laid : List LaidRing) (points : List Unit16) → points ≡ []
    → None ≡ home (points_of laid) (points_in points)
home-empty laid points none =
    home-none (points_of laid) ∙ ap (λ us. home (points_of laid) (points_in us)) (sym none)
