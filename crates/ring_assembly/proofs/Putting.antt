-- Units that are put in the place of others, from the last to the first.
use Rattle.std.proofs.Common.{◌≡◌, ℕ, suc, ◌+◌, ◌-◌, ◌<◌, ◌≤◌, Bool, true, false, List, [], ◌∷◌, ◌++◌}
use Rattle.std.proofs.Common.{length, map, take, drop, refl, sym, ap, ◌∙◌, arith, append_assoc, append-nil, subst}
use Rattle.std.specs.Prelude.{slice_set, get_or, filter, if◌then◌else◌}
use Rattle.std.proofs.lemmas.List.{drop_all}
use Rattle.std.proofs.lemmas.List.{length-append, length-take-le, length-drop, take_at, drop_at, take-take}
use Rattle.std.proofs.lemmas.List.{take-append-le, drop-drop}
use Rattle.std.proofs.lemmas.List.{take-append-drop, set_at, drop_more, take_more, take_all, map-append}
use Rattle.mf_base.specs.Buffer.{Buffer}
use Rattle.mf_base.specs.declared.kind.Role.{Role}
use Rattle.feature_model.specs.Blocks.{is_home}
use Rattle.mf_rows.specs.Units.{Unit16, part_unit}
use Rattle.mf_rows.specs.Desks.{Desktop}
use Rattle.ring_assembly.specs.Marked.{free, state_unit, marked_units, all_units}
use Rattle.ring_assembly.specs.Laid.{LaidRing, AreRowsOf, IsLast}
use Rattle.ring_assembly.specs.PutBack.{Puts, ring_part, inner_parts, housed_units, block_rings, AreLaid}
use Rattle.ring_assembly.specs.declared.laid.Laid.{Laid}
use Rattle.ring_assembly.specs.declared.laid.LastRing.{LastRing}
use Rattle.ring_assembly.proofs.Marks.{all-append}
use Rattle.ring_assembly.proofs.LastRings.{HasLast, has-last, no-rings}

-- the unit of a free part is that of a part of its role
pub unit-is : (role : Role) (n : ℕ) → state_unit (free role) n ≡ part_unit role n
unfolding state_unit part_unit
unit-is role n = refl

-- nothing is put
pub puts-none : (d : Desktop) (at : ℕ) → Puts d d at at []
puts-none d at = record {
  place = omega arith;
  loose = sym (take-append-drop at d.loose);
  records = refl;
  capacity = refl;
}

-- nothing is put yet
pub puts-start : (d : Desktop) (at : ℕ) (points : List Unit16) → Puts d d at (at + 0) (take 0 points)
puts-start d at points = record {
  place = omega arith;
  loose = sym (take-append-drop at d.loose) ∙ ap (λ (n : ℕ). take at d.loose ++ drop n d.loose) place;
  records = refl;
  capacity = refl;
}
  where
    place : at ≡ at + 0
    place = omega arith

-- all is put
pub puts-all : (a b : Desktop) (at i : ℕ) (points : List Unit16) → i ≡ length points
    → Puts a b at (at + i) (take i points) → Puts a b at (at + length points) points
puts-all a b at i points is puts =
    subst (λ us. Puts a b at (at + length points) us) (take_all (length points) points (omega arith))
    (subst (λ (n : ℕ). Puts a b at (at + n) (take n points)) is puts)

-- as many units as before
pub puts-long : (a b : Desktop) (begin end : ℕ) (units : List Unit16) → Puts a b begin end units
    → end ≤ length a.loose → length b.loose ≡ length a.loose
puts-long a b begin end units puts within = omega (
  arith,
  ap length puts.loose,
  puts.place,
  length-append (take begin a.loose) (units ++ drop end a.loose),
  length-append units (drop end a.loose),
  length-take-le begin a.loose (omega (arith, puts.place, within)),
  length-drop end a.loose,
  within,
)

-- units are put before others
pub puts-before : (a b c : Desktop) (begin mid end : ℕ) (xs ys : List Unit16) → end ≤ length a.loose
    → Puts a b mid end xs → Puts b c begin mid ys → Puts a c begin end (ys ++ xs)
puts-before a b c begin mid end xs ys within later first = record {
  place = omega (arith, later.place, first.place, length-append ys xs);
  loose = first.loose
      ∙ ap (λ us. us ++ (ys ++ drop mid b.loose)) front
      ∙ ap (λ us. take begin a.loose ++ (ys ++ us)) behind
      ∙ ap (λ us. take begin a.loose ++ us) (sym (append_assoc ys xs (drop end a.loose)));
  records = first.records ∙ later.records;
  capacity = first.capacity ∙ later.capacity;
}
  where
    mid-long : length (take mid a.loose) ≡ mid
    mid-long = length-take-le mid a.loose (omega (arith, within, later.place))

    front : take begin b.loose ≡ take begin a.loose
    front = ap (take begin) later.loose
        ∙ take-append-le begin (take mid a.loose) (xs ++ drop end a.loose) (omega (arith, mid-long, first.place))
        ∙ take-take begin mid a.loose (omega (arith, first.place))

    behind : drop mid b.loose ≡ xs ++ drop end a.loose
    behind = ap (drop mid) later.loose ∙ drop_at (take mid a.loose) (xs ++ drop end a.loose) mid mid-long

-- one unit more is put behind others
pub puts-one : (a b c : Desktop) (at i : ℕ) (points : List Unit16) (unit : Unit16) → i < length points
    → at + length points ≤ length a.loose → unit ≡ get_or points i unit → Puts a b at (at + i) (take i points)
    → c ≡ record b { loose = slice_set b.loose (at + i) unit }
    → Puts a c at (at + (i + 1)) (take (i + 1) points)
puts-one a b c at i points unit within fits is puts new = record {
  place = omega (arith, length-take-le (i + 1) points (omega (arith, within)));
  loose = ap (λ (d : Desktop). d.loose) new ∙ set-is;
  records = ap (λ (d : Desktop). d.records) new ∙ puts.records;
  capacity = ap (λ (d : Desktop). d.capacity) new ∙ puts.capacity;
}
  where
    head : List Unit16
    head = take at a.loose

    fore : List Unit16
    fore = head ++ take i points

    old : Unit16
    old = get_or a.loose (at + i) unit

    fore-long : length fore ≡ at + i
    fore-long = omega (
      arith,
      length-append (take at a.loose) (take i points),
      length-take-le at a.loose (omega (arith, fits)),
      length-take-le i points (omega (arith, within)),
    )

    b-is : b.loose ≡ fore ++ (old ∷ drop (at + i + 1) a.loose)
    b-is = puts.loose ∙ sym (append_assoc head (take i points) (drop (at + i) a.loose))
        ∙ ap (λ us. fore ++ us) (drop_more a.loose (at + i) unit (omega (arith, within, fits)))

    more-is : fore ++ unit ∷ [] ≡ head ++ take (i + 1) points
    more-is = append_assoc head (take i points) (unit ∷ [])
        ∙ ap (λ (u : Unit16). head ++ (take i points ++ u ∷ [])) is
        ∙ ap (λ us. head ++ us) (sym (take_more points i unit within))

    set-is : slice_set b.loose (at + i) unit ≡ head ++ (take (i + 1) points ++ drop (at + (i + 1)) a.loose)
    set-is = ap (λ us. slice_set us (at + i) unit) b-is
        ∙ set_at fore old (drop (at + i + 1) a.loose) unit (at + i) fore-long
        ∙ sym (append_assoc fore (unit ∷ []) (drop (at + i + 1) a.loose))
        ∙ ap (λ us. us ++ drop (at + i + 1) a.loose) more-is
        ∙ append_assoc head (take (i + 1) points) (drop (at + i + 1) a.loose)
        ∙ ap (λ (n : ℕ). head ++ (take (i + 1) points ++ drop n a.loose)) place
      where
        place : at + i + 1 ≡ at + (i + 1)
        place = omega arith

-- the unit of a part, and its points behind it
pub puts-part : (a b c : Desktop) (at end : ℕ) (unit : Unit16) (points : List Unit16) → end ≤ length a.loose
    → at + length points + 1 ≡ end → b ≡ record a { loose = slice_set a.loose at unit }
    → Puts b c (at + 1) (at + 1 + length points) points → Puts a c at end (unit ∷ points)
puts-part a b c at end unit points within place set puts = record {
  place = omega (arith, place);
  loose = puts.loose
      ∙ ap (λ us. us ++ (points ++ drop (at + 1 + length points) b.loose)) front
      ∙ ap (λ us. (take at a.loose ++ unit ∷ []) ++ (points ++ us)) behind
      ∙ append_assoc (take at a.loose) (unit ∷ []) (points ++ drop end a.loose);
  records = puts.records ∙ ap (λ (d : Desktop). d.records) set;
  capacity = puts.capacity ∙ ap (λ (d : Desktop). d.capacity) set;
}
  where
    old : Unit16
    old = get_or a.loose at unit

    rest : List Unit16
    rest = drop (at + 1) a.loose

    head-long : length (take at a.loose) ≡ at
    head-long = length-take-le at a.loose (omega (arith, within, place))

    a-is : a.loose ≡ take at a.loose ++ (old ∷ rest)
    a-is = sym (take-append-drop at a.loose)
        ∙ ap (λ us. take at a.loose ++ us) (drop_more a.loose at unit (omega (arith, within, place)))

    b-is : b.loose ≡ (take at a.loose ++ unit ∷ []) ++ rest
    b-is = ap (λ (d : Desktop). d.loose) set ∙ ap (λ us. slice_set us at unit) a-is
        ∙ set_at (take at a.loose) old rest unit at head-long
        ∙ sym (append_assoc (take at a.loose) (unit ∷ []) rest)

    one-long : length (take at a.loose ++ unit ∷ []) ≡ at + 1
    one-long = omega (arith, length-append (take at a.loose) (unit ∷ []), head-long)

    front : take (at + 1) b.loose ≡ take at a.loose ++ unit ∷ []
    front = ap (take (at + 1)) b-is ∙ take_at (take at a.loose ++ unit ∷ []) rest (at + 1) one-long

    behind : drop (at + 1 + length points) b.loose ≡ drop end a.loose
    behind = sym (drop-drop (length points) (at + 1) b.loose)
        ∙ ap (drop (length points)) (ap (drop (at + 1)) b-is
        ∙ drop_at (take at a.loose ++ unit ∷ []) rest (at + 1) one-long)
        ∙ drop-drop (length points) (at + 1) a.loose
        ∙ ap (λ (n : ℕ). drop n a.loose) (omega (arith, place))

-- ---- blocks

-- blocks of one outer ring more
pub blocks-push : (n : ℕ) (outer : List LaidRing) (o : LaidRing) (done inner : List LaidRing)
    → block_rings n (outer ++ o ∷ done) inner
    ≡ block_rings n outer inner ++ block_rings (n + length outer) (o ∷ done) inner
blocks-push n [] o done inner =
    ap (λ (k : ℕ). block_rings k (o ∷ done) inner) place
  where
    place : n ≡ n + 0
    place = omega arith
blocks-push n (p ∷ outer) o done inner =
    ap (λ ms. ring_part Role.Outer p ∷ (inner_parts n inner ++ ms)) (blocks-push (n + 1) outer o done inner
    ∙ ap (λ (k : ℕ). block_rings (n + 1) outer inner ++ block_rings k (o ∷ done) inner) place)
    ∙ ap (λ ms. ring_part Role.Outer p ∷ ms)
    (sym (append_assoc (inner_parts n inner) (block_rings (n + 1) outer inner)
    (block_rings (n + length (p ∷ outer)) (o ∷ done) inner)))
  where
    place : n + 1 + length outer ≡ n + length (p ∷ outer)
    place = omega arith

-- inner rings of one more
filter-push : {A : Type 0} (p : A → Bool) (xs : List A) (x : A) (ys : List A)
    → filter p (xs ++ x ∷ ys) ≡ filter p xs ++ filter p (x ∷ ys)
filter-push p [] x ys = refl
filter-push p (z ∷ xs) x ys = by_test (p z) (filter-push p xs x ys)
  where
    by_test : (b : Bool) → filter p (xs ++ x ∷ ys) ≡ filter p xs ++ filter p (x ∷ ys)
        → (if b then z ∷ filter p (xs ++ x ∷ ys) else filter p (xs ++ x ∷ ys))
        ≡ (if b then z ∷ filter p xs else filter p xs) ++ filter p (x ∷ ys)
    by_test true more = ap (λ zs. z ∷ zs) more
    by_test false more = more

pub inner-push : (n : ℕ) (todo done : List LaidRing) (r : LaidRing)
    → inner_parts n (todo ++ r ∷ done) ≡ inner_parts n todo ++ inner_parts n (r ∷ done)
inner-push n todo done r =
    ap (map (ring_part Role.Inner)) (filter-push (λ (q : LaidRing). is_home n q.home) todo r done)
    ∙ map-append (ring_part Role.Inner) (filter (λ (q : LaidRing). is_home n q.home) todo)
    (filter (λ (q : LaidRing). is_home n q.home) (r ∷ done))

-- ---- the inner rings of a block, from the last to the first

-- What is known of inner rings of which these are left: of the others, those of a block are put.
pub record InnerLeft (rings : List LaidRing) (n : ℕ) (left : List Unit16) (old now : Desktop) (place end : ℕ) : Type 0
  where
    pub todo : List LaidRing
    pub done : List LaidRing
    pub is : rings ≡ todo ++ done
    pub rows : AreRowsOf todo left
    pub puts : Puts old now place end (all_units (inner_parts n done))

pub inner-start : (rings : List LaidRing) (n : ℕ) (left : List Unit16) (d : Desktop) (end : ℕ) → AreRowsOf rings left
    → InnerLeft rings n left d d end end
inner-start rings n left d end rows = record {
  todo = rings;
  done = [];
  is = sym (append-nil rings);
  rows = rows;
  puts = puts-none d end;
}

inner-cons : (n : ℕ) (r : LaidRing) (done : List LaidRing)
    → housed_units n r.home r.units ++ all_units (inner_parts n done) ≡ all_units (inner_parts n (r ∷ done))
inner-cons n r done = by_home (is_home n r.home)
  where
    kept : List LaidRing
    kept = filter (λ (q : LaidRing). is_home n q.home) done

    by_home : (b : Bool)
        → (if b then marked_units (ring_part Role.Inner r) else [])
        ++ all_units (map (ring_part Role.Inner) (filter (λ (q : LaidRing). is_home n q.home) done))
        ≡ all_units (map (ring_part Role.Inner) (if b then r ∷ filter (λ (q : LaidRing). is_home n q.home) done
        else filter (λ (q : LaidRing). is_home n q.home) done))
    by_home true = refl
    by_home false = refl

module _ (rings : List LaidRing) (n : ℕ) (left : List Unit16) (old now : Desktop) (place end : ℕ) (told : LastRing)
    (known : InnerLeft rings n left old now place end)
    (last : (todo : List LaidRing) (r : LaidRing) → AreRowsOf (todo ++ r ∷ []) left → IsLast r todo told)
    (less : length told.before.now < length left) where
  l : HasLast known.todo
  l = has-last known.todo left known.rows (omega (arith, less))

  is-last : IsLast l.ring l.before told
  is-last = last l.before l.ring (subst (λ (rs : List LaidRing). AreRowsOf rs left) l.is known.rows)

  abbrev put : List Unit16
  put = housed_units n told.home told.points.now

  abbrev behind : List Unit16
  behind = all_units (inner_parts n known.done)

  all-is : rings ≡ l.before ++ (l.ring ∷ known.done)
  all-is = known.is ∙ ap (λ (rs : List LaidRing). rs ++ known.done) l.is
      ∙ append_assoc l.before (l.ring ∷ []) known.done

  put-is : put ++ behind ≡ all_units (inner_parts n (l.ring ∷ known.done))
  put-is = ap (λ h. housed_units n h told.points.now ++ behind) is-last.home
      ∙ ap (λ us. housed_units n l.ring.home us ++ behind) is-last.points
      ∙ inner-cons n l.ring known.done

  all-long : length (all_units (inner_parts n rings))
      ≡ length (all_units (inner_parts n l.before)) + length (all_units (inner_parts n (l.ring ∷ known.done)))
  all-long = ap (λ (rs : List LaidRing). length (all_units (inner_parts n rs))) all-is
      ∙ ap (λ ms. length (all_units ms)) (inner-push n l.before known.done l.ring)
      ∙ ap length (all-append (inner_parts n l.before) (inner_parts n (l.ring ∷ known.done)))
      ∙ length-append (all_units (inner_parts n l.before)) (all_units (inner_parts n (l.ring ∷ known.done)))

  put-long : is_home n told.home ≡ true → length put ≡ 1 + length told.points.now
  put-long e =
      ap (λ b. length (if b then marked_units (record { state = free Role.Inner; units = told.points.now }) else []))
      e
      ∙ one-more (length told.points.now)
    where
      one-more : (k : ℕ) → suc k ≡ 1 + k
      one-more k = omega arith

  -- there is room for the last
  pub inner-room : length (all_units (inner_parts n rings)) ≤ end → is_home n told.home ≡ true
      → length told.points.now + 1 ≤ place
  inner-room fits e = omega (
    arith,
    fits,
    known.puts.place,
    all-long,
    ap length put-is,
    length-append put behind,
    put-long e,
  )

  -- the last is put where this is its home
  pub inner-next : (new : Desktop) (begin : ℕ) → end ≤ length old.loose → Puts now new begin place put
      → InnerLeft rings n told.before.now old new begin end
  inner-next new begin within puts = record {
    todo = l.before;
    done = l.ring ∷ known.done;
    is = all-is;
    rows = is-last.before;
    puts = subst (Puts old new begin end) put-is
        (puts-before old now new begin place end behind put within known.puts puts);
  }

pub inner-done : (rings : List LaidRing) (n : ℕ) (left : List Unit16) (old now : Desktop) (place end : ℕ)
    → InnerLeft rings n left old now place end → left ≡ []
    → Puts old now place end (all_units (inner_parts n rings))
inner-done rings n left old now place end known none =
    let todo : known.todo ≡ [] = no-rings known.todo (subst (λ us. AreRowsOf known.todo us) none known.rows) in
    let all : known.done ≡ rings = sym (known.is ∙ ap (λ (rs : List LaidRing). rs ++ known.done) todo) in
    subst (λ (rs : List LaidRing). Puts old now place end (all_units (inner_parts n rs))) all known.puts

-- ---- the blocks, from the last to the first

-- What is known of outer rings of which these are left: the blocks of the others are put.
pub record BlocksLeft (front : ℕ) (os is : List LaidRing) (left : List Unit16) (home : ℕ) (old now : Desktop)
    (place end : ℕ) : Type 0 where
  pub todo : List LaidRing
  pub done : List LaidRing
  pub all : os ≡ todo ++ done
  pub rows : AreRowsOf todo left
  pub count : home ≡ length todo
  pub place_is : place ≡ front + length (all_units (block_rings 0 todo is))
  pub puts : Puts old now place end (all_units (block_rings home done is))

pub blocks-start : (front : ℕ) (os is : List LaidRing) (left : List Unit16) (home : ℕ) (old now : Desktop) (place : ℕ)
    → now ≡ old → AreRowsOf os left → home ≡ length os → place ≡ front + length (all_units (block_rings 0 os is))
    → BlocksLeft front os is left home old now place place
blocks-start front os is left home old now place same rows count at = record {
  todo = os;
  done = [];
  all = sym (append-nil os);
  rows = rows;
  count = count;
  place_is = at;
  puts = subst (λ (d : Desktop). Puts old d place place []) (sym same) (puts-none old place);
}

blocks-cons : (n : ℕ) (o : LaidRing) (done is : List LaidRing)
    → marked_units (ring_part Role.Outer o) ++ (all_units (inner_parts n is) ++ all_units (block_rings (n + 1) done is))
    ≡ all_units (block_rings n (o ∷ done) is)
blocks-cons n o done is =
    ap (λ us. marked_units (ring_part Role.Outer o) ++ us)
    (sym (all-append (inner_parts n is) (block_rings (n + 1) done is)))

block-long : (n : ℕ) (o : LaidRing) (done is : List LaidRing)
    → length (all_units (block_rings n (o ∷ done) is))
    ≡ 1 + length o.units + length (all_units (inner_parts n is)) + length (all_units (block_rings (n + 1) done is))
block-long n o done is =
    let inner : List Unit16 = all_units (inner_parts n is) in
    let more : List Unit16 = all_units (block_rings (n + 1) done is) in
    omega (
      arith,
      ap length (sym (blocks-cons n o done is)),
      length-append (marked_units (ring_part Role.Outer o)) (inner ++ more),
      length-append inner more,
    )

module _ (front : ℕ) (os is : List LaidRing) (left : List Unit16) (home : ℕ) (old now : Desktop) (place end : ℕ)
    (told : LastRing) (known : BlocksLeft front os is left home old now place end)
    (last : (todo : List LaidRing) (r : LaidRing) → AreRowsOf (todo ++ r ∷ []) left → IsLast r todo told)
    (less : length told.before.now < length left) where
  m : HasLast known.todo
  m = has-last known.todo left known.rows (omega (arith, less))

  last-is : IsLast m.ring m.before told
  last-is = last m.before m.ring (subst (λ (rs : List LaidRing). AreRowsOf rs left) m.is known.rows)

  counts : home ≡ length m.before + 1
  counts = known.count ∙ ap length m.is ∙ length-append m.before (m.ring ∷ [])

  -- one is left at least
  pub some-block : 1 ≤ home
  some-block = omega (arith, counts)

  back : 0 + length m.before ≡ home - 1
  back = omega (arith, counts)

  again : home ≡ home - 1 + 1
  again = omega (arith, counts)

  abbrev inner : List Unit16
  inner = all_units (inner_parts (home - 1) is)

  abbrev outer : List Unit16
  outer = marked_units (record { state = free Role.Outer; units = told.points.now })

  todo-long : length (all_units (block_rings 0 known.todo is))
      ≡ length (all_units (block_rings 0 m.before is)) + (1 + length told.points.now + length inner)
  todo-long = omega (
    arith,
    ap (λ (rs : List LaidRing). length (all_units (block_rings 0 rs is))) m.is,
    ap (λ ms. length (all_units ms)) (blocks-push 0 m.before m.ring [] is),
    ap length (all-append (block_rings 0 m.before is) (block_rings (0 + length m.before) (m.ring ∷ []) is)),
    length-append (all_units (block_rings 0 m.before is))
        (all_units (block_rings (0 + length m.before) (m.ring ∷ []) is)),
    ap (λ (k : ℕ). length (all_units (block_rings k (m.ring ∷ []) is))) back,
    block-long (home - 1) m.ring [] is,
    ap length last-is.points,
  )

  -- there is room for its block
  pub inner-fits : length inner ≤ place
  inner-fits = omega (arith, known.place_is, todo-long)

  pub outer-fits : (mid : Desktop) (begin : ℕ) → Puts now mid begin place inner → length told.points.now + 1 ≤ begin
  outer-fits mid begin puts = omega (arith, known.place_is, todo-long, puts.place)

  outer-long : length outer ≡ 1 + length told.points.now
  outer-long = one-more (length told.points.now)
    where
      one-more : (k : ℕ) → suc k ≡ 1 + k
      one-more k = omega arith

  put-block : outer ++ (inner ++ all_units (block_rings home known.done is))
      ≡ all_units (block_rings (home - 1) (m.ring ∷ known.done) is)
  put-block =
      ap (λ us. marked_units (record { state = free Role.Outer; units = us })
      ++ (inner ++ all_units (block_rings home known.done is))) last-is.points
      ∙ ap (λ (k : ℕ). marked_units (ring_part Role.Outer m.ring)
      ++ (inner ++ all_units (block_rings k known.done is))) again
      ∙ blocks-cons (home - 1) m.ring known.done is

  -- its block is put
  pub blocks-next : (mid new : Desktop) (begin at : ℕ) → end ≤ length old.loose → Puts now mid begin place inner
      → Puts mid new at begin outer → BlocksLeft front os is told.before.now (home - 1) old new at end
  blocks-next mid new begin at within inner_put outer_put = record {
    todo = m.before;
    done = m.ring ∷ known.done;
    all = known.all ∙ ap (λ (rs : List LaidRing). rs ++ known.done) m.is
        ∙ append_assoc m.before (m.ring ∷ []) known.done;
    rows = last-is.before;
    count = omega (arith, counts);
    place_is = omega (arith, known.place_is, todo-long, inner_put.place, outer_put.place, outer-long);
    puts = subst (Puts old new at end) put-block
        (puts-before old mid new at begin end (inner ++ all_units (block_rings home known.done is)) outer within
        (puts-before old now mid begin place end (all_units (block_rings home known.done is)) inner within known.puts
        inner_put) outer_put);
  }

desk-is : (d : Desktop) (units : List Unit16) (e : Desktop) → d.records ≡ e.records → d.loose ≡ units
    → d.capacity ≡ e.capacity → d ≡ record e { loose = units }
desk-is d units e records loose capacity =
    ap (λ rs. record { records = rs; loose = d.loose; capacity = d.capacity }) records
    ∙ ap (λ us. record { records = e.records; loose = us; capacity = d.capacity }) loose
    ∙ ap (λ (n : ℕ). record { records = e.records; loose = units; capacity = n }) capacity

-- all blocks are put
pub blocks-done : (front : ℕ) (os is : List LaidRing) (left : List Unit16) (home : ℕ) (whole old now : Desktop)
    (place end : ℕ) → old ≡ record whole { loose = take end whole.loose } → front ≤ end → end ≤ length whole.loose
    → BlocksLeft front os is left home old now place end → left ≡ []
    → now ≡ record whole { loose = take front whole.loose ++ all_units (block_rings 0 os is) }
blocks-done front os is left home whole old now place end cut front_in within known none =
    desk-is now (take front whole.loose ++ all_units (block_rings 0 os is)) whole
    (known.puts.records ∙ ap (λ (d : Desktop). d.records) cut)
    (known.puts.loose ∙ front-is ∙ units-are)
    (known.puts.capacity ∙ ap (λ (d : Desktop). d.capacity) cut)
  where
    todo : known.todo ≡ []
    todo = no-rings known.todo (subst (λ us. AreRowsOf known.todo us) none known.rows)

    done : known.done ≡ os
    done = sym (known.all ∙ ap (λ (rs : List LaidRing). rs ++ known.done) todo)

    no-home : home ≡ 0
    no-home = known.count ∙ ap length todo

    at-front : place ≡ front
    at-front = omega (arith, known.place_is, ap (λ (rs : List LaidRing). length (all_units (block_rings 0 rs is))) todo)

    cut-is : old.loose ≡ take end whole.loose
    cut-is = ap (λ (d : Desktop). d.loose) cut

    nothing : drop end old.loose ≡ []
    nothing = drop_all end old.loose (omega (arith, ap length cut-is, length-take-le end whole.loose within))

    front-is : take place old.loose ++ (all_units (block_rings home known.done is) ++ drop end old.loose)
        ≡ take front whole.loose ++ (all_units (block_rings home known.done is) ++ [])
    front-is = ap (λ us. take place old.loose ++ (all_units (block_rings home known.done is) ++ us)) nothing
        ∙ ap (λ (k : ℕ). take k old.loose ++ (all_units (block_rings home known.done is) ++ [])) at-front
        ∙ ap (λ us. take front us ++ (all_units (block_rings home known.done is) ++ [])) cut-is
        ∙ ap (λ us. us ++ (all_units (block_rings home known.done is) ++ [])) (take-take front end whole.loose front_in)

    units-are : take front whole.loose ++ (all_units (block_rings home known.done is) ++ [])
        ≡ take front whole.loose ++ all_units (block_rings 0 os is)
    units-are = ap (λ us. take front whole.loose ++ us) (append-nil (all_units (block_rings home known.done is)))
        ∙ ap (λ (k : ℕ). take front whole.loose ++ all_units (block_rings k known.done is)) no-home
        ∙ ap (λ (rs : List LaidRing). take front whole.loose ++ all_units (block_rings 0 rs is)) done

-- the blocks that are put stand within the loose units
module _ (front : ℕ) (os is : List LaidRing) (outer inner : Laid) (whole : Desktop) (out : Buffer)
    (laid : AreLaid front os is outer inner whole out) where
  abbrev last : ℕ
  last = front + outer.rows + inner.housed

  pub cut-long : length (take last whole.loose) ≡ last
  cut-long = length-take-le last whole.loose laid.room

  pub blocks-held : (left : List Unit16) (home : ℕ) (now : Desktop) (place : ℕ)
      → BlocksLeft front os is left home (record whole { loose = take last whole.loose }) now place last
      → (place ≤ length now.loose) × (length now.loose ≤ 16777216)
  blocks-held left home now place known =
      let long : length now.loose ≡ length (take last whole.loose) =
      puts-long (record whole { loose = take last whole.loose }) now place last
      (all_units (block_rings home known.done is)) known.puts (omega (arith, cut-long)) in
      (omega (arith, long, cut-long, known.puts.place), omega (arith, long, cut-long, laid.room, laid.few))
