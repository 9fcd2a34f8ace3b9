-- A record of a desk that is changed in its place.
use Rattle.std.proofs.Common.{◌≡◌, ◌⊎◌, inl, inr, ℕ, ◌+◌, ◌^◌, ◌≤◌, ◌<◌, true, List, [], ◌∷◌, ◌++◌, length, take, drop}
use Rattle.std.proofs.Common.{Option, Some, None, refl, sym, ap, ◌∙◌, arith, subst}
use Rattle.std.specs.Prelude.{is_some, unwrap_or, ◌-◌, slice_index_or, slice_set, bytes_eq}
use Rattle.std.proofs.lemmas.List.{length-append, length-drop, length-set, take_all, drop-drop}
use Rattle.std.proofs.lemmas.List.{take-append-drop, take-append-le, drop-append-le, take-set-le, drop-set-add}
use Rattle.std.proofs.lemmas.List.{append_assoc, get_or-drop, get_or_read}
use Rattle.std.proofs.lemmas.Slice.Eq.{bytes_eq-Decides}
use Rattle.mf_base.specs.declared.kind.EntityKind.{EntityKind}
use Rattle.mf_base.specs.declared.kind.Role.{Role}
use Rattle.feature_model.specs.Points.{Point, Part}
use Rattle.mf_rows.specs.Units.{Unit16, point_in, part_unit, part_in, parts_in, with_part, shown_part}
use Rattle.mf_rows.specs.Heads.{HeadTold, head_in}
use Rattle.mf_rows.specs.Records.{Record, spot_in, drawn_parts}
use Rattle.mf_rows.specs.RecordUnits.{AreWide, is_line, is_drawn, is_behind, record_of, record_in, redrawn}
use Rattle.mf_rows.specs.RecordUnits.{last_place, parts_count}
use Rattle.mf_rows.specs.Told.{head_told, record_told, record_at, units_at, IsTold, IsKept, IsChanged}
use Rattle.mf_rows.specs.Changes.{TakesPart, TakesPoint, with_new_part, with_new_point, with_point, change_last}
use Rattle.mf_rows.specs.Changes.{spot_with, parts_with}
use Rattle.mf_rows.specs.declared.told.Told.{Told}
use Rattle.mf_rows.specs.declared.told.Kept.{Kept}
use Rattle.mf_rows.proofs.PartsAgain.{part_told}
use Rattle.mf_rows.proofs.LastPart.{IsLast, last-in, part-put, none-spelled}
use Rattle.mf_rows.proofs.Redrawn.{IsSpelled, spelled, count_of, still, new-record, new-head, new-long, same-rest}
use Rattle.mf_rows.proofs.Redrawn.{fits, drawn-holds, new-drawn}
use Rattle.mf_rows.proofs.ToldLaws.{told-is, behind-head, wide-drop, parts-long, line-parts}

told_same : (a b : HeadTold) → Some a ≡ Some b → a ≡ b
told_same a b e = ap (λ o. unwrap_or o a) e

-- ---- what is known of a record that is kept, by its units

module _ (units : List Unit16) (k : Kept) (is : IsKept units k.first k) (end : k.first + k.count ≡ length units) where
  -- its units are the last of all
  abbrev pub own : List Unit16
  own = drop k.first units

  abbrev t : HeadTold
  t = head_told k.told

  abbrev rest : List Unit16
  rest = drop 10 own

  own-is : units_at units k ≡ own
  own-is = take_all k.count own (omega (arith, end, length-drop k.first units))

  pub own-head : head_in (take 10 own) ≡ Some t
  own-head = subst (λ us. head_in (take 10 us) ≡ Some t) own-is is.read

  pub own-told : IsTold k.told rest (record_in own)
  own-told = subst (λ us. IsTold k.told (drop 10 us) (record_in us)) own-is is.told

  pub own-long : 10 ≤ length own
  own-long = let ten : 10 ≤ k.count = is.head in omega (arith, ten, end, length-drop k.first units)

  pub record-is : record_at units k ≡ record_told k.told rest
  record-is = ap (λ us. record_told k.told (drop 10 us)) own-is

  spelling : IsSpelled own (record_told k.told rest)
  spelling = spelled own (record_told k.told rest) own-told.same

  pub behind-holds : is_behind t rest ≡ true
  behind-holds = ap (λ h. is_behind h rest) (told_same t spelling.t (sym own-head ∙ spelling.head)) ∙ spelling.holds

  pub texts-are : k.told.texts ≡ count_of t
  texts-are = own-told.texts

  -- what it is drawn from
  abbrev pub drawn : List Unit16
  drawn = drop (count_of t) rest

  pub drawn-is : is_drawn k.told.head.kind drawn ≡ true
  drawn-is = drawn-holds own t own-long own-head behind-holds

  pub long : k.first + 10 + count_of t + length drawn ≡ length units
  long =
      let room : count_of t ≤ length rest = fits own t own-long own-head behind-holds in
      omega (arith, room, own-long, length-drop k.first units, length-drop 10 own, length-drop (count_of t) rest)

  pub parts-are : drawn_parts k.told.head.kind drawn ≡ Some (record_at units k).parts
  parts-are = by_some (drawn_parts k.told.head.kind drawn)
      (subst (λ m. is_some (drawn_parts k.told.head.kind (drop m rest)) ≡ true) texts-are own-told.drawn)
      ∙ ap (λ m. Some (unwrap_or (drawn_parts k.told.head.kind (drop m rest)) [])) (sym texts-are)
      ∙ ap (λ (r : Record). Some r.parts) (sym record-is)
    where
      by_some : (o : Option (List Part)) → is_some o ≡ true → o ≡ Some (unwrap_or o [])
      by_some None some = cc
      by_some (Some ps) some = refl

  pub spot-is : spot_in k.told.head.kind drawn ≡ (record_at units k).spot
  spot-is = ap (λ m. spot_in k.told.head.kind (drop m rest)) (sym texts-are)
      ∙ ap (λ (r : Record). r.spot) (sym record-is)

  pub part-is : k.told.part ≡ last_place (record_at units k).parts
  part-is = own-told.last ∙ ap (λ (r : Record). last_place r.parts) (sym record-is)

  -- ---- other units in the place of those that it is drawn from
  module _ (later others : List Unit16) (p count : ℕ) (wide : AreWide later) (few : length later < 2 ^ 63)
      (before : take k.first later ≡ take k.first units)
      (now : drop k.first later ≡ take (10 + count_of t) own ++ others)
      (drawn-now : is_drawn k.told.head.kind others ≡ true)
      (place : p ≡ last_place (unwrap_or (drawn_parts k.told.head.kind others) []))
      (all : k.first + count ≡ length later) where
    abbrev told : Told
    told = record k.told { part = p }

    abbrev new : Kept
    new = record k { told = told; count = count }

    abbrev after : List Unit16
    after = take (10 + count_of t) own ++ others

    abbrev behind : List Unit16
    behind = take (count_of t) rest ++ others

    after-is : units_at later new ≡ after
    after-is = take_all count (drop k.first later) (omega (arith, all, length-drop k.first later)) ∙ now

    after-rest : drop 10 after ≡ behind
    after-rest = same-rest own t own-long own-head behind-holds others drawn-now

    after-head : head_in (take 10 after) ≡ Some t
    after-head = new-head own t own-long own-head behind-holds others drawn-now

    after-long : 10 ≤ length after
    after-long = new-long own t own-long own-head behind-holds others drawn-now

    after-wide : AreWide behind
    after-wide = subst AreWide (ap (drop 10) now ∙ after-rest)
        (wide-drop 10 (drop k.first later) (wide-drop k.first later wide))

    after-few : length behind < 2 ^ 63
    after-few = rw (← after-rest, ← now)
        (omega (arith, few, length-drop 10 (drop k.first later), length-drop k.first later))

    new-told : IsTold told behind (record_in after)
    new-told =
        let there : drop (count_of t) behind ≡ others =
        new-drawn own t own-long own-head behind-holds others drawn-now in
        subst (IsTold told behind)
        (behind-head after after-long (take 10 after) behind refl (sym after-rest) t after-head)
        (told-is t behind told after-wide after-few refl refl texts-are
        (place ∙ ap (λ us. last_place (unwrap_or (drawn_parts t.head.kind us) [])) (sym there))
        (still own t own-long own-head behind-holds others drawn-now))

    new-kept : IsKept later k.first new
    new-kept = record {
      first = refl;
      head = let many : length (drop k.first later) ≡ length after = ap length now in
          omega (arith, many, after-long, all, length-drop k.first later);
      read = subst (λ us. head_in (take 10 us) ≡ Some t) (sym after-is) after-head;
      within = omega (arith, all);
      told = subst (λ us. IsTold told (drop 10 us) (record_in us)) (sym after-is)
          (subst (λ us. IsTold told us (record_in after)) (sym after-rest) new-told);
    }

    new-same : record_at later new ≡ redrawn (record_at units k) others
    new-same = ap (λ us. record_told told (drop 10 us)) after-is ∙ ap (record_told told) after-rest
        ∙ ap (λ m. record_of t m behind) texts-are
        ∙ new-record own t own-long own-head behind-holds others drawn-now
        ∙ ap (λ m. redrawn (record_of t m rest) others) (sym texts-are)
        ∙ ap (λ (r : Record). redrawn r others) (sym record-is)

    pub redrawn-there : IsChanged units k (redrawn (record_at units k) others) later new
    redrawn-there = record { first = refl; kept = new-kept; same = new-same; before = before; end = all }

-- ---- what units draw with a part or a point more

-- Units draw this.
record Draws (kind : EntityKind) (units : List Unit16) (spot : Option Point) (parts : List Part) : Type 0 where
  drawn : is_drawn kind units ≡ true
  spot_there : spot_in kind units ≡ spot
  parts_there : drawn_parts kind units ≡ Some parts

same_bytes : (bytes : List ℕ) → bytes_eq bytes bytes ≡ true
same_bytes bytes = (bytes_eq-Decides bytes bytes).1 refl

new-part : (kind : EntityKind) (units : List Unit16) (parts : List Part) (role : Role)
    → drawn_parts kind units ≡ Some parts → TakesPart role kind parts
    → Draws kind (units ++ part_unit role 0 ∷ []) (spot_in kind units) (parts ++ shown_part role [] ∷ [])
new-part EntityKind.Node units parts role are takes = absurd takes
new-part EntityKind.Way units parts role are takes =
    let none : units ≡ [] = none-spelled units (are ∙ ap Some takes.1) in
    record {
      drawn = rw (none, takes.0) (same_bytes (part_unit Role.Outer 0));
      spot_there = refl;
      parts_there = part-put (length units) units parts role (omega arith) are;
    }
new-part EntityKind.Relation units parts role are takes =
    let put : parts_in (units ++ part_unit role 0 ∷ []) ≡ Some (parts ++ shown_part role [] ∷ []) =
    part-put (length units) units parts role (omega arith) are in
    record { drawn = ap is_some put; spot_there = refl; parts_there = put }

new-spot : (units : List Unit16) (u : Unit16) → spot_in EntityKind.Node units ≡ None
    → Draws EntityKind.Node (units ++ u ∷ []) (Some (point_in u)) []
new-spot [] u none = record { drawn = refl; spot_there = refl; parts_there = refl }
new-spot (first ∷ units) u none = cc

-- a way has one part
module _ (first : Unit16) (points : List Unit16) (line : is_line (first ∷ points) ≡ true) (few : length points < 2 ^ 62)
    (parts : List Part) (are : parts_in (first ∷ points) ≡ Some parts) (last : IsLast (first ∷ points) parts) where
  abbrev n : ℕ
  n = length points

  outer-told : part_in first ≡ Some (Role.Outer, n)
  outer-told = ap part_in ((bytes_eq-Decides first (part_unit Role.Outer n)).0 line)
      ∙ part_told Role.Outer n (omega (arith, few))

  one-part : parts_in (first ∷ points) ≡ Some (with_part Role.Outer (take n points) [])
  one-part = line-parts first points (omega (arith, few)) line

  place-is : last_place parts ≡ 0
  place-is = ap (λ o. last_place (unwrap_or o [])) (sym are ∙ one-part)

  last-told : ◌≡◌ {A = Option (Role × ℕ)} (Some (last.role, last.n)) (Some (Role.Outer, n))
  last-told = sym last.told ∙ ap (λ k. part_in (slice_index_or (first ∷ points) k [])) place-is ∙ outer-told

  same-pair : ◌≡◌ {A = Role × ℕ} (last.role, last.n) (Role.Outer, n)
  same-pair = ap (λ o. unwrap_or o (last.role, last.n)) last-told

  line-put : (u : Unit16)
      → is_line (slice_set (first ∷ points) (last_place parts) (part_unit last.role (last.n + 1)) ++ u ∷ []) ≡ true
  line-put u =
      let x : Unit16 = part_unit last.role (last.n + 1) in
      let more : n + 1 ≡ length (points ++ u ∷ []) = omega (arith, length-append points (u ∷ [])) in
      ap (λ k. is_line (slice_set (first ∷ points) k x ++ u ∷ [])) place-is
      ∙ ap (λ (p : Role × ℕ). bytes_eq (part_unit p.0 (p.1 + 1)) (part_unit Role.Outer (length (points ++ u ∷ []))))
      same-pair
      ∙ ap (λ m. bytes_eq (part_unit Role.Outer m) (part_unit Role.Outer (length (points ++ u ∷ [])))) more
      ∙ same_bytes (part_unit Role.Outer (length (points ++ u ∷ [])))

line-more : (units : List Unit16) (parts : List Part) (u : Unit16) → is_line units ≡ true → length units < 2 ^ 62
    → parts_in units ≡ Some parts → (last : IsLast units parts)
    → is_line (slice_set units (last_place parts) (part_unit last.role (last.n + 1)) ++ u ∷ []) ≡ true
line-more [] parts u line few are last = let end : last_place parts + 1 + last.n ≡ 0 = last.end in
    absurd (omega (arith, end))
line-more (first ∷ points) parts u line few are last =
    line-put first points line (omega (arith, few)) parts are last u

-- a point more of the last part
module _ (units : List Unit16) (parts : List Part) (few : length units < 2 ^ 62) (are : parts_in units ≡ Some parts)
    (last : IsLast units parts) (u : Unit16) where
  abbrev with_more : List Unit16
  with_more = slice_set units (last_place parts) (part_unit last.role (last.n + 1)) ++ u ∷ []

  way-point : is_line units ≡ true
      → Draws EntityKind.Way with_more None (change_last (with_point (point_in u)) parts)
  way-point line = record {
    drawn = line-more units parts u line few are last;
    spot_there = refl;
    parts_there = last.put u;
  }

  relation-point : Draws EntityKind.Relation with_more None (change_last (with_point (point_in u)) parts)
  relation-point = record { drawn = ap is_some (last.put u); spot_there = refl; parts_there = last.put u }

-- ---- the calls

drawn-record : (r : Record) (units : List Unit16) (spot : Option Point) (parts : List Part)
    → Draws r.head.kind units spot parts
    → redrawn r units ≡ record { head = r.head; texts = r.texts; spot = spot; parts = parts }
drawn-record r units spot parts is =
    ap (λ (s : Option Point). record {
      head = r.head;
      texts = r.texts;
      spot = s;
      parts = unwrap_or (drawn_parts r.head.kind units) [];
    }) is.spot_there
    ∙ ap (λ (o : Option (List Part)). record {
      head = r.head;
      texts = r.texts;
      spot = spot;
      parts = unwrap_or o [];
    }) is.parts_there

last-behind : (parts : List Part) (q : Part) → last_place (parts ++ q ∷ []) ≡ parts_count parts
last-behind [] q = refl
last-behind (p ∷ []) q = refl
last-behind (p ∷ r ∷ parts) q = ap (λ n. 1 + length p.points + n) (last-behind (r ∷ parts) q)

parts-counted : (kind : EntityKind) (units : List Unit16) (parts : List Part) (role : Role)
    → drawn_parts kind units ≡ Some parts → TakesPart role kind parts → parts_count parts ≡ length units
parts-counted EntityKind.Node units parts role are takes = absurd takes
parts-counted EntityKind.Way units parts role are takes =
    ap (λ o. parts_count (unwrap_or o [])) (sym are)
    ∙ parts-long (length units) units (omega arith) (ap is_some are)
parts-counted EntityKind.Relation units parts role are takes =
    ap (λ o. parts_count (unwrap_or o [])) (sym are)
    ∙ parts-long (length units) units (omega arith) (ap is_some are)

last-kept : (f : Point → Part → Part) (p : Point) (parts : List Part)
    → ((q : Part) → last_place (f p q ∷ []) ≡ 0) → last_place (change_last (f p) parts) ≡ last_place parts
last-kept f p [] none = refl
last-kept f p (q ∷ []) none = refl
last-kept f p (q ∷ r ∷ []) none = refl
last-kept f p (q ∷ r ∷ s ∷ parts) none = ap (λ n. 1 + length q.points + n) (last-kept f p (r ∷ s ∷ parts) none)

-- a way or a relation takes a point where it has a part
ring-takes : (kind : EntityKind) (spot : Option Point) (parts : List Part)
    → (kind ≡ EntityKind.Way) ⊎ (kind ≡ EntityKind.Relation) → TakesPoint kind spot parts → 0 < length parts
ring-takes kind spot parts (inl way) takes = subst (λ k. TakesPoint k spot parts) way takes
ring-takes kind spot parts (inr relation) takes = subst (λ k. TakesPoint k spot parts) relation takes

ring-parts : (kind : EntityKind) (units : List Unit16) (parts : List Part)
    → (kind ≡ EntityKind.Way) ⊎ (kind ≡ EntityKind.Relation) → drawn_parts kind units ≡ Some parts
    → parts_in units ≡ Some parts
ring-parts kind units parts (inl way) are = ap (λ k. drawn_parts k units) (sym way) ∙ are
ring-parts kind units parts (inr relation) are = ap (λ k. drawn_parts k units) (sym relation) ∙ are

with-point : (p : Point) (r : Record) (kind : EntityKind) → r.head.kind ≡ kind
    → ◌≡◌ {A = Record} (record {
      head = r.head;
      texts = r.texts;
      spot = spot_with p kind r.spot;
      parts = parts_with p kind r.parts;
    }) (with_new_point p r)
with-point p r kind is = ap (λ k. record {
  head = r.head;
  texts = r.texts;
  spot = spot_with p k r.spot;
  parts = parts_with p k r.parts;
}) (sym is)

module _ (units : List Unit16) (k : Kept) (is : IsKept units k.first k) (end : k.first + k.count ≡ length units) where
  abbrev r : Record
  r = record_at units k

  abbrev mine : List Unit16
  mine = own units k is end

  abbrev m : ℕ
  m = 10 + count_of (head_told k.told)

  abbrev there : List Unit16
  there = drawn units k is end

  parted : mine ≡ take m mine ++ there
  parted = sym (take-append-drop m mine)
      ∙ ap (λ us. take m mine ++ us) (sym (drop-drop (count_of (head_told k.told)) 10 mine))

  within : k.first ≤ length units
  within = omega (arith, end)

  part-place : k.told.part ≡ last_place r.parts
  part-place = part-is units k is end

  -- the last part
  module _ (counted : length units < 2 ^ 62)
      (ring : (k.told.head.kind ≡ EntityKind.Way) ⊎ (k.told.head.kind ≡ EntityKind.Relation))
      (takes : TakesPoint k.told.head.kind r.spot r.parts) where
    some : 0 < length r.parts
    some = ring-takes k.told.head.kind r.spot r.parts ring takes

    are : parts_in there ≡ Some r.parts
    are = ring-parts k.told.head.kind there r.parts ring (parts-are units k is end)

    pub one : IsLast there r.parts
    one = last-in (length there) there r.parts (omega arith) (omega (arith, counted, long units k is end)) are some

    pub at-within : k.first + 10 + k.told.texts + k.told.part < length units
    at-within = omega (arith, part-place, texts-are units k is end, one.end, long units k is end)

    pub few-points : one.n < 2 ^ 62
    few-points = omega (arith, one.end, counted, long units k is end)

    -- its unit
    pub at-unit : (v : Unit16) → v ≡ slice_index_or units (k.first + 10 + k.told.texts + k.told.part) v
        → part_in v ≡ Some (one.role, one.n)
    at-unit v found =
        let place : k.first + 10 + k.told.texts + k.told.part
        ≡ k.first + (10 + (count_of (head_told k.told) + last_place r.parts)) =
        omega (arith, part-place, texts-are units k is end) in
        let same : slice_index_or units (k.first + 10 + k.told.texts + k.told.part) []
        ≡ slice_index_or there (last_place r.parts) [] =
        ap (λ i. slice_index_or units i []) place
        ∙ sym (get_or-drop k.first units (10 + (count_of (head_told k.told) + last_place r.parts)) [])
        ∙ sym (get_or-drop 10 mine (count_of (head_told k.told) + last_place r.parts) [])
        ∙ sym (get_or-drop (count_of (head_told k.told)) (drop 10 mine) (last_place r.parts) []) in
        ap part_in (get_or_read units (k.first + 10 + k.told.texts + k.told.part) v at-within found [] ∙ same)
        ∙ one.told

  module _ (later : List Unit16) (wide : AreWide later) (few : length later < 2 ^ 62) where
    -- what it is drawn from is this now
    module _ (new : Record) (others : List Unit16) (spot : Option Point) (parts : List Part) (p count : ℕ)
        (before : take k.first later ≡ take k.first units) (now : drop k.first later ≡ take m mine ++ others)
        (draws : Draws k.told.head.kind others spot parts) (place : p ≡ last_place parts)
        (all : k.first + count ≡ length later)
        (same : ◌≡◌ {A = Record} (record { head = r.head; texts = r.texts; spot = spot; parts = parts }) new) where
      drawn-so : IsChanged units k new later (record k { told = record k.told { part = p }; count = count })
      drawn-so = subst (λ (q : Record). IsChanged units k q later
          (record k { told = record k.told { part = p }; count = count }))
          (drawn-record r others spot parts draws ∙ same)
          (redrawn-there units k is end later others p count wide (omega (arith, few)) before now draws.drawn
          (place ∙ ap (λ o. last_place (unwrap_or o [])) (sym draws.parts_there)) all)

    -- a unit is put behind the others
    module _ (u : Unit16) (pushed : later ≡ units ++ u ∷ []) where
      push-before : take k.first later ≡ take k.first units
      push-before = ap (take k.first) pushed ∙ take-append-le k.first units (u ∷ []) within

      push-now : drop k.first later ≡ take m mine ++ (there ++ u ∷ [])
      push-now = ap (drop k.first) pushed ∙ drop-append-le k.first units (u ∷ []) within
          ∙ ap (λ us. us ++ u ∷ []) parted ∙ append_assoc (take m mine) there (u ∷ [])

      push-all : k.first + (k.count + 1) ≡ length later
      push-all = rw pushed (omega (arith, end, length-append units (u ∷ [])))

      pub part-changed : (role : Role) → u ≡ part_unit role 0 → TakesPart role k.told.head.kind r.parts → (p : ℕ)
          → p ≡ k.count - 10 - k.told.texts
          → IsChanged units k (with_new_part role r) later
          (record k { told = record k.told { part = p }; count = k.count + 1 })
      part-changed role unit takes p place =
          let draws : Draws k.told.head.kind (there ++ u ∷ []) (spot_in k.told.head.kind there)
          (r.parts ++ shown_part role [] ∷ []) =
          subst (λ v. Draws k.told.head.kind (there ++ v ∷ []) (spot_in k.told.head.kind there)
          (r.parts ++ shown_part role [] ∷ [])) (sym unit)
          (new-part k.told.head.kind there r.parts role (parts-are units k is end) takes) in
          let many : parts_count r.parts ≡ length there =
          parts-counted k.told.head.kind there r.parts role (parts-are units k is end) takes in
          drawn-so (with_new_part role r) (there ++ u ∷ []) (spot_in k.told.head.kind there)
          (r.parts ++ shown_part role [] ∷ []) p (k.count + 1) push-before push-now draws
          (omega (
            arith,
            place,
            many,
            end,
            long units k is end,
            texts-are units k is end,
            last-behind r.parts (shown_part role []),
          )) push-all
          (ap (λ (s : Option Point). record {
            head = r.head;
            texts = r.texts;
            spot = s;
            parts = r.parts ++ shown_part role [] ∷ [];
          }) (spot-is units k is end))

      pub spot-changed : k.told.head.kind ≡ EntityKind.Node → r.spot ≡ None → (p : Point) → p ≡ point_in u
          → IsChanged units k (with_new_point p r) later (record k { count = k.count + 1 })
      spot-changed node none p point =
          let here : spot_in EntityKind.Node there ≡ None =
          ap (λ kind. spot_in kind there) (sym node) ∙ spot-is units k is end ∙ none in
          let no-parts : r.parts ≡ [] =
          sym (ap (λ kind. unwrap_or (drawn_parts kind there) []) (sym node)
          ∙ ap (λ o. unwrap_or o []) (parts-are units k is end)) in
          let draws : Draws k.told.head.kind (there ++ u ∷ []) (Some p) r.parts =
          subst (λ (ps : List Part). Draws k.told.head.kind (there ++ u ∷ []) (Some p) ps) (sym no-parts)
          (subst (λ (q : Point). Draws k.told.head.kind (there ++ u ∷ []) (Some q) []) (sym point)
          (subst (λ kind. Draws kind (there ++ u ∷ []) (Some (point_in u)) []) (sym node) (new-spot there u here))) in
          drawn-so (with_new_point p r) (there ++ u ∷ []) (Some p) r.parts k.told.part (k.count + 1) push-before
          push-now draws (part-is units k is end) push-all (with-point p r EntityKind.Node node)

    -- the last part has one point more, which is put behind the others
    module _ (u : Unit16) (counted : length units < 2 ^ 62)
        (ring : (k.told.head.kind ≡ EntityKind.Way) ⊎ (k.told.head.kind ≡ EntityKind.Relation))
        (takes : TakesPoint k.told.head.kind r.spot r.parts) (v : Unit16)
        (unit : v ≡ part_unit (one counted ring takes).role ((one counted ring takes).n + 1))
        (put : later ≡ slice_set units (k.first + 10 + k.told.texts + k.told.part) v ++ u ∷ []) where
      abbrev at : ℕ
      at = last_place r.parts

      abbrev set_there : List Unit16
      set_there = slice_set units (k.first + (m + at)) v

      put-so : later ≡ set_there ++ u ∷ []
      put-so =
          let place : k.first + 10 + k.told.texts + k.told.part ≡ k.first + (m + at) =
          omega (arith, part-place, texts-are units k is end) in
          put ∙ ap (λ i. slice_set units i v ++ u ∷ []) place

      set-long : length set_there ≡ length units
      set-long = length-set units (k.first + (m + at)) v

      set-before : take k.first later ≡ take k.first units
      set-before = ap (take k.first) put-so
          ∙ take-append-le k.first set_there (u ∷ []) (omega (arith, set-long, within))
          ∙ take-set-le k.first units (k.first + (m + at)) v (omega arith)

      own-set : slice_set mine (m + at) v ≡ take m mine ++ slice_set there at v
      own-set = sym (take-append-drop m (slice_set mine (m + at) v))
          ∙ ap (λ us. us ++ drop m (slice_set mine (m + at) v)) (take-set-le m mine (m + at) v (omega arith))
          ∙ ap (λ us. take m mine ++ us) (drop-set-add m mine at v
          ∙ ap (λ us. slice_set us at v) (sym (drop-drop (count_of (head_told k.told)) 10 mine)))

      abbrev now_there : List Unit16
      now_there = slice_set there at v ++ u ∷ []

      set-now : drop k.first later ≡ take m mine ++ now_there
      set-now = ap (drop k.first) put-so
          ∙ drop-append-le k.first set_there (u ∷ []) (omega (arith, set-long, within))
          ∙ ap (λ us. us ++ u ∷ []) (drop-set-add k.first units (m + at) v ∙ own-set)
          ∙ append_assoc (take m mine) (slice_set there at v) (u ∷ [])

      set-all : k.first + (k.count + 1) ≡ length later
      set-all = rw put-so (omega (arith, end, set-long, length-append set_there (u ∷ [])))

      module _ (p : Point) (point : p ≡ point_in u) where
        place-kept : k.told.part ≡ last_place (change_last (with_point p) r.parts)
        place-kept = part-place ∙ sym (last-kept with_point p r.parts (λ q. refl))

        -- what is drawn so, of either kind
        by_draws : (kind : EntityKind) → k.told.head.kind ≡ kind
            → Draws kind now_there None (change_last (with_point (point_in u)) r.parts)
            → ◌≡◌ {A = Record} (record {
              head = r.head;
              texts = r.texts;
              spot = None;
              parts = change_last (with_point p) r.parts;
            }) (with_new_point p r)
            → IsChanged units k (with_new_point p r) later (record k { count = k.count + 1 })
        by_draws kind is-kind draws same =
            drawn-so (with_new_point p r) now_there None (change_last (with_point p) r.parts) k.told.part (k.count + 1)
            set-before set-now
            (subst (λ kd. Draws kd now_there None (change_last (with_point p) r.parts)) (sym is-kind)
            (subst (λ (q : Point). Draws kind now_there None (change_last (with_point q) r.parts)) (sym point) draws))
            place-kept set-all same

        more-there :
            slice_set there at (part_unit (one counted ring takes).role ((one counted ring takes).n + 1)) ++ u ∷ []
            ≡ now_there
        more-there = ap (λ w. slice_set there at w ++ u ∷ []) (sym unit)

        few-there : length there < 2 ^ 62
        few-there = omega (arith, counted, long units k is end)

        same-so : (kind : EntityKind) → r.head.kind ≡ kind → r.spot ≡ None → spot_with p kind r.spot ≡ r.spot
            → parts_with p kind r.parts ≡ change_last (with_point p) r.parts
            → ◌≡◌ {A = Record} (record {
              head = r.head;
              texts = r.texts;
              spot = None;
              parts = change_last (with_point p) r.parts;
            }) (with_new_point p r)
        same-so kind is-kind none spot parts =
            ap (λ (s : Option Point). record {
              head = r.head;
              texts = r.texts;
              spot = s;
              parts = change_last (with_point p) r.parts;
            }) (sym (spot ∙ none))
            ∙ ap (λ (ps : List Part). record {
              head = r.head;
              texts = r.texts;
              spot = spot_with p kind r.spot;
              parts = ps;
            }) (sym parts)
            ∙ with-point p r kind is-kind

        way-changed : k.told.head.kind ≡ EntityKind.Way
            → IsChanged units k (with_new_point p r) later (record k { count = k.count + 1 })
        way-changed way =
            let line : is_line there ≡ true = ap (λ kind. is_drawn kind there) (sym way) ∙ drawn-is units k is end in
            let none : r.spot ≡ None = sym (spot-is units k is end) ∙ ap (λ kind. spot_in kind there) way in
            by_draws EntityKind.Way way
            (subst (λ us. Draws EntityKind.Way us None (change_last (with_point (point_in u)) r.parts)) more-there
            (way-point there r.parts few-there (are counted ring takes) (one counted ring takes) u line))
            (same-so EntityKind.Way way none refl refl)

        relation-changed : k.told.head.kind ≡ EntityKind.Relation
            → IsChanged units k (with_new_point p r) later (record k { count = k.count + 1 })
        relation-changed relation =
            let none : r.spot ≡ None = sym (spot-is units k is end) ∙ ap (λ kind. spot_in kind there) relation in
            by_draws EntityKind.Relation relation
            (subst (λ us. Draws EntityKind.Relation us None (change_last (with_point (point_in u)) r.parts)) more-there
            (relation-point there r.parts few-there (are counted ring takes) (one counted ring takes) u))
            (same-so EntityKind.Relation relation none refl refl)

        pub ring-changed : IsChanged units k (with_new_point p r) later (record k { count = k.count + 1 })
        ring-changed = by_kind ring
          where
            by_kind : (k.told.head.kind ≡ EntityKind.Way) ⊎ (k.told.head.kind ≡ EntityKind.Relation)
                → IsChanged units k (with_new_point p r) later (record k { count = k.count + 1 })
            by_kind (inl way) = way-changed way
            by_kind (inr relation) = relation-changed relation
