-- What a record is drawn from stands behind its texts, and may be changed for other units.
use Rattle.std.proofs.Common.{◌≡◌, ◌⊎◌, inl, inr, ℕ, ◌+◌, ◌≤◌, true}
use Rattle.std.proofs.Common.{false, List, [], ◌++◌, length, take, drop, Option, Some}
use Rattle.std.proofs.Common.{None, refl, sym, ap, ◌∙◌, arith}
use Rattle.std.specs.Prelude.{nat_le, unwrap_or, if◌then◌else◌, Bool, ◌&&◌}
use Rattle.std.proofs.lemmas.Bool.{cases_Bool, and_parts, and_from, leb-true, le-leb}
use Rattle.std.proofs.lemmas.List.{length-take, length-drop, length-append, take_at, drop_at, drop-drop, take-append-le}
use Rattle.std.proofs.lemmas.List.{drop-append-le, drop-take}
use Rattle.mf_rows.specs.Units.{Unit16}
use Rattle.mf_rows.specs.Heads.{HeadTold, head_in}
use Rattle.mf_rows.specs.Records.{Record, texts_told, spot_in, drawn_parts}
use Rattle.mf_rows.specs.RecordUnits.{slot_sizes, sizes_total, units_for, bytes_in, are_sizes, are_zeros, is_drawn}
use Rattle.mf_rows.specs.RecordUnits.{is_behind, record_of, record_behind, record_in}
use Rattle.mf_rows.specs.RecordUnits.{text_bytes, redrawn, spans_from, AreWide}
use Rattle.mf_rows.proofs.ToldLaws.{text-count}
use Rattle.mf_rows.proofs.KeptLaws.{front-of}

-- the units of a text, by a head
abbrev pub count_of : HeadTold → ℕ
count_of t = units_for (sizes_total (slot_sizes t))

-- What is known of units that spell a record.
pub record IsSpelled (units : List Unit16) (r : Record) : Type 0 where
  pub t : HeadTold
  pub ten : 10 ≤ length units
  pub head : head_in (take 10 units) ≡ Some t
  pub holds : is_behind t (drop 10 units) ≡ true
  pub same : record_of t (count_of t) (drop 10 units) ≡ r

some_is : (a b : Record) → Some a ≡ Some b → a ≡ b
some_is a b e = ap (λ o. unwrap_or o a) e

pub spelled : (units : List Unit16) (r : Record) → record_in units ≡ Some r → IsSpelled units r
unfolding record_in
spelled units r is = by_room (cases_Bool (nat_le 10 (length units)))
  where
    by_test : (t : HeadTold) → 10 ≤ length units → head_in (take 10 units) ≡ Some t
        → (is_behind t (drop 10 units) ≡ true) ⊎ (is_behind t (drop 10 units) ≡ false)
        → record_behind (drop 10 units) (Some t) ≡ Some r → IsSpelled units r
    by_test t ten head (inl e) found = record {
      t = t;
      ten = ten;
      head = head;
      holds = e;
      same = let told : Some (record_of t (count_of t) (drop 10 units)) ≡ Some r = sym (rw e refl) ∙ found in
          some_is (record_of t (count_of t) (drop 10 units)) r told;
    }
    by_test t ten head (inr e) found = let none : ◌≡◌ {A = Option Record} None (Some r) = sym (rw e refl) ∙ found in cc

    by_head : (h : Option HeadTold) → 10 ≤ length units → head_in (take 10 units) ≡ h
        → record_behind (drop 10 units) h ≡ Some r → IsSpelled units r
    by_head None ten head found = cc
    by_head (Some t) ten head found = by_test t ten head (cases_Bool (is_behind t (drop 10 units))) found

    by_room : (nat_le 10 (length units) ≡ true) ⊎ (nat_le 10 (length units) ≡ false) → IsSpelled units r
    by_room (inl e) = by_head (head_in (take 10 units)) (leb-true 10 (length units) e) refl (sym (rw e refl) ∙ is)
    by_room (inr e) = let none : ◌≡◌ {A = Option Record} None (Some r) = sym (rw e refl) ∙ is in cc

-- units that spell the record of a head
module _ (units : List Unit16) (t : HeadTold) (ten : 10 ≤ length units) (head : head_in (take 10 units) ≡ Some t)
    (holds : is_behind t (drop 10 units) ≡ true) where
  abbrev n : ℕ
  n = count_of t

  abbrev rest : List Unit16
  rest = drop 10 units

  abbrev zeros : Bool
  zeros = are_zeros (drop (sizes_total (slot_sizes t)) (bytes_in (take n rest)))

  pub drawn-holds : is_drawn t.head.kind (drop n rest) ≡ true
  drawn-holds = (and_parts _ (is_drawn t.head.kind (drop n rest)) holds).1

  first-three : (are_sizes t && nat_le n (length rest) && zeros) ≡ true
  first-three = (and_parts _ (is_drawn t.head.kind (drop n rest)) holds).0

  zeros-hold : zeros ≡ true
  zeros-hold = (and_parts (are_sizes t && nat_le n (length rest)) zeros first-three).1

  first-two : (are_sizes t && nat_le n (length rest)) ≡ true
  first-two = (and_parts (are_sizes t && nat_le n (length rest)) zeros first-three).0

  pub sizes-hold : are_sizes t ≡ true
  sizes-hold = (and_parts (are_sizes t) (nat_le n (length rest)) first-two).0

  pub fits : n ≤ length rest
  fits = leb-true n (length rest) (and_parts (are_sizes t) (nat_le n (length rest)) first-two).1

  -- other units in the place of those that it is drawn from
  module _ (others : List Unit16) (drawn : is_drawn t.head.kind others ≡ true) where
    abbrev front : List Unit16
    front = take (10 + n) units

    abbrev later : List Unit16
    later = take n rest ++ others

    pub front-long : length front ≡ 10 + n
    front-long = omega (arith, fits, ten, length-take (10 + n) units, length-drop 10 units)

    pub same-head : take 10 (front ++ others) ≡ take 10 units
    same-head = take-append-le 10 front others (omega (arith, front-long)) ∙ front-of 10 0 (10 + n) units (omega arith)

    pub same-rest : drop 10 (front ++ others) ≡ later
    same-rest = drop-append-le 10 front others (omega (arith, front-long))
        ∙ ap (λ us. us ++ others) (drop-take 10 n units)

    texts-long : length (take n rest) ≡ n
    texts-long = omega (arith, fits, length-take n rest)

    same-texts : take n later ≡ take n rest
    same-texts = take_at (take n rest) others n texts-long

    pub new-drawn : drop n later ≡ others
    new-drawn = drop_at (take n rest) others n texts-long

    later-long : n ≤ length later
    later-long = omega (arith, texts-long, length-append (take n rest) others)

    pub still : is_behind t later ≡ true
    still =
        let room : nat_le n (length later) ≡ true = le-leb n (length later) later-long in
        let none : are_zeros (drop (sizes_total (slot_sizes t)) (bytes_in (take n later))) ≡ true =
        ap (λ us. are_zeros (drop (sizes_total (slot_sizes t)) (bytes_in us))) same-texts ∙ zeros-hold in
        let here : is_drawn t.head.kind (drop n later) ≡ true = ap (is_drawn t.head.kind) new-drawn ∙ drawn in
        and_from _ _ (and_from _ _ (and_from _ _ sizes-hold room) none) here

    pub new-record : record_of t n later ≡ redrawn (record_of t n rest) others
    new-record =
        ap (λ us. record {
          head = t.head;
          texts = texts_told (bytes_in us) (spans_from 0 (slot_sizes t));
          spot = spot_in t.head.kind (drop n later);
          parts = unwrap_or (drawn_parts t.head.kind (drop n later)) [];
        }) same-texts
        ∙ ap (λ us. record {
          head = t.head;
          texts = texts_told (bytes_in (take n rest)) (spans_from 0 (slot_sizes t));
          spot = spot_in t.head.kind us;
          parts = unwrap_or (drawn_parts t.head.kind us) [];
        }) new-drawn

    pub new-head : head_in (take 10 (front ++ others)) ≡ Some t
    new-head = ap head_in same-head ∙ head

    pub new-long : 10 ≤ length (front ++ others)
    new-long = omega (arith, front-long, length-append front others)

    pub read-again : record_in (front ++ others) ≡ Some (redrawn (record_of t n rest) others)
    unfolding record_in
    read-again =
        ap (λ b.
        if b then record_behind (drop 10 (front ++ others)) (head_in (take 10 (front ++ others))) else None)
        (le-leb 10 (length (front ++ others)) new-long)
        ∙ ap (record_behind (drop 10 (front ++ others))) new-head
        ∙ ap (λ us. record_behind us (Some t)) same-rest ∙ (rw still refl) ∙ ap Some new-record

module _ (units : List Unit16) (r : Record) (wide : AreWide units) (is : record_in units ≡ Some r) where
  abbrev s : IsSpelled units r
  s = spelled units r is

  abbrev own : List Unit16
  own = drop (count_of s.t) (drop 10 units)

  counted : units_for (length (text_bytes r.texts)) ≡ count_of s.t
  counted = ap (λ (q : Record). units_for (length (text_bytes q.texts))) (sym s.same)
      ∙ text-count s.t units wide (fits units s.t s.ten s.head s.holds)

  abbrev end : ℕ
  end = 10 + units_for (length (text_bytes r.texts))

  behind : drop end units ≡ own
  behind = ap (λ k. drop (10 + k) units) counted ∙ sym (drop-drop (count_of s.t) 10 units)

  pub drawn-there : is_drawn r.head.kind (drop end units) ≡ true
  drawn-there = ap (is_drawn r.head.kind) behind ∙ ap (λ (q : Record). is_drawn q.head.kind own) (sym s.same)
      ∙ drawn-holds units s.t s.ten s.head s.holds

  pub same-there : redrawn r (drop end units) ≡ r
  same-there = ap (redrawn r) behind ∙ ap (λ (q : Record). redrawn q own) (sym s.same) ∙ s.same

  pub redrawn-is : (others : List Unit16) → is_drawn r.head.kind others ≡ true
      → record_in (take end units ++ others) ≡ Some (redrawn r others)
  redrawn-is others drawn = ap (λ k. record_in (take (10 + k) units ++ others)) counted
      ∙ read-again units s.t s.ten s.head s.holds others
      (ap (λ (q : Record). is_drawn q.head.kind others) s.same ∙ drawn)
      ∙ ap (λ (q : Record). Some (redrawn q others)) s.same
