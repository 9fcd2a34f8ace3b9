-- The units of a record are read again as this record.
use Rattle.std.proofs.Common.{◌≡◌, ◌⊎◌, inl, inr, ℕ, zero, suc, ◌+◌, ◌-◌, ◌*◌, ◌≤◌, true, false, List, []}
use Rattle.std.proofs.Common.{◌∷◌, ◌++◌, length, take, drop, map, replicate, Option, Some, None, refl, sym, ap, ◌∙◌}
use Rattle.std.proofs.Common.{arith, append_assoc}
use Rattle.std.specs.Prelude.{nat_eq, nat_le, unwrap_or, is_some, bytes_eq, slice_get, if◌then◌else◌, ◌&&◌}
use Rattle.std.proofs.lemmas.Bool.{cases_Bool, and_parts, and_from, leb-true, le-leb, eqb-true}
use Rattle.std.proofs.lemmas.List.{length-drop, length-append, length-replicate, length-map, take_at, drop_at}
use Rattle.std.proofs.lemmas.List.{replicate-append-replicate, take-append-drop, nil_from_length}
use Rattle.std.proofs.lemmas.Slice.Eq.{bytes_eq-Decides}
use Rattle.mf_base.specs.Texts.{Text}
use Rattle.mf_base.specs.Ascending.{cut_rows}
use Rattle.mf_base.specs.declared.kind.EntityKind.{EntityKind}
use Rattle.mf_base.specs.declared.kind.Role.{Role}
use Rattle.feature_model.specs.Points.{Point, Part}
use Rattle.mf_rows.specs.Units.{Unit16, point_unit, part_unit, parts_units, parts_in}
use Rattle.mf_rows.specs.Heads.{HeadTold, head_unit, head_in}
use Rattle.mf_rows.specs.Records.{Record, texts_told, spot_in, drawn_parts}
use Rattle.mf_rows.specs.RecordUnits.{lengths_of, text_bytes, text_units, units_for, drawn_units, units_of, slot_sizes}
use Rattle.mf_rows.specs.RecordUnits.{sizes_total, spans_from, are_zeros, is_drawn, is_behind}
use Rattle.mf_rows.specs.RecordUnits.{record_of, record_behind, record_in, redrawn, bytes_in}
use Rattle.mf_rows.specs.FirstUnits.{front_record, front_units, IsHead, AreLengths}
use Rattle.mf_rows.specs.Whole.{sizes_of, with_text, AreTexts, CanDraw, IsWhole}
use Rattle.mf_rows.specs.declared.head.Head.{Head}
use Rattle.mf_rows.specs.declared.head.TextSlot.{TextSlot}
use Rattle.mf_rows.specs.declared.head_units.TextLengths.{TextLengths}
use Rattle.mf_rows.proofs.HeadAgain.{head-again}
use Rattle.mf_rows.proofs.PartsAgain.{parts_again, point_again}
use Rattle.mf_rows.proofs.Redrawn.{count_of}

-- ---- texts

total-of : (texts : List (TextSlot × Text)) → sizes_total (sizes_of texts) ≡ length (text_bytes texts)
total-of [] = refl
total-of (t ∷ texts) = omega (arith, total-of texts, length-append t.1 (text_bytes texts))

total-there : (sizes : List (TextSlot × ℕ)) → sizes_total (with_text sizes) ≡ sizes_total sizes
total-there [] = refl
total-there (s ∷ sizes) = by_size (cases_Bool (nat_eq s.1 0)) (total-there sizes)
  where
    by_size : (nat_eq s.1 0 ≡ true) ⊎ (nat_eq s.1 0 ≡ false) → sizes_total (with_text sizes) ≡ sizes_total sizes
        → sizes_total (with_text (s ∷ sizes)) ≡ s.1 + sizes_total sizes
    by_size (inl e) more = let none : s.1 ≡ 0 = eqb-true s.1 0 e in rw e (omega (arith, none, more))
    by_size (inr e) more = rw e (ap (λ n. s.1 + n) more)

-- a text that is told is the one that stands there, and so are those behind it
text-again : (s : TextSlot × ℕ) (sizes : List (TextSlot × ℕ)) (t : TextSlot × Text) (texts : List (TextSlot × Text))
    (before after : List ℕ) → (t.0, length t.1) ≡ s
    → texts_told ((before ++ t.1) ++ (text_bytes texts ++ after)) (spans_from (length (before ++ t.1)) sizes) ≡ texts
    → texts_told (before ++ (text_bytes (t ∷ texts) ++ after))
    (record { slot = s.0; start = length before; len = s.1 } ∷ spans_from (length before + s.1) sizes)
    ≡ t ∷ texts
text-again s sizes t texts before after same again =
    let rest : List ℕ = text_bytes texts ++ after in
    let block : before ++ (text_bytes (t ∷ texts) ++ after) ≡ before ++ (t.1 ++ rest) =
    ap (λ xs. before ++ xs) (append_assoc t.1 (text_bytes texts) after) in
    let moved : before ++ (t.1 ++ rest) ≡ (before ++ t.1) ++ rest = sym (append_assoc before t.1 rest) in
    let place : length before + length t.1 ≡ length (before ++ t.1) = sym (length-append before t.1) in
    let one : take (length t.1) (drop (length before) (before ++ (t.1 ++ rest))) ≡ t.1 =
    ap (take (length t.1)) (drop_at before (t.1 ++ rest) (length before) refl) ∙ take_at t.1 rest (length t.1) refl in
    ap (λ (z : TextSlot × ℕ). texts_told (before ++ (text_bytes (t ∷ texts) ++ after))
    (record { slot = z.0; start = length before; len = z.1 } ∷ spans_from (length before + z.1) sizes)) (sym same)
    ∙ ap (λ xs. texts_told xs (record { slot = t.0; start = length before; len = length t.1 }
    ∷ spans_from (length before + length t.1) sizes)) block
    ∙ ap (λ xs. (t.0, xs) ∷ texts_told (before ++ (t.1 ++ rest)) (spans_from (length before + length t.1) sizes)) one
    ∙ ap (λ n. t ∷ texts_told (before ++ (t.1 ++ rest)) (spans_from n sizes)) place
    ∙ ap (λ xs. t ∷ texts_told xs (spans_from (length (before ++ t.1)) sizes)) moved
    ∙ ap (λ ts. t ∷ ts) again

texts-again : (sizes : List (TextSlot × ℕ)) (texts : List (TextSlot × Text)) (before after : List ℕ)
    → sizes_of texts ≡ with_text sizes
    → texts_told (before ++ (text_bytes texts ++ after)) (spans_from (length before) sizes) ≡ texts
texts-again [] [] before after are = refl
texts-again [] (t ∷ texts) before after are = cc
texts-again (s ∷ sizes) texts before after are = by_size (cases_Bool (nat_eq s.1 0)) (texts-again sizes)
  where
    first_is : {A : Type 0} (a b : A) (xs ys : List A) → a ∷ xs ≡ b ∷ ys → a ≡ b
    first_is a b xs ys e = ap (λ zs. unwrap_or (slice_get zs 0) a) e

    by_text : (texts : List (TextSlot × Text)) → sizes_of texts ≡ s ∷ with_text sizes
        → ((texts : List (TextSlot × Text)) (before after : List ℕ) → sizes_of texts ≡ with_text sizes
        → texts_told (before ++ (text_bytes texts ++ after)) (spans_from (length before) sizes) ≡ texts)
        → texts_told (before ++ (text_bytes texts ++ after))
        (record { slot = s.0; start = length before; len = s.1 } ∷ spans_from (length before + s.1) sizes)
        ≡ texts
    by_text [] is again = cc
    by_text (t ∷ texts) is again = text-again s sizes t texts before after
        (first_is (t.0, length t.1) s (sizes_of texts) (with_text sizes) is)
        (again texts (before ++ t.1) after (ap (drop 1) is))

    by_size : (nat_eq s.1 0 ≡ true) ⊎ (nat_eq s.1 0 ≡ false)
        → ((texts : List (TextSlot × Text)) (before after : List ℕ) → sizes_of texts ≡ with_text sizes
        → texts_told (before ++ (text_bytes texts ++ after)) (spans_from (length before) sizes) ≡ texts)
        → texts_told (before ++ (text_bytes texts ++ after)) (spans_from (length before) (s ∷ sizes)) ≡ texts
    by_size (inl e) again = rw e (again texts before after (are ∙ rw e refl))
    by_size (inr e) again = rw e (by_text texts (are ∙ rw e refl) again)

-- ---- their units

joined-cut : (n : ℕ) (bytes : List ℕ) → length bytes ≡ 16 * n → bytes_in (cut_rows 16 n bytes) ≡ bytes
joined-cut zero bytes long = sym (nil_from_length bytes (omega (arith, long)))
joined-cut (suc n) bytes long =
    ap (λ more. take 16 bytes ++ more) (joined-cut n (drop 16 bytes) (omega (arith, length-drop 16 bytes, long)))
    ∙ take-append-drop 16 bytes

cut-long : (n : ℕ) (bytes : List ℕ) → length (cut_rows 16 n bytes) ≡ n
cut-long zero bytes = refl
cut-long (suc n) bytes = ap suc (cut-long n (drop 16 bytes))

zeros-are : (n : ℕ) → are_zeros (replicate n 0) ≡ true
zeros-are zero = refl
zeros-are (suc n) = zeros-are n

module _ (bytes : List ℕ) where
  abbrev size : ℕ
  size = units_for (length bytes)

  abbrev pad : ℕ
  pad = 16 * size - length bytes

  enough : length bytes ≤ 16 * size
  enough = omega arith

  pad-few : pad ≤ 16
  pad-few = omega arith

  padded : take (16 * size) (bytes ++ replicate 16 0) ≡ bytes ++ replicate pad 0
  padded =
      let sum : 16 ≡ pad + (16 - pad) = omega (arith, pad-few) in
      let zeros : replicate 16 0 ≡ replicate pad 0 ++ replicate (16 - pad) 0 =
      ap (λ n. replicate n 0) sum ∙ sym (replicate-append-replicate pad (16 - pad) 0) in
      let long : length (bytes ++ replicate pad 0) ≡ 16 * size =
      omega (arith, enough, length-append bytes (replicate pad 0), length-replicate {A = ℕ} pad 0) in
      ap (λ zs. take (16 * size) (bytes ++ zs)) zeros
      ∙ ap (take (16 * size)) (sym (append_assoc bytes (replicate pad 0) (replicate (16 - pad) 0)))
      ∙ take_at (bytes ++ replicate pad 0) (replicate (16 - pad) 0) (16 * size) long

  pub units-long : length (text_units bytes) ≡ size
  units-long = cut-long size (take (16 * size) (bytes ++ replicate 16 0))

  units-are : bytes_in (text_units bytes) ≡ bytes ++ replicate pad 0
  units-are =
      let long : length (take (16 * size) (bytes ++ replicate 16 0)) ≡ 16 * size =
      ap length padded
      ∙ omega (arith, enough, length-append bytes (replicate pad 0), length-replicate {A = ℕ} pad 0) in
      joined-cut size (take (16 * size) (bytes ++ replicate 16 0)) long ∙ padded

  zeros-behind : are_zeros (drop (length bytes) (bytes_in (text_units bytes))) ≡ true
  zeros-behind = ap (λ xs. are_zeros (drop (length bytes) xs)) units-are
      ∙ ap are_zeros (drop_at bytes (replicate pad 0) (length bytes) refl) ∙ zeros-are pad

-- ---- a head, its texts, and what it is drawn from

module _ (h : Head) (texts : List (TextSlot × Text)) (others : List Unit16) (is_head : IsHead h)
    (are : AreTexts h texts) (drawn : is_drawn h.kind others ≡ true) where
  abbrev t : HeadTold
  t = record { head = h; texts = lengths_of texts }

  abbrev bytes : List ℕ
  bytes = text_bytes texts

  abbrev rest : List Unit16
  rest = text_units bytes ++ others

  abbrev all : List Unit16
  all = front_units (front_record h texts) ++ others

  total-is : sizes_total (slot_sizes t) ≡ length bytes
  total-is = sym (total-there (slot_sizes t)) ∙ ap sizes_total (sym are.sizes) ∙ total-of texts

  count-is : count_of t ≡ units_for (length bytes)
  count-is = ap units_for total-is

  lengths : AreLengths (lengths_of texts)
  lengths =
      let l : TextLengths = lengths_of texts in
      let three : (nat_le l.name 1020 && nat_le l.house 1020 && nat_le l.reference 1020) ≡ true =
      (and_parts _ _ are.short).0 in
      let two : (nat_le l.name 1020 && nat_le l.house 1020) ≡ true =
      (and_parts _ (nat_le l.reference 1020) three).0 in
      record {
        name = omega (arith, leb-true l.name 1020 (and_parts _ (nat_le l.house 1020) two).0);
        house = omega (arith, leb-true l.house 1020 (and_parts (nat_le l.name 1020) _ two).1);
        reference = omega (
          arith,
          leb-true l.reference 1020
              (and_parts (nat_le l.name 1020 && nat_le l.house 1020) _ three).1,
        );
      }

  texts-front : take (count_of t) rest ≡ text_units bytes
  texts-front = ap (λ n. take n rest) count-is
      ∙ take_at (text_units bytes) others (units_for (length bytes)) (units-long bytes)

  texts-behind : drop (count_of t) rest ≡ others
  texts-behind = ap (λ n. drop n rest) count-is
      ∙ drop_at (text_units bytes) others (units_for (length bytes)) (units-long bytes)

  room : count_of t ≤ length rest
  room = omega (arith, count-is, units-long bytes, length-append (text_units bytes) others)

  holds : is_behind t rest ≡ true
  holds =
      let fits : nat_le (count_of t) (length rest) ≡ true = le-leb (count_of t) (length rest) room in
      let none : are_zeros (drop (sizes_total (slot_sizes t)) (bytes_in (take (count_of t) rest))) ≡ true =
      ap (λ us. are_zeros (drop (sizes_total (slot_sizes t)) (bytes_in us))) texts-front
      ∙ ap (λ n. are_zeros (drop n (bytes_in (text_units bytes)))) total-is ∙ zeros-behind bytes in
      let there : is_drawn h.kind (drop (count_of t) rest) ≡ true = ap (is_drawn h.kind) texts-behind ∙ drawn in
      and_from _ _ (and_from _ _ (and_from _ _ are.short fits) none) there

  head-read : head_in (take 10 all) ≡ Some t
  head-read = head-again h (lengths_of texts) is_head lengths

  texts-told : texts_told (bytes_in (take (count_of t) rest)) (spans_from 0 (slot_sizes t)) ≡ texts
  texts-told = ap (λ us. texts_told (bytes_in us) (spans_from 0 (slot_sizes t))) texts-front
      ∙ ap (λ xs. texts_told xs (spans_from 0 (slot_sizes t))) (units-are bytes)
      ∙ texts-again (slot_sizes t) texts [] (replicate (pad bytes) 0) are.sizes

  same : record_of t (count_of t) rest ≡ redrawn (front_record h texts) others
  same =
      ap (λ (ts : List (TextSlot × Text)). record {
        head = h;
        texts = ts;
        spot = spot_in h.kind (drop (count_of t) rest);
        parts = unwrap_or (drawn_parts h.kind (drop (count_of t) rest)) [];
      }) texts-told
      ∙ ap (λ us. record {
        head = h;
        texts = texts;
        spot = spot_in h.kind us;
        parts = unwrap_or (drawn_parts h.kind us) [];
      }) texts-behind

  pub front-again : record_in all ≡ Some (redrawn (front_record h texts) others)
  unfolding record_in
  front-again =
      let long : 10 ≤ length all = omega arith in
      ap (λ b. if b then record_behind (drop 10 all) (head_in (take 10 all)) else None) (le-leb 10 (length all) long)
      ∙ ap (record_behind (drop 10 all)) head-read ∙ rw holds refl ∙ ap Some same

-- ---- what it is drawn from

same_bytes : (bytes : List ℕ) → bytes_eq bytes bytes ≡ true
same_bytes bytes = (bytes_eq-Decides bytes bytes).1 refl

-- Units draw just this.
record DrawsAgain (kind : EntityKind) (spot : Option Point) (parts : List Part) : Type 0 where
  drawn : is_drawn kind (drawn_units kind spot parts) ≡ true
  spot_again : spot_in kind (drawn_units kind spot parts) ≡ spot
  parts_there : unwrap_or (drawn_parts kind (drawn_units kind spot parts)) [] ≡ parts

draws-again : (kind : EntityKind) (spot : Option Point) (parts : List Part) → CanDraw kind spot parts
    → DrawsAgain kind spot parts
draws-again EntityKind.Node None parts can =
    record { drawn = refl; spot_again = refl; parts_there = sym can.0 }
draws-again EntityKind.Node (Some p) parts can = record {
  drawn = refl;
  spot_again = ap Some (point_again p (point_unit p) refl can.1);
  parts_there = sym can.0;
}
draws-again EntityKind.Way spot [] can =
    record { drawn = refl; spot_again = sym can.0; parts_there = ap (λ o. unwrap_or o []) (parts_again [] tt) }
draws-again EntityKind.Way spot (p ∷ []) can =
    let points : List Unit16 = map point_unit p.points ++ [] in
    let many : length points ≡ length p.points =
    omega (arith, length-append (map point_unit p.points) [], length-map p.points point_unit) in
    record {
      drawn = ap (λ n. bytes_eq (part_unit p.role (length p.points)) (part_unit Role.Outer n)) many
          ∙ ap (λ role. bytes_eq (part_unit role (length p.points)) (part_unit Role.Outer (length p.points))) can.1.0
          ∙ same_bytes (part_unit Role.Outer (length p.points));
      spot_again = sym can.0;
      parts_there = ap (λ o. unwrap_or o []) (parts_again (p ∷ []) (can.1.1, tt));
    }
draws-again EntityKind.Way spot (p ∷ q ∷ parts) can = absurd can.1
draws-again EntityKind.Relation spot parts can =
    let again : parts_in (parts_units parts) ≡ Some parts = parts_again parts can.1 in
    record { drawn = ap is_some again; spot_again = sym can.0; parts_there = ap (λ o. unwrap_or o []) again }

pub whole-again : (r : Record) → IsWhole r → record_in (units_of r) ≡ Some r
unfolding units_of
whole-again r is =
    let others : List Unit16 = drawn_units r.head.kind r.spot r.parts in
    let draws = draws-again r.head.kind r.spot r.parts is.drawn in
    ap record_in (sym (append_assoc (map (head_unit r.head (lengths_of r.texts))
    (0 ∷ 1 ∷ 2 ∷ 3 ∷ 4 ∷ 5 ∷ 6 ∷ 7 ∷ 8 ∷ 9 ∷ [])) (text_units (text_bytes r.texts)) others))
    ∙ front-again r.head r.texts others is.head is.texts draws.drawn
    ∙ ap (λ (s : Option Point). Some (record {
      head = r.head;
      texts = r.texts;
      spot = s;
      parts = unwrap_or (drawn_parts r.head.kind others) [];
    })) draws.spot_again
    ∙ ap (λ (ps : List Part). Some (record {
      head = r.head;
      texts = r.texts;
      spot = r.spot;
      parts = ps;
    })) draws.parts_there
