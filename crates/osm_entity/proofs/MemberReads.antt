-- The columns of members, one row after another.
use Rattle.std.proofs.Common.{◌≡◌, ◌∙◌, ◌∷◌, ◌==◌, ◌&&◌, ℕ, zero, suc, List, [], Bool, true, false, cond}
use Rattle.std.proofs.Common.{Option, Some, None, Result, Ok, Err, ap, refl, sym, inl, inr, length, map, arith, ℤ}
use Rattle.std.proofs.Common.{pos, ◌+ℤ◌, ◌⊎◌, get_or}
use Rattle.std.specs.Prelude.{ok_or, nat_lt}
use Rattle.std.specs.List.{list_all}
use Rattle.std.proofs.lemmas.Bool.{cases_eq, cases_lt, eq-eqb, ne_eqb, and_parts, and_from, ltb-true, lt-ltb, le-ltb}
use Rattle.std.proofs.lemmas.Option.{slice_get-get_or, slice_get_past, none-some}
use Rattle.mf_base.specs.declared.kind.EntityKind.{EntityKind}
use Rattle.mf_base.specs.Texts.{Text}
use Rattle.mf_base.specs.Steps.{◌>>=◌, require, each, fault_of}
use Rattle.mf_base.specs.Ranges.{is_signed_64}
use Rattle.mf_base.specs.Entries.{entry_text}
use Rattle.osm_model.specs.declared.faults.EntityFault.{EntityFault}
use Rattle.osm_model.specs.declared.faults.EntityFault.TheVariants.{StringIndex, Range, MemberKind, Columns}
use Rattle.osm_model.specs.Entities.{Member}
use Rattle.osm_model.specs.Objects.{string_at, kind_at, member_at, members_of, running_sums, running_sums_from}
use Rattle.osm_model.specs.Objects.{zip_three}
use Rattle.osm_model.proofs.ColumnLaws.{column_from-zero, column_from-cons}
use Rattle.osm_entity.specs.InBlock.{texts_at}
use Rattle.osm_entity.specs.MemberChecks.{kind_told, member_of, is_member, row_id, are_even, row_fault, members_behind}
use Rattle.osm_entity.proofs.BlockTexts.{length-texts, text-known}

-- ---- one row

abbrev row_of : Result Text EntityFault → Bool → ℤ → Result EntityKind EntityFault → Result Member EntityFault
row_of text signed id told = text >>= λ role. require signed Range >>= λ u. told >>= λ kind.
    Ok (record { kind = kind; id = id; role = role })

abbrev id_of : Bool → Bool → Bool → ℤ → Result ℤ EntityFault
id_of known signed kind id = require known StringIndex >>= λ u. require signed Range >>= λ u. require kind MemberKind
    >>= λ u. Ok id

kind_known : (k : ℕ)
    → ((nat_lt k 3 ≡ true) × (kind_at k ≡ Ok (kind_told k))) ⊎ ((nat_lt k 3 ≡ false) × (kind_at k ≡ Err MemberKind))
kind_known zero = inl (refl, refl)
kind_known (suc zero) = inl (refl, refl)
kind_known (suc (suc zero)) = inl (refl, refl)
kind_known (suc (suc (suc k))) = inr (le-ltb (suc (suc (suc k))) 3 (omega arith), refl)

string_known : (strings : List Text) (k : ℕ)
    → ((nat_lt k (length strings) ≡ true) × ((text : Text) × (string_at strings k ≡ Ok text)))
    ⊎ ((nat_lt k (length strings) ≡ false) × (string_at strings k ≡ Err StringIndex))
string_known strings k = elim (cases_lt k (length strings)) [
  | inl less ↦ inl (
    lt-ltb k (length strings) less,
    (
      get_or strings k [],
      ap (λ o. ok_or o StringIndex) (slice_get-get_or strings k [] less),
    ),
  )
  | inr past ↦ inr (le-ltb k (length strings) past, ap (λ o. ok_or o StringIndex) (slice_get_past strings k past))
]

row_faults : (text : Result Text EntityFault) (known signed kind : Bool) (id : ℤ) (told : Result EntityKind EntityFault)
    → fault_of text ≡ fault_of (require known StringIndex) → fault_of told ≡ fault_of (require kind MemberKind)
    → fault_of (row_of text signed id told) ≡ fault_of (id_of known signed kind id)
row_faults (Ok text) true true true id (Ok told) e f = refl
row_faults (Ok text) true true false id (Ok told) e f = f
row_faults (Ok text) true true true id (Err told) e f = f
row_faults (Ok text) true true false id (Err told) e f = f
row_faults (Ok text) true false kind id told e f = refl
row_faults (Ok text) false signed kind id told e f = absurd (none-some StringIndex e)
row_faults (Err fault) true signed kind id told e f = absurd (none-some fault (sym e))
row_faults (Err fault) false signed kind id told e f = e

-- a member has the fault of its row
pub member-fault : (strings : List Text) (row : ℕ × ℤ × ℕ)
    → fault_of (member_at strings row) ≡ fault_of (row_id (length strings) row)
member-fault strings (role, id, type) =
    row_faults (string_at strings role) (nat_lt role (length strings)) (is_signed_64 id) (nat_lt type 3) id
    (kind_at type)
    (elim (string_known strings role) [
      | inl (less, (text, is)) ↦ ap fault_of is ∙ sym (ap (λ b. fault_of (require b StringIndex)) less)
      | inr (past, is) ↦ ap fault_of is ∙ sym (ap (λ b. fault_of (require b StringIndex)) past)
    ])
    (elim (kind_known type) [
      | inl (less, is) ↦ ap fault_of is ∙ sym (ap (λ b. fault_of (require b MemberKind)) less)
      | inr (past, is) ↦ ap fault_of is ∙ sym (ap (λ b. fault_of (require b MemberKind)) past)
    ])

row_sound : (known signed kind : Bool) (id : ℤ) → fault_of (id_of known signed kind id) ≡ None
    → (known && signed && kind) ≡ true
row_sound true true true id e = refl
row_sound true true false id e = absurd (none-some MemberKind (sym e))
row_sound true false kind id e = absurd (none-some Range (sym e))
row_sound false signed kind id e = absurd (none-some StringIndex (sym e))

-- a row without a fault is that of a member
pub row-sound : (count : ℕ) (row : ℕ × ℤ × ℕ) → fault_of (row_id count row) ≡ None → is_member count row ≡ true
row-sound count (role, id, type) e = row_sound (nat_lt role count) (is_signed_64 id) (nat_lt type 3) id e

kind_of_type : (k : ℕ) → nat_lt k 3 ≡ true → kind_at k ≡ Ok (kind_told k)
kind_of_type zero e = refl
kind_of_type (suc zero) e = refl
kind_of_type (suc (suc zero)) e = refl
kind_of_type (suc (suc (suc k))) e = absurd (omega (arith, ltb-true (suc (suc (suc k))) 3 e))

-- the member of such a row
pub member-known : (block places : List ℕ) (row : ℕ × ℤ × ℕ) → is_member (length places) row ≡ true
    → member_at (texts_at block places) row ≡ Ok (member_of block places row)
member-known block places (role, id, type) e =
    let parts = and_parts (nat_lt role (length places) && is_signed_64 id) (nat_lt type 3) e in
    let both = and_parts (nat_lt role (length places)) (is_signed_64 id) parts.0 in
    ap (λ r. row_of r (is_signed_64 id) id (kind_at type))
    (text-known block places role (ltb-true role (length places) both.0))
    ∙ ap (λ b. row_of (Ok (entry_text block places role)) b id (kind_at type)) both.1
    ∙ ap (λ k. row_of (Ok (entry_text block places role)) true id k) (kind_of_type type parts.1)

-- ---- rows

pub members-known : (block places : List ℕ) (rows : List (ℕ × ℤ × ℕ))
    → list_all (is_member (length places)) rows ≡ true
    → each (member_at (texts_at block places)) rows ≡ Ok (map (member_of block places) rows)
members-known block places [] e = refl
members-known block places (row ∷ rows) e =
    let parts = and_parts (is_member (length places) row) (list_all (is_member (length places)) rows) e in
    ap (λ r. r >>= λ first. each (member_at (texts_at block places)) rows >>= λ others. Ok (first ∷ others))
    (member-known block places row parts.0)
    ∙ ap (λ r. r >>= λ others. Ok (member_of block places row ∷ others)) (members-known block places rows parts.1)

abbrev next_of : Result Member EntityFault → Result (List Member) EntityFault → Result (List Member) EntityFault
next_of first others = first >>= λ x. others >>= λ xs. Ok (x ∷ xs)

first_none : (first : Result Member EntityFault) (others : Result (List Member) EntityFault)
    → fault_of (next_of first others) ≡ None → (fault_of first ≡ None) × (fault_of others ≡ None)
first_none (Ok x) (Ok xs) e = (refl, refl)
first_none (Ok x) (Err f) e = absurd (none-some f (sym e))
first_none (Err f) others e = absurd (none-some f (sym e))

-- rows without a fault are those of members
pub rows-sound : (strings : List Text) (rows : List (ℕ × ℤ × ℕ)) → fault_of (each (member_at strings) rows) ≡ None
    → list_all (is_member (length strings)) rows ≡ true
rows-sound strings [] e = refl
rows-sound strings (row ∷ rows) e =
    let (one, others) = first_none (member_at strings row) (each (member_at strings) rows) e in
    and_from (is_member (length strings) row) (list_all (is_member (length strings)) rows)
    (row-sound (length strings) row (sym (member-fault strings row) ∙ one)) (rows-sound strings rows others)

-- ---- three columns

pub members-begin : (strings : List Text) (roles : List ℕ) (ids : List ℤ) (types : List ℕ)
    → members_of strings roles ids types ≡ members_behind (pos 0) strings roles ids types
members-begin strings roles ids types =
    ap (λ sums. require (are_even roles ids types) Columns
    >>= λ u. each (member_at strings) (zip_three roles sums types))
    (sym (column_from-zero ids))

abbrev faults : Bool → Result (List Member) EntityFault → Option EntityFault
faults even members = fault_of (require even Columns >>= λ u. members)

same_count : (m n : ℕ) → (suc m == suc n) ≡ (m == n)
same_count m n = elim (cases_eq m n) [
  | inl e ↦ eq-eqb (suc m) (suc n) (omega (arith, e)) ∙ sym (eq-eqb m n e)
  | inr e ↦ ne_eqb (suc m) (suc n) (λ f. e (omega (arith, f))) ∙ sym (ne_eqb m n e)
]

even_next : (r t : ℕ) (d : ℤ) (roles types : List ℕ) (ids : List ℤ)
    → are_even (r ∷ roles) (d ∷ ids) (t ∷ types) ≡ are_even roles ids types
even_next r t d roles types ids =
    ap (λ b. b && (suc (length roles) == suc (length types))) (same_count (length roles) (length ids))
    ∙ ap (λ b. (length roles == length ids) && b) (same_count (length roles) (length types))

-- the columns by their first rows
rows_next : (strings : List Text) (sum d : ℤ) (r t : ℕ) (roles types : List ℕ) (ids : List ℤ)
    → fault_of (members_behind sum strings (r ∷ roles) (d ∷ ids) (t ∷ types))
    ≡ faults (are_even roles ids types) (next_of (member_at strings (r, sum +ℤ d, t))
    (each (member_at strings) (zip_three roles (running_sums_from (sum +ℤ d) ids) types)))
rows_next strings sum d r t roles types ids =
    ap (λ sums. faults (are_even (r ∷ roles) (d ∷ ids) (t ∷ types))
    (each (member_at strings) (zip_three (r ∷ roles) sums (t ∷ types)))) (column_from-cons sum d ids)
    ∙ ap (λ b. faults b (next_of (member_at strings (r, sum +ℤ d, t))
    (each (member_at strings) (zip_three roles (running_sums_from (sum +ℤ d) ids) types))))
    (even_next r t d roles types ids)

after_one : (even : Bool) (first : Result Member EntityFault) (others : Result (List Member) EntityFault)
    → fault_of first ≡ None → faults even (next_of first others) ≡ faults even others
after_one true (Ok x) (Ok xs) e = refl
after_one true (Ok x) (Err f) e = refl
after_one true (Err f) others e = absurd (none-some f (sym e))
after_one false first others e = refl

at_fault : (even : Bool) (first : Result Member EntityFault) (others : Result (List Member) EntityFault)
    (fault : EntityFault) → fault_of first ≡ Some fault
    → faults even (next_of first others) ≡ Some (cond even fault Columns)
at_fault true (Ok x) others fault e = absurd (none-some fault e)
at_fault true (Err f) others fault e = e
at_fault false first others fault e = refl

id_is : (known signed kind : Bool) (z id : ℤ) → id_of known signed kind z ≡ Ok id → z ≡ id
id_is true true true z id e = cc
id_is true true false z id e = absurd (none-some MemberKind (sym (ap fault_of e)))
id_is true false kind z id e = absurd (none-some Range (sym (ap fault_of e)))
id_is false signed kind z id e = absurd (none-some StringIndex (sym (ap fault_of e)))

pub behind-next : (strings : List Text) (sum d id : ℤ) (r t : ℕ) (roles types : List ℕ) (ids : List ℤ)
    → row_id (length strings) (r, sum +ℤ d, t) ≡ Ok id
    → fault_of (members_behind sum strings (r ∷ roles) (d ∷ ids) (t ∷ types))
    ≡ fault_of (members_behind id strings roles ids types)
behind-next strings sum d id r t roles types ids e =
    rows_next strings sum d r t roles types ids
    ∙ after_one (are_even roles ids types) (member_at strings (r, sum +ℤ d, t)) _
    (member-fault strings (r, sum +ℤ d, t) ∙ ap fault_of e)
    ∙ ap (λ z. fault_of (members_behind z strings roles ids types))
    (id_is (nat_lt r (length strings)) (is_signed_64 (sum +ℤ d)) (nat_lt t 3) (sum +ℤ d) id e)

pub behind-bad : (strings : List Text) (sum d : ℤ) (r t : ℕ) (roles types : List ℕ) (ids : List ℤ)
    (fault : EntityFault) → row_id (length strings) (r, sum +ℤ d, t) ≡ Err fault
    → fault_of (members_behind sum strings (r ∷ roles) (d ∷ ids) (t ∷ types))
    ≡ Some (row_fault fault roles ids types)
behind-bad strings sum d r t roles types ids fault e =
    rows_next strings sum d r t roles types ids
    ∙ at_fault (are_even roles ids types) (member_at strings (r, sum +ℤ d, t)) _ fault
    (member-fault strings (r, sum +ℤ d, t) ∙ ap fault_of e)

pub behind-none : (strings : List Text) (sum : ℤ) → fault_of (members_behind sum strings [] [] []) ≡ None
unfolding running_sums
behind-none strings sum = refl

uneven : (m n : ℕ) → (m == n) ≡ false → (members : Result (List Member) EntityFault) (b : Bool)
    → faults ((m == n) && b) members ≡ Some Columns
uneven m n e members b = ap (λ c. faults (c && b) members) e

uneven_last : (b c : Bool) → c ≡ false → (members : Result (List Member) EntityFault)
    → faults (b && c) members ≡ Some Columns
uneven_last true c e members = ap (λ c. faults c members) e
uneven_last false c e members = refl

pub behind-no_id : (strings : List Text) (sum : ℤ) (r : ℕ) (roles types : List ℕ)
    → fault_of (members_behind sum strings (r ∷ roles) [] types) ≡ Some Columns
behind-no_id strings sum r roles types =
    uneven (suc (length roles)) 0 (ne_eqb (suc (length roles)) 0 (λ e. omega (arith, e))) _ _

pub behind-no_type : (strings : List Text) (sum : ℤ) (r : ℕ) (roles : List ℕ) (ids : List ℤ)
    → fault_of (members_behind sum strings (r ∷ roles) ids []) ≡ Some Columns
behind-no_type strings sum r roles ids =
    uneven_last _ (suc (length roles) == 0) (ne_eqb (suc (length roles)) 0 (λ e. omega (arith, e))) _

pub behind-more_ids : (strings : List Text) (sum d : ℤ) (ids : List ℤ) (types : List ℕ)
    → fault_of (members_behind sum strings [] (d ∷ ids) types) ≡ Some Columns
behind-more_ids strings sum d ids types =
    uneven 0 (suc (length ids)) (ne_eqb 0 (suc (length ids)) (λ e. omega (arith, e))) _ _

pub behind-more_types : (strings : List Text) (sum : ℤ) (ids : List ℤ) (t : ℕ) (types : List ℕ)
    → fault_of (members_behind sum strings [] ids (t ∷ types)) ≡ Some Columns
behind-more_types strings sum ids t types =
    uneven_last _ (0 == suc (length types)) (ne_eqb 0 (suc (length types)) (λ e. omega (arith, e))) _

-- ---- the exits of the check

pub told-end : (strings : List Text) (rs : List ℕ) (zs : List ℤ) (ts : List ℕ) (sum : ℤ) (roles : List ℕ)
    (ids : List ℤ) (types : List ℕ) (answer : Option EntityFault)
    → fault_of (members_behind (pos 0) strings rs zs ts) ≡ fault_of (members_behind sum strings roles ids types)
    → roles ≡ [] → answer ≡ fault_of (members_behind sum strings [] ids types)
    → answer ≡ fault_of (members_of strings rs zs ts)
told-end strings rs zs ts sum roles ids types answer same none told =
    told ∙ ap (λ xs. fault_of (members_behind sum strings xs ids types)) (sym none) ∙ sym same
    ∙ ap fault_of (sym (members-begin strings rs zs ts))

pub told-no_id : (strings : List Text) (rs : List ℕ) (zs : List ℤ) (ts : List ℕ) (sum : ℤ) (roles : List ℕ)
    (ids : List ℤ) (types : List ℕ) (r : ℕ) (others : List ℕ)
    → fault_of (members_behind (pos 0) strings rs zs ts) ≡ fault_of (members_behind sum strings roles ids types)
    → roles ≡ r ∷ others → ids ≡ [] → Some Columns ≡ fault_of (members_of strings rs zs ts)
told-no_id strings rs zs ts sum roles ids types r others same some none =
    sym (ap fault_of (members-begin strings rs zs ts) ∙ same
    ∙ ap (λ xs. fault_of (members_behind sum strings xs ids types)) some
    ∙ ap (λ xs. fault_of (members_behind sum strings (r ∷ others) xs types)) none
    ∙ behind-no_id strings sum r others types)

pub told-no_type : (strings : List Text) (rs : List ℕ) (zs : List ℤ) (ts : List ℕ) (sum : ℤ) (roles : List ℕ)
    (ids : List ℤ) (types : List ℕ) (r : ℕ) (others : List ℕ)
    → fault_of (members_behind (pos 0) strings rs zs ts) ≡ fault_of (members_behind sum strings roles ids types)
    → roles ≡ r ∷ others → types ≡ [] → Some Columns ≡ fault_of (members_of strings rs zs ts)
told-no_type strings rs zs ts sum roles ids types r others same some none =
    sym (ap fault_of (members-begin strings rs zs ts) ∙ same
    ∙ ap (λ xs. fault_of (members_behind sum strings xs ids types)) some
    ∙ ap (λ xs. fault_of (members_behind sum strings (r ∷ others) ids xs)) none
    ∙ behind-no_type strings sum r others ids)

-- The columns begin with this row, and behind it stand these.
pub record BeginWith (roles : List ℕ) (ids : List ℤ) (types : List ℕ) (r : ℕ) (d : ℤ) (t : ℕ) (roles' : List ℕ)
    (ids' : List ℤ) (types' : List ℕ) : Type 0 where
  pub role : roles ≡ r ∷ roles'
  pub id : ids ≡ d ∷ ids'
  pub type : types ≡ t ∷ types'

front : (strings : List Text) (sum : ℤ) (roles : List ℕ) (ids : List ℤ) (types : List ℕ) (r : ℕ) (d : ℤ) (t : ℕ)
    (roles' : List ℕ) (ids' : List ℤ) (types' : List ℕ) → BeginWith roles ids types r d t roles' ids' types'
    → members_behind sum strings roles ids types ≡ members_behind sum strings (r ∷ roles') (d ∷ ids') (t ∷ types')
front strings sum roles ids types r d t roles' ids' types' begin =
    ap (λ xs. members_behind sum strings xs ids types) begin.role
    ∙ ap (λ xs. members_behind sum strings (r ∷ roles') xs types) begin.id
    ∙ ap (λ xs. members_behind sum strings (r ∷ roles') (d ∷ ids') xs) begin.type

pub told-bad : (strings : List Text) (rs : List ℕ) (zs : List ℤ) (ts : List ℕ) (sum : ℤ) (roles : List ℕ)
    (ids : List ℤ) (types : List ℕ) (r : ℕ) (d : ℤ) (t : ℕ) (roles' : List ℕ) (ids' : List ℤ) (types' : List ℕ)
    (count : ℕ) (fault : EntityFault) → length strings ≡ count
    → fault_of (members_behind (pos 0) strings rs zs ts) ≡ fault_of (members_behind sum strings roles ids types)
    → BeginWith roles ids types r d t roles' ids' types' → row_id count (r, sum +ℤ d, t) ≡ Err fault
    → Some (row_fault fault roles' ids' types') ≡ fault_of (members_of strings rs zs ts)
told-bad strings rs zs ts sum roles ids types r d t roles' ids' types' count fault many same begin bad =
    sym (ap fault_of (members-begin strings rs zs ts) ∙ same
    ∙ ap fault_of (front strings sum roles ids types r d t roles' ids' types' begin)
    ∙ behind-bad strings sum d r t roles' types' ids' fault (ap (λ n. row_id n (r, sum +ℤ d, t)) many ∙ bad))

pub told-next : (strings : List Text) (sum : ℤ) (roles : List ℕ) (ids : List ℤ) (types : List ℕ) (r : ℕ) (d : ℤ)
    (t : ℕ) (roles' : List ℕ) (ids' : List ℤ) (types' : List ℕ) (count : ℕ) (id : ℤ) → length strings ≡ count
    → BeginWith roles ids types r d t roles' ids' types' → row_id count (r, sum +ℤ d, t) ≡ Ok id
    → fault_of (members_behind sum strings roles ids types) ≡ fault_of (members_behind id strings roles' ids' types')
told-next strings sum roles ids types r d t roles' ids' types' count id many begin good =
    ap fault_of (front strings sum roles ids types r d t roles' ids' types' begin)
    ∙ behind-next strings sum d id r t roles' types' ids' (ap (λ n. row_id n (r, sum +ℤ d, t)) many ∙ good)

-- ---- columns without a fault

even_true : (even : Bool) (members : Result (List Member) EntityFault) → faults even members ≡ None
    → (even ≡ true) × (fault_of members ≡ None)
even_true true (Ok x) e = (refl, refl)
even_true true (Err f) e = absurd (none-some f (sym e))
even_true false members e = absurd (none-some Columns (sym e))

-- What is known of columns without a fault.
pub record HasNoFault (block places : List ℕ) (roles : List ℕ) (ids : List ℤ) (types : List ℕ) : Type 0 where
  pub rows : list_all (is_member (length places)) (zip_three roles (running_sums_from (pos 0) ids) types) ≡ true
  pub members : Ok (map (member_of block places) (zip_three roles (running_sums_from (pos 0) ids) types))
      ≡ members_of (texts_at block places) roles ids types

pub members-sound : (block places : List ℕ) (roles : List ℕ) (ids : List ℤ) (types : List ℕ)
    → None ≡ fault_of (members_of (texts_at block places) roles ids types) → HasNoFault block places roles ids types
members-sound block places roles ids types e =
    let strings = texts_at block places in
    let rows = zip_three roles (running_sums_from (pos 0) ids) types in
    let begin = members-begin strings roles ids types in
    let (even, no_fault) =
    even_true (are_even roles ids types) (each (member_at strings) rows) (sym (e ∙ ap fault_of begin)) in
    let are : list_all (is_member (length places)) rows ≡ true =
    ap (λ n. list_all (is_member n) rows) (sym (length-texts block places)) ∙ rows-sound strings rows no_fault in
    record {
      rows = are;
      members = sym (begin ∙ ap (λ b. require b Columns >>= λ u. each (member_at strings) rows) even
          ∙ members-known block places rows are);
    }
