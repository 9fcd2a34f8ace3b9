-- One candidate more: what its rows are, and what it is once it was put.
use Rattle.std.proofs.Common.{◌≡◌, ℕ, suc, ◌+◌, ◌≤◌, ◌<◌, Bool, true, List, [], ◌∷◌, ◌++◌, length}
use Rattle.std.proofs.Common.{inl, inr, Some, None, Result, Ok, Err, refl, sym, ap, subst, ◌∙◌, arith, append_assoc}
use Rattle.std.specs.Prelude.{map, flat_map, find, nat_lt, max, option_map, unwrap_or, slice_get}
use Rattle.std.specs.List.{AllByRecursion}
use Rattle.std.specs.Option.{option_or}
use Rattle.std.proofs.lemmas.Bool.Decides.{leb_tells}
use Rattle.std.proofs.lemmas.List.{length-append, map-append}
use Rattle.std.proofs.lemmas.List.Concat.{flat_map-cons}
use Rattle.std.proofs.lemmas.List.Folds.{find-append}
use Rattle.std.proofs.lemmas.List.Sums.{fold_push}
use Rattle.std.proofs.lemmas.Grind.{flat_map-append}
use Rattle.feature_model.specs.declared.fault.LimitFault.{LimitFault}
use Rattle.feature_model.proofs.Rising.{all-append}
use Rattle.mf_rows.specs.Heads.{kind_number, kind_told}
use Rattle.mf_rows.specs.Units.{Unit16}
use Rattle.mf_rows.specs.Records.{Record}
use Rattle.mf_rows.specs.RecordUnits.{units_of, unit_count}
use Rattle.mf_rows.specs.Changes.{with_feature}
use Rattle.mf_rows.specs.declared.kinds.FeatureRow.{FeatureRow}
use Rattle.mf_rows.specs.declared.kinds.ShapeRow.{ShapeRow}
use Rattle.mf_base.specs.declared.kind.EntityKind.{EntityKind}
use Rattle.spill_parts.specs.Handed.{feature_row_of, record_rows}
use Rattle.spill_parts.specs.Shaped.{Spelled, shape_rows}
use Rattle.unit_rows.specs.Runs.{going_on, next_on, BeginsRecord}
use Rattle.unit_rows.proofs.RunsOf.{rows_at, rows-units, record-ends}
use Rattle.mf_shape.specs.declared.fault.ShapeFault.{ShapeFault}
use Rattle.mf_shape.specs.declared.nodes.Counts.{Counts}
use Rattle.mf_shape.specs.Numbered.{IsSpelled, numbered, AreNumbered, AreCounted, AreSoFar, IsOneMore}
use Rattle.mf_shape.specs.Numbered.{record_over, records_fault}

abbrev pub place : FeatureRow → ℕ
place row = row.place

abbrev pub unit : FeatureRow → Unit16
unit row = row.unit

-- the row of a unit
abbrev row_in : Record → ℕ → Unit16 → FeatureRow
row_in r n u = feature_row_of (kind_number r.head.kind) r.head.id (n, u)

-- ---- the rows of the next candidate

-- what holds of all holds of those behind some
pub all-behind : {A : Type 0} (P : A → Type 0) (xs ys : List A) → AllByRecursion P (xs ++ ys) → AllByRecursion P ys
all-behind P [] ys all = all
all-behind P (x ∷ xs) ys all = all-behind P xs ys all.1

-- a record has units
some-units : (r : Record) → IsSpelled r → units_of r ≡ [] → ⊥
some-units r is none = let empty : length (units_of r) ≡ 0 = ap length none in omega (arith, empty, is.counted)

-- rows of records begin with a first row
begins : (records : List Record) → AllByRecursion IsSpelled records → BeginsRecord place (flat_map record_rows records)
begins [] all = tt
begins (r ∷ records) all = subst (BeginsRecord place) (sym (flat_map-cons record_rows r records))
    (by_units (units_of r) refl)
  where
    by_units : (us : List Unit16) → units_of r ≡ us
        → BeginsRecord place (record_rows r ++ flat_map record_rows records)
    by_units [] is = absurd (some-units r all.0 is)
    by_units (u ∷ us) is = subst (λ (rows : List Unit16). BeginsRecord place
        (rows_at (row_in r) 0 rows ++ flat_map record_rows records)) (sym is) refl

-- records without rows are none
pub no-rows : (records : List Record) → AllByRecursion IsSpelled records → flat_map record_rows records ≡ []
    → records ≡ []
no-rows [] all none = refl
no-rows (r ∷ records) all none = absurd (by_units (units_of r) refl (sym (flat_map-cons record_rows r records) ∙ none))
  where
    by_units : (us : List Unit16) → units_of r ≡ us → record_rows r ++ flat_map record_rows records ≡ [] → ⊥
    by_units [] is nothing = some-units r all.0 is
    by_units (u ∷ us) is nothing = cc (ap (λ (vs : List Unit16). rows_at (row_in r) 0 vs
        ++ flat_map record_rows records) (sym is) ∙ nothing)

-- The rows that are left begin with those of this record, which is the first of those that are left.
pub record IsNext (all done : List Record) (first : FeatureRow) (left : List FeatureRow) : Type 0 where
  pub next : Record
  pub more : List Record
  pub whole : done ++ next ∷ more ≡ all
  pub spelled : IsSpelled next
  pub units : map unit (first ∷ going_on place left) ≡ units_of next
  pub many : 1 + length (going_on place left) ≡ unit_count next
  pub behind : next_on place left ≡ flat_map record_rows more
  pub kind : first.kind ≡ kind_number next.head.kind
  pub id : first.id ≡ next.head.id

pub next-is : (all done records : List Record) (first : FeatureRow) (left : List FeatureRow) → done ++ records ≡ all
    → AllByRecursion IsSpelled all
    → first ∷ left ≡ flat_map record_rows records → IsNext all done first left
next-is all done [] first left whole each is = absurd (cc is)
next-is all done (r ∷ more) first left whole each is = by_units (units_of r) refl
  where
    those : AllByRecursion IsSpelled (r ∷ more)
    those = all-behind IsSpelled done (r ∷ more) (subst (AllByRecursion IsSpelled) (sym whole) each)

    tail : List FeatureRow
    tail = flat_map record_rows more

    by_units : (us : List Unit16) → units_of r ≡ us → IsNext all done first left
    by_units [] none = absurd (some-units r those.0 none)
    by_units (u ∷ us) units =
        let rows : first ∷ left ≡ row_in r 0 u ∷ (rows_at (row_in r) 1 us ++ tail) =
        is ∙ flat_map-cons record_rows r more ∙ ap (λ vs. rows_at (row_in r) 0 vs ++ tail) units in
        let front : first ≡ row_in r 0 u = ap (λ rs. unwrap_or (slice_get rs 0) first) rows in
        let behind : left ≡ rows_at (row_in r) 1 us ++ tail = ap rest rows in
        let ends = record-ends (row_in r) place (λ n v. refl) u us tail (begins more those.1) in
        let on : going_on place left ≡ rows_at (row_in r) 1 us = ap (going_on place) behind ∙ ends.0 in
        let same : map unit (first ∷ going_on place left) ≡ u ∷ us =
        (λ i. unit (front i) ∷ map unit (on i)) ∙ rows-units (row_in r) unit (λ n v. refl) (u ∷ us) in
        record {
          next = r;
          more = more;
          whole = whole;
          spelled = those.0;
          units = same ∙ sym units;
          many = counted (going_on place left) same ∙ ap length (sym units) ∙ those.0.counted;
          behind = ap (next_on place) behind ∙ ends.1;
          kind = ap (λ (row : FeatureRow). row.kind) front;
          id = ap (λ (row : FeatureRow). row.id) front;
        }
      where
        rest : List FeatureRow → List FeatureRow
        rest [] = []
        rest (row ∷ rows) = rows

        length-map : (rows : List FeatureRow) → length (map unit rows) ≡ length rows
        length-map [] = refl
        length-map (row ∷ rows) = ap suc (length-map rows)

        counted : (rows : List FeatureRow) → map unit (first ∷ rows) ≡ u ∷ us → 1 + length rows ≡ length (u ∷ us)
        counted rows same = omega (arith, length-map rows, ap length same)

-- ---- a candidate over the limit

pub none-over : (limit : ℕ) (records : List Record) → AllByRecursion (λ (r : Record). unit_count r ≤ limit) records
    → find (λ (r : Record). nat_lt limit (unit_count r)) records ≡ None
none-over limit [] all = refl
none-over limit (r ∷ records) all = elim (leb_tells (suc limit) (unit_count r)) [
  | inl over ↦ absurd (omega (arith, over.1, all.0))
  | inr under ↦ rw under.0 (none-over limit records all.1)
]

lt-true : (a b : ℕ) → a < b → nat_lt a b ≡ true
lt-true a b lt = elim (leb_tells (suc a) b) [ inl is ↦ is.0 | inr other ↦ absurd (omega (arith, other.1, lt)) ]

kind-again : (kind : EntityKind) → kind_told (kind_number kind) ≡ kind
kind-again EntityKind.Node = refl
kind-again EntityKind.Way = refl
kind-again EntityKind.Relation = refl

-- the first record over the limit is told
pub over-is : (limit units : ℕ) (all done : List Record) (first : FeatureRow) (left : List FeatureRow)
    → (next : IsNext all done first left) → AllByRecursion (λ (r : Record). unit_count r ≤ limit) done
    → units ≡ 1 + length (going_on place left) → limit < units
    → records_fault limit all ≡ Some (LimitFault.Feature (kind_told first.kind) first.id units)
over-is limit units all done first left next few many over =
    let r = next.next in
    let p : Record → Bool = λ (q : Record). nat_lt limit (unit_count q) in
    let count : unit_count r ≡ units = omega (arith, many, next.many) in
    let is : p r ≡ true = lt-true limit (unit_count r) (omega (arith, over, count)) in
    let here : find p (r ∷ next.more) ≡ Some r = rw is refl in
    ap (λ rs. option_map record_over (find p rs)) (sym next.whole)
    ∙ ap (option_map record_over) (find-append p done (r ∷ next.more)
    ∙ ap (λ o. option_or o (find p (r ∷ next.more))) (none-over limit done few) ∙ here)
    ∙ (λ i. Some (LimitFault.Feature (kind-back i) (sym next.id i) (count i)))
  where
    kind-back : next.next.head.kind ≡ kind_told first.kind
    kind-back = sym (ap kind_told next.kind ∙ kind-again next.next.head.kind)

-- ---- a candidate that was put

numbered-more : (n : ℕ) (records : List Record) (r : Record)
    → numbered n (records ++ r ∷ []) ≡ numbered n records ++ with_feature (n + length records) (unit_count r) r ∷ []
numbered-more n [] r = ap (λ m. with_feature m (unit_count r) r ∷ []) (omega arith)
numbered-more n (first ∷ records) r =
    let same : n + 1 + length records ≡ n + suc (length records) = omega arith in
    ap (λ rs. with_feature n (unit_count first) first ∷ rs) (numbered-more (n + 1) records r
    ∙ ap (λ m. numbered (n + 1) records ++ with_feature m (unit_count r) r ∷ []) same)

module _ (limit : ℕ) (done : List Record) (r : Record) (rows rows_now : List ShapeRow) (c c_now : Counts)
    (few : unit_count r ≤ limit)
    (were : AreNumbered limit done rows)
    (counts : AreCounted done c)
    (put : IsOneMore r (unit_count r) (unit_count r) rows rows_now c c_now)
  where
    pub numbered-now : AreNumbered limit (done ++ r ∷ []) rows_now
    numbered-now = record {
      spelled = were.spelled ++ put.made ∷ [];
      told = map-append (λ (s : Spelled). s.told) were.spelled (put.made ∷ [])
          ∙ (λ i. were.told i ++ put.told i ∷ [])
          ∙ ap (λ n. numbered 0 done ++ with_feature n (unit_count r) r ∷ []) counts.features
          ∙ sym (numbered-more 0 done r ∙ ap (λ n. numbered 0 done ++ with_feature n (unit_count r) r ∷ []) (omega arith));
      counted = all-append (λ (s : Spelled). length s.units ≡ s.told.head.weight) were.spelled (put.made ∷ [])
          were.counted (put.many ∙ sym (ap (λ (q : Record). q.head.weight) put.told), tt);
      rows_are = put.put ∙ ap (λ rs. rs ++ shape_rows put.made) were.rows_are
          ∙ sym (flat_map-append shape_rows were.spelled (put.made ∷ []) ∙ ap (λ rs. flat_map shape_rows were.spelled ++ rs)
          (flat_map-cons shape_rows put.made [] ∙ append-none (shape_rows put.made)));
      light = all-append (λ (q : Record). unit_count q ≤ limit) done (r ∷ []) were.light (few, tt);
    }
      where
        append-none : (rs : List ShapeRow) → rs ++ [] ≡ rs
        append-none [] = refl
        append-none (x ∷ rs) = ap (λ more. x ∷ more) (append-none rs)

    pub counted-now : AreCounted (done ++ r ∷ []) c_now
    counted-now = record {
      features = ap (λ (k : Counts). k.features) put.counts
          ∙ omega (arith, counts.features, length-append done (r ∷ []));
      skipped = ap (λ (k : Counts). k.skipped) put.counts ∙ counts.skipped;
      largest = ap (λ (k : Counts). k.largest) put.counts ∙ ap (λ n. max n (unit_count r)) counts.largest
          ∙ sym (ap (λ ns. fold_max ns) (map-append unit_count done (r ∷ []))
          ∙ fold_push max 0 (map unit_count done) (unit_count r));
    }
      where
        fold_max : List ℕ → ℕ
        fold_max ns = Rattle.std.specs.List.fold max 0 ns

    -- with it the first of all records are numbered and counted
    pub so-far-now : (all more : List Record) (rest : List FeatureRow) → done ++ r ∷ more ≡ all
        → rest ≡ flat_map record_rows more → AreSoFar limit all rest rows_now c_now
    so-far-now all more rest whole is = record {
      done = done ++ r ∷ [];
      left = more;
      whole = append_assoc done (r ∷ []) more ∙ whole;
      rest_is = is;
      numbered_are = numbered-now;
      counted_are = counted-now;
    }

-- ---- answers

-- the fault that a refusal tells
pub same-fault : {T : Type 0} (a b : LimitFault)
    → ◌≡◌ {A = Result T ShapeFault} (Err (ShapeFault.Limit a)) (Err (ShapeFault.Limit b)) → a ≡ b
same-fault a b is = ap fault is
  where
    fault_of : ShapeFault → LimitFault
    fault_of (ShapeFault.Limit f) = f
    fault_of ShapeFault.Spill = a

    fault : {T : Type 0} → Result T ShapeFault → LimitFault
    fault (Ok _) = a
    fault (Err why) = fault_of why
