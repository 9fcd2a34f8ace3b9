-- The loose units of a desk become a feature.
use Rattle.std.proofs.Common.{◌≡◌, ℕ, true, List, [], ◌∷◌, ◌++◌, length, Option, Some, None}
use Rattle.std.proofs.Common.{refl, ap, ◌∙◌, arith}
use Rattle.std.specs.Prelude.{option_map, is_some, slice_get, unwrap_or}
use Rattle.mf_rows.specs.Units.{Unit16}
use Rattle.mf_rows.specs.Records.{Record}
use Rattle.mf_rows.specs.RecordUnits.{record_in, unit_count}
use Rattle.mf_rows.specs.Desks.{Desktop, used, units_in, closed, closed_as}
use Rattle.mf_rows.specs.Changes.{with_feature, with_last, change_last}

same-some : {A : Type 0} (a b : A) → Some a ≡ Some b → a ≡ b
same-some a b is = ap (λ o. unwrap_or o a) is

module _ (d now last : Desktop) (n weight : ℕ) (units : List Unit16) (none : d.records ≡ []) (close : now ≡ closed d)
    (same : used now ≡ used d)
    (set : last ≡ with_last (with_feature n weight) now)
    (spells : record_in units ≡ slice_get last.records 0)
    (many : Some (length units) ≡ option_map unit_count (slice_get last.records 0))
  where
    module _ (r : Record) (loose : record_in d.loose ≡ Some r) where
      now-is : now ≡ record { records = r ∷ []; loose = []; capacity = d.capacity }
      now-is = close ∙ ap (λ o. closed_as o d) loose
          ∙ ap (λ (rs : List Record). record { records = rs ++ r ∷ []; loose = []; capacity = d.capacity }) none

      first-is : slice_get last.records 0 ≡ Some (with_feature n weight r)
      first-is = ap (λ (e : Desktop). slice_get e.records 0) set
          ∙ ap (λ (e : Desktop). slice_get (change_last (with_feature n weight) e.records) 0) now-is

      -- they spell the record with the number and the weight
      pub made-spells : record_in units ≡ Some (with_feature n weight r)
      made-spells = spells ∙ first-is

      -- and are as many
      pub made-many : length units ≡ length d.loose
      made-many =
          let counted : length units ≡ unit_count r =
          same-some (length units) (unit_count r) (many ∙ ap (option_map unit_count) first-is) in
          let empty : units_in d.records ≡ 0 = ap units_in none in
          let after : used now ≡ unit_count r = ap used now-is ∙ omega arith in
          omega (arith, counted, after, same, empty)

    pub all-many : is_some (record_in d.loose) ≡ true → length units ≡ length d.loose
    all-many there = by_record (record_in d.loose) refl there
      where
        by_record : (o : Option Record) → record_in d.loose ≡ o → is_some o ≡ true → length units ≡ length d.loose
        by_record None is some = absurd (cc some)
        by_record (Some r) is some = made-many r is
