-- A feature is loaded: all its units are loose, and they spell its record.
use Rattle.std.proofs.Common.{◌≡◌, ℕ, suc, ◌+◌, ◌≤◌, Bool, true, false, List, [], ◌∷◌, ◌++◌, length, Some}
use Rattle.std.proofs.Common.{refl, ap, subst, ◌∙◌, arith}
use Rattle.std.specs.Prelude.{map, flat_map, take, slice_get, is_some}
use Rattle.std.specs.List.{AllByRecursion}
use Rattle.mf_rows.specs.Units.{Unit16}
use Rattle.mf_rows.specs.Records.{Record}
use Rattle.mf_rows.specs.RecordUnits.{record_in, unit_count}
use Rattle.mf_rows.specs.Desks.{Desktop, used, units_in, closed, closed_as}
use Rattle.mf_rows.specs.declared.kinds.ShapeRow.{ShapeRow}
use Rattle.spill_parts.specs.Shaped.{Spelled, shape_rows, IsLight}
use Rattle.unit_rows.specs.Runs.{going_on, next_on}
use Rattle.unit_rows.proofs.Loads.{take-all}
use Rattle.tile_rows.specs.Reading.{BeginsFeature}
use Rattle.tile_rows.proofs.RowReading.{feature-begins}
use Rattle.tile_spread.specs.Pass.{IsLoaded}

abbrev place : ShapeRow → ℕ
place r = r.place

abbrev unit : ShapeRow → Unit16
unit r = r.unit

-- what is not so
pub untold : (b : Bool) → (b ≡ true → ⊥) → b ≡ false
untold true never = absurd (never refl)
untold false never = refl

length-map : {X Y : Type 0} (f : X → Y) (xs : List X) → length (map f xs) ≡ length xs
length-map f [] = refl
length-map f (x ∷ xs) = ap suc (length-map f xs)

module _ (limit : ℕ) (list : List Spelled) (first : ShapeRow) (left : List ShapeRow)
    (light : AllByRecursion (IsLight limit) list) (is : first ∷ left ≡ flat_map shape_rows list)
  where
    abbrev begins : BeginsFeature list first left
    begins = feature-begins list first left is

    its_light : IsLight limit begins.feature
    its_light = (subst (AllByRecursion (IsLight limit)) begins.list_is light).0

    counted : 1 + length (going_on place left) ≡ length begins.feature.units
    counted = omega (arith, length-map unit (going_on place left), ap length begins.units_are)

    -- there is room for all its units
    pub fits : (units : ℕ) → units ≡ 1 + length (going_on place left) → units ≤ limit
    fits units many = omega (arith, many, counted, its_light.units, its_light.weight)

    module _ (d d_now : Desktop) (room : ℕ) (all : limit ≤ room)
        (loose : d.loose ≡ take room (map unit (first ∷ going_on place left)))
      where
        whole : d.loose ≡ begins.feature.units
        whole = loose ∙ ap (take room) begins.units_are
            ∙ take-all room begins.feature.units (omega (arith, its_light.units, its_light.weight, all))

        spelled : record_in d.loose ≡ Some begins.feature.told
        spelled = ap record_in whole ∙ begins.feature.spells

        -- they spell its record
        pub closes : is_some (record_in d.loose) ≡ true
        closes = ap is_some spelled

        -- which is then that of the desk
        pub loaded : d.records ≡ [] → d_now ≡ closed d → used d_now ≡ used d → (rest : List ShapeRow)
            → rest ≡ next_on place left → IsLoaded list rest d_now
        loaded none close same rest behind =
            let r = begins.feature.told in
            let now : d_now ≡ record { records = r ∷ []; loose = []; capacity = d.capacity } =
            close ∙ ap (λ o. closed_as o d) spelled
            ∙ ap (λ (rs : List Record). record { records = rs ++ r ∷ []; loose = []; capacity = d.capacity }) none in
            let before : used d ≡ length d.loose =
            ap (λ (rs : List Record). units_in rs + length d.loose) none ∙ omega arith in
            let after : used d_now ≡ unit_count r = ap used now ∙ omega arith in
            record {
              feature = begins.feature;
              more = begins.more;
              list_is = begins.list_is;
              rest_is = behind ∙ begins.left_are;
              record_is = ap (λ (e : Desktop). slice_get e.records 0) now;
              many = omega (arith, ap length whole, before, after, same);
            }
