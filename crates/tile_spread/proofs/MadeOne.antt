-- The units of a record of a desk, and what is put of them.
use Rattle.std.proofs.Common.{◌≡◌, ℕ, ◌≤◌, List, [], ◌∷◌, ◌++◌, length, Some}
use Rattle.std.proofs.Common.{sym, ap, ◌∙◌, arith}
use Rattle.std.specs.Prelude.{option_map, slice_get, unwrap_or}
use Rattle.std.specs.List.{AllByRecursion}
use Rattle.mf_base.specs.declared.place.Rect.{Rect}
use Rattle.mf_base.specs.declared.tile.Interval.{Interval}
use Rattle.map_model.specs.Rectangles.{rect_of}
use Rattle.mf_rows.specs.Fields.{IsRow}
use Rattle.mf_rows.specs.Units.{Unit16}
use Rattle.mf_rows.specs.Records.{Record}
use Rattle.mf_rows.specs.RecordUnits.{record_in, unit_count}
use Rattle.mf_rows.specs.Desks.{units_in}
use Rattle.mf_rows.specs.Shapes.{feature_told}
use Rattle.mf_rows.specs.declared.head.Head.{Head}
use Rattle.mf_rows.specs.declared.kinds.TileRow.{TileRow}
use Rattle.spill_parts.specs.Shaped.{Spelled}
use Rattle.tile_spread.specs.Pass.{heads_from, spread_of, IsOneMore}
use Rattle.tile_spread.proofs.HeadRows.{heads-are}
use Rattle.tile_spread.proofs.RowCounts.{spread-long}

pub same-some : {A : Type 0} (a b : A) → Some a ≡ Some b → a ≡ b
same-some a b is = ap (λ o. unwrap_or o a) is

-- a record has no more units than all
pub few-units : (records : List Record) (n : ℕ) → Some n ≡ option_map unit_count (slice_get records 0)
    → n ≤ units_in records
few-units [] n is = absurd (cc is)
few-units (r ∷ records) n is = let same = same-some n (unit_count r) is in omega (arith, same)

module _ (intervals : List Interval) (box rect : Rect) (records : List Record) (view : Record) (head : Head)
    (units : List Unit16)
    (lent : Some view ≡ slice_get records 0)
    (round : rect ≡ rect_of (feature_told view))
    (its_head : head ≡ view.head)
    (spelled : record_in units ≡ slice_get records 0)
    (counted : Some (length units) ≡ option_map unit_count (slice_get records 0))
  where
    -- the record with these units
    abbrev made : Spelled
    made = record { told = view; units = units; spells = spelled ∙ sym lent }

    heads-made : heads_from box rect head units 0 intervals ≡ spread_of intervals box made
    heads-made = (λ i. heads_from box (round i) (its_head i) units 0 intervals) ∙ heads-are intervals box made

    many-made : length units ≡ unit_count view
    many-made = same-some (length units) (unit_count view) (counted ∙ ap (option_map unit_count) (sym lent))

    -- it was put
    pub one-more : (r : Record) (rows rows_now : List TileRow) → slice_get records 0 ≡ Some r
        → AllByRecursion (IsRow 16) units
        → rows_now ≡ rows ++ heads_from box rect head units 0 intervals
        → IsOneMore intervals box r rows rows_now
    one-more r rows rows_now is wide put =
        let told : view ≡ r = same-some view r (lent ∙ is) in
        record {
          made = made;
          told = told;
          many = many-made ∙ ap unit_count told;
          wide = wide;
          put = put ∙ ap (λ more. rows ++ more) heads-made;
        }

    -- and is as long as any others that spell it
    pub as-long : (s : Spelled) → slice_get records 0 ≡ Some s.told → length s.units ≡ unit_count s.told
        → length (heads_from box rect head units 0 intervals) ≡ length (spread_of intervals box s)
    as-long s is many =
        let told : view ≡ s.told = same-some view s.told (lent ∙ is) in
        ap length heads-made ∙ spread-long made s told (many-made ∙ ap unit_count told ∙ sym many) intervals box
