-- One feature more: what was put so far, and what is left.
use Rattle.std.proofs.Common.{◌≡◌, ℕ, ◌+◌, ◌*◌, ◌≤◌, ◌<◌, false, List, [], ◌∷◌, ◌++◌, length, Option, Some, None}
use Rattle.std.proofs.Common.{refl, sym, ap, subst, ◌∙◌, arith, append_assoc}
use Rattle.std.specs.Prelude.{map, is_some, slice_get}
use Rattle.std.specs.List.{AllByRecursion}
use Rattle.std.proofs.lemmas.Grind.{flat_map-append}
use Rattle.std.proofs.lemmas.List.{append-nil, length-append, map-append}
use Rattle.mf_base.specs.declared.place.Rect.{Rect}
use Rattle.mf_base.specs.declared.tile.Interval.{Interval}
use Rattle.mf_base.proofs.Pairs.{EachPair, each_pair, all_pairs}
use Rattle.feature_model.proofs.Rising.{all-append, all-after, rises-map, rises-unmap}
use Rattle.map_model.specs.Header.{HeadSettings}
use Rattle.mf_edge.specs.Spill.{SpillState, SameParts, TouchesOnly, part_limit}
use Rattle.mf_rows.specs.Records.{Record}
use Rattle.mf_rows.specs.Desks.{Desktop}
use Rattle.mf_rows.specs.Shapes.{IsFeature}
use Rattle.mf_rows.specs.declared.kinds.ShapeRow.{ShapeRow}
use Rattle.mf_rows.specs.declared.kinds.TileRow.{TileRow}
use Rattle.spill_parts.specs.Join.{rest_of}
use Rattle.spill_parts.specs.Shaped.{Spelled, IsLight}
use Rattle.tile_rows.specs.TileRows.{put_rows, feature_rows, NumberBelow, HasRows}
use Rattle.tile_rows.proofs.RowReading.{features-end}
use Rattle.tile_spread.specs.Pass.{IsOnEarth, MaySpread, AreSpread, spread_of, all_spread, IsLoaded, IsOneMore, AreSoFar}
use Rattle.tile_spread.proofs.RowCounts.{spread-long, has-rows}
use Rattle.tile_spread.proofs.MadeOne.{same-some}

abbrev told_of : Spelled → Record
told_of s = s.told

-- a store that was read was not touched
pub touches-read : (part : ℕ) (a b : SpillState) → SameParts a b → TouchesOnly part a b
touches-read part a b same = subst (TouchesOnly part a) (sym same) (record {
  same = record { name = refl; started = refl; tells = refl };
  count = refl;
  others = record { size = λ q apart. refl; bytes = λ q apart. refl };
})

-- ---- before the first feature, and behind the last

pub so-far-none : (limit : ℕ) (intervals : List Interval) (box : Rect) (list : List Spelled)
    (source rest : List ShapeRow) (rows : List TileRow) → MaySpread limit list source → rest ≡ source → rows ≡ []
    → AreSoFar limit intervals box list rest rows
so-far-none limit intervals box list source rest rows may is none = record {
  done = [];
  left = list;
  whole = refl;
  rest_is = is ∙ may.rows_are;
  made = [];
  told = refl;
  light = tt;
  have_rows = tt;
  rows_are = none;
  many = ap length none;
}

-- the intervals are those of the settings
pub set-rows : (set : HeadSettings) (box : Rect) (list : List Spelled)
    → put_rows set box list ≡ all_spread set.intervals box list
unfolding put_rows feature_rows
set-rows set box list = refl

-- numbers of records rise
abbrev RecordBelow : Record → Record → Type 0
RecordBelow r q = r.head.number < q.head.number

pub so-far-all : (limit : ℕ) (set : HeadSettings) (intervals : List Interval) (box : Rect) (list : List Spelled)
    (source : List ShapeRow) (held : Option ShapeRow) (left : List ShapeRow) (rows : List TileRow)
    → is_some held ≡ false → set.intervals ≡ intervals → MaySpread limit list source
    → AreSoFar limit intervals box list (rest_of held left) rows → AreSpread limit set box list rows
so-far-all limit set intervals box list source (Some row) left rows none same may was = absurd (cc none)
so-far-all limit set intervals box list source None left rows none same may was =
    let last : was.left ≡ [] = features-end was.left was.rest_is in
    let done : was.done ≡ list = sym (append-nil was.done) ∙ ap (λ more. was.done ++ more) (sym last) ∙ was.whole in
    let told : map told_of was.made ≡ map told_of list = was.told ∙ ap (map told_of) done in
    let rise : EachPair RecordBelow (map told_of list) =
    rises-map RecordBelow told_of list (each_pair NumberBelow list may.numbered.rise) in
    record {
      made = was.made;
      told = told;
      light = was.light;
      numbered = record {
        rise = all_pairs NumberBelow was.made
            (rises-unmap RecordBelow told_of was.made (subst (EachPair RecordBelow) (sym told) rise));
        rows = was.have_rows;
      };
      rows_are = was.rows_are ∙ ap (λ is. all_spread is box was.made) (sym same) ∙ sym (set-rows set box was.made);
    }

-- ---- one feature more

one-spread : (intervals : List Interval) (box : Rect) (list : List Spelled) (s : Spelled)
    → all_spread intervals box (list ++ s ∷ []) ≡ all_spread intervals box list ++ spread_of intervals box s
one-spread intervals box list s = flat_map-append (spread_of intervals box) list (s ∷ [])
    ∙ ap (λ more. all_spread intervals box list ++ more) (append-nil (spread_of intervals box s))

module _ (limit : ℕ) (intervals : List Interval) (box : Rect) (list : List Spelled) (source rest : List ShapeRow)
    (rows : List TileRow) (may : MaySpread limit list source) (was : AreSoFar limit intervals box list rest rows)
  where
    -- the features that are left are light
    pub light-left : AllByRecursion (IsLight limit) was.left
    light-left = all-after (IsLight limit) was.done was.left
        (subst (AllByRecursion (IsLight limit)) (sym was.whole) may.light)

    module _ (rest_now : List ShapeRow) (d : Desktop) (loaded : IsLoaded was.left rest_now d) where
      abbrev feature : Spelled
      feature = loaded.feature

      whole : was.done ++ feature ∷ loaded.more ≡ list
      whole = ap (λ left. was.done ++ left) (sym loaded.list_is) ∙ was.whole

      of_feature : (P : Spelled → Type 0) → AllByRecursion P list → P feature
      of_feature P all = (all-after P was.done (feature ∷ loaded.more) (subst (AllByRecursion P) (sym whole) all)).0

      -- the record that is loaded is a feature on the earth
      pub may-be-put : (r : Record) → slice_get d.records 0 ≡ Some r → IsFeature r × IsOnEarth r
      may-be-put r is = subst (λ q. IsFeature q × IsOnEarth q)
          (same-some feature.told r (sym loaded.record_is ∙ is))
          ((of_feature (IsLight limit) may.light).feature, of_feature (λ (s : Spelled). IsOnEarth s.told) may.places)

      -- its rows are some of all
      pub room-left : 39 * length (all_spread intervals box list) ≤ part_limit
          → 39 * (length rows + length (spread_of intervals box feature)) ≤ part_limit
      room-left fits = omega (
        arith,
        fits,
        was.many,
        ap (λ all. length (all_spread intervals box all)) whole,
        ap length (flat_map-append (spread_of intervals box) was.done (feature ∷ loaded.more)),
        length-append (all_spread intervals box was.done) (all_spread intervals box (feature ∷ loaded.more)),
        length-append (spread_of intervals box feature) (all_spread intervals box loaded.more),
      )

      module _ (rows_now : List TileRow) (one : IsOneMore intervals box feature.told rows rows_now) where
        many : length one.made.units ≡ length feature.units
        many = one.many ∙ sym loaded.many

        made-light : IsLight limit one.made
        made-light =
            let its = of_feature (IsLight limit) may.light in
            let weight = ap (λ (r : Record). r.head.weight) one.told in
            record {
              feature = subst IsFeature (sym one.told) its.feature;
              units = omega (arith, many, weight, its.units);
              weight = omega (arith, weight, its.weight);
            }

        -- it was put
        pub so-far-next : AreSoFar limit intervals box list rest_now rows_now
        so-far-next = record {
          done = was.done ++ feature ∷ [];
          left = loaded.more;
          whole = append_assoc was.done (feature ∷ []) loaded.more ∙ whole;
          rest_is = loaded.rest_is;
          made = was.made ++ one.made ∷ [];
          told = map-append told_of was.made (one.made ∷ [])
              ∙ (λ i. was.told i ++ one.told i ∷ [])
              ∙ sym (map-append told_of was.done (feature ∷ []));
          light = all-append (IsLight limit) was.made (one.made ∷ []) was.light (made-light, tt);
          have_rows = all-append HasRows was.made (one.made ∷ []) was.have_rows
              (has-rows one.made feature one.told many one.wide (of_feature HasRows may.numbered.rows), tt);
          rows_are = one.put ∙ ap (λ rs. rs ++ spread_of intervals box one.made) was.rows_are
              ∙ sym (one-spread intervals box was.made one.made);
          many = omega (
            arith,
            ap length one.put,
            length-append rows (spread_of intervals box one.made),
            was.many,
            ap length (one-spread intervals box was.done feature),
            length-append (all_spread intervals box was.done) (spread_of intervals box feature),
            spread-long one.made feature one.told many intervals box,
          );
        }

-- ---- the same, by other names

pub may-now : {limit limit_now : ℕ} {list : List Spelled} {source source_now : List ShapeRow} → limit_now ≡ limit
    → source_now ≡ source → MaySpread limit list source → MaySpread limit_now list source_now
may-now {limit} {limit_now} {list} {source} {source_now} same rows may =
    subst (λ n. MaySpread n list source_now) (sym same) (subst (MaySpread limit list) (sym rows) may)

pub so-far-at : {limit limit_now : ℕ} {intervals : List Interval} {box : Rect} {list : List Spelled}
    {rest : List ShapeRow} {rows : List TileRow} → limit_now ≡ limit → AreSoFar limit intervals box list rest rows
    → AreSoFar limit_now intervals box list rest rows
so-far-at {limit} {limit_now} {intervals} {box} {list} {rest} {rows} same was =
    subst (λ n. AreSoFar n intervals box list rest rows) (sym same) was
