-- What is read as a tile is spelled so.
use Rattle.std.proofs.Common.{◌≡◌, ℕ, suc, ◌+◌, ◌^◌, ◌<◌, List, [], ◌∷◌, ◌++◌, map, length, refl, sym, ap, ◌∙◌, subst}
use Rattle.std.proofs.Common.{Ok}
use Rattle.std.specs.Prelude.{flat_map, zip}
use Rattle.std.specs.List.{AllByRecursion, AllZip}
use Rattle.std.proofs.lemmas.Bool.{eqb-true}
use Rattle.mf_base.specs.Spelling.{IsBytes, vbe_unsigned}
use Rattle.mf_base.specs.declared.place.Place.{Place}
use Rattle.mf_base.specs.declared.tile.Interval.{Interval}
use Rattle.mf_base.specs.declared.tile.TilePlace.{TilePlace}
use Rattle.mf_base.proofs.StepLaws.{bind_ok, require_ok, ok_is}
use Rattle.map_model.specs.Intervals.{zooms}
use Rattle.map_model.specs.TileBytes.{tile_corner}
use Rattle.map_model.specs.Layout.{PoiFields, WayFields, Level, poi_fields_bytes, way_fields_bytes, sized}
use Rattle.map_model.specs.Layout.{level_count_bytes, levels_bytes}
use Rattle.map_model.specs.Listed.{Listed, shown_levels}
use Rattle.map_model.specs.TagLists.{TagLists}
use Rattle.map_model.specs.Reader.{times, read_each}
use Rattle.map_model.specs.TileReading.{tile_fault_at, number, poi_at, way_at, counts_at, level_of, levels_at, shown_at}
use Rattle.map_model.specs.TileReading.{read_tile_from, read_tile, IsPlaceOf32Bits, IsPoi, IsWay, IsLevel, SpellsLevels}
use Rattle.map_model.specs.TileReading.{ReadsTile}
use Rattle.map_model.proofs.ReaderFound.{placed_ok, none_left, Takes, IsFound, Finds, then, times-found, each-found}
use Rattle.map_model.proofs.ReaderFound.{part_size}
use Rattle.map_model.proofs.PlacesFound.{number-found}
use Rattle.map_model.proofs.RecordsFound.{poi_at-found}
use Rattle.map_model.proofs.WaysFound.{way_at-found}
use Rattle.map_model.proofs.CornerLemmas.{tile_corner-in_range}

-- ---- the zoom table

abbrev IsCounts : ℕ × ℕ → Type 0
IsCounts c = (c.0 < 2 ^ 63) × (c.1 < 2 ^ 63)

abbrev counts_bytes : ℕ × ℕ → List ℕ
counts_bytes c = vbe_unsigned c.0 ++ vbe_unsigned c.1

counts_at-found : Finds counts_at counts_bytes IsCounts
unfolding counts_at
counts_at-found bytes r small e =
    let pois = bind_ok _ _ r e in
    let ways = bind_ok _ _ r pois.2 in
    let a = number-found bytes pois.0 small pois.1 in
    let b = number-found pois.0.1 ways.0 a.0.behind ways.1 in
    subst (IsFound counts_bytes IsCounts bytes) (ok_is ((pois.0.0, ways.0.0), ways.0.1) r ways.2)
    (then a.0 b.0, (a.1, b.1))

-- the POIs, and the ways, of one zoom level
abbrev ArePois : TagLists → ℕ × ℕ → List PoiFields → Type 0
ArePois names c ps = (length ps ≡ c.0) × AllByRecursion (IsPoi names.poi) ps

abbrev AreWays : TagLists → ℕ × ℕ → List WayFields → Type 0
AreWays names c ws = (length ws ≡ c.1) × AllByRecursion (IsWay names.way) ws

-- what the parts tell together
record AreLevels (names : TagLists) (corner : Place) (counts : List (ℕ × ℕ)) (pois : List (List PoiFields))
    (ways : List (List WayFields)) (levels : List Level) : Type 0 where
  each : AllByRecursion (IsLevel names) levels
  all : length levels ≡ length counts
  table : flat_map counts_bytes counts ≡ flat_map level_count_bytes levels
  poi_text : flat_map (flat_map (poi_fields_bytes corner)) pois
      ≡ flat_map (λ level. flat_map (poi_fields_bytes corner) level.pois) levels
  way_text : flat_map (flat_map (way_fields_bytes corner)) ways
      ≡ flat_map (λ level. flat_map (way_fields_bytes corner) level.ways) levels

are_levels : (names : TagLists) (corner : Place) (counts : List (ℕ × ℕ)) (pois : List (List PoiFields))
    (ways : List (List WayFields))
    → AllByRecursion IsCounts counts → AllZip (ArePois names) counts pois → AllZip (AreWays names) counts ways
    → AreLevels names corner counts pois ways (map level_of (zip pois ways))
are_levels names corner [] [] [] few hp hw =
    record { each = tt; all = refl; table = refl; poi_text = refl; way_text = refl }
are_levels names corner [] [] (w ∷ ways) few hp hw = absurd hw
are_levels names corner [] (p ∷ pois) ways few hp hw = absurd hp
are_levels names corner (c ∷ counts) [] ways few hp hw = absurd hp
are_levels names corner (c ∷ counts) (p ∷ pois) [] few hp hw = absurd hw
are_levels names corner (c ∷ counts) (p ∷ pois) (w ∷ ways) few hp hw =
    let others = are_levels names corner counts pois ways few.1 hp.1 hw.1 in
    let np = hp.0.0 in
    let nw = hw.0.0 in
    record {
      each = (record { pois = hp.0.1; ways = hw.0.1; counts = (rw np few.0.0, rw nw few.0.1) }, others.each);
      all = ap suc others.all;
      table = (λ i. vbe_unsigned (sym np i) ++ vbe_unsigned (sym nw i) ++ others.table i);
      poi_text = ap (λ text. flat_map (poi_fields_bytes corner) p ++ text) others.poi_text;
      way_text = ap (λ text. flat_map (way_fields_bytes corner) w ++ text) others.way_text;
    }

-- ---- the tile

-- the parts of a tile as they are read, one after the other
record TileParts (names : TagLists) (interval : Interval) (corner : Place) (bytes : List ℕ) (levels : List Level) : Type
    0 where
  counts : List (ℕ × ℕ) × List ℕ
  at_counts : times (length (zooms interval)) counts_at bytes ≡ Ok counts
  told : ℕ × List ℕ
  at_told : number counts.1 ≡ Ok told
  pois : List (List PoiFields) × List ℕ
  at_pois : read_each (λ (c : ℕ × ℕ). times c.0 (poi_at names.poi corner)) counts.0 told.1 ≡ Ok pois
  fits : told.0 + length pois.1 ≡ length told.1
  ways : List (List WayFields) × List ℕ
  at_ways : read_each (λ (c : ℕ × ℕ). times c.1 (way_at names.way corner)) counts.0 pois.1 ≡ Ok ways
  nothing : length ways.1 ≡ 0
  is : map level_of (zip pois.0 ways.0) ≡ levels

tile_parts : (names : TagLists) (interval : Interval) (corner : Place) (bytes : List ℕ) (levels : List Level)
    → levels_at names interval corner bytes ≡ Ok levels → TileParts names interval corner bytes levels
unfolding levels_at
tile_parts names interval corner bytes levels e =
    let counts = bind_ok _ _ levels e in
    let told = bind_ok _ _ levels counts.2 in
    let pois = bind_ok _ _ levels told.2 in
    let fits = bind_ok _ _ levels pois.2 in
    let ways = bind_ok _ _ levels fits.2 in
    let none = bind_ok _ _ levels ways.2 in
    record {
      counts = counts.0;
      at_counts = counts.1;
      told = told.0;
      at_told = told.1;
      pois = pois.0;
      at_pois = pois.1;
      fits = eqb-true (told.0.0 + length pois.0.1) (length told.0.1) (require_ok _ _ _ fits.1);
      ways = ways.0;
      at_ways = ways.1;
      nothing = eqb-true (length ways.0.1) 0 (require_ok _ _ _ none.1);
      is = ok_is (map level_of (zip pois.0.0 ways.0.0)) levels none.2;
    }

pois-found : (names : TagLists) (corner : Place) (c : ℕ × ℕ)
    → Finds (times c.0 (poi_at names.poi corner)) (flat_map (poi_fields_bytes corner)) (ArePois names c)
pois-found names corner c =
    times-found (poi_at names.poi corner) (poi_fields_bytes corner) (IsPoi names.poi) (poi_at-found names.poi corner)
    c.0

ways-found : (names : TagLists) (corner : Place) → IsPlaceOf32Bits corner → (c : ℕ × ℕ)
    → Finds (times c.1 (way_at names.way corner)) (flat_map (way_fields_bytes corner)) (AreWays names c)
ways-found names corner hc c =
    times-found (way_at names.way corner) (way_fields_bytes corner) (IsWay names.way) (way_at-found names.way corner hc)
    c.1

spells_from : (names : TagLists) (interval : Interval) (corner : Place) (bytes : List ℕ) (levels : List Level)
    → IsPlaceOf32Bits corner → IsBytes bytes → length bytes < 2 ^ 63
    → TileParts names interval corner bytes levels → SpellsLevels names interval corner bytes levels
unfolding levels_bytes sized
spells_from names interval corner bytes levels hc small few x =
    let a = times-found counts_at counts_bytes IsCounts counts_at-found (length (zooms interval)) bytes x.counts small
    x.at_counts in
    let b = number-found x.counts.1 x.told a.0.behind x.at_told in
    let c = each-found (λ (c : ℕ × ℕ). times c.0 (poi_at names.poi corner)) (flat_map (poi_fields_bytes corner))
    (ArePois names) (pois-found names corner) x.counts.0 x.told.1 x.pois b.0.behind x.at_pois in
    let d = each-found (λ (c : ℕ × ℕ). times c.1 (way_at names.way corner)) (flat_map (way_fields_bytes corner))
    (AreWays names) (ways-found names corner hc) x.counts.0 x.pois.1 x.ways c.0.behind x.at_ways in
    let all = are_levels names corner x.counts.0 x.pois.0 x.ways.0 a.1.1 c.1 d.1 in
    let size = part_size x.told.0 x.told.1 (flat_map (flat_map (poi_fields_bytes corner)) x.pois.0) x.pois.1 c.0.spelt
    x.fits in
    let table = subst (λ text. Takes bytes text x.counts.1) all.table a.0 in
    let pois = subst (λ text. Takes x.counts.1 (vbe_unsigned (length text) ++ text) x.pois.1) all.poi_text
    (then (subst (λ n. Takes x.counts.1 (vbe_unsigned n) x.told.1) size b.0) c.0) in
    let ways = subst (λ text. Takes x.pois.1 text x.ways.1) all.way_text d.0 in
    subst (SpellsLevels names interval corner bytes) x.is
    record {
      each = all.each;
      all = all.all ∙ a.1.0;
      spelt = none_left bytes _ x.ways.1 (then (then table pois) ways) x.nothing;
      small = few;
    }

-- what is read as levels is spelled so
pub levels_at-found : (names : TagLists) (interval : Interval) (corner : Place) (bytes : List ℕ) (levels : List Level)
    → IsPlaceOf32Bits corner → IsBytes bytes → length bytes < 2 ^ 63
    → levels_at names interval corner bytes ≡ Ok levels → SpellsLevels names interval corner bytes levels
levels_at-found names interval corner bytes levels hc small few e =
    spells_from names interval corner bytes levels hc small few (tile_parts names interval corner bytes levels e)

-- what is read as a tile is spelled so
read_tile-found : (names : TagLists) (tile : TilePlace) (bytes : List ℕ) (shown : List Listed)
    → IsPlaceOf32Bits (tile_corner tile) → IsBytes bytes → length bytes < 2 ^ 63 → read_tile names tile bytes ≡ Ok shown
    → ReadsTile names tile bytes shown
unfolding read_tile read_tile_from
read_tile-found names tile [] shown hc small few e = sym (ok_is [] shown e)
read_tile-found names tile (b ∷ bytes) shown hc small few e =
    let levels = bind_ok _ _ shown
    (placed_ok tile_fault_at (length (b ∷ bytes)) (shown_at names tile.interval (tile_corner tile) (b ∷ bytes))
    shown e) in (
      levels.0,
      levels_at-found names tile.interval (tile_corner tile) (b ∷ bytes) levels.0 hc small few levels.1,
      sym (ok_is (shown_levels names tile.interval levels.0) shown levels.2),
    )

pub tile_spelled : (names : TagLists) (tile : TilePlace) (bytes : List ℕ) (shown : List Listed)
    → tile.x < 2 ^ tile.interval.base → IsBytes bytes → length bytes < 2 ^ 63 → read_tile names tile bytes ≡ Ok shown
    → ReadsTile names tile bytes shown
tile_spelled names tile bytes shown below small few e =
    read_tile-found names tile bytes shown (tile_corner-in_range tile below) small few e

pub ruleset tile_laws = (tile_spelled)
