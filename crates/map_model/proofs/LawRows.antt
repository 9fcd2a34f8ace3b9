-- The premises of the laws are met: by a mapping of benches, settings, a box, a bench and its tile.
use Rattle.std.proofs.Common.{[], ◌∷◌, refl, arith, inl, inr}
use Rattle.std.specs.Prelude.{codes, AllPairs}
use Rattle.std.specs.List.{IsDistinct}
use Rattle.mf_base.specs.declared.kind.List as which
use Rattle.mf_base.proofs.Pairs.{all_pairs}
use Rattle.feature_model.specs.Mapping.{Entry}
use Rattle.feature_model.specs.Entries.{IsEntry, IsMapping, is_same_tag}
use Rattle.feature_model.specs.Proper.{IsProper, IsOfInput}
use Rattle.feature_model.specs.Samples.{benches, entry}
use Rattle.map_model.specs.Header.{IsHeadSettings}
use Rattle.map_model.specs.Members.{StandInOrder, StandsBefore}
use Rattle.map_model.specs.NumberedMembers.{TileBelow}
use Rattle.map_model.specs.Room.{IsWritable, IsWritten}
use Rattle.map_model.specs.Samples.{settings_to, bench, lake_tile, zoom_range}
use Rattle.map_model.proofs.Compute.{compute}
use Rattle.map_model.proofs.WrittenLevels.{writable-of}

pub settings-are : IsHeadSettings (settings_to 7)
unfolding compute
settings-are = record {
  date = omega arith;
  start = tt;
  start_zoom = tt;
  language = tt;
  comment = tt;
  created_by = tt;
  intervals = refl;
}

bench-entry : IsEntry which.List.Poi (entry (codes "amenity") (codes "bench") 5)
unfolding compute
bench-entry = record { entry_rule = refl; kind_rule = refl; text = (refl, refl) }

one-distinct : (e : Entry) → IsDistinct is_same_tag (e ∷ [])
unfolding IsDistinct
one-distinct e = (tt, tt)

none-distinct : IsDistinct is_same_tag []
unfolding IsDistinct
none-distinct = tt

pub mapping-is : IsMapping benches
mapping-is = record {
  poi = record {
    few = omega arith;
    rules = (bench-entry, tt);
    distinct = one-distinct (entry (codes "amenity") (codes "bench") 5);
  };
  way = record { few = omega arith; rules = tt; distinct = none-distinct };
}

bench-proper : IsProper benches.poi bench
unfolding compute
bench-proper = record {
  some = omega arith;
  few = omega arith;
  kept = ((omega arith, tt), tt);
  rising = (tt, tt);
  zoom = refl;
  layer = refl;
  name = tt;
  house = tt;
  reference = tt;
  height = tt;
  its_own = refl;
  shape = refl;
  drawn = refl;
  weight = omega arith;
}

bench-of_input : IsOfInput bench
unfolding compute
bench-of_input =
    record { id = (omega arith, omega arith); places = refl; name = tt; house = tt; reference = tt; kept = (tt, tt) }

pub bench-written : IsWritten benches bench
bench-written = record { proper = bench-proper; input = bench-of_input; light = omega arith }

pub bench-writable : IsWritable bench
bench-writable = writable-of benches bench mapping-is bench-written

pub bench-stands : StandInOrder (zoom_range 0 0 7) (bench ∷ [])
bench-stands = record {
  zooms = (omega arith, tt);
  pairs = all_pairs (StandsBefore (zoom_range 0 0 7)) (bench ∷ []) (tt, tt);
}

pub tiles-follow : AllPairs TileBelow (lake_tile 16 14 ∷ lake_tile 17 14 ∷ lake_tile 16 15 ∷ [])
tiles-follow =
    all_pairs TileBelow (lake_tile 16 14 ∷ lake_tile 17 14 ∷ lake_tile 16 15 ∷ []) (
      (inr (refl, inr (refl, inl (omega arith))), (inr (refl, inl (omega arith)), tt)),
      ((inr (refl, inl (omega arith)), tt), (tt, tt)),
    )

pub ruleset premises = (settings-are, mapping-is, bench-written, bench-writable, bench-stands)
