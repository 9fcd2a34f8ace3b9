-- The place of stored numbers, where it is on the earth. This project's own.
use Rattle.std.specs.Prelude.{ℕ, ℤ, Result, Ok}
use Rattle.mf_base.specs.declared.place.Place.{Place}
use Rattle.mf_base.specs.Steps.{◌>>=◌, require}
use Rattle.osm_model.specs.declared.faults.EntityFault.{EntityFault}
use Rattle.osm_model.specs.declared.faults.EntityFault.TheVariants.{Coordinate}
use Rattle.osm_model.specs.Blocks.{BlockHead, keeps_limit, is_coordinate, place_of}

-- nanodegrees, where they keep a limit
abbrev pub checked_nano : ℕ → ℤ → Result ℤ EntityFault
checked_nano limit nano = do
  _ ← require (keeps_limit limit nano) Coordinate
  Ok nano

-- the place of a stored latitude and longitude, where it is on the earth
abbrev pub checked_place : BlockHead → ℤ → ℤ → Result Place EntityFault
checked_place head lat lon = do
  _ ← require (is_coordinate head lat lon) Coordinate
  Ok (place_of head lat lon)
