-- The box of a HeaderBBox from its stored sides, in the words of the definitions. This project's own.
use Rattle.std.specs.Prelude.{ℕ, Option, option_map, ok_or, Result, Ok, ℤ, Bool, ◌&&◌}
use Rattle.osm_model.specs.declared.limits.TheConstants.{LONGITUDE_LIMIT, LATITUDE_LIMIT}
use Rattle.mf_base.specs.declared.place.Rect.{Rect}
use Rattle.mf_base.specs.Spelling.{unzigzag_of}
use Rattle.mf_base.specs.Steps.{◌>>=◌, require}
use Rattle.osm_model.specs.declared.faults.BlockFault.{BlockFault}
use Rattle.osm_model.specs.declared.faults.BlockFault.TheVariants.{BadBox}
use Rattle.osm_model.specs.Blocks.{are_sides, micro, keeps_limit}

-- the sides are on the earth
abbrev pub are_kept : ℤ → ℤ → ℤ → ℤ → Bool
are_kept left right top bottom =
    keeps_limit LONGITUDE_LIMIT left && keeps_limit LONGITUDE_LIMIT right && keeps_limit LATITUDE_LIMIT top
    && keeps_limit LATITUDE_LIMIT bottom

-- the box of sides in nanodegrees
abbrev pub box_of : ℤ → ℤ → ℤ → ℤ → Result Rect BlockFault
box_of left right top bottom = do
  _ ← require (are_sides left right top bottom) BadBox
  Ok (record { min_lat = micro bottom; min_lon = micro left; max_lat = micro top; max_lon = micro right })

-- the box of the numbers of the sides, where they are there
abbrev pub sides_box : Option ℕ → Option ℕ → Option ℕ → Option ℕ → Result Rect BlockFault
sides_box left right top bottom = do
  l ← ok_or (option_map unzigzag_of left) BadBox
  r ← ok_or (option_map unzigzag_of right) BadBox
  t ← ok_or (option_map unzigzag_of top) BadBox
  b ← ok_or (option_map unzigzag_of bottom) BadBox
  box_of l r t b
