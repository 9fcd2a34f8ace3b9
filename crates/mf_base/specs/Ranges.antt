-- Numbers within bounds, and places and rectangles on the earth, in microdegrees.
use Rattle.std.specs.Prelude.{ℕ, ◌^◌, ◌-◌, ℤ, pos, negsuc, int_le, nat_le, Bool, ◌&&◌, Option, Some, None}
use Rattle.std.specs.Prelude.{if◌then◌else◌}
use Rattle.mf_base.specs.declared.place.Place.{Place}
use Rattle.mf_base.specs.declared.place.Rect.{Rect}

-- z lies in least..greatest
abbrev pub lies_within : ℤ → ℤ → ℤ → Bool
lies_within least greatest z = int_le least z && int_le z greatest

-- the number, where it lies in least..greatest
abbrev pub within : ℤ → ℤ → ℤ → Option ℤ
within least greatest z = if lies_within least greatest z then Some z else None

-- the same of numbers without a sign
abbrev pub within_numbers : ℕ → ℕ → ℕ → Option ℕ
within_numbers least greatest n = if nat_le least n && nat_le n greatest then Some n else None

-- a number of signed 32 bits
abbrev pub is_signed_32 : ℤ → Bool
is_signed_32 z = lies_within (negsuc (2 ^ 31 - 1)) (pos (2 ^ 31 - 1)) z

-- a number of signed 64 bits
abbrev pub is_signed_64 : ℤ → Bool
is_signed_64 z = lies_within (negsuc (2 ^ 63 - 1)) (pos (2 ^ 63 - 1)) z

-- a latitude, from -90 to 90 degrees
abbrev pub is_latitude : ℤ → Bool
is_latitude z = lies_within (negsuc 89999999) (pos 90000000) z

-- a longitude, from -180 to 180 degrees
abbrev pub is_longitude : ℤ → Bool
is_longitude z = lies_within (negsuc 179999999) (pos 180000000) z

-- a place on the earth
abbrev pub is_on_earth : Place → Bool
is_on_earth p = is_latitude p.lat && is_longitude p.lon

-- a rectangle on the earth, whose least sides are at most its greatest
abbrev pub is_rect : Rect → Bool
is_rect r = is_latitude r.min_lat && is_latitude r.max_lat && is_longitude r.min_lon && is_longitude r.max_lon
    && int_le r.min_lat r.max_lat && int_le r.min_lon r.max_lon
