-- Places and rectangles as words, in microdegrees: this project's profile.
use Rattle.std.specs.Prelude.{ℕ, ℤ, pos, negsuc, ◌&&◌, int_le, Option, Some, None, option_map}
use Rattle.std.specs.Prelude.{option_and_then, if◌then◌else◌}
use Rattle.mf_base.specs.declared.place.Place.{Place}
use Rattle.mf_base.specs.declared.place.Rect.{Rect}
use Rattle.mf_base.specs.Texts.{Text, cut}
use Rattle.mf_base.specs.Numbers.{whole_in}

-- the byte of `,`
abbrev pub comma : ℕ
comma = 44

-- a latitude
abbrev pub latitude : Text → Option ℤ
latitude text = whole_in (negsuc 89999999) (pos 90000000) text

-- a longitude
abbrev pub longitude : Text → Option ℤ
longitude text = whole_in (negsuc 179999999) (pos 180000000) text

-- the place of a latitude and a longitude
abbrev pub place_of : Text → Text → Option Place
place_of lat lon = option_and_then (λ y. option_map (λ x. record { lat = y; lon = x }) (longitude lon)) (latitude lat)

-- the place of `LAT,LON`
unfoldable pub read_place : Text → Option Place
read_place text = option_and_then (λ (p : Text × Text). place_of p.0 p.1) (cut comma text)

-- the rectangle from a place to another, where the first has the least sides
abbrev pub rect_between : Place → Place → Option Rect
rect_between low high = if int_le low.lat high.lat && int_le low.lon high.lon
    then Some (record { min_lat = low.lat; min_lon = low.lon; max_lat = high.lat; max_lon = high.lon }) else None

-- the rectangle of the texts of two places
abbrev pub rect_of : Text → Text → Text → Option Rect
rect_of lat lon high = option_and_then (λ low. option_and_then (rect_between low) (read_place high)) (place_of lat lon)

-- the rectangle of `MINLAT,MINLON,MAXLAT,MAXLON`
unfoldable pub read_rect : Text → Option Rect
read_rect text =
    option_and_then (λ (p : Text × Text). option_and_then (λ (q : Text × Text). rect_of p.0 q.0 q.1) (cut comma p.1))
    (cut comma text)
