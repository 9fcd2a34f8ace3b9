-- What is tested of the records of a desk, and of their heads, texts and places. This project's own.
use Rattle.std.specs.Prelude.{ℕ, ◌+◌, nat_le, nat_lt, pos, negsuc, int_le, Bool, true, cond, not, ◌&&◌, ◌||◌}
use Rattle.std.specs.Prelude.{List, [], ◌∷◌, length, Option, Some, None, unwrap_or}
use Rattle.mf_base.specs.Ranges.{lies_within}
use Rattle.mf_base.specs.Texts.{Text}
use Rattle.mf_base.specs.declared.kept.Kept.{Kept as KeptRead}
use Rattle.mf_base.specs.declared.kept.KeptValue.{KeptValue}
use Rattle.mf_base.specs.declared.kept.KeptValue.TheVariants as read
use Rattle.mf_base.specs.declared.place.Rect.{Rect}
use Rattle.mf_base.specs.declared.tile.Interval.{Interval}
use Rattle.map_model.specs.Intervals.{raised_zoom}
use Rattle.map_model.specs.Members.{is_node_kind}
use Rattle.mf_rows.specs.Records.{Record, text_in}
use Rattle.mf_rows.specs.declared.head.TextSlot.{TextSlot}
use Rattle.mf_rows.specs.declared.head.TextSlot.TheVariants.{Name, House, Reference, Tag}

-- a text has at most 1,020 bytes, where there is one
abbrev pub is_short : Option Text → Bool
is_short None = true
is_short (Some text) = nat_le (length text) 1020

-- the value of the tag of a place is no text of more than 1,020 bytes
abbrev pub has_short_text : List (TextSlot × Text) → ℕ → KeptValue → Bool
has_short_text texts at (read.Text len) = nat_le (length (unwrap_or (text_in texts (Tag at)) [])) 1020
has_short_text texts at _ = true

-- the ids of kept tags, the first of this place, are below 4,096, and their texts are short
unfoldable pub are_short_from : List (TextSlot × Text) → ℕ → List KeptRead → Bool
are_short_from texts at [] = true
are_short_from texts at (k ∷ tags) =
    nat_lt k.tag 4096 && has_short_text texts at k.value && are_short_from texts (at + 1) tags

-- those of a record are such
abbrev pub are_kept_short : Record → Bool
are_kept_short r = are_short_from r.texts 0 r.head.tags.items

-- the head and the texts of a record may be spelled, where the head is one
abbrev pub may_be_spelled : Record → Bool
may_be_spelled r = lies_within (negsuc 4) (pos 5) r.head.layer && are_kept_short r && is_short (text_in r.texts Name)
    && is_short (text_in r.texts House) && is_short (text_in r.texts Reference)

-- no side of a rectangle is beyond the earth
abbrev pub has_near_sides : Rect → Bool
has_near_sides r = int_le (negsuc 89999999) r.min_lat && int_le r.max_lat (pos 90000000)
    && int_le (negsuc 179999999) r.min_lon && int_le r.max_lon (pos 180000000)

-- the effective zoom of one record is at most that of another
abbrev pub is_no_higher : Interval → Record → Record → Bool
is_no_higher interval q r = nat_le (raised_zoom interval q.head.zoom) (raised_zoom interval r.head.zoom)

-- one record stands before another: a POI before a way, and else by effective zoom
abbrev pub stands_before : Interval → Record → Record → Bool
stands_before interval q r =
    cond (is_node_kind q.head.kind) (is_no_higher interval q r || not (is_node_kind r.head.kind))
    (is_no_higher interval q r && not (is_node_kind r.head.kind))
