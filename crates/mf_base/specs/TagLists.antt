-- The lists of indices that tell the tags of an object: the OpenStreetMap wiki, "PBF Format", on keys, vals and
-- keys_vals.
use Rattle.std.specs.Prelude.{ℕ, ◌%◌, ◌==◌, Bool, ◌&&◌, List, length, zip}
use Rattle.mf_base.specs.Packed.{are_varints, packed_numbers}
use Rattle.mf_base.specs.Entries.{by_twos}
use Rattle.mf_base.specs.declared.tag_lists.TagLists.{TagLists}
use Rattle.mf_base.specs.declared.tag_lists.TagLists.TheVariants.{Columns, Run}

-- the pairs of the indices of a key and a value
abbrev pub pairs_in : TagLists → List (ℕ × ℕ)
pairs_in (Columns keys vals) = zip (packed_numbers keys.now) (packed_numbers vals.now)
pairs_in (Run run) = by_twos (packed_numbers run.now)

-- the lists are whole varints, and there are as many values as keys
abbrev pub are_whole : TagLists → Bool
are_whole (Columns keys vals) =
    are_varints keys.now && are_varints vals.now
    && (length (packed_numbers keys.now) == length (packed_numbers vals.now))
are_whole (Run run) = are_varints run.now && (length (packed_numbers run.now) % 2 == 0)
