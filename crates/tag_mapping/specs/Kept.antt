-- The entries of a mapping as they are kept: each by its text `KEY=VALUE`.
use Rattle.std.specs.Prelude.{◌≡◌, ◌≤◌, ℕ, ◌+◌, Vec, false, length, take, drop}
use Rattle.std.specs.declared.alloc.Global.{Global}
use Rattle.mf_base.specs.Texts.{has_byte}
use Rattle.mf_base.specs.Words.{equals}
use Rattle.feature_model.specs.Mapping.{Entry}
use Rattle.map_model.specs.TagLists.{entry_text}
use Rattle.tag_mapping.specs.declared.entries.Traits.{Traits}

-- the entry of a text and its traits
abbrev pub entry_kept : Vec ℕ Global × Traits → Entry
entry_kept kept =
    record {
      key = take kept.1.key_size kept.0.items;
      value = drop (kept.1.key_size + 1) kept.0.items;
      zoom =
          kept.1.zoom;
      water = kept.1.water;
      label = kept.1.label;
    }

-- The text is that of the entry, whose key has no `=`. Key and value have at most 255 bytes each.
pub record IsKeptEntry (kept : Vec ℕ Global × Traits) : Type 0 where
  pub text : kept.0.items ≡ entry_text (entry_kept kept)
  pub plain : has_byte equals (entry_kept kept).key ≡ false
  pub within : kept.1.key_size + 1 ≤ length kept.0.items
  pub short : length kept.0.items ≤ 511
