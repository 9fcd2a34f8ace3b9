-- How a choice grows by one match after the other: this project's own.
use Rattle.std.specs.Prelude.{◌≡◌, ◌||◌, ◌∷◌, ℕ, ℤ, Bool, false, List, [], length, take, min, nat_lt, filter, get_or}
use Rattle.std.specs.Prelude.{Option, Some, None, option_map, if◌then◌else◌}
use Rattle.mf_base.specs.Tags.{Tags}
use Rattle.mf_base.specs.declared.kept.Kept.{Kept}
use Rattle.feature_model.specs.Mapping.{Entry}
use Rattle.feature_model.specs.Choice.{Match, matches, choice_of, layer_of, is_coast}
use Rattle.tag_mapping.specs.declared.choice.Choice.{Choice}
use Rattle.tag_mapping.specs.declared.matched.Matched.{Matched}
use Rattle.tag_mapping.specs.declared.matched.Parts.{Parts}
use Rattle.tag_mapping.specs.Choices.{kept_told, ToldChoice, choice_told, choice_shown}

-- the entry that is lent
abbrev pub parts_shown : Parts → Entry
parts_shown p =
    record { key = p.key.now; value = p.value.now; zoom = p.zoom; water = p.water; label = p.label }

-- what a choice takes of a match
abbrev pub match_told : Match → Matched
match_told m = record {
  kept = kept_told m.kept;
  zoom = m.entry.zoom;
  water = m.entry.water;
  label = m.entry.label;
  coast = is_coast m.entry;
}

-- kept tags with one more, in the order of their ids
abbrev pub with_kept : Kept → List Kept → List Kept
with_kept kept [] = kept ∷ []
with_kept kept (k ∷ tags) = if nat_lt kept.tag k.tag then kept ∷ k ∷ tags else k ∷ with_kept kept tags

-- the choice of one match
abbrev pub first_choice : ℤ → Matched → ToldChoice
first_choice layer m = record {
  tags = m.kept ∷ [];
  zoom = m.zoom;
  layer = layer;
  water = m.water;
  label = m.label;
  coast = m.coast;
}

-- a choice with one more match
abbrev pub with_match : Matched → ToldChoice → ToldChoice
with_match m c = record {
  tags = take 15 (with_kept m.kept c.tags);
  zoom = min c.zoom m.zoom;
  layer = c.layer;
  water = c.water || m.water;
  label = c.label || m.label;
  coast = c.coast || m.coast;
}

-- the choice after one more match, where there may be none before
abbrev pub grown : ℤ → Matched → Option ToldChoice → ToldChoice
grown layer m None = first_choice layer m
grown layer m (Some c) = with_match m c

-- whether the entry with this index was looked at
abbrev pub is_known : List Bool → ℕ → Bool
is_known known index = get_or known index false

-- the matches of entries that were looked at
abbrev pub known_matches : List Bool → List Match → List Match
known_matches known all = filter (λ (m : Match). is_known known m.kept.tag) all

-- The choice is that of the matches of entries that were looked at.
pub record IsChosen (entries : List Entry) (tags : Tags) (known : List Bool) (choice : Option Choice) : Type 0 where
  pub size : length known ≡ 4096
  pub chosen : option_map choice_shown choice
      ≡ option_map choice_told (choice_of (layer_of tags) (known_matches known (matches entries tags)))
