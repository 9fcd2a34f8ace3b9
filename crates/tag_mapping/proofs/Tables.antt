-- Tables of TOML, as code sees them and as members.
use Rattle.std.proofs.Common.{◌≡◌, List, [], ◌∷◌, refl, ap, true, false, Bool, ◌&&◌, Option, None, String, Global}
use Rattle.std.proofs.Common.{string_bytes}
use Rattle.std.specs.List.{list_all}
use Rattle.std.specs.Map.{keys_of}
use Rattle.toml.specs.declared.value.Value.{Value}
use Rattle.toml.specs.View.{members_view}
use Rattle.mf_base.specs.declared.kind.List as which
use Rattle.mf_base.specs.Texts.{Text, is_among}
use Rattle.feature_model.specs.Mapping.{Entry}
use Rattle.tag_mapping.specs.File.{member_names, only_members, told_members, entry_of, keys}

-- the keys of a table
abbrev Members-of : Type 0
Members-of = List (String Global × Value)

pub all-keys : (p : Text → Bool) (es : List (String Global × Value))
    → list_all (λ name. p (string_bytes name)) (keys_of es) ≡ list_all p (keys (members_view es))
all-keys p [] = refl
all-keys p (e ∷ es) = ap (λ (b : Bool). p (string_bytes e.0) && b) (all-keys p es)

pub entry-told : (list : which.List) (es : List (String Global × Value)) (told : Option Entry)
    → true ≡ list_all (λ name. is_among (member_names list) (string_bytes name)) (keys_of es)
    → told ≡ told_members (members_view es) → told ≡ entry_of list (members_view es)
unfolding entry_of only_members
entry-told list es told only is = rw (← all-keys (is_among (member_names list)) es, ← only) is

pub entry-other : (list : which.List) (es : List (String Global × Value))
    → false ≡ list_all (λ name. is_among (member_names list) (string_bytes name)) (keys_of es)
    → None ≡ entry_of list (members_view es)
unfolding entry_of only_members
entry-other list es other = rw (← all-keys (is_among (member_names list)) es, ← other) refl
