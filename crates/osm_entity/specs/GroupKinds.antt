-- The kinds of the fields of a group, as they are seen one after another. This project's own.
use Rattle.std.specs.Prelude.{ℕ, Bool, ◌==◌, ◌&&◌, nat_le, List, Option, Some, None, Result, Ok, Err, ◌≡◌, [], ◌∷◌}
use Rattle.std.specs.List.{list_all}
use Rattle.osm_model.specs.declared.faults.EntityFault.{EntityFault}
use Rattle.osm_model.specs.declared.numbers.TheConstants.{GROUP_NODES, GROUP_CHANGESETS}
use Rattle.osm_model.specs.Blocks.{PrimitiveBlock}
use Rattle.osm_model.specs.Objects.{Object, are_one}
use Rattle.osm_entity.specs.Groups.{group_left}
use Rattle.osm_entity.specs.declared.group.Group.{Group}

-- a field with this number has nodes, dense nodes, ways, relations or changesets
abbrev pub is_kind : ℕ → Bool
is_kind k = nat_le GROUP_NODES k && nat_le k GROUP_CHANGESETS

-- no two differ of these numbers and the one that was seen first, where there is one
abbrev pub are_one_with : Option ℕ → List ℕ → Bool
are_one_with None ks = are_one ks
are_one_with (Some k) ks = list_all (λ j. j == k) ks

-- The objects are those of a group that are left, or one fault.
abbrev pub GivesGroup : PrimitiveBlock → List (Result Object EntityFault) → Result Group EntityFault → Type 0
GivesGroup in_block objects (Ok group) = objects ≡ group_left in_block group
GivesGroup in_block objects (Err fault) = objects ≡ Err fault ∷ []
