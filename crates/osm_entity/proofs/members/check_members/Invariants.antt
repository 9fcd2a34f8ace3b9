use Rattle.std.proofs.Common.{◌≡◌, List, true, length, map, pos}
use Rattle.mf_base.specs.Texts.{Text}
use Rattle.mf_base.specs.Steps.{fault_of}
use Rattle.mf_base.specs.Spelling.{unzigzag_of}
use Rattle.mf_base.specs.Packed.{are_varints, packed_numbers}
use Rattle.osm_entity.specs.MemberChecks.{members_behind}
use Rattle.osm_entity.proofs.members.check_members.Given as goal

-- the members before had no fault
abbrev pub invariant-loop-role : goal.invariant-loop-role
invariant-loop-role l = record {
  same : (strings : List Text) → length strings ≡ l.count
      → fault_of (members_behind (pos 0) strings (packed_numbers l.roles) (map unzigzag_of (packed_numbers l.ids))
      (packed_numbers l.types))
      ≡ fault_of (members_behind l.sum strings (packed_numbers l.left_roles)
      (map unzigzag_of (packed_numbers l.left_ids)) (packed_numbers l.left_types));
  roles : are_varints l.left_roles ≡ true;
  ids : are_varints l.left_ids ≡ true;
  types : are_varints l.left_types ≡ true;
}

abbrev pub decreases-loop-role : goal.decreases-loop-role
decreases-loop-role l = length (packed_numbers l.left_roles)
