-- The columns of the members of a relation: the OpenStreetMap wiki, "PBF Format", on Relation. The order in which
-- faults are looked for is this project's profile.
use Rattle.std.specs.Prelude.{ℕ, zero, suc, ℤ, Bool, ◌&&◌, ◌==◌, nat_lt, if◌then◌else◌, List, length, Result, Ok}
use Rattle.std.specs.List.{list_all}
use Rattle.mf_base.specs.declared.kind.EntityKind.{EntityKind}
use Rattle.mf_base.specs.declared.kind.EntityKind.TheVariants.{Node, Way, Relation}
use Rattle.mf_base.specs.Texts.{Text}
use Rattle.mf_base.specs.Steps.{◌>>=◌, require, each}
use Rattle.mf_base.specs.Ranges.{is_signed_64}
use Rattle.mf_base.specs.Packed.{packed_numbers}
use Rattle.mf_base.specs.Entries.{entry_text}
use Rattle.osm_model.specs.declared.faults.EntityFault.{EntityFault}
use Rattle.osm_model.specs.declared.faults.EntityFault.TheVariants.{StringIndex, Range, MemberKind, Columns}
use Rattle.osm_model.specs.Entities.{Member}
use Rattle.osm_model.specs.Objects.{running_sums_from, zip_three, member_at}
use Rattle.osm_entity.specs.Sums.{sums_in}

-- the kind that a type below 3 tells
abbrev pub kind_told : ℕ → EntityKind
kind_told zero = Node
kind_told (suc zero) = Way
kind_told (suc (suc k)) = Relation

-- the member of a role's index, an id and a type, in a block with its strings at these places
abbrev pub member_of : (block places : List ℕ) → ℕ × ℤ × ℕ → Member
member_of block places (role, id, type) =
    record { kind = kind_told type; id = id; role = entry_text block places role }

-- the roles, ids and types of packed columns, where the ids are differences behind this sum
abbrev pub rows_in : ℤ → (roles ids types : List ℕ) → List (ℕ × ℤ × ℕ)
rows_in sum roles ids types = zip_three (packed_numbers roles) (sums_in sum ids) (packed_numbers types)

-- a role's index is below the number of strings, an id one of signed 64 bits and a type below 3
abbrev pub is_member : ℕ → ℕ × ℤ × ℕ → Bool
is_member count (role, id, type) = nat_lt role count && is_signed_64 id && nat_lt type 3

-- each row is that of a member
abbrev pub are_members : ℕ → ℤ → (roles ids types : List ℕ) → Bool
are_members count sum roles ids types = list_all (is_member count) (rows_in sum roles ids types)

-- the first fault of a row, or else its id
abbrev pub row_id : ℕ → ℕ × ℤ × ℕ → Result ℤ EntityFault
row_id count (role, id, type) = do
  _ ← require (nat_lt role count) StringIndex
  _ ← require (is_signed_64 id) Range
  _ ← require (nat_lt type 3) MemberKind
  Ok id

-- three columns are of one length
abbrev pub are_even : List ℕ → List ℤ → List ℕ → Bool
are_even roles ids types = (length roles == length ids) && (length roles == length types)

-- the fault of a row before these others
abbrev pub row_fault : EntityFault → List ℕ → List ℤ → List ℕ → EntityFault
row_fault fault roles ids types = if are_even roles ids types then fault else Columns

-- the members of three columns, behind members whose ids come to this sum
abbrev pub members_behind : ℤ → List Text → List ℕ → List ℤ → List ℕ → Result (List Member) EntityFault
members_behind sum strings roles ids types = do
  _ ← require (are_even roles ids types) Columns
  each (member_at strings) (zip_three roles (running_sums_from sum ids) types)
