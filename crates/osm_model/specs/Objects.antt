-- The objects of a block: the OpenStreetMap wiki, "PBF Format", on PrimitiveGroup, Node, DenseNodes, Way and Relation.
-- That a group has one kind alone, and the order in which faults are looked for, is this project's profile.
use Rattle.std.specs.Prelude.{◌<◌, ℕ, zero, suc, Bool, true, ◌&&◌, ◌==◌, nat_le, if◌then◌else◌, List, [], ◌∷◌, length}
use Rattle.std.specs.Prelude.{map, zip, flat_map, filter_map, filter, slice_get, Option, Some, None, option_map, ok_or}
use Rattle.std.specs.Prelude.{Result, Ok, Err, ℤ, pos, ◌+ℤ◌, nat_abs}
use Rattle.std.specs.List.{list_all, AllByRecursion}
use Rattle.mf_base.specs.Tags.{Tag, Tags}
use Rattle.mf_base.specs.declared.kind.EntityKind.{EntityKind}
use Rattle.mf_base.specs.Steps.{◌>>=◌, require, told_as, each, answer_of}
use Rattle.mf_base.specs.Spelling.{unzigzag_of}
use Rattle.mf_base.specs.Ranges.{is_signed_64}
use Rattle.mf_base.specs.declared.kind.EntityKind.TheVariants as kinds
use Rattle.osm_model.specs.declared.numbers.TheConstants.{WAY_ID, RELATION_ID, RELATION_ROLES_SID, RELATION_MEMIDS}
use Rattle.osm_model.specs.declared.numbers.TheConstants.{RELATION_TYPES, RELATION_KEYS, RELATION_VALS, GROUP_NODES}
use Rattle.osm_model.specs.declared.numbers.TheConstants.{GROUP_DENSE, GROUP_WAYS, GROUP_RELATIONS, GROUP_CHANGESETS}
use Rattle.osm_model.specs.declared.numbers.TheConstants.{NODE_ID, NODE_KEYS, NODE_VALS, NODE_LAT, NODE_LON, DENSE_ID}
use Rattle.osm_model.specs.declared.numbers.TheConstants.{DENSE_LAT, DENSE_LON, DENSE_KEYS_VALS, WAY_KEYS, WAY_VALS}
use Rattle.osm_model.specs.declared.numbers.TheConstants.{WAY_REFS}
use Rattle.osm_model.specs.declared.tables.TheConstants.{PRIMITIVE_GROUP, NODE, DENSE_NODES, WAY, RELATION}
use Rattle.osm_model.specs.declared.faults.EntityFault.{EntityFault}
use Rattle.osm_model.specs.declared.faults.EntityFault.TheVariants.{StringIndex, KeyWithoutValue, Coordinate, Missing}
use Rattle.osm_model.specs.declared.faults.EntityFault.TheVariants.{Wire, Columns, Range, MemberKind, MixedGroup}
use Rattle.osm_model.specs.Wire.{Field, int64}
use Rattle.osm_model.specs.Tables.{message, counted_bytes, number_of, packed_of, packed_sint64_of}
use Rattle.osm_model.specs.Blocks.{BlockHead, PrimitiveBlock, is_coordinate, place_of}
use Rattle.osm_model.specs.Entities.{Member, Entity, node, way, relation}

-- An object is an entity before its place in the order is looked at: its kind and id, which decide on its place, and
-- what it is, or the first of its faults that are looked for behind its place.
pub record Object : Type 0 where
  pub kind : EntityKind
  pub id : ℤ
  pub entity : Result Entity EntityFault

-- ---- strings and tags

-- the string with this index
abbrev pub string_at : List (List ℕ) → ℕ → Result (List ℕ) EntityFault
string_at strings k = ok_or (slice_get strings k) StringIndex

-- the tag of the index of a key and the index of a value
abbrev pub tag_at : List (List ℕ) → ℕ × ℕ → Result Tag EntityFault
tag_at strings pair = do
  key ← string_at strings pair.0
  value ← string_at strings pair.1
  Ok (key, value)

-- the tags of a list of indices of keys and one of values
unfoldable pub indexed_tags : List (List ℕ) → List ℕ → List ℕ → Result Tags EntityFault
indexed_tags strings keys vals = do
  _ ← require (length keys == length vals) KeyWithoutValue
  each (tag_at strings) (zip keys vals)

-- ---- delta columns

-- the sum of signed numbers
abbrev pub int_sum : List ℤ → ℤ
int_sum [] = pos 0
int_sum (z ∷ zs) = z +ℤ int_sum zs

-- the numbers of a delta column: each is the sum of the differences up to it
unfoldable pub running_sums : List ℤ → List ℤ
running_sums [] = []
running_sums (d ∷ ds) = d ∷ map (λ sum. d +ℤ sum) (running_sums ds)

-- the numbers of a delta column behind numbers of this sum
abbrev pub running_sums_from : ℤ → List ℤ → List ℤ
running_sums_from base ds = map (λ sum. base +ℤ sum) (running_sums ds)

-- ---- plain nodes

-- the node of an id, a stored latitude and longitude and its tags
abbrev pub node_of : BlockHead → ℤ → ℤ → ℤ → Result Tags EntityFault → Result Entity EntityFault
node_of head id lat lon told = do
  _ ← require (is_coordinate head lat lon) Coordinate
  tags ← told
  Ok (node (record { id = nat_abs id; place = place_of head lat lon; tags = tags }))

-- the sint64 in the field with this number, which must be there
abbrev pub sint64_at : ℕ → List Field → Result ℤ EntityFault
sint64_at k fs = ok_or (option_map unzigzag_of (number_of k fs)) Missing

-- the object of a Node message, or the first of its faults that are looked for before its place
unfoldable pub node_object : PrimitiveBlock → List ℕ → Result Object EntityFault
node_object in_block bytes = do
  fs ← told_as Wire (message NODE bytes)
  id ← sint64_at NODE_ID fs
  lat ← sint64_at NODE_LAT fs
  lon ← sint64_at NODE_LON fs
  let tags = indexed_tags in_block.strings (packed_of NODE_KEYS fs) (packed_of NODE_VALS fs)
  Ok (record { kind = kinds.Node; id = id; entity = node_of in_block.head id lat lon tags })

-- ---- dense nodes

-- How a run of keys and values ends: by a 0 in the place of a key, behind this key, with the list.
pub data RunEnd : Type 0 where
  by_zero : RunEnd
  behind_key : ℕ → RunEnd
  with_list : RunEnd

-- The keys and values of one dense node.
pub record TagRun : Type 0 where
  pub pairs : List (ℕ × ℕ)
  pub ends : RunEnd

-- no pairs up to an end
abbrev pub empty_run : RunEnd → TagRun
empty_run ends = record { pairs = []; ends = ends }

-- a pair before the first of the runs
abbrev pub before_run : ℕ × ℕ → List TagRun → List TagRun
before_run pair [] = record { pairs = pair ∷ []; ends = with_list } ∷ []
before_run pair (run ∷ runs) = record { pairs = pair ∷ run.pairs; ends = run.ends } ∷ runs

-- keys_vals, cut behind each 0 in the place of a key
unfoldable pub tag_runs : List ℕ → List TagRun
tag_runs [] = []
tag_runs (zero ∷ rest) = empty_run by_zero ∷ tag_runs rest
tag_runs (suc k ∷ []) = empty_run (behind_key (suc k)) ∷ []
tag_runs (suc k ∷ v ∷ rest) = before_run (suc k, v) (tag_runs rest)

-- pairs as they stand in keys_vals
abbrev pub pairs_spelled : List (ℕ × ℕ) → List ℕ
pairs_spelled pairs = flat_map (λ pair. pair.0 ∷ pair.1 ∷ []) pairs

-- no key is 0
abbrev pub HasKeys : List (ℕ × ℕ) → Type 0
HasKeys pairs = AllByRecursion (λ (pair : ℕ × ℕ). 0 < pair.0) pairs

-- the tags of a run whose pairs have these: they are all where it ends by a 0, and else there is the fault of its end
abbrev pub end_of_run : List (List ℕ) → RunEnd → Tags → Result Tags EntityFault
end_of_run strings by_zero tags = Ok tags
end_of_run strings (behind_key k) tags = string_at strings k >>= λ key. Err KeyWithoutValue
end_of_run strings with_list tags = Err Columns

-- the tags of a run, or its first fault in the order of keys_vals
unfoldable pub run_tags : List (List ℕ) → TagRun → Result Tags EntityFault
run_tags strings run = do
  tags ← each (tag_at strings) run.pairs
  end_of_run strings run.ends tags

-- the runs of keys_vals, or None where it is empty: then no node has tags
abbrev pub runs_of : List ℕ → Option (List TagRun)
runs_of [] = None
runs_of (k ∷ rest) = Some (tag_runs (k ∷ rest))

-- the run of the next node: where there is no list it has no tags, and where the list is used up it has none of it
abbrev pub next_run : Option (List TagRun) → TagRun
next_run None = empty_run by_zero
next_run (Some []) = empty_run with_list
next_run (Some (run ∷ runs)) = run

-- the runs of the nodes behind that
abbrev pub other_runs : Option (List TagRun) → Option (List TagRun)
other_runs None = None
other_runs (Some []) = Some []
other_runs (Some (run ∷ runs)) = Some runs

-- the fault of runs that are left over behind the last node
abbrev pub left_over : Option (List TagRun) → List (Result Object EntityFault)
left_over None = []
left_over (Some []) = []
left_over (Some (run ∷ runs)) = Err Columns ∷ []

-- a dense node of an id, a latitude and a longitude, which are sums of differences
abbrev pub dense_node : PrimitiveBlock → ℤ × ℤ × ℤ → TagRun → Result Object EntityFault
dense_node in_block (id, lat, lon) run = do
  _ ← require (is_signed_64 id && is_signed_64 lat && is_signed_64 lon) Range
  Ok (record { kind = kinds.Node; id = id; entity = node_of in_block.head id lat lon (run_tags in_block.strings run) })

-- each node with its run, and then what is left over
unfoldable pub with_runs : PrimitiveBlock → List (ℤ × ℤ × ℤ) → Option (List TagRun) → List (Result Object EntityFault)
with_runs in_block [] runs = left_over runs
with_runs in_block (n ∷ ns) runs = dense_node in_block n (next_run runs) ∷ with_runs in_block ns (other_runs runs)

-- three lists side by side
abbrev pub zip_three : {A B C : Type 0} → List A → List B → List C → List (A × B × C)
zip_three [] ys zs = []
zip_three (x ∷ xs) [] zs = []
zip_three (x ∷ xs) (y ∷ ys) [] = []
zip_three (x ∷ xs) (y ∷ ys) (z ∷ zs) = (x, y, z) ∷ zip_three xs ys zs

-- the nodes of three columns behind a node of this id, latitude and longitude, and of these runs
unfoldable pub dense_from : PrimitiveBlock → ℤ × ℤ × ℤ → List ℤ → List ℤ → List ℤ → Option (List TagRun)
    → List (Result Object EntityFault)
dense_from in_block (id, lat, lon) ids lats lons runs =
    with_runs in_block
    (zip_three (running_sums_from id ids) (running_sums_from lat lats) (running_sums_from lon lons)) runs

-- the nodes of three columns of numbers, which are of one length, and of keys_vals
unfoldable pub dense_columns : PrimitiveBlock → List ℤ → List ℤ → List ℤ → List ℕ → List (Result Object EntityFault)
dense_columns in_block ids lats lons keys_vals =
    if (length ids == length lats) && (length ids == length lons)
    then dense_from in_block (pos 0, pos 0, pos 0) ids lats lons (runs_of keys_vals)
    else Err Columns ∷ []

-- the objects of a DenseNodes message
unfoldable pub dense_objects : PrimitiveBlock → List ℕ → List (Result Object EntityFault)
dense_objects in_block bytes =
    elim (message DENSE_NODES bytes) [
      | Ok fs ↦
          dense_columns in_block (packed_sint64_of DENSE_ID fs) (packed_sint64_of DENSE_LAT fs)
          (packed_sint64_of DENSE_LON fs) (packed_of DENSE_KEYS_VALS fs)
      | Err fault ↦ Err (Wire fault) ∷ []
    ]

-- ---- ways

-- the way of an id, its refs and its tags
abbrev pub way_of : ℤ → List ℤ → Result Tags EntityFault → Result Entity EntityFault
way_of id refs told = do
  tags ← told
  _ ← require (list_all is_signed_64 refs) Range
  Ok (way (record { id = nat_abs id; refs = refs; tags = tags }))

-- the int64 in the field with this number, which must be there
abbrev pub int64_at : ℕ → List Field → Result ℤ EntityFault
int64_at k fs = ok_or (option_map int64 (number_of k fs)) Missing

-- the object of a Way message, or the first of its faults that are looked for before its place
unfoldable pub way_object : PrimitiveBlock → List ℕ → Result Object EntityFault
way_object in_block bytes = do
  fs ← told_as Wire (message WAY bytes)
  id ← int64_at WAY_ID fs
  let tags = indexed_tags in_block.strings (packed_of WAY_KEYS fs) (packed_of WAY_VALS fs)
  Ok (record { kind = kinds.Way; id = id; entity = way_of id (running_sums (packed_sint64_of WAY_REFS fs)) tags })

-- ---- relations

-- the kind of a member, by its type: 0 node, 1 way, 2 relation
abbrev pub kind_at : ℕ → Result EntityKind EntityFault
kind_at zero = Ok kinds.Node
kind_at (suc zero) = Ok kinds.Way
kind_at (suc (suc zero)) = Ok kinds.Relation
kind_at (suc (suc (suc k))) = Err MemberKind

-- the member of a role's index, an id, which is a sum of differences, and a type
abbrev pub member_at : List (List ℕ) → ℕ × ℤ × ℕ → Result Member EntityFault
member_at strings (role_index, id, type) = do
  role ← string_at strings role_index
  _ ← require (is_signed_64 id) Range
  kind ← kind_at type
  Ok (record { kind = kind; id = id; role = role })

-- the members of three columns
abbrev pub members_of : List (List ℕ) → List ℕ → List ℤ → List ℕ → Result (List Member) EntityFault
members_of strings roles ids types = do
  _ ← require ((length roles == length ids) && (length roles == length types)) Columns
  each (member_at strings) (zip_three roles (running_sums ids) types)

-- the relation of an id, its members and its tags
abbrev pub relation_of : ℤ → Result (List Member) EntityFault → Result Tags EntityFault → Result Entity EntityFault
relation_of id told_members told_tags = do
  tags ← told_tags
  members ← told_members
  Ok (relation (record { id = nat_abs id; members = members; tags = tags }))

-- the object of a Relation message, or the first of its faults that are looked for before its place
unfoldable pub relation_object : PrimitiveBlock → List ℕ → Result Object EntityFault
relation_object in_block bytes = do
  fs ← told_as Wire (message RELATION bytes)
  id ← int64_at RELATION_ID fs
  let roles = packed_of RELATION_ROLES_SID fs
  let ids = packed_sint64_of RELATION_MEMIDS fs
  let members = members_of in_block.strings roles ids (packed_of RELATION_TYPES fs)
  let tags = indexed_tags in_block.strings (packed_of RELATION_KEYS fs) (packed_of RELATION_VALS fs)
  Ok (record { kind = kinds.Relation; id = id; entity = relation_of id members tags })

-- ---- groups

-- the objects of a group's field with this number and these bytes; changesets are passed over
abbrev pub objects_at : PrimitiveBlock → ℕ → List ℕ → List (Result Object EntityFault)
objects_at in_block k bytes =
    if k == GROUP_NODES then node_object in_block bytes ∷ []
    else (if k == GROUP_DENSE then dense_objects in_block bytes
    else (if k == GROUP_WAYS then way_object in_block bytes ∷ []
    else (if k == GROUP_RELATIONS then relation_object in_block bytes ∷ []
    else [])))

-- the objects of a group's field
abbrev pub field_objects : PrimitiveBlock → Field → List (Result Object EntityFault)
field_objects in_block f = elim (counted_bytes f.value) [ None ↦ [] | Some bytes ↦ objects_at in_block f.number bytes ]

-- no two of the numbers differ
abbrev pub are_one : List ℕ → Bool
are_one [] = true
are_one (k ∷ ks) = list_all (λ j. j == k) ks

-- which of nodes, dense, ways, relations and changesets a group has, by their field numbers, each as often as it stands
abbrev pub kinds_in : List Field → List ℕ
kinds_in fs = filter (λ k. nat_le GROUP_NODES k && nat_le k GROUP_CHANGESETS) (map (λ (f : Field). f.number) fs)

-- the fields of a group, or its first fault
abbrev pub group_fields : List ℕ → Result (List Field) EntityFault
group_fields bytes = do
  fs ← told_as Wire (message PRIMITIVE_GROUP bytes)
  _ ← require (are_one (kinds_in fs)) MixedGroup
  Ok fs

-- the objects of a group, in the order of the bytes
unfoldable pub group_objects : PrimitiveBlock → List ℕ → List (Result Object EntityFault)
group_objects in_block bytes =
    elim (group_fields bytes) [
      | Ok fs ↦ flat_map (field_objects in_block) fs
      | Err fault ↦ Err fault ∷ []
    ]

-- The objects of a block, in the order of the bytes, each or its fault before its place in the order is looked at.
unfoldable pub block_objects : PrimitiveBlock → List (Result Object EntityFault)
block_objects in_block = flat_map (group_objects in_block) in_block.groups

-- the entity that an object is, whatever its place in the order, or None where it has a fault
abbrev pub told_entity : Result Object EntityFault → Option Entity
told_entity told = answer_of (told >>= λ (object : Object). object.entity)

-- the entities of a block, whatever their order
unfoldable pub block_entities : PrimitiveBlock → List Entity
block_entities in_block = filter_map told_entity (block_objects in_block)
