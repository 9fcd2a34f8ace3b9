-- What holds of each object that a message in a block tells, holds of all objects of the block: laws on all objects
-- cite this.
use Rattle.std.proofs.Common.{pos, ◌≡◌, ◌==◌, ◌&&◌, ℕ, List, [], ◌∷◌, ◌++◌, true, false, Bool, cond, Result, Ok, Err}
use Rattle.std.proofs.Common.{Option, Some, None, ℤ, length}
use Rattle.std.specs.Prelude.{flat_map}
use Rattle.std.specs.List.{AllByRecursion}
use Rattle.mf_base.proofs.StepLaws.{err_is_no_ok}
use Rattle.osm_model.specs.declared.tables.TheConstants.{DENSE_NODES}
use Rattle.osm_model.specs.declared.numbers.TheConstants.{GROUP_NODES, GROUP_DENSE, GROUP_WAYS, GROUP_RELATIONS}
use Rattle.osm_model.specs.declared.numbers.TheConstants.{DENSE_ID, DENSE_LAT, DENSE_LON, DENSE_KEYS_VALS}
use Rattle.osm_model.specs.declared.faults.MessageFault.{MessageFault}
use Rattle.osm_model.specs.declared.faults.EntityFault.{EntityFault}
use Rattle.osm_model.specs.declared.faults.EntityFault.TheVariants as entity_faults
use Rattle.osm_model.specs.Wire.{Field}
use Rattle.osm_model.specs.Tables.{message, counted_bytes, packed_of, packed_sint64_of}
use Rattle.osm_model.specs.Blocks.{PrimitiveBlock}
use Rattle.osm_model.specs.Objects.{running_sums_from, runs_of, next_run, other_runs, left_over, zip_three, Object}
use Rattle.osm_model.specs.Objects.{TagRun, node_object, dense_node, with_runs, dense_from, dense_columns}
use Rattle.osm_model.specs.Objects.{dense_objects, way_object, relation_object, objects_at, field_objects, group_fields}
use Rattle.osm_model.specs.Objects.{group_objects, block_objects}

-- Q holds of the object that was told, if one was
abbrev pub Holds : (Object → Type 0) → Result Object EntityFault → Type 0
Holds Q told = (object : Object) → told ≡ Ok object → Q object

abbrev pub AllHold : (Object → Type 0) → List (Result Object EntityFault) → Type 0
AllHold Q objects = AllByRecursion (Holds Q) objects

-- Q holds of each object that a message tells, with the strings and the head of this block.
pub record HoldsOfEach (Q : Object → Type 0) (b : PrimitiveBlock) : Type 0 where
  pub node : (bytes : List ℕ) → Holds Q (node_object b bytes)
  pub dense : (n : ℤ × ℤ × ℤ) (run : TagRun) → Holds Q (dense_node b n run)
  pub way : (bytes : List ℕ) → Holds Q (way_object b bytes)
  pub relation : (bytes : List ℕ) → Holds Q (relation_object b bytes)

none_told : (Q : Object → Type 0) (fault : EntityFault) → Holds Q (Err fault)
none_told Q fault object h = absurd (err_is_no_ok fault object h)

either : (Q : Object → Type 0) (c : Bool) (xs ys : List (Result Object EntityFault)) → AllHold Q xs → AllHold Q ys
    → AllHold Q (cond c xs ys)
either Q true xs ys h k = h
either Q false xs ys h k = k

all-append : (Q : Object → Type 0) (xs ys : List (Result Object EntityFault)) → AllHold Q xs → AllHold Q ys
    → AllHold Q (xs ++ ys)
all-append Q [] ys h k = k
all-append Q (x ∷ xs) ys h k = (h.0, all-append Q xs ys h.1 k)

all-flat_map : (Q : Object → Type 0) {X : Type 0} (f : X → List (Result Object EntityFault))
    → ((x : X) → AllHold Q (f x)) → (xs : List X) → AllHold Q (flat_map f xs)
all-flat_map Q f h [] = tt
all-flat_map Q f h (x ∷ xs) = all-append Q (f x) (flat_map f xs) (h x) (all-flat_map Q f h xs)

-- ---- dense nodes

left_over_holds : (Q : Object → Type 0) (runs : Option (List TagRun)) → AllHold Q (left_over runs)
left_over_holds Q None = tt
left_over_holds Q (Some []) = tt
left_over_holds Q (Some (run ∷ runs)) = (none_told Q entity_faults.Columns, tt)

with_runs_hold : (Q : Object → Type 0) (b : PrimitiveBlock) (each : HoldsOfEach Q b) (ns : List (ℤ × ℤ × ℤ))
    (runs : Option (List TagRun)) → AllHold Q (with_runs b ns runs)
unfolding with_runs
with_runs_hold Q b each [] runs = left_over_holds Q runs
with_runs_hold Q b each (n ∷ ns) runs = (each.dense n (next_run runs), with_runs_hold Q b each ns (other_runs runs))

from_holds : (Q : Object
    → Type 0) (b : PrimitiveBlock) (each : HoldsOfEach Q b) (n : ℤ × ℤ × ℤ) (ids lats lons : List ℤ)
    (runs : Option (List TagRun)) → AllHold Q (dense_from b n ids lats lons runs)
unfolding dense_from
from_holds Q b each (id, lat, lon) ids lats lons runs =
    with_runs_hold Q b each
    (zip_three (running_sums_from id ids) (running_sums_from lat lats) (running_sums_from lon lons)) runs

columns_hold : (Q : Object → Type 0) (b : PrimitiveBlock) (each : HoldsOfEach Q b) (ids lats lons : List ℤ)
    (keys_vals : List ℕ) → AllHold Q (dense_columns b ids lats lons keys_vals)
unfolding dense_columns
columns_hold Q b each ids lats lons keys_vals =
    let zero : ℤ × ℤ × ℤ = (pos 0, pos 0, pos 0) in
    either Q ((length ids == length lats) && (length ids == length lons))
    (dense_from b zero ids lats lons (runs_of keys_vals)) (Err entity_faults.Columns ∷ [])
    (from_holds Q b each zero ids lats lons (runs_of keys_vals)) (none_told Q entity_faults.Columns, tt)

abbrev dense_parts : PrimitiveBlock → Result (List Field) MessageFault → List (Result Object EntityFault)
dense_parts b r =
    elim r [
      | Ok fs ↦
          dense_columns b (packed_sint64_of DENSE_ID fs) (packed_sint64_of DENSE_LAT fs) (packed_sint64_of DENSE_LON fs)
          (packed_of DENSE_KEYS_VALS fs)
      | Err fault ↦ Err (entity_faults.Wire fault) ∷ []
    ]

dense_parts_hold : (Q : Object
    → Type 0) (b : PrimitiveBlock) (each : HoldsOfEach Q b) (r : Result (List Field) MessageFault)
    → AllHold Q (dense_parts b r)
dense_parts_hold Q b each (Ok fs) =
    columns_hold Q b each (packed_sint64_of DENSE_ID fs) (packed_sint64_of DENSE_LAT fs)
    (packed_sint64_of DENSE_LON fs) (packed_of DENSE_KEYS_VALS fs)
dense_parts_hold Q b each (Err fault) = (none_told Q (entity_faults.Wire fault), tt)

dense_objects_hold : (Q : Object → Type 0) (b : PrimitiveBlock) (each : HoldsOfEach Q b) (bytes : List ℕ)
    → AllHold Q (dense_objects b bytes)
unfolding dense_objects
dense_objects_hold Q b each bytes = dense_parts_hold Q b each (message DENSE_NODES bytes)

-- ---- groups

at_holds : (Q : Object → Type 0) (b : PrimitiveBlock) (each : HoldsOfEach Q b) (k : ℕ) (bytes : List ℕ)
    → AllHold Q (objects_at b k bytes)
at_holds Q b each k bytes =
    either Q (k == GROUP_NODES) (node_object b bytes ∷ []) _ (each.node bytes, tt)
    (either Q (k == GROUP_DENSE) (dense_objects b bytes) _ (dense_objects_hold Q b each bytes)
    (either Q (k == GROUP_WAYS) (way_object b bytes ∷ []) _ (each.way bytes, tt)
    (either Q (k == GROUP_RELATIONS) (relation_object b bytes ∷ []) [] (each.relation bytes, tt) tt)))

abbrev of_bytes : PrimitiveBlock → ℕ → Option (List ℕ) → List (Result Object EntityFault)
of_bytes b k o = elim o [ None ↦ [] | Some bytes ↦ objects_at b k bytes ]

of_bytes_hold : (Q : Object → Type 0) (b : PrimitiveBlock) (each : HoldsOfEach Q b) (k : ℕ) (o : Option (List ℕ))
    → AllHold Q (of_bytes b k o)
of_bytes_hold Q b each k None = tt
of_bytes_hold Q b each k (Some bytes) = at_holds Q b each k bytes

abbrev of_fields : PrimitiveBlock → Result (List Field) EntityFault → List (Result Object EntityFault)
of_fields b r = elim r [ Ok fs ↦ flat_map (field_objects b) fs | Err fault ↦ Err fault ∷ [] ]

of_fields_hold : (Q : Object
    → Type 0) (b : PrimitiveBlock) (each : HoldsOfEach Q b) (r : Result (List Field) EntityFault)
    → AllHold Q (of_fields b r)
of_fields_hold Q b each (Ok fs) =
    all-flat_map Q (field_objects b) (λ f. of_bytes_hold Q b each f.number (counted_bytes f.value)) fs
of_fields_hold Q b each (Err fault) = (none_told Q fault, tt)

group_holds : (Q : Object → Type 0) (b : PrimitiveBlock) (each : HoldsOfEach Q b) (bytes : List ℕ)
    → AllHold Q (group_objects b bytes)
unfolding group_objects
group_holds Q b each bytes = of_fields_hold Q b each (group_fields bytes)

pub block_holds : (Q : Object → Type 0) (b : PrimitiveBlock) → HoldsOfEach Q b → AllHold Q (block_objects b)
unfolding block_objects
block_holds Q b each = all-flat_map Q (group_objects b) (group_holds Q b each) b.groups
