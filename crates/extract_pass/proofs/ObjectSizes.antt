-- The entities of a block take no more bytes than it has.
use Rattle.std.proofs.Common.{◌≡◌, ◌∙◌, ◌+◌, ◌≤◌, ℕ, suc, List, [], ◌∷◌, ◌++◌, Bool, true, false, Option, Some, None}
use Rattle.std.proofs.Common.{Result, Ok, Err, ℤ, pos, refl, sym, ap, subst, arith, length, cond}
use Rattle.std.specs.Prelude.{flat_map, nat_abs, unwrap_or, ◌==◌, ◌&&◌, ◌+ℤ◌}
use Rattle.std.specs.List.{list_all}
use Rattle.std.proofs.lemmas.List.{length-map}
use Rattle.mf_base.specs.Tags.{Tags}
use Rattle.mf_base.specs.Steps.{◌>>=◌, require, refuse, told_as, each}
use Rattle.mf_base.specs.Spelling.{unzigzag_of}
use Rattle.mf_base.specs.Ranges.{is_signed_64}
use Rattle.mf_base.specs.declared.kind.EntityKind.TheVariants as kinds
use Rattle.mf_base.proofs.StepLaws.{told_ok, ok_is, err_is_no_ok}
use Rattle.osm_model.specs.declared.faults.EntityFault.{EntityFault}
use Rattle.osm_model.specs.declared.faults.EntityFault.TheVariants as entity_faults
use Rattle.osm_model.specs.declared.faults.MessageFault.{MessageFault}
use Rattle.osm_model.specs.declared.numbers.TheConstants.{NODE_ID, NODE_LAT, NODE_LON, WAY_ID, WAY_REFS, RELATION_ID}
use Rattle.osm_model.specs.declared.numbers.TheConstants.{RELATION_ROLES_SID, RELATION_MEMIDS, RELATION_TYPES}
use Rattle.osm_model.specs.declared.numbers.TheConstants.{RELATION_KEYS, RELATION_VALS, WAY_KEYS, WAY_VALS}
use Rattle.osm_model.specs.declared.numbers.TheConstants.{NODE_KEYS, NODE_VALS, DENSE_ID, DENSE_LAT, DENSE_LON}
use Rattle.osm_model.specs.declared.numbers.TheConstants.{DENSE_KEYS_VALS, GROUP_NODES, GROUP_DENSE, GROUP_WAYS}
use Rattle.osm_model.specs.declared.numbers.TheConstants.{GROUP_RELATIONS}
use Rattle.osm_model.specs.declared.tables.TheConstants.{PRIMITIVE_GROUP, NODE, DENSE_NODES, WAY, RELATION}
use Rattle.osm_model.specs.Wire.{Field}
use Rattle.osm_model.specs.Tables.{Table, message, packed_of, packed_sint64_of, counted_bytes}
use Rattle.osm_model.specs.Blocks.{BlockHead, PrimitiveBlock, is_coordinate, place_of}
use Rattle.osm_model.specs.Entities.{Member, Entity, node, way}
use Rattle.osm_model.specs.Objects.{Object, TagRun, node_of, node_object, dense_node, dense_from}
use Rattle.osm_model.specs.Objects.{dense_columns, dense_objects, with_runs, left_over, next_run, other_runs, runs_of}
use Rattle.osm_model.specs.Objects.{zip_three, running_sums, running_sums_from, way_of, way_object, member_at, members_of}
use Rattle.osm_model.specs.Objects.{relation_of, relation_object, objects_at, field_objects, group_objects}
use Rattle.osm_model.specs.Objects.{block_objects, sint64_at, int64_at, indexed_tags, run_tags, kinds_in, are_one}
use Rattle.osm_model.specs.Order.{in_order, entity_behind, order_fault}
use Rattle.osm_model.proofs.BlockLaws.{message-items}
use Rattle.osm_model.proofs.ColumnLaws.{length-column}
use Rattle.osm_model.proofs.OrderLaws.{in_order-nil, in_order-err, in_order-refused, in_order-next}
use Rattle.extract_pass.specs.EntitySizes.{entity_size, entities_size}
use Rattle.extract_pass.proofs.FieldSizes.{total, total-append, bytes_size, field_size, fields-size, packed-size}

-- the size of what was told, and 0 where nothing was
abbrev told_size : Result Entity EntityFault → ℕ
told_size (Ok e) = entity_size e
told_size (Err fault) = 0

abbrev pub object_size : Result Object EntityFault → ℕ
object_size (Ok object) = told_size object.entity
object_size (Err fault) = 0

abbrev pub objects_size : List (Result Object EntityFault) → ℕ
objects_size objects = total object_size objects

-- ---- steps, of which the last tells an object

object_then : {A : Type 0} (r : Result A EntityFault) (g : A → Result Object EntityFault) (most : ℕ)
    → ((x : A) → r ≡ Ok x → object_size (g x) ≤ most) → object_size (r >>= g) ≤ most
object_then (Ok x) g most bound = bound x refl
object_then (Err fault) g most bound = omega arith

-- the fields of a message have no more bytes than it
of_message : (table : Table) (bytes : List ℕ) (fs : List Field)
    → told_as entity_faults.Wire (message table bytes) ≡ Ok fs → total field_size fs ≤ length bytes
of_message table bytes fs is =
    let same = message-items table bytes fs (told_ok entity_faults.Wire (message table bytes) fs is) in
    subst (λ fs. total field_size fs ≤ length bytes) (sym same) (fields-size bytes)

-- ---- nodes

node_tagged : (head : BlockHead) (id lat lon : ℤ) (tags : Result Tags EntityFault)
    → told_size (tags >>= λ found. Ok (node (record {
      id = nat_abs id;
      place = place_of head lat lon;
      tags = found;
    }))) ≤ 1
node_tagged head id lat lon (Ok found) = omega arith
node_tagged head id lat lon (Err fault) = omega arith

node_told : (head : BlockHead) (id lat lon : ℤ) (tags : Result Tags EntityFault)
    → told_size (node_of head id lat lon tags) ≤ 1
node_told head id lat lon tags = go (is_coordinate head lat lon)
  where
    go : (c : Bool)
        → told_size (require c entity_faults.Coordinate >>= λ u. tags >>= λ found. Ok (node (record {
          id = nat_abs id;
          place = place_of head lat lon;
          tags = found;
        }))) ≤ 1
    go true = node_tagged head id lat lon tags
    go false = omega arith

node_size : (b : PrimitiveBlock) (bytes : List ℕ) → object_size (node_object b bytes) ≤ 1
unfolding node_object
node_size b bytes =
    object_then (told_as entity_faults.Wire (message NODE bytes)) _ 1 (λ fs is.
    object_then (sint64_at NODE_ID fs) _ 1 (λ id is. object_then (sint64_at NODE_LAT fs) _ 1 (λ lat is.
    object_then (sint64_at NODE_LON fs) _ 1 (λ lon is. node_told b.head id lat lon
    (indexed_tags b.strings (packed_of NODE_KEYS fs) (packed_of NODE_VALS fs))))))

-- ---- dense nodes

dense_size : (b : PrimitiveBlock) (n : ℤ × ℤ × ℤ) (run : TagRun) → object_size (dense_node b n run) ≤ 1
dense_size b (id, lat, lon) run = go (is_signed_64 id && is_signed_64 lat && is_signed_64 lon)
  where
    go : (c : Bool)
        → object_size (require c entity_faults.Range
        >>= λ u. Ok (record { kind = kinds.Node; id = id; entity = node_of b.head id lat lon (run_tags b.strings run) }))
        ≤ 1
    go true = node_told b.head id lat lon (run_tags b.strings run)
    go false = omega arith

left_size : (runs : Option (List TagRun)) → objects_size (left_over runs) ≤ 0
left_size None = omega arith
left_size (Some []) = omega arith
left_size (Some (run ∷ runs)) = omega arith

runs_size : (b : PrimitiveBlock) (ns : List (ℤ × ℤ × ℤ)) (runs : Option (List TagRun))
    → objects_size (with_runs b ns runs) ≤ length ns
unfolding with_runs
runs_size b [] runs = left_size runs
runs_size b (n ∷ ns) runs =
    let one = dense_size b n (next_run runs) in
    let more = runs_size b ns (other_runs runs) in omega (arith, one, more)

zipped : {A B C : Type 0} (xs : List A) (ys : List B) (zs : List C) → length (zip_three xs ys zs) ≤ length xs
zipped [] ys zs = omega arith
zipped (x ∷ xs) [] zs = omega arith
zipped (x ∷ xs) (y ∷ ys) [] = omega arith
zipped (x ∷ xs) (y ∷ ys) (z ∷ zs) = let more = zipped xs ys zs in omega (arith, more)

from_size : (b : PrimitiveBlock) (n : ℤ × ℤ × ℤ) (ids lats lons : List ℤ) (runs : Option (List TagRun))
    → objects_size (dense_from b n ids lats lons runs) ≤ length ids
unfolding dense_from
from_size b (id, lat, lon) ids lats lons runs =
    let places = zip_three (running_sums_from id ids) (running_sums_from lat lats) (running_sums_from lon lons) in
    let count = length-map (running_sums ids) (λ sum. id +ℤ sum) ∙ length-column ids in
    let most = runs_size b places runs in
    let short = zipped (running_sums_from id ids) (running_sums_from lat lats) (running_sums_from lon lons) in
    omega (arith, most, short, count)

either : (c : Bool) (xs ys : List (Result Object EntityFault)) (most : ℕ) → objects_size xs ≤ most
    → objects_size ys ≤ most → objects_size (cond c xs ys) ≤ most
either true xs ys most h k = h
either false xs ys most h k = k

columns_size : (b : PrimitiveBlock) (ids lats lons : List ℤ) (keys_vals : List ℕ)
    → objects_size (dense_columns b ids lats lons keys_vals) ≤ length ids
unfolding dense_columns
columns_size b ids lats lons keys_vals =
    either ((length ids == length lats) && (length ids == length lons)) _ _ (length ids)
    (from_size b (pos 0, pos 0, pos 0) ids lats lons (runs_of keys_vals)) (omega arith)

-- a packed list of signed numbers has no more than a message has bytes
signed_size : (k : ℕ) (fs : List Field) → length (packed_sint64_of k fs) ≤ total field_size fs
signed_size k fs = omega (arith, packed-size k fs, length-map (packed_of k fs) unzigzag_of)

dense_parts : (b : PrimitiveBlock) (bytes : List ℕ) (r : Result (List Field) MessageFault)
    → message DENSE_NODES bytes ≡ r
    → objects_size (elim r [
      | Ok fs ↦
          dense_columns b (packed_sint64_of DENSE_ID fs) (packed_sint64_of DENSE_LAT fs) (packed_sint64_of DENSE_LON fs)
          (packed_of DENSE_KEYS_VALS fs)
      | Err fault ↦ Err (entity_faults.Wire fault) ∷ []
    ]) ≤ length bytes
dense_parts b bytes (Ok fs) is =
    let most = columns_size b (packed_sint64_of DENSE_ID fs) (packed_sint64_of DENSE_LAT fs)
    (packed_sint64_of DENSE_LON fs) (packed_of DENSE_KEYS_VALS fs) in
    let all = subst (λ fs. total field_size fs ≤ length bytes) (sym (message-items DENSE_NODES bytes fs is))
    (fields-size bytes) in
    omega (arith, most, signed_size DENSE_ID fs, all)
dense_parts b bytes (Err fault) is = omega arith

dense_objects_size : (b : PrimitiveBlock) (bytes : List ℕ) → objects_size (dense_objects b bytes) ≤ length bytes
unfolding dense_objects
dense_objects_size b bytes = dense_parts b bytes (message DENSE_NODES bytes) refl

-- ---- ways and relations

way_told : (id : ℤ) (refs : List ℤ) (tags : Result Tags EntityFault) → told_size (way_of id refs tags) ≤ 1 + length refs
way_told id refs (Err fault) = omega arith
way_told id refs (Ok found) = go (list_all is_signed_64 refs)
  where
    go : (c : Bool)
        → told_size (require c entity_faults.Range
        >>= λ u. Ok (way (record { id = nat_abs id; refs = refs; tags = found }))) ≤ 1 + length refs
    go true = omega arith
    go false = omega arith

way_size : (b : PrimitiveBlock) (bytes : List ℕ) → object_size (way_object b bytes) ≤ bytes_size bytes
unfolding way_object
way_size b bytes =
    object_then (told_as entity_faults.Wire (message WAY bytes)) _ (bytes_size bytes) (λ fs is.
    object_then (int64_at WAY_ID fs) _ (bytes_size bytes) (λ id found.
    let refs = running_sums (packed_sint64_of WAY_REFS fs) in
    let told = way_told id refs (indexed_tags b.strings (packed_of WAY_KEYS fs) (packed_of WAY_VALS fs)) in
    omega (arith, told, length-column (packed_sint64_of WAY_REFS fs), signed_size WAY_REFS fs, of_message WAY bytes fs is)))

each_size : {A B F : Type 0} (step : A → Result B F) (xs : List A) (ys : List B) → each step xs ≡ Ok ys
    → length ys ≤ length xs
each_size step [] ys is = let none = ap length (ok_is _ _ (sym is)) in omega (arith, none)
each_size {A} {B} {F} step (x ∷ xs) ys is = go (step x) (each step xs) (λ zs e. each_size step xs zs e) is
  where
    go : (r : Result B F) (rs : Result (List B) F) → ((zs : List B) → rs ≡ Ok zs → length zs ≤ length xs)
        → (r >>= λ first. rs >>= λ others. Ok (first ∷ others)) ≡ Ok ys → length ys ≤ suc (length xs)
    go (Err fault) rs more e = absurd (err_is_no_ok fault ys e)
    go (Ok y) (Err fault) more e = absurd (err_is_no_ok fault ys e)
    go (Ok y) (Ok zs) more e = let all = more zs refl in let same = ap length (ok_is _ _ e) in omega (arith, all, same)

members_size : (strings : List (List ℕ)) (roles : List ℕ) (ids : List ℤ) (types : List ℕ) (members : List Member)
    → members_of strings roles ids types ≡ Ok members → length members ≤ length roles
members_size strings roles ids types members is = go ((length roles == length ids) && (length roles == length types)) is
  where
    go : (c : Bool)
        → (require c entity_faults.Columns
        >>= λ u. each (member_at strings) (zip_three roles (running_sums ids) types)) ≡ Ok members
        → length members ≤ length roles
    go true e =
        let most = each_size (member_at strings) (zip_three roles (running_sums ids) types) members e in
        omega (arith, most, zipped roles (running_sums ids) types)
    go false e = absurd (err_is_no_ok entity_faults.Columns members e)

relation_told : (id : ℤ) (told : Result (List Member) EntityFault) (tags : Result Tags EntityFault) (most : ℕ)
    → ((members : List Member) → told ≡ Ok members → length members ≤ most)
    → told_size (relation_of id told tags) ≤ 1 + most
relation_told id told (Err fault) most few = omega arith
relation_told id (Err fault) (Ok tags) most few = omega arith
relation_told id (Ok members) (Ok tags) most few = let n = few members refl in omega (arith, n)

relation_size : (b : PrimitiveBlock) (bytes : List ℕ) → object_size (relation_object b bytes) ≤ bytes_size bytes
unfolding relation_object
relation_size b bytes =
    object_then (told_as entity_faults.Wire (message RELATION bytes)) _ (bytes_size bytes) (λ fs is.
    object_then (int64_at RELATION_ID fs) _ (bytes_size bytes) (λ id found.
    let roles = packed_of RELATION_ROLES_SID fs in
    let ids = packed_sint64_of RELATION_MEMIDS fs in
    let types = packed_of RELATION_TYPES fs in
    let told = relation_told id (members_of b.strings roles ids types)
    (indexed_tags b.strings (packed_of RELATION_KEYS fs) (packed_of RELATION_VALS fs)) (length roles)
    (λ members e. members_size b.strings roles ids types members e) in
    omega (arith, told, packed-size RELATION_ROLES_SID fs, of_message RELATION bytes fs is)))

-- ---- groups

at_size : (b : PrimitiveBlock) (k : ℕ) (bytes : List ℕ) → objects_size (objects_at b k bytes) ≤ bytes_size bytes
at_size b k bytes =
    let nodes = node_size b bytes in
    let dense = dense_objects_size b bytes in
    let ways = way_size b bytes in
    let relations = relation_size b bytes in
    either (k == GROUP_NODES) (node_object b bytes ∷ []) _ (bytes_size bytes) (omega (arith, nodes))
    (either (k == GROUP_DENSE) (dense_objects b bytes) _ (bytes_size bytes) (omega (arith, dense))
    (either (k == GROUP_WAYS) (way_object b bytes ∷ []) _ (bytes_size bytes) (omega (arith, ways))
    (either (k == GROUP_RELATIONS) (relation_object b bytes ∷ []) [] (bytes_size bytes) (omega (arith, relations))
    (omega arith))))

field_objects_size : (b : PrimitiveBlock) (f : Field) → objects_size (field_objects b f) ≤ field_size f
field_objects_size b f = go (counted_bytes f.value)
  where
    go : (o : Option (List ℕ))
        → objects_size (elim o [ None ↦ [] | Some bytes ↦ objects_at b f.number bytes ])
        ≤ bytes_size (unwrap_or o [])
    go None = omega arith
    go (Some bytes) = at_size b f.number bytes

flat_size : {X : Type 0} (g : X → List (Result Object EntityFault)) (m : X → ℕ)
    → ((x : X) → objects_size (g x) ≤ m x) → (xs : List X) → objects_size (flat_map g xs) ≤ total m xs
flat_size g m each [] = omega arith
flat_size g m each (x ∷ xs) =
    let one = each x in
    let more = flat_size g m each xs in
    omega (arith, one, more, total-append object_size (g x) (flat_map g xs))

group_size : (b : PrimitiveBlock) (bytes : List ℕ) → objects_size (group_objects b bytes) ≤ bytes_size bytes
unfolding group_objects
group_size b bytes = go (told_as entity_faults.Wire (message PRIMITIVE_GROUP bytes)) refl
  where
    of_fields : (fs : List Field) (c : Bool) → total field_size fs ≤ length bytes
        → objects_size (elim (require c entity_faults.MixedGroup >>= λ u. Ok fs) [
          | Ok fs ↦ flat_map (field_objects b) fs
          | Err fault ↦ Err fault ∷ []
        ]) ≤ bytes_size bytes
    of_fields fs true most = let all = flat_size (field_objects b) field_size (field_objects_size b) fs in omega (arith, all, most)
    of_fields fs false most = omega arith

    go : (r : Result (List Field) EntityFault) → told_as entity_faults.Wire (message PRIMITIVE_GROUP bytes) ≡ r
        → objects_size (elim (r >>= λ fs. require (are_one (kinds_in fs)) entity_faults.MixedGroup >>= λ u. Ok fs) [
          | Ok fs ↦ flat_map (field_objects b) fs
          | Err fault ↦ Err fault ∷ []
        ]) ≤ bytes_size bytes
    go (Ok fs) is = of_fields fs (are_one (kinds_in fs)) (of_message PRIMITIVE_GROUP bytes fs is)
    go (Err fault) is = omega arith

pub block-size : (b : PrimitiveBlock) → objects_size (block_objects b) ≤ total bytes_size b.groups
unfolding block_objects
block-size b = flat_size (group_objects b) bytes_size (group_size b) b.groups

-- ---- those that stand in order

-- what stands in its place is what was told
placed_size : (before : List Entity) (object : Object) (e : Entity) → entity_behind before object ≡ Ok e
    → entity_size e ≤ told_size object.entity
placed_size before object e is = go (order_fault before object.kind object.id) is
  where
    go : (o : Option EntityFault) → (refuse o >>= λ u. object.entity) ≡ Ok e → entity_size e ≤ told_size object.entity
    go None h = rw h (omega arith)
    go (Some fault) h = absurd (err_is_no_ok fault e h)

pub in_order-size : (before : List Entity) (objects : List (Result Object EntityFault))
    → entities_size (in_order before objects).items ≤ objects_size objects
in_order-size before [] = rw (in_order-nil before) (omega arith)
in_order-size before (Err fault ∷ others) = rw (in_order-err before fault others) (omega arith)
in_order-size before (Ok object ∷ others) =
    go (entity_behind before object) refl (λ e. in_order-size (before ++ e ∷ []) others)
  where
    go : (r : Result Entity EntityFault) → entity_behind before object ≡ r
        → ((e : Entity) → entities_size (in_order (before ++ e ∷ []) others).items ≤ objects_size others)
        → entities_size (in_order before (Ok object ∷ others)).items ≤ objects_size (Ok object ∷ others)
    go (Ok e) is others_few =
        let one = placed_size before object e is in
        let more = others_few e in
        rw (in_order-next before object others e is) (omega (arith, one, more))
    go (Err fault) is others_few = rw (in_order-refused before object others fault is) (omega arith)
